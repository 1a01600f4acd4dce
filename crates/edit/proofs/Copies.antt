-- What is left in lent places: keys, and records, with one put in or left out.
-- Assumes nothing.
use mathlib.Core.Path.{◌≡◌, sym, ap, ap₂, ◌∙◌}
use mathlib.Core.List.{List, [], ◌∷◌, ◌++◌, append_assoc, append-nil}
use Prim.Native.Nat.{ℕ, suc, ◌+◌, ◌-◌, ◌≤◌, ◌<◌}
use native.Mathlib.Omega.{arith}
use lib.ListN.{length, get_or, take, drop, set, length-append, length-drop}
use lib.Seq.{drop-append-le, drop_at, drop-cons, drop-drop, drop-length, length-take-le, set_at, set_split, take_all, take-append-le, take_at}
use Rattle.format.specs.declared.Rectangle.{Rectangle}
use Rattle.format.specs.Seq.{delete_at, insert_at}
use Rattle.format.specs.Image.{keys_of}
use Rattle.format.specs.Answer.{member_keys}
use Rattle.format.specs.Scan.{records_length}
use Rattle.format.specs.Exact.{whole_square}
use Rattle.format.proofs.Exact.{whole_members}
use Rattle.walk.specs.Walk.{Listed, written}
use Rattle.walk.proofs.Places.{written_all}
use Rattle.edit.specs.Outcomes.{KeysIn}

-- ---- lengths

pub length_insert : (n x : ℕ) (l : List ℕ) → n ≤ length l → length (insert_at n x l) ≡ length l + 1
length_insert n x l h = length-append (take n l) (x ∷ drop n l) ∙ omega (arith, length-take-le n l h, length-drop n l)

pub length_delete : (n : ℕ) (l : List ℕ) → n < length l → length (delete_at n l) + 1 ≡ length l
length_delete n l h = omega (arith, length-append (take n l) (drop (suc n) l), length-take-le n l (omega arith), length-drop (suc n) l)

-- ---- keys

-- places that start with keys hold them
keys_in_lem : (keys rest places : List ℕ) (n : ℕ) → places ≡ keys ++ rest → n ≡ length keys → KeysIn keys places n
keys_in_lem keys rest places n e c =
    record { count = c; within = omega (arith, ap length e, length-append keys rest); held = ap (take n) e ∙ take_at keys rest n (sym c) }

-- the keys of an image, listed over the whole square
pub record AllListed (img places after : List ℕ) (n : ℕ) : Type 0 where
  pub count : n ≡ length (keys_of img)
  pub holds : after ≡ keys_of img ++ drop (length (keys_of img)) places

pub all_listed : (img places after : List ℕ) (square : Rectangle) (n : ℕ) → square ≡ whole_square → length (keys_of img) ≤ length places → Listed (member_keys img square) places 0 after n → AllListed img places after n
all_listed img places after square n e room l =
    let same : member_keys img square ≡ keys_of img = ap (member_keys img) e ∙ whole_members img in
    record { count = omega (arith, l.count, ap length same); holds = l.holds ∙ ap (λ (k : List ℕ). written 0 k places) same ∙ written_all (keys_of img) places room }

-- keys from the second place on, of which the first are moved down, and one put in after them
module _ (img places ys : List ℕ) (n : ℕ) (room : length (keys_of img) < length places) (l : AllListed img (take (length places - 1) (drop 1 places)) ys n) where
  -- the places with the listed part put back
  abbrev pub from_second : List ℕ
  from_second = take 1 places ++ (ys ++ drop (length places - 1) (drop 1 places))

  pub put_in : (q : List ℕ) (rank key : ℕ) → rank ≤ length (keys_of img)
      → q ≡ take 0 from_second ++ (take rank (drop (rank + 1 - rank) from_second) ++ drop (0 + rank) from_second) → KeysIn (insert_at rank key (keys_of img)) (set q rank key) (n + 1)
  put_in q rank key h d =
      let keys : List ℕ = keys_of img in
      let rest : List ℕ = drop (length (keys_of img)) (take (length places - 1) (drop 1 places)) ++ drop (length places - 1) (drop 1 places) in
      let one : length (take 1 places) ≡ 1 = length-take-le 1 places (omega arith) in
      let e : from_second ≡ take 1 places ++ (keys ++ rest) =
      ap (λ (k : List ℕ). take 1 places ++ (k ++ drop (length places - 1) (drop 1 places))) l.holds
      ∙ ap (take 1 places ++◌) (append_assoc (keys_of img) (drop (length (keys_of img)) (take (length places - 1) (drop 1 places))) (drop (length places - 1) (drop 1 places))) in
      let o : rank + 1 - rank ≡ 1 = omega arith in
      let z : 0 + rank ≡ rank = omega arith in
      let s : 1 + rank ≡ suc rank = omega arith in
      let long : rank < length from_second = omega (arith, ap length e, length-append (take 1 places) (keys ++ rest), length-append keys rest) in
      let tail : drop 1 from_second ≡ keys ++ rest = ap (drop 1) e ∙ drop_at (take 1 places) (keys ++ rest) 1 one in
      let later : drop (suc rank) from_second ≡ drop rank keys ++ rest = ap (λ (k : ℕ). drop k from_second) (sym s) ∙ sym (drop-drop rank 1 from_second) ∙ ap (drop rank) tail ∙ drop-append-le rank keys rest h in
      let moved : take rank (drop (rank + 1 - rank) from_second) ≡ take rank keys = ap (λ (k : ℕ). take rank (drop k from_second)) o ∙ ap (take rank) tail ∙ take-append-le rank keys rest h in
      let kept : drop (0 + rank) from_second ≡ get_or from_second rank 0 ∷ (drop rank keys ++ rest) = ap (λ (k : ℕ). drop k from_second) z ∙ drop-cons from_second rank 0 long ∙ ap (get_or from_second rank 0 ∷◌) later in
      keys_in_lem (insert_at rank key keys) rest (set q rank key) (n + 1)
      (ap (λ (k : List ℕ). set k rank key) (d ∙ ap₂ ◌++◌ moved kept)
      ∙ set_at (take rank keys) (get_or from_second rank 0) (drop rank keys ++ rest) key rank (length-take-le rank keys h)
      ∙ sym (append_assoc (take rank keys) (key ∷ drop rank keys) rest))
      (omega (arith, l.count, length_insert rank key keys h))

-- keys from the first place on, of which those after one are moved down
pub left_out : (img places p q : List ℕ) (rank n : ℕ) → AllListed img places p n → rank < n
    → q ≡ take rank p ++ (take (n - rank - 1) (drop (n - (n - rank - 1)) p) ++ drop (rank + (n - rank - 1)) p) → KeysIn (delete_at rank (keys_of img)) q (n - 1)
left_out img places p q rank n l h d =
    let keys : List ℕ = keys_of img in
    let rest : List ℕ = drop (length (keys_of img)) places in
    let c : n ≡ length keys = l.count in
    let s : n - (n - rank - 1) ≡ suc rank = omega arith in
    let m : length (drop (suc rank) keys) ≡ n - rank - 1 = length-drop (suc rank) keys ∙ omega arith in
    let before : take rank p ≡ take rank keys = ap (take rank) l.holds ∙ take-append-le rank keys rest (omega arith) in
    let after : take (n - rank - 1) (drop (n - (n - rank - 1)) p) ≡ drop (suc rank) keys =
    ap (λ (k : ℕ). take (n - rank - 1) (drop k p)) s
    ∙ ap (take (n - rank - 1)) (ap (drop (suc rank)) l.holds ∙ drop-append-le (suc rank) keys rest (omega arith))
    ∙ take_at (drop (suc rank) keys) rest (n - rank - 1) m in
    keys_in_lem (delete_at rank keys) (drop (rank + (n - rank - 1)) p) q (n - 1)
    (d ∙ ap₂ (λ (a b : List ℕ). a ++ (b ++ drop (rank + (n - rank - 1)) p)) before after ∙ sym (append_assoc (take rank keys) (drop (suc rank) keys) (drop (rank + (n - rank - 1)) p)))
    (omega (arith, length_delete rank keys (omega arith)))

-- ---- records

-- numbers put in the places from the a-th on: the part that was lent, put back
rest-filled : (a : ℕ) (p ys numbers : List ℕ) → a ≤ length p → ys ≡ numbers ++ drop (length numbers) (take (length p - a) (drop a p))
    → take a p ++ (ys ++ drop (length p - a) (drop a p)) ≡ take a p ++ (numbers ++ drop (a + length numbers) p)
rest-filled a p ys numbers h e =
    let all : take (length p - a) (drop a p) ≡ drop a p = take_all (length p - a) (drop a p) (omega (arith, length-drop a p)) in
    let none_left : drop (length p - a) (drop a p) ≡ [] = ap (λ (k : ℕ). drop k (drop a p)) (sym (length-drop a p)) ∙ drop-length (drop a p) in
    ap₂ (λ (x y : List ℕ). take a p ++ (x ++ y)) e none_left
    ∙ ap (take a p ++◌) (append-nil (numbers ++ drop (length numbers) (take (length p - a) (drop a p))))
    ∙ ap (λ (x : List ℕ). take a p ++ (numbers ++ x)) (ap (drop (length numbers)) all ∙ drop-drop (length numbers) a p)

module _ (records p : List ℕ) (n rank : ℕ) (size : length records ≡ records_length n) (h : rank ≤ n) where
  -- the records before the rank, as the code takes them
  abbrev first : List ℕ
  first = take (rank - 0) records

  first_is : first ≡ take rank records
  first_is = let z : rank - 0 ≡ rank = omega arith in ap (λ (k : ℕ). take k records) z

  first-length : length first ≡ rank
  first-length = ap length first_is ∙ length-take-le rank records (omega arith)

  -- a 0 at the rank, the records before it, and then the others after it
  module _ (p₂ ys : List ℕ) (room : length records < length p) (e₂ : p₂ ≡ first ++ drop (length first) (set p rank 0)) where
    abbrev later : List ℕ
    later = take (n + 8 - rank) (drop rank records)

    later-is : later ≡ drop rank records
    later-is = take_all (n + 8 - rank) (drop rank records) (omega (arith, length-drop rank records))

    start_is : p₂ ≡ (take rank records ++ 0 ∷ []) ++ drop (suc rank) p
    start_is =
        let zero-there : drop rank (set p rank 0) ≡ 0 ∷ drop (suc rank) p = ap (drop rank) (set_split p rank 0 (omega arith)) ∙ drop_at (take rank p) (0 ∷ drop (suc rank) p) rank (length-take-le rank p (omega arith)) in
        e₂ ∙ ap (λ (k : ℕ). first ++ drop k (set p rank 0)) first-length ∙ ap₂ ◌++◌ first_is zero-there ∙ sym (append_assoc (take rank records) (0 ∷ []) (drop (suc rank) p))

    with-length : length p₂ ≡ length p
    with-length = omega (arith, ap length start_is, length-append (take rank records ++ 0 ∷ []) (drop (suc rank) p), length-append (take rank records) (0 ∷ []), length-take-le rank records (omega arith), length-drop (suc rank) p)

    pub loaded_with : ys ≡ later ++ drop (length later) (take (length p₂ - (rank + 1)) (drop (rank + 1) p₂))
        → take (rank + 1) p₂ ++ (ys ++ drop (length p₂ - (rank + 1)) (drop (rank + 1) p₂)) ≡ insert_at rank 0 records ++ drop (length records + 1) p
    loaded_with e₃ =
        let m : length (take rank records ++ 0 ∷ []) ≡ rank + 1 = length-append (take rank records) (0 ∷ []) ∙ omega (arith, length-take-le rank records (omega arith)) in
        let taken : take (rank + 1) p₂ ≡ take rank records ++ 0 ∷ [] = ap (take (rank + 1)) start_is ∙ take_at (take rank records ++ 0 ∷ []) (drop (suc rank) p) (rank + 1) m in
        let dropped : drop (rank + 1) p₂ ≡ drop (suc rank) p = ap (drop (rank + 1)) start_is ∙ drop_at (take rank records ++ 0 ∷ []) (drop (suc rank) p) (rank + 1) m in
        let end : suc rank + length later ≡ length records + 1 = omega (arith, ap length later-is, length-drop rank records) in
        let past : drop (rank + 1 + length later) p₂ ≡ drop (length records + 1) p =
        sym (drop-drop (length later) (rank + 1) p₂) ∙ ap (drop (length later)) dropped ∙ drop-drop (length later) (suc rank) p ∙ ap (λ (k : ℕ). drop k p) end in
        rest-filled (rank + 1) p₂ ys later (omega (arith, with-length)) e₃
        ∙ (λ i. taken i ++ (later-is i ++ past i))
        ∙ append_assoc (take rank records) (0 ∷ []) (drop rank records ++ drop (length records + 1) p)
        ∙ sym (append_assoc (take rank records) (0 ∷ drop rank records) (drop (length records + 1) p))

  -- the records before the rank, and then those after it
  module _ (p₁ ys : List ℕ) (room : length records ≤ length p + 1) (e₁ : p₁ ≡ first ++ drop (length first) p) where
    abbrev others : List ℕ
    others = take (n + 8 - (rank + 1)) (drop (rank + 1) records)

    others-are : others ≡ drop (suc rank) records
    others-are =
        let s : rank + 1 ≡ suc rank = omega arith in
        take_all (n + 8 - (rank + 1)) (drop (rank + 1) records) (omega (arith, length-drop (rank + 1) records)) ∙ ap (λ (k : ℕ). drop k records) s

    without-length : length p₁ ≡ length p
    without-length = omega (arith, ap length e₁, length-append first (drop (length first) p), first-length, length-drop (length first) p)

    pub loaded_without : ys ≡ others ++ drop (length others) (take (length p₁ - rank) (drop rank p₁))
        → take rank p₁ ++ (ys ++ drop (length p₁ - rank) (drop rank p₁)) ≡ delete_at rank records ++ drop (length records - 1) p
    loaded_without e₂ =
        let taken : take rank p₁ ≡ take rank records = ap (take rank) e₁ ∙ take_at first (drop (length first) p) rank first-length ∙ first_is in
        let dropped : drop rank p₁ ≡ drop rank p = ap (drop rank) e₁ ∙ drop_at first (drop (length first) p) rank first-length ∙ ap (λ (k : ℕ). drop k p) first-length in
        let end : rank + length others ≡ length records - 1 = omega (arith, ap length others-are, length-drop (suc rank) records) in
        let past : drop (rank + length others) p₁ ≡ drop (length records - 1) p = sym (drop-drop (length others) rank p₁) ∙ ap (drop (length others)) dropped ∙ drop-drop (length others) rank p ∙ ap (λ (k : ℕ). drop k p) end in
        rest-filled rank p₁ ys others (omega (arith, without-length)) e₂
        ∙ (λ i. taken i ++ (others-are i ++ past i))
        ∙ sym (append_assoc (take rank records) (drop (suc rank) records) (drop (length records - 1) p))
