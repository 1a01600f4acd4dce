-- Runs of ascending prefixes: shorter prefixes counted one by one, and the nodes of the band above a run.
-- Assumes nothing.
use mathlib.Core.Path.{◌≡◌, refl, sym, ap, ◌∙◌}
use mathlib.Core.List.{List, [], ◌∷◌, ◌++◌}
use Prim.Native.Nat.{ℕ, zero, suc, ◌+◌, ◌-◌, ◌/◌, ◌^◌, ◌≤◌, ◌<◌}
use native.Mathlib.Omega.{arith}
use native.Mathlib.Decide.{ℕ_discrete}
use borrow.Author.Tests.{eq-eqb, ne_eqb}
use lib.ListN.{length, get_or, take, drop, length-drop, take-append-drop}
use lib.Seq.{take-suc, take_all, take-add, get_or-drop, drop-drop}
use Rattle.format.specs.Trie.{parents}
use Rattle.format.proofs.Trie.{Above, Asc}
use Rattle.format.proofs.RunHeads.{heads, last, heads_append}
use Rattle.format.proofs.Runs.{heads_more, heads_same}
use Rattle.packing.specs.Run.{differ}

-- ---- parts of ascending lists

pub asc_drop : (n : ℕ) (l : List ℕ) → Asc l → Asc (drop n l)
asc_drop zero l a = a
asc_drop (suc n) [] a = tt
asc_drop (suc n) (x ∷ l) a = asc_drop n l (tail x l a)
  where
    tail : (x : ℕ) (l : List ℕ) → Above x l → Asc l
    tail x [] a = tt
    tail x (y ∷ l) a = a.1

-- a run of keys that is not empty: its first key, those after it, its last
pub record Run (x z : ℕ) (l : List ℕ) : Type 0 where
  pub rest : List ℕ
  pub is : l ≡ x ∷ rest
  pub above : Above x rest
  pub end : last x rest ≡ z

first_keys : (x : ℕ) (xs : List ℕ) (n : ℕ) → Above x xs → n ≤ length xs → Run x (get_or (x ∷ xs) n 0) (take (suc n) (x ∷ xs))
first_keys x xs zero a h = record { rest = []; is = refl; above = tt; end = refl }
first_keys x [] (suc n) a h = absurd (omega arith)
first_keys x (y ∷ ys) (suc n) a h =
    let r = first_keys y ys n a.1 (omega arith) in
    record { rest = y ∷ r.rest; is = ap (x ∷◌) r.is; above = (a.0, r.above); end = r.end }

-- the keys from a to e, e left out
abbrev pub part : ℕ → ℕ → List ℕ → List ℕ
part a e keys = take (e - a) (drop a keys)

-- those before e, at least one
pub run_of : (keys : List ℕ) (a e : ℕ) → Asc keys → a < e → e ≤ length keys → Run (get_or keys a 0) (get_or keys (e - 1) 0) (part a e keys)
run_of keys a e asc lt le =
    let n : e - a ≡ suc (e - suc a) = omega arith in
    let q : a + (e - suc a) ≡ e - 1 = omega arith in
    let z : a + 0 ≡ a = omega arith in
    let k : e - suc a < length (drop a keys) = omega (arith, length-drop a keys) in
    rw n (go (drop a keys) (e - suc a) (asc_drop a keys asc) k (get_or-drop a keys 0 0 ∙ ap (λ (j : ℕ). get_or keys j 0) z) (get_or-drop a keys (e - suc a) 0 ∙ ap (λ (j : ℕ). get_or keys j 0) q))
  where
    go : (l : List ℕ) (n : ℕ) → Asc l → n < length l → {x y : ℕ} → get_or l 0 0 ≡ x → get_or l n 0 ≡ y → Run x y (take (suc n) l)
    go [] n a h ex ey = absurd (omega arith)
    go (x ∷ l) n a h ex ey = rw (← ex, ← ey) (first_keys x l n a (omega arith))

-- one key more
pub part_more : (keys : List ℕ) (a e : ℕ) → a ≤ e → e < length keys → part a (e + 1) keys ≡ part a e keys ++ get_or keys e 0 ∷ []
part_more keys a e le lt =
    let n : e + 1 - a ≡ suc (e - a) = omega arith in
    let q : a + (e - a) ≡ e = omega arith in
    ap (λ (k : ℕ). take k (drop a keys)) n
    ∙ take-suc (drop a keys) (e - a) 0 (omega (arith, length-drop a keys))
    ∙ ap (λ (x : ℕ). part a e keys ++ x ∷ []) (get_or-drop a keys (e - a) 0 ∙ ap (λ (j : ℕ). get_or keys j 0) q)

-- the keys from a on, cut at e
pub part_rest : (keys : List ℕ) (a e : ℕ) → a ≤ e → drop a keys ≡ part a e keys ++ drop e keys
part_rest keys a e le =
    let q : a + (e - a) ≡ e = omega arith in
    sym (take-append-drop (e - a) (drop a keys)) ∙ ap (part a e keys ++◌) (drop-drop (e - a) a keys ∙ ap (λ (j : ℕ). drop j keys) q)

-- two parts side by side
pub part_join : (keys : List ℕ) (a s e : ℕ) → a ≤ s → s ≤ e → part a e keys ≡ part a s keys ++ part s e keys
part_join keys a s e le le' =
    let n : e - a ≡ s - a + (e - s) = omega arith in
    let q : a + (s - a) ≡ s = omega arith in
    ap (λ (k : ℕ). take k (drop a keys)) n
    ∙ take-add (s - a) (e - s) (drop a keys)
    ∙ ap (λ (l : List ℕ). part a s keys ++ take (e - s) l) (drop-drop (s - a) a keys ∙ ap (λ (j : ℕ). drop j keys) q)

pub part_none : (keys : List ℕ) (a : ℕ) → part a a keys ≡ []
part_none keys a = let z : a - a ≡ 0 = omega arith in ap (λ (n : ℕ). take n (drop a keys)) z

pub part_single : (keys : List ℕ) (a : ℕ) → a < length keys → part a (a + 1) keys ≡ get_or keys a 0 ∷ []
part_single keys a lt = part_more keys a a (omega arith) lt ∙ ap (◌++ get_or keys a 0 ∷ []) (part_none keys a)

-- all from a on
pub part_all : (keys : List ℕ) (a e : ℕ) → length keys ≤ e → part a e keys ≡ drop a keys
part_all keys a e le = take_all (e - a) (drop a keys) (omega (arith, length-drop a keys))

pub rest_run : (keys : List ℕ) (a : ℕ) → Asc keys → a < length keys → Run (get_or keys a 0) (get_or keys (length keys - 1) 0) (drop a keys)
rest_run keys a asc lt = rw (part_all keys a (length keys) (omega arith)) at (run_of keys a (length keys) asc lt (omega arith))

-- ---- prefixes counted

pub differ_same : (x y : ℕ) → x ≡ y → differ x y ≡ 0
unfolding differ
differ_same x y e = rw (eq-eqb x y e)

pub differ_other : (x y : ℕ) → (x ≡ y → ⊥) → differ x y ≡ 1
unfolding differ
differ_other x y e = rw (ne_eqb x y e)

more_of : (k x z : ℕ) (l : List ℕ) (y : ℕ) → Run x z l → z < y → length (heads k (l ++ y ∷ [])) ≡ length (heads k l) + differ (z / 2 ^ k) (y / 2 ^ k)
more_of k x z l y r lt =
    elim (ℕ_discrete (z / 2 ^ k) (y / 2 ^ k)) [
      | yes e ↦ let h = heads_same k x r.rest y r.above (rw r.end lt) (ap (◌/ 2 ^ k) r.end ∙ e) in
          let s : length (heads k (l ++ y ∷ [])) ≡ length (heads k l) = rw r.is (ap length h) in
          omega (arith, differ_same (z / 2 ^ k) (y / 2 ^ k) e)
      | no e ↦ let h = heads_more k x r.rest y r.above (λ p. e (ap (◌/ 2 ^ k) (sym r.end) ∙ p)) in
          let s : length (heads k (l ++ y ∷ [])) ≡ length (heads k l) + 1 = rw r.is h in
          omega (arith, differ_other (z / 2 ^ k) (y / 2 ^ k) e)
    ]

above_next : (l : List ℕ) (n : ℕ) → Asc l → suc n < length l → get_or l n 0 < get_or l (suc n) 0
above_next [] n a h = absurd (omega arith)
above_next (x ∷ []) n a h = absurd (omega arith)
above_next (x ∷ y ∷ l) zero a h = a.0
above_next (x ∷ y ∷ l) (suc n) a h = above_next (y ∷ l) n a.1 (omega arith)

pub next_above : (keys : List ℕ) (e : ℕ) → Asc keys → 0 < e → e < length keys → get_or keys (e - 1) 0 < get_or keys e 0
next_above keys e asc lo hi =
    let s : suc (e - 1) ≡ e = omega arith in
    rw s at (above_next keys (e - 1) asc (omega arith))

module _ (keys : List ℕ) (asc : Asc keys) (a e : ℕ) (some : a < e) (more : e < length keys) where
  -- the prefixes of a run and one key more
  pub count_more : (k : ℕ) → length (heads k (part a (e + 1) keys)) ≡ length (heads k (part a e keys)) + differ (get_or keys (e - 1) 0 / 2 ^ k) (get_or keys e 0 / 2 ^ k)
  count_more k =
      let m = part_more keys a e (omega arith) more in
      ap (λ (l : List ℕ). length (heads k l)) m
      ∙ more_of k _ _ (part a e keys) (get_or keys e 0) (run_of keys a e asc some (omega arith)) (next_above keys e asc (omega arith) more)

pub heads_single : (k y : ℕ) → length (heads k (y ∷ [])) ≡ 1
unfolding heads parents
heads_single zero y = refl
heads_single (suc k) y = heads_single k (y / 2)

-- the prefixes of two runs that part before their last k bits
pub heads_append_run : (k x z y w : ℕ) (l p : List ℕ) → Run x z l → Run y w p → (z / 2 ^ k ≡ y / 2 ^ k → ⊥) → heads k (l ++ p) ≡ heads k l ++ heads k p
heads_append_run k x z y w l p r q apart =
    rw (r.is, q.is) (heads_append k x r.rest y q.rest r.above q.above (λ e. apart (ap (◌/ 2 ^ k) (sym r.end) ∙ e)))
