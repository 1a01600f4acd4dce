-- The header filled in from its first byte to its last.
-- Assumes nothing.
use mathlib.Core.Path.{◌≡◌, refl, sym, ap, ap₂, ◌∙◌}
use mathlib.Core.List.{List, [], ◌∷◌, ◌++◌, append_assoc, append-nil, flat_map}
use Prim.Native.Nat.{ℕ, ◌+◌, ◌*◌, ◌/◌, ◌%◌, ◌≤◌, ◌<◌}
use native.Mathlib.Numerals.{add-one}
use native.Mathlib.Omega.{arith}
use lib.ListN.{length, get_or, take, drop, replicate, length-append, length-drop, take-append-drop}
use lib.Seq.{take_at, take_all, take-suc, drop_at, drop-drop, length-take-le}
use Rattle.format.specs.Page.{two_bytes}
use Rattle.format.specs.Header.{header, header_end, header_start, mark, version_for}
use Rattle.packing.specs.declared.BandCounts.{BandCounts}
use Rattle.image_writer.specs.Image.{numbers_of}
use Rattle.image_writer.proofs.Numbers.{length-numbers, pages_at, roots_at}
use Rattle.format.proofs.HeaderBytes.{length_start, length_two, version_small}

-- what is done, and then xs in place of the next k elements of l
extended : (done l xs : List ℕ) (n k : ℕ) → length done ≡ n → take n (done ++ drop n l) ++ (xs ++ drop (n + k) (done ++ drop n l)) ≡ (done ++ xs) ++ drop (n + k) l
extended done l xs n k e =
    ap₂ (λ (a b : List ℕ). a ++ (xs ++ b)) (take_at done (drop n l) n e) (sym (drop-drop k n (done ++ drop n l)) ∙ ap (drop k) (drop_at done (drop n l) n e) ∙ drop-drop k n l)
    ∙ sym (append_assoc done xs (drop (n + k) l))

flat_more : (l : List ℕ) (x : ℕ) → flat_map two_bytes (l ++ x ∷ []) ≡ flat_map two_bytes l ++ two_bytes x
unfolding flat_map two_bytes
flat_more [] x = refl
flat_more (y ∷ l) x = ap (two_bytes y ++◌) (flat_more l x)

-- the first six bytes
pub start_stored : (lift : ℕ) → header_start lift ≡ 0x4C ∷ 0x50 ∷ 0x54 ∷ 0 ∷ version_for lift ∷ 0 ∷ []
unfolding header_start mark two_bytes
start_stored lift =
    let hi : version_for lift / 256 ≡ 0 = omega (arith, version_small lift) in
    let lo : version_for lift % 256 ≡ version_for lift = omega (arith, version_small lift) in
    λ i. 0x4C ∷ 0x50 ∷ 0x54 ∷ hi i ∷ lo i ∷ 0 ∷ []

two : (n : ℕ) → length (two_bytes n) ≡ 2
unfolding two_bytes
two n = refl

-- the first i counts are in
pub record Headed (out₀ counts out : List ℕ) (i : ℕ) : Type 0 where
  pub sixteen : length counts ≡ 16
  pub room : 64 ≤ length out₀
  pub within : i ≤ 16
  pub done : out ≡ (take 8 out₀ ++ flat_map two_bytes (take i counts)) ++ drop (8 + 2 * i) out₀
  pub same : length out ≡ length out₀

pub headed_start : (out counts : List ℕ) → length counts ≡ 16 → 64 ≤ length out → Headed out counts out 0
unfolding flat_map
headed_start out counts e h =
    record { sixteen = e; room = h; within = omega arith; done = sym (ap (◌++ drop 8 out) (append-nil (take 8 out)) ∙ take-append-drop 8 out); same = refl }

module _ (out₀ counts out : List ℕ) (i : ℕ) (s : Headed out₀ counts out i) where
  done-length : length (take 8 out₀ ++ flat_map two_bytes (take i counts)) ≡ 8 + 2 * i
  done-length =
      omega (arith, length-append (take 8 out₀) (flat_map two_bytes (take i counts)), length-take-le 8 out₀ (omega (arith, s.room)), length_two (take i counts), length-take-le i counts (omega (arith, s.sixteen, s.within)))

  pub headed_next : (out' : List ℕ) → i < 16 → out' ≡ take (8 + 2 * i) out ++ (two_bytes (get_or counts i 0) ++ drop (8 + 2 * i + 2) out) → Headed out₀ counts out' (i + 1)
  headed_next out' h e =
      let more : flat_map two_bytes (take (i + 1) counts) ≡ flat_map two_bytes (take i counts) ++ two_bytes (get_or counts i 0) =
      ap (λ (n : ℕ). flat_map two_bytes (take n counts)) (add-one i) ∙ ap (flat_map two_bytes) (take-suc counts i 0 (omega (arith, s.sixteen))) ∙ flat_more (take i counts) (get_or counts i 0) in
      let n : 8 + 2 * i + 2 ≡ 8 + 2 * (i + 1) = omega arith in
      let d : out' ≡ (take 8 out₀ ++ flat_map two_bytes (take (i + 1) counts)) ++ drop (8 + 2 * (i + 1)) out₀ =
      e
      ∙ ap (λ (l : List ℕ). take (8 + 2 * i) l ++ (two_bytes (get_or counts i 0) ++ drop (8 + 2 * i + 2) l)) s.done
      ∙ extended (take 8 out₀ ++ flat_map two_bytes (take i counts)) out₀ (two_bytes (get_or counts i 0)) (8 + 2 * i) 2 done-length
      ∙ ap₂ (λ (a : List ℕ) (k : ℕ). a ++ drop k out₀) (append_assoc (take 8 out₀) (flat_map two_bytes (take i counts)) (two_bytes (get_or counts i 0)) ∙ ap (take 8 out₀ ++◌) (sym more)) n in
      record {
        sixteen = s.sixteen;
        room = s.room;
        within = omega arith;
        done = d;
        same = omega (arith, ap length d, length-append (take 8 out₀ ++ flat_map two_bytes (take (i + 1) counts)) (drop (8 + 2 * (i + 1)) out₀), length-append (take 8 out₀) (flat_map two_bytes (take (i + 1) counts)), length-take-le 8 out₀ (omega (arith, s.room)), length_two (take (i + 1) counts), length-take-le (i + 1) counts (omega (arith, s.sixteen)), length-drop (8 + 2 * (i + 1)) out₀, s.room);
      }

  pub headed_end : (entry begun out₁ out' : List ℕ) (lift n : ℕ) → begun ≡ header_start lift ++ drop 6 entry → out₀ ≡ take 6 begun ++ (two_bytes n ++ drop 8 begun)
      → 16 ≤ i → out₁ ≡ take 40 out ++ (two_bytes lift ++ drop 42 out) → out' ≡ take 42 out₁ ++ (replicate 22 0 ++ drop 64 out₁) → out' ≡ header lift n counts ++ drop 64 entry
  unfolding header header_end
  headed_end entry begun out₁ out' lift n start number h e₁ e =
      let k : 8 + 2 * i ≡ 40 = omega (arith, s.within) in
      let c : take i counts ≡ counts = take_all i counts (omega (arith, s.sixteen)) in
      let eight : List ℕ = header_start lift ++ two_bytes n in
      let long : length eight ≡ 8 = length-append (header_start lift) (two_bytes n) ∙ omega (arith, length_start lift, two n) in
      let o : out₀ ≡ eight ++ drop 8 entry = number ∙ ap (λ (l : List ℕ). take 6 l ++ (two_bytes n ++ drop 8 l)) start ∙ extended (header_start lift) entry (two_bytes n) 6 2 (length_start lift) in
      let first : take 8 out₀ ≡ eight = ap (take 8) o ∙ take_at eight (drop 8 entry) 8 long in
      let rest : drop 64 out₀ ≡ drop 64 entry = sym (drop-drop 56 8 out₀) ∙ ap (drop 56) (ap (drop 8) o ∙ drop_at eight (drop 8 entry) 8 long) ∙ drop-drop 56 8 entry in
      let done : List ℕ = take 8 out₀ ++ flat_map two_bytes counts in
      let d : out ≡ done ++ drop 40 out₀ = s.done ∙ ap₂ (λ (a : List ℕ) (j : ℕ). (take 8 out₀ ++ flat_map two_bytes a) ++ drop j out₀) c k in
      let z : length done ≡ 40 = ap (λ (a : List ℕ). length (take 8 out₀ ++ flat_map two_bytes a)) (sym c) ∙ done-length ∙ k in
      let d₁ : out₁ ≡ (done ++ two_bytes lift) ++ drop 42 out₀ = e₁ ∙ ap (λ (l : List ℕ). take 40 l ++ (two_bytes lift ++ drop 42 l)) d ∙ extended done out₀ (two_bytes lift) 40 2 z in
      let z₁ : length (done ++ two_bytes lift) ≡ 42 = omega (arith, length-append done (two_bytes lift), two lift) in
      e
      ∙ ap (λ (l : List ℕ). take 42 l ++ (replicate 22 0 ++ drop 64 l)) d₁
      ∙ extended (done ++ two_bytes lift) out₀ (replicate 22 0) 42 22 z₁
      ∙ ap (◌++ drop 64 out₀) (append_assoc done (two_bytes lift) (replicate 22 0))
      ∙ ap₂ (λ (a b : List ℕ). ((a ++ flat_map two_bytes counts) ++ header_end lift) ++ b) first rest

-- both counts of a band
pub headed_band : (out₀ out out₁ out₂ : List ℕ) (bands : List BandCounts) (b : ℕ) (d : BandCounts) → Headed out₀ (numbers_of bands) out (2 * b) → b < 8
    → out₁ ≡ take (8 + 4 * b) out ++ (two_bytes (get_or bands b d).pages ++ drop (8 + 4 * b + 2) out)
    → out₂ ≡ take (10 + 4 * b) out₁ ++ (two_bytes (get_or bands b d).roots ++ drop (10 + 4 * b + 2) out₁)
    → Headed out₀ (numbers_of bands) out₂ (2 * (b + 1))
headed_band out₀ out out₁ out₂ bands b d s lt first second =
    let within : b < length bands = omega (arith, s.sixteen, length-numbers bands) in
    let at : 8 + 2 * (2 * b) ≡ 8 + 4 * b = omega arith in
    let after : 8 + 2 * (2 * b + 1) ≡ 10 + 4 * b = omega arith in
    let next : 2 * (b + 1) ≡ 2 * b + 1 + 1 = omega arith in
    let s₁ = headed_next out₀ (numbers_of bands) out (2 * b) s out₁ (omega arith) (rw (at, pages_at bands b d within) first) in
    rw next (headed_next out₀ (numbers_of bands) out₁ (2 * b + 1) s₁ out₂ (omega arith) (rw (after, roots_at bands b d within) second))
