-- The page that has a number, and images that agree in the kept bytes and in every number: they are the same bytes.
-- Assumes nothing.
use mathlib.Core.Path.{◌≡◌, refl, sym, ap, ◌∙◌, subst}
use mathlib.Core.List.{List, map}
use Prim.Native.Nat.{ℕ, zero, suc, ◌+◌, ◌-◌, ◌*◌, ◌/◌, ◌%◌, ◌≤◌, ◌<◌}
use native.Mathlib.Omega.{arith}
use native.Mathlib.Decide.{dec_lt}
use lib.ListN.{length, get_or}
use lib.Seq.{ext_get_or}
use Rattle.format.specs.Seq.{All, numbers_from, total}
use Rattle.format.specs.Page.{Byte, number_at}
use Rattle.format.specs.Image.{bands, page_count, page_number, pages_before}
use Rattle.format.proofs.Lists.{all_get}
use Rattle.format.proofs.Back.{pages_before-suc}
use Rattle.repair.specs.Kept.{Agree}
use Rattle.repair.proofs.Agreeing.{count, high, is_kept, low, node}

-- ---- the page that has a number

pub record PageAt (img : List ℕ) (p : ℕ) : Type 0 where
  pub band : ℕ
  pub index : ℕ
  pub lo : 1 ≤ band
  pub hi : band ≤ 8
  pub within : index < page_count img band
  pub is : page_number img band index ≡ p

page_from : (img : List ℕ) (b n p : ℕ) → 1 ≤ b → b + n ≡ 9 → pages_before img b ≤ p → p < pages_before img b + total (map (page_count img) (numbers_from b n)) → PageAt img (1 + p)
unfolding numbers_from total page_number
page_from img b zero p lo e from to = absurd (omega arith)
page_from img b (suc n) p lo e from to =
    elim (dec_lt p (pages_before img b + page_count img b)) [
      | yes h ↦ record { band = b; index = p - pages_before img b; lo = lo; hi = omega arith; within = omega arith; is = omega arith }
      | no h ↦ page_from img (suc b) n p (omega arith) (omega arith) (omega (arith, pages_before-suc img b lo)) (omega (arith, pages_before-suc img b lo))
    ]

pub page_at : (img : List ℕ) → length img ≡ 64 * (1 + total (map (page_count img) bands)) → (p : ℕ) → 1 ≤ p → 64 * p < length img → PageAt img p
unfolding bands pages_before total numbers_from
page_at img size p lo h =
    let e : 1 + (p - 1) ≡ p = omega arith in
    subst (PageAt img) e (page_from img 1 8 (p - 1) (omega arith) refl (omega arith) (omega arith))

-- ---- images that agree in every number too

pub record SameNumbers (a b : List ℕ) : Type 0 where
  pub counts : (k : ℕ) → k < 9 → number_at a (6 + 4 * k) ≡ number_at b (6 + 4 * k)
  pub t_same : (p : ℕ) → 1 ≤ p → 64 * p < length a → number_at a (64 * p) ≡ number_at b (64 * p)
  pub b_same : (p : ℕ) → 1 ≤ p → 64 * p < length a → number_at a (64 * p + 2) ≡ number_at b (64 * p + 2)

module _ {a b : List ℕ} (small : All Byte a) (small' : All Byte b) (g : Agree a b) (s : SameNumbers a b) where
  -- equal numbers have equal bytes
  byte_of : (at j : ℕ) → j < 2 → number_at a at ≡ number_at b at → get_or a (at + j) 0 ≡ get_or b (at + j) 0
  unfolding number_at
  byte_of at zero h e =
      let z : at + 0 ≡ at = omega arith in
      ap (λ (n : ℕ). get_or a n 0) z ∙ omega (arith, all_get Byte a (at + 1) 0 (omega arith) small, all_get Byte b (at + 1) 0 (omega arith) small') ∙ sym (ap (λ (n : ℕ). get_or b n 0) z)
  byte_of at (suc zero) h e = omega (arith, all_get Byte a (at + 1) 0 (omega arith) small, all_get Byte b (at + 1) 0 (omega arith) small')
  byte_of at (suc (suc j)) h e = absurd (omega arith)

  moved : (at j p : ℕ) → at + j ≡ p → j < 2 → number_at a at ≡ number_at b at → get_or a p 0 ≡ get_or b p 0
  moved at j p e h n = subst (λ (i : ℕ). get_or a i 0 ≡ get_or b i 0) e (byte_of at j h n)

  in_header : (p : ℕ) → p < 64 → get_or a p 0 ≡ get_or b p 0
  in_header p h =
      elim (dec_lt p 6) [
        | yes k ↦ g.same p (is_kept p (low k))
        | no k ↦ elim (dec_lt p 40) [
          | yes m ↦ elim (dec_lt (p % 4) 2) [
            | yes q ↦ g.same p (is_kept p (count (omega arith) m q))
            | no q ↦ moved (6 + 4 * (p / 4 - 1)) (p % 4 - 2) p (omega arith) (omega arith) (s.counts (p / 4 - 1) (omega arith))
          ]
          | no m ↦ g.same p (is_kept p (high (omega arith) h))
        ]
      ]

  in_page : (p : ℕ) → 64 ≤ p → p < length a → get_or a p 0 ≡ get_or b p 0
  in_page p h k =
      elim (dec_lt (p % 64) 2) [
        | yes m ↦ moved (64 * (p / 64)) (p % 64) p (omega arith) m (s.t_same (p / 64) (omega arith) (omega arith))
        | no m ↦ elim (dec_lt (p % 64) 4) [
          | yes q ↦ moved (64 * (p / 64) + 2) (p % 64 - 2) p (omega arith) (omega arith) (s.b_same (p / 64) (omega arith) (omega arith))
          | no q ↦ g.same p (is_kept p (node h (omega arith)))
        ]
      ]

  pub same_bytes : a ≡ b
  same_bytes = ext_get_or 0 a b g.size (λ p h. elim (dec_lt p 64) [ yes k ↦ in_header p k | no k ↦ in_page p (omega arith) h ])
