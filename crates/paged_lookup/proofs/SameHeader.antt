-- Bytes that agree in their first 64: the same numbers, and the same answers to 1 to 7 where the lengths agree too.
-- Assumes nothing.
use mathlib.Core.Path.{◌≡◌, sym, ap, ap₂, ◌∙◌}
use mathlib.Core.Bool.{Bool, ◌&&◌, ◌||◌, cond}
use mathlib.Core.List.{List, [], ◌∷◌, map}
use Prim.Native.Nat.{ℕ, ◌+◌, ◌-◌, ◌*◌, ◌≤◌, ◌<◌}
use native.Mathlib.Omega.{arith}
use native.Mathlib.Decide.{dec_lt}
use lib.Dec.{eqb, leb, ltb}
use borrow.Author.Tests.{lt-ltb, le-ltb}
use lib.ListN.{length, get_or, take, drop}
use Rattle.format.specs.Seq.{every, numbers_from, total, up_to}
use Rattle.format.specs.Page.{number_at}
use Rattle.format.specs.Header.{mark}
use Rattle.format.specs.Image.{bands, key_count, lift_of, page_count, page_number, pages_before, root_count, version_of}
use Rattle.format.specs.Question.{counts_fit, header_questions, is_lift, is_positive, is_zero, lift_right, mark_right, out_links_due, version_known, zeros_right}
use Rattle.format.proofs.Lists.{all_numbers, all_up_to, drop-take, every_same, map_same}
use Rattle.format.proofs.Checked.{cond_no, cond_yes}
use Rattle.paged_lookup.proofs.SameBytes.{byte_same, number_same}

module _ (x y : List ℕ) (e : take 64 y ≡ take 64 x) where
  header-byte : (i : ℕ) → i < 64 → get_or y i 0 ≡ get_or x i 0
  header-byte i h = byte_same x y 0 e i (omega arith) (omega arith)

  header-number : (i : ℕ) → i + 1 < 64 → number_at y i ≡ number_at x i
  header-number i h = number_same x y 0 e i (omega arith) (omega arith)

  pub keys_same : key_count y ≡ key_count x
  unfolding key_count
  keys_same = header-number 6 (omega arith)

  version-same : version_of y ≡ version_of x
  unfolding version_of
  version-same = header-number 3 (omega arith)

  pub pages_same : (b : ℕ) → b ≤ 8 → page_count y b ≡ page_count x b
  unfolding page_count
  pages_same b h = header-number (4 + 4 * b) (omega arith)

  pub roots_same : (b : ℕ) → b ≤ 8 → root_count y b ≡ root_count x b
  unfolding root_count
  roots_same b h = header-number (6 + 4 * b) (omega arith)

  pub due_same : (b : ℕ) → 1 ≤ b → b ≤ 8 → out_links_due y b ≡ out_links_due x b
  unfolding out_links_due
  due_same b lo hi =
      elim (dec_lt b 8) [
        | yes h ↦ cond_yes (ltb b 8) _ _ (lt-ltb b 8 h) ∙ roots_same (b + 1) (omega arith) ∙ sym (cond_yes (ltb b 8) _ _ (lt-ltb b 8 h))
        | no h ↦ cond_no (ltb b 8) _ _ (le-ltb b 8 (omega arith)) ∙ keys_same ∙ sym (cond_no (ltb b 8) _ _ (le-ltb b 8 (omega arith)))
      ]

  before_same : (b : ℕ) → b ≤ 8 → pages_before y b ≡ pages_before x b
  unfolding pages_before
  before_same b h = ap total (map_same (page_count y) (page_count x) (numbers_from 1 (b - 1)) (all_numbers (λ t. page_count y t ≡ page_count x t) 1 (b - 1) (λ t lo hi. pages_same t (omega arith))))

  pub page_number_same : (b i : ℕ) → b ≤ 8 → page_number y b i ≡ page_number x b i
  unfolding page_number
  page_number_same b i h = ap (λ (n : ℕ). 1 + n + i) (before_same b h)

  -- ---- 1 to 7

  mark-same : mark_right y ≡ mark_right x
  unfolding mark_right
  mark-same =
      every_same (λ i. eqb (get_or y i 0) (get_or mark i 0)) (λ i. eqb (get_or x i 0) (get_or mark i 0)) (up_to 3)
      (all_up_to (λ i. eqb (get_or y i 0) (get_or mark i 0) ≡ eqb (get_or x i 0) (get_or mark i 0)) 3 (λ i h. ap (λ (n : ℕ). eqb n (get_or mark i 0)) (header-byte i (omega arith))))

  lift-same : lift_of y ≡ lift_of x
  unfolding lift_of
  lift-same = ap₂ (λ (v n : ℕ). cond (eqb v 1) 0 n) version-same (header-number 40 (omega arith))

  zeros-same : zeros_right y ≡ zeros_right x
  unfolding zeros_right
  zeros-same =
      let rest : take 22 (drop 42 y) ≡ take 22 (drop 42 x) = sym (drop-take 42 64 y) ∙ ap (drop 42) e ∙ drop-take 42 64 x in
      ap₂ ◌&&◌ (ap₂ ◌&&◌ (ap is_zero (header-byte 5 (omega arith))) (ap₂ (λ (v n : ℕ). eqb v 2 || is_zero n) version-same (header-number 40 (omega arith)))) (ap (every is_zero) rest)

  band-counts-same : (test : ℕ → Bool) (s n : ℕ) → s + n ≤ 9 → every (λ b. test (page_count y b) && test (root_count y b)) (numbers_from s n) ≡ every (λ b. test (page_count x b) && test (root_count x b)) (numbers_from s n)
  band-counts-same test s n h =
      every_same (λ b. test (page_count y b) && test (root_count y b)) (λ b. test (page_count x b) && test (root_count x b)) (numbers_from s n)
      (all_numbers (λ b. (test (page_count y b) && test (root_count y b)) ≡ (test (page_count x b) && test (root_count x b))) s n
      (λ b lo hi. ap₂ (λ (p r : ℕ). test p && test r) (pages_same b (omega arith)) (roots_same b (omega arith))))

  counts_same : counts_fit y ≡ counts_fit x
  unfolding counts_fit bands
  counts_same =
      ap (λ (k : ℕ). cond (is_zero k) (every (λ b. is_zero (page_count y b) && is_zero (root_count y b)) (numbers_from 1 8)) (eqb (page_count y 1) 1 && eqb (root_count y 1) 1 && every (λ b. is_positive (page_count y b) && is_positive (root_count y b)) (numbers_from 2 7))) keys_same
      ∙ ap₂ (λ (s t : Bool). cond (is_zero (key_count x)) s t) (band-counts-same is_zero 1 8 (omega arith))
      (ap₂ ◌&&◌ (ap₂ (λ (p r : ℕ). eqb p 1 && eqb r 1) (pages_same 1 (omega arith)) (roots_same 1 (omega arith))) (band-counts-same is_positive 2 7 (omega arith)))

  all-pages-same : total (map (page_count y) bands) ≡ total (map (page_count x) bands)
  unfolding bands
  all-pages-same = ap total (map_same (page_count y) (page_count x) (numbers_from 1 8) (all_numbers (λ t. page_count y t ≡ page_count x t) 1 8 (λ t lo hi. pages_same t (omega arith))))

  pub header_same : length y ≡ length x → header_questions y ≡ header_questions x
  unfolding header_questions version_known lift_right
  header_same l = λ i.
      (1, leb 64 (l i))
      ∷ (2, mark-same i)
      ∷ (3, eqb (version-same i) 1 || eqb (version-same i) 2)
      ∷ (4, leb (keys_same i) 4096)
      ∷ (5, zeros-same i)
      ∷ (35, eqb (version-same i) 1 || is_lift (lift-same i))
      ∷ (6, eqb (l i) (64 * (1 + all-pages-same i)))
      ∷ (7, counts_same i)
      ∷ []
