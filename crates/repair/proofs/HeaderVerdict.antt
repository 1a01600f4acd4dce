-- The verdict on the kept bytes of the header, and on an image without pages.
-- Assumes nothing.
use mathlib.Core.Path.{◌≡◌, refl, sym, ap, ◌∙◌}
use mathlib.Core.Bool.{Bool, true, false}
use mathlib.Core.List.{List, map}
use Prim.Native.Nat.{ℕ, zero, suc, ◌+◌, ◌*◌, ◌%◌, ◌≤◌, ◌<◌}
use native.Mathlib.Omega.{arith}
use native.Mathlib.Decide.{ℕ_discrete}
use lib.Dec.{eqb}
use borrow.Author.Tests.{le-leb, lt-leb}
use lib.ListN.{length, get_or, replicate}
use Rattle.format.specs.Seq.{All, numbers_from, total, up_to}
use Rattle.format.specs.Page.{Byte}
use Rattle.format.specs.Image.{bands, page_count}
use Rattle.format.specs.Question.{lift_right, mark_right, version_known, zeros_right}
use Rattle.repair.specs.Numbers.{band_links, band_roots, header_number, held_links, held_roots, links_before, roots_before}
use Rattle.repair.specs.Repair.{is_repairable}
use Rattle.repair.specs.Sound.{Sound, SoundTop, header_kept, no_pages, one_root}
use Rattle.repair.specs.Inner.{Judged, Whole}
use Rattle.repair.proofs.RootsHeld.{false-true}
use Rattle.repair.proofs.Reading.{header_back}
use Rattle.repair.proofs.Sums.{sum_none}
use Rattle.repair.proofs.KeptSound.{repairable_sound}
use Rattle.repair.proofs.Restoring.{kept_size, pages_few, sound_repairable}

-- ---- the header's questions one after the other

module _ (img : List ℕ) where
  pub kept_short : length img < 64 → false ≡ header_kept img
  unfolding header_kept
  kept_short h = sym (rw (lt-leb 64 (length img) h))

  module _ (long : 64 ≤ length img) where
    pub kept-mark : mark_right img ≡ false → false ≡ header_kept img
    unfolding header_kept
    kept-mark e = sym (rw (le-leb 64 (length img) long, e))

    module _ (mark : mark_right img ≡ true) where
      pub kept_version : version_known img ≡ false → false ≡ header_kept img
      unfolding header_kept
      kept_version e = sym (rw (le-leb 64 (length img) long, mark, e))

      module _ (version : version_known img ≡ true) where
        pub kept_zeros : zeros_right img ≡ false → false ≡ header_kept img
        unfolding header_kept
        kept_zeros e = sym (rw (le-leb 64 (length img) long, mark, version, e))

        module _ (zeros : zeros_right img ≡ true) where
          pub kept-lift : lift_right img ≡ false → false ≡ header_kept img
          unfolding header_kept
          kept-lift e = sym (rw (le-leb 64 (length img) long, mark, version, zeros, e))

          pub kept_last : lift_right img ≡ true → (n : ℕ) → n ≡ total (map (page_count img) bands) → eqb (length img) (64 * (1 + n)) ≡ header_kept img
          unfolding header_kept
          kept_last e n d = rw (d, le-leb 64 (length img) long, mark, version, zeros, e)

-- ---- a verdict

pub judged_no : {img counts ts bs : List ℕ} → All Byte img → (Sound img → ⊥) → Judged img counts ts bs false
judged_no {img} small f = record { is = go (is_repairable img) refl; whole = λ e. absurd (false-true e); noted = λ e. absurd (false-true e) }
  where
    go : (t : Bool) → is_repairable img ≡ t → false ≡ is_repairable img
    go true e = absurd (f (repairable_sound img small e))
    go false e = sym e

pub header_no : {img : List ℕ} → header_kept img ≡ false → Sound img → ⊥
header_no e s = false-true (sym e ∙ s.header)

-- ---- sums that are 0

total-none : (f : ℕ → ℕ) (s n : ℕ) → total (map f (numbers_from s n)) ≡ 0 → (b : ℕ) → s ≤ b → b < s + n → f b ≡ 0
unfolding numbers_from total
total-none f s zero e b lo hi = absurd (omega arith)
total-none f s (suc n) e b lo hi = elim (ℕ_discrete s b) [ yes d ↦ ap f (sym d) ∙ omega arith | no d ↦ total-none f (suc s) n (omega arith) b (omega arith) (omega arith) ]

none-total : (f : ℕ → ℕ) (s n : ℕ) → ((b : ℕ) → s ≤ b → b < s + n → f b ≡ 0) → total (map f (numbers_from s n)) ≡ 0
unfolding numbers_from total
none-total f s zero h = refl
none-total f s (suc n) h = omega (arith, h s (omega arith) (omega arith), none-total f (suc s) n (λ b lo hi. h b (omega arith) (omega arith)))

zero_at : (n k : ℕ) → ◌≡◌ {A = ℕ} (get_or (replicate n 0) k 0) 0
zero_at zero k = refl
zero_at (suc n) zero = refl
zero_at (suc n) (suc k) = zero_at n k

-- ---- the header alone

module _ (img : List ℕ) (small : All Byte img) (kept : header_kept img ≡ true) where
  pub size : length img ≡ 64 * (1 + total (map (page_count img) bands))
  size = kept_size img kept

  pub kept_long : 64 ≤ length img
  kept_long = omega (arith, size)

  pub too_many : (n : ℕ) → n ≡ total (map (page_count img) bands) → 384 < n → Sound img → ⊥
  too_many n e h s = omega (arith, pages_few img small s)

  pub whole_of : total (map (page_count img) bands) ≤ 384 → Whole img
  whole_of h = record { long = kept_long; whole = omega (arith, size); few = omega (arith, size) }

  -- ---- without pages

  -- a sound image that has pages has one root in band 1
  pub top_root : (total (map (page_count img) bands) ≡ 0 → ⊥) → Sound img → band_roots img 1 ≡ 1
  top_root n s = go s.top
    where
      go : SoundTop img → band_roots img 1 ≡ 1
      go (no_pages f) = absurd (n (unfold bands in none-total (page_count img) 1 8 (λ b lo hi. f b lo (omega arith))))
      go (one_root r) = r

  module _ (e : total (map (page_count img) bands) ≡ 0) where
    none : (b : ℕ) → 1 ≤ b → b ≤ 8 → page_count img b ≡ 0
    unfolding bands
    none b lo hi = total-none (page_count img) 1 8 e b lo (omega arith)

    no_roots : (b : ℕ) → 1 ≤ b → b ≤ 8 → band_roots img b ≡ 0
    unfolding band_roots roots_before
    no_roots b lo hi = ap (λ (n : ℕ). total (map (held_roots img b) (up_to n))) (none b lo hi) ∙ sum_none (held_roots img b)

    no-links : (b : ℕ) → 1 ≤ b → b ≤ 8 → band_links img b ≡ 0
    unfolding band_links links_before
    no-links b lo hi = ap (λ (n : ℕ). total (map (held_links img b) (up_to n))) (none b lo hi) ∙ sum_none (held_links img b)

    empty-sound : Sound img
    empty-sound =
        record {
          header = kept;
          top = no_pages none;
          page = λ b i lo hi h. absurd (omega (arith, none b lo hi));
          link = λ b lo hi. no-links b lo (omega arith) ∙ sym (no_roots (suc b) (omega arith) (omega arith));
          few = omega (arith, no-links 8 (omega arith) (omega arith));
        }

    no_number : (k : ℕ) → k < 9 → header_number img k ≡ 0
    unfolding header_number
    no_number zero h = no-links 8 (omega arith) (omega arith)
    no_number (suc b) h = no_roots (suc b) (omega arith) (omega arith)

    pub empty_yes : {counts ts bs : List ℕ} → counts ≡ replicate 9 0 → length ts ≡ 384 → length bs ≡ 384 → Judged img counts ts bs true
    empty_yes {counts} {ts} {bs} c n m =
        record {
          is = sym (sound_repairable img small empty-sound);
          whole = λ t. whole_of (omega arith);
          noted = λ t. record {
            counted = λ k h. ap (λ (l : List ℕ). get_or l k 0) c ∙ zero_at 9 k ∙ sym (header_back img size k h ∙ ap (◌% 65536) (no_number k h));
            heads = record { t_size = n; b_size = m; t_noted = λ q lo hi. absurd (omega (arith, size)); b_noted = λ q lo hi. absurd (omega (arith, size)) };
          };
        }
