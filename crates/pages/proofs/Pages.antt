-- Bands and pages of an accepted image: where they stand and what they hold.
-- Assumes nothing.
use mathlib.Core.Path.{◌≡◌, refl, sym, ap, ◌∙◌}
use mathlib.Core.List.{List}
use Prim.Native.Nat.{ℕ, suc, ◌+◌, ◌*◌, ◌≤◌, ◌<◌}
use native.Mathlib.Nat.{add-zero}
use native.Mathlib.Numerals.{add-one}
use native.Mathlib.Omega.{arith}
use native.Mathlib.Decide.{dec_le}
use lib.ListN.{length}
use Rattle.format.specs.Seq.{All}
use Rattle.format.specs.Page.{Byte, number_at}
use Rattle.format.specs.Image.{next_t, page_b, page_count, page_number, pages_before, page_t, root_count}
use Rattle.format.proofs.Bytes.{number_small}
use Rattle.format.proofs.Accepted.{facts}
use Rattle.format.proofs.Checked.{Checked, Counts, no_keys, some_keys}
use Rattle.format.proofs.Read.{page_within, pages_within, next_more, next_last}
use Rattle.format.proofs.Bounds.{page_bound}
use Rattle.pages.specs.Page.{Ready, head_at}

module _ {img : List ℕ} (r : Ready img) where
  pub bytes : All Byte img
  bytes = r.accepted.bytes

  pub checked : Checked img
  checked = (facts img r.accepted).questions

  pub header_long : 64 ≤ length img
  header_long = checked.header.long

  -- the pages of a band stand one after the other
  pub page_number_lem : (b i : ℕ) → page_number img b 0 + i ≡ page_number img b i
  unfolding page_number
  page_number_lem b i = omega arith

  pub page_end : (b i : ℕ) → 1 ≤ b → b ≤ 8 → i < page_count img b → 64 * (page_number img b 0 + i) + 64 ≤ length img
  page_end b i lo hi h = rw (page_number_lem b i) (page_within img bytes checked b lo hi i h)

  pub some_pages : (b : ℕ) → 1 ≤ b → b ≤ 8 → 1 ≤ page_count img b
  some_pages b lo hi = go checked.header.counts
    where
      go : Counts img → 1 ≤ page_count img b
      go (no_keys z f) = absurd (omega (arith, r.some))
      go (some_keys k p q f) =
          elim (dec_le 2 b) [
            | yes h ↦ (f b h hi).0
            | no h ↦ let e : b ≡ 1 = omega arith in omega (arith, ap (page_count img) e)
          ]

  -- by format's bound there are at most 384 pages: those of a band and of the bands before it are no more
  pub few_pages : (b : ℕ) → 1 ≤ b → b ≤ 8 → pages_before img b + page_count img b ≤ 384
  few_pages b lo hi = omega (arith, pages_within img b lo hi, (page_bound.of_image img r.accepted).all_bands)

  pub page_number_small : (b i : ℕ) → 1 ≤ b → b ≤ 8 → i < page_count img b → page_number img b i ≤ 384
  unfolding page_number
  page_number_small b i lo hi h = omega (arith, few_pages b lo hi)

  -- T and B of a page
  pub head_t : (b i : ℕ) → head_at img b 0 i ≡ page_t img b i
  unfolding page_t
  head_t b i = ap (number_at img) (add-zero (64 * page_number img b i))

  pub head_b : (b i : ℕ) → head_at img b 2 i ≡ page_b img b i
  unfolding page_b
  head_b b i = refl

  -- the T after a page's
  pub next_t_lem : (b i : ℕ) → 1 ≤ b → b ≤ 8 → i + 1 < page_count img b → page_t img b (i + 1) ≡ next_t img b i
  next_t_lem b i lo hi h =
      let e : i + 1 ≡ suc i = add-one i in
      ap (page_t img b) e ∙ sym (next_more img bytes checked b lo hi i (omega arith))

  pub next_none : (b i : ℕ) → 1 ≤ b → b ≤ 8 → i < page_count img b → page_count img b ≤ i + 1 → root_count img b ≡ next_t img b i
  next_none b i lo hi h k = sym (next_last img bytes checked b lo hi i (omega arith))

  -- in a band's first page they are 0
  pub first_t : (b : ℕ) → 1 ≤ b → b ≤ 8 → head_at img b 0 0 ≡ 0
  first_t b lo hi = head_t b 0 ∙ (checked.page b 0 lo hi (some_pages b lo hi)).counters.0

  pub first_b : (b : ℕ) → 1 ≤ b → b ≤ 8 → head_at img b 2 0 ≡ 0
  first_b b lo hi = head_b b 0 ∙ (checked.page b 0 lo hi (some_pages b lo hi)).counters.1

  pub b_small : (b i : ℕ) → page_b img b i < 65536
  unfolding page_b
  b_small b i = number_small img (64 * page_number img b i + 2) bytes

  pub t_small : (b i : ℕ) → page_t img b i < 65536
  unfolding page_t
  t_small b i = number_small img (64 * page_number img b i) bytes
