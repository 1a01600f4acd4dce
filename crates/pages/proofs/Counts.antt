-- How many pages, out-links and keys an accepted image has.
-- Assumes nothing.
use mathlib.Core.Path.{◌≡◌, sym, ap, ◌∙◌}
use mathlib.Core.List.{List}
use Prim.Native.Nat.{ℕ, ◌+◌, ◌-◌, ◌*◌, ◌≤◌, ◌<◌}
use native.Mathlib.Decide.{dec_le}
use native.Mathlib.Numerals.{add-one}
use native.Mathlib.Omega.{arith}
use borrow.Author.Tests.{lt-ltb, le-ltb}
use lib.Dec.{ltb}
use lib.ListN.{length}
use Rattle.format.specs.Image.{key_count, page_count, page_number, pages_before, root_count, prefixes_at}
use Rattle.format.specs.Question.{out_links_due}
use Rattle.format.specs.Seq.{rank_in}
use Rattle.format.proofs.Accepted.{facts}
use Rattle.format.proofs.Back.{pages_before-suc}
use Rattle.format.proofs.Bytes.{number_small}
use Rattle.format.proofs.Checked.{cond_yes, cond_no}
use Rattle.format.proofs.Levels.{prefixes_keys}
use Rattle.format.proofs.Members.{rank_le}
use Rattle.format.proofs.Walk.{roots_count}
use Rattle.pages.specs.Page.{Ready}
use Rattle.pages.proofs.Pages.{bytes, checked}

-- the first page of the next band
pub next_first : (img : List ℕ) (b : ℕ) → 1 ≤ b → page_number img b 0 + page_count img b ≡ page_number img (b + 1) 0
unfolding page_number
next_first img b h = omega (arith, pages_before-suc img b h, ap (pages_before img) (add-one b))

-- ---- keys and out-links

module _ {img : List ℕ} (r : Ready img) where
  pub keys_count : length (prefixes_at img 32) ≡ key_count img
  keys_count = ap length (prefixes_keys img) ∙ (facts img r.accepted).keys.count_is

  -- a band's out-links are the roots of the band below, or the keys
  pub links_count : (b : ℕ) → 1 ≤ b → b ≤ 8 → length (prefixes_at img (4 * b)) ≡ out_links_due img b
  unfolding out_links_due
  links_count b lo hi =
      elim (dec_le 8 b) [
        | yes h ↦ let e : b ≡ 8 = omega arith in
            ap (λ (n : ℕ). length (prefixes_at img (4 * n))) e ∙ keys_count ∙ sym (cond_no (ltb b 8) (root_count img (b + 1)) (key_count img) (le-ltb b 8 h))
        | no h ↦ let e : 4 * b ≡ 4 * (b + 1 - 1) + 0 = omega arith in
            ap (λ (n : ℕ). length (prefixes_at img n)) e
            ∙ roots_count img (bytes r) (checked r) r.some (b + 1) (omega arith) (omega arith)
            ∙ sym (cond_yes (ltb b 8) (root_count img (b + 1)) (key_count img) (lt-ltb b 8 (omega arith)))
      ]

  pub links_few : (b : ℕ) → out_links_due img b < 65536
  unfolding out_links_due root_count
  links_few b =
      elim (dec_le 8 b) [
        | yes h ↦ omega (arith, cond_no (ltb b 8) (root_count img (b + 1)) (key_count img) (le-ltb b 8 h), (checked r).header.few)
        | no h ↦ omega (arith, cond_yes (ltb b 8) (root_count img (b + 1)) (key_count img) (lt-ltb b 8 (omega arith)), number_small img (6 + 4 * (b + 1)) (bytes r))
      ]

  -- a rank among a band's out-links is below 65,536, as their number is
  pub rank_few : (b : ℕ) → 1 ≤ b → b ≤ 8 → (x : ℕ) → rank_in (prefixes_at img (4 * b)) x < 65536
  rank_few b lo hi x = omega (arith, rank_le (prefixes_at img (4 * b)) x, links_count b lo hi, links_few b)
