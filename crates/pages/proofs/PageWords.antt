-- What is read from the words of a page of an accepted image.
-- Assumes nothing.
use mathlib.Core.Path.{◌≡◌, ap, ◌∙◌}
use mathlib.Core.List.{List}
use Prim.Native.Nat.{ℕ, zero, suc, ◌+◌, ◌*◌, ◌/◌, ◌≤◌, ◌<◌}
use native.Mathlib.Omega.{arith}
use lib.ListN.{length, get_or, take}
use Rattle.format.specs.Page.{Byte, pairs_at}
use Rattle.format.specs.Trie.{on_bits}
use Rattle.format.specs.Image.{page_pairs}
use Rattle.format.proofs.Lists.{all_get}
use Rattle.format.proofs.Read.{page_within}
use Rattle.format.proofs.Counting.{marks}
use Rattle.format.proofs.Levels.{child_place}
use Rattle.nodes.specs.declared.Words.{Words}
use Rattle.nodes.specs.Words.{half_at, node_in, ones_before, words_in}
use Rattle.nodes.proofs.Calls.{all_counted, counted, node_read}
use Rattle.pages.specs.declared.Page.{Page}
use Rattle.pages.specs.Page.{Ready, PageRead, child_in}
use Rattle.pages.proofs.Pages.{bytes, checked}

-- a page's roots and nodes are few
pub page_small : {img : List ℕ} {page : Page} → Ready img → PageRead img page → (page.roots ≤ 60) × (page.nodes ≤ 240)
page_small r d =
    let ok = (checked r).page _ _ d.from d.to d.in_band in
    (omega (arith, ok.few_roots, d.roots), omega (arith, ok.within, d.nodes))

module _ {img : List ℕ} {page : Page} (r : Ready img) (d : PageRead img page) where
  pub page_fits : 64 * page.number + 64 ≤ length img
  page_fits = omega (arith, d.number, page_within img (bytes r) (checked r) page.band d.from d.to page.index d.in_band)

  pub page_node : (p : ℕ) → p < 240 → node_in page.words.word p ≡ get_or (page_pairs img page.band page.index) p 0
  unfolding page_pairs
  page_node p h = node_read img (bytes r) (64 * page.number) page_fits page.words d.words p h ∙ ap (λ (n : ℕ). get_or (pairs_at img (64 * n)) p 0) d.number

  pub page_marks : (p : ℕ) → p ≤ 240 → ones_before page.words.word page.words.before p ≡ marks (page_pairs img page.band page.index) p
  unfolding page_pairs marks
  page_marks p h = counted img (bytes r) (64 * page.number) page_fits page.words d.words p h ∙ ap (λ (n : ℕ). on_bits (take p (pairs_at img (64 * n)))) d.number

  pub page_on_bits : get_or page.words.before 8 0 ≡ on_bits (page_pairs img page.band page.index)
  unfolding page_pairs
  page_on_bits = all_counted img (bytes r) (64 * page.number) page_fits page.words d.words ∙ ap (λ (n : ℕ). on_bits (pairs_at img (64 * n))) d.number

  -- word 0 is four bytes
  pub page_first : get_or page.words.word 0 0 < 4294967296
  unfolding half_at words_in
  page_first =
      let byte : (i : ℕ) → get_or img i 0 < 256 = λ i. all_get Byte img i 0 (omega arith) (bytes r) in
      let at : ℕ = 64 * page.number + 4 in
      omega (arith, ap (λ (w : Words). get_or w.word 0 0) d.words, byte at, byte (at + 1), byte (at + 2), byte (at + 3))

  pub page_child : (p side : ℕ) → p < 240 → child_in page.words.word page.words.before page.roots p side ≡ child_place img page.band page.index p side
  unfolding child_in marks
  page_child p zero h = omega (arith, d.roots, page_marks p (omega arith))
  page_child p (suc side) h = let e = ap (◌/ 2) (page_node p h) in omega (arith, d.roots, page_marks p (omega arith))
