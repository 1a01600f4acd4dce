-- The subtrie of a root of a page: where its levels start, what they hold and its first out-link.
-- Assumes nothing.
use mathlib.Core.List.{List}
use mathlib.Core.Path.{◌≡◌, refl, sym, ap, ap₂, subst, ◌∙◌}
use Prim.Native.Nat.{ℕ, suc, ◌+◌, ◌-◌, ◌*◌, ◌≤◌, ◌<◌}
use native.Mathlib.Omega.{arith}
use lib.ListN.{get_or}
use Rattle.format.specs.Seq.{rank_in}
use Rattle.format.specs.Image.{page_t, depth, prefixes_at}
use Rattle.format.specs.Place.{Reached}
use Rattle.format.proofs.Levels.{child_place}
use Rattle.format.proofs.Walk.{out_link, reached_root, reached_place}
use Rattle.nodes.specs.Words.{ones_before}
use Rattle.pages.specs.declared.Page.{Page}
use Rattle.pages.specs.Page.{Ready, PageRead, child_in}
use Rattle.subtries.specs.Subtrie.{start_in, SubtrieRead}
use Rattle.pages.proofs.Pages.{bytes, checked}
use Rattle.pages.proofs.PageWords.{page_small, page_child}
use Rattle.subtries.specs.Spot.{LevelStart, root_prefix}
use Rattle.subtries.proofs.Starts.{start_next, start_past, start_out}

-- what is read of a root is read of the same root by another name
pub read_same : (img : List ℕ) (b : ℕ) {m n set link : ℕ} → m ≡ n → SubtrieRead img b (root_prefix img b m) set link → SubtrieRead img b (root_prefix img b n) set link
read_same img b {m} {n} {set} {link} e r = subst (λ (k : ℕ). SubtrieRead img b (root_prefix img b k) set link) e r

module _ {img : List ℕ} {page : Page} (r : Ready img) (d : PageRead img page) {n : ℕ} (from : page.t.0 ≤ n) (to : n < page.t.0 + page.roots) where
  pub root_way : Reached img page.band page.index 0 (n - page.t.0) n (get_or (prefixes_at img (4 * (page.band - 1))) n 0)
  root_way =
      let b = page.band in
      let i = page.index in
      let w : depth b 0 ≡ 4 * (b - 1) = omega arith in
      subst (λ (t : ℕ). Reached img b i 0 (n - t) n (get_or (prefixes_at img (4 * (b - 1))) n 0)) (sym d.t)
      (subst (λ (m : ℕ). Reached img b i 0 (n - page_t img b i) n (get_or (prefixes_at img m) n 0)) w
      (reached_root img (bytes r) (checked r) r.some b d.from d.to i n d.in_band (omega (arith, d.t)) (omega (arith, d.t, d.roots))))

  -- the four levels
  pub start₀ : LevelStart img page.band page.index 0 1 (get_or (prefixes_at img (4 * (page.band - 1))) n 0) (n - page.t.0)
  start₀ =
      let y = get_or (prefixes_at img (4 * (page.band - 1))) n 0 in
      record {
        n = n;
        y = y;
        way = root_way;
        lower = omega arith;
        upper = omega arith;
        first = λ z m lt. lt;
        all = λ z m lo hi. let e : y ≡ z = omega arith in record { p = n - page.t.0; n = n; way = subst (Reached img page.band page.index 0 (n - page.t.0) n) e root_way };
      }

  start_small : {l w base p : ℕ} → LevelStart img page.band page.index l w base p → p < 240
  start_small {l} {w} {base} {p} c =
      omega (arith, reached_place img (bytes r) (checked r) r.some page.band d.from d.to page.index l p c.n c.y c.way, d.nodes, page_small r d)

  child_is : (p : ℕ) → p < 240 → child_place img page.band page.index p 0 ≡ page.roots + ones_before page.words.word page.words.before p
  unfolding child_in
  child_is p h = sym (page_child r d p 0 h)

  next_start : {l w base p : ℕ} → LevelStart img page.band page.index l w base p → l < 3
      → LevelStart img page.band page.index (suc l) (2 * w) (2 * base) (page.roots + ones_before page.words.word page.words.before p)
  next_start {l} {w} {base} {p} c h =
      subst (LevelStart img page.band page.index (suc l) (2 * w) (2 * base)) (child_is p (start_small c)) (start_next img r page.band d.from d.to page.index l w base p c h)

  pub start₁ : LevelStart img page.band page.index 1 2 (2 * get_or (prefixes_at img (4 * (page.band - 1))) n 0) (start_in page.words.word page.words.before page.roots (n - page.t.0) 1)
  start₁ = next_start start₀ (omega arith)

  pub start₂ : LevelStart img page.band page.index 2 4 (2 * (2 * get_or (prefixes_at img (4 * (page.band - 1))) n 0)) (start_in page.words.word page.words.before page.roots (n - page.t.0) 2)
  start₂ = next_start start₁ (omega arith)

  pub start₃ : LevelStart img page.band page.index 3 8 (2 * (2 * (2 * get_or (prefixes_at img (4 * (page.band - 1))) n 0))) (start_in page.words.word page.words.before page.roots (n - page.t.0) 3)
  start₃ = next_start start₂ (omega arith)

  -- the starts stand in the page
  pub starts_fit : (page.roots ≤ 60)
      × (n - page.t.0 ≤ 240)
      × (start_in page.words.word page.words.before page.roots (n - page.t.0) 1 ≤ 240)
      × (start_in page.words.word page.words.before page.roots (n - page.t.0) 2 ≤ 240)
      × (start_in page.words.word page.words.before page.roots (n - page.t.0) 3 ≤ 240)
  starts_fit = ((page_small r d).0, omega (arith, start_small start₀), omega (arith, start_small start₁), omega (arith, start_small start₂), omega (arith, start_small start₃))

  -- the first out-link, past the page's nodes
  pub link_is : {past : ℕ} → past ≡ start_in page.words.word page.words.before page.roots (n - page.t.0) 4
      → (page.nodes ≤ past) × (page.b.0 + (past - page.nodes) ≡ rank_in (prefixes_at img (4 * page.band)) (16 * get_or (prefixes_at img (4 * (page.band - 1))) n 0))
  link_is {past} e =
      let b = page.band in
      let i = page.index in
      let y = get_or (prefixes_at img (4 * (b - 1))) n 0 in
      let p = start_in page.words.word page.words.before page.roots (n - page.t.0) 3 in
      let past_is : child_place img b i p 0 ≡ past = child_is p (start_small start₃) ∙ sym e in
      let base : 2 * (2 * (2 * (2 * y))) ≡ 16 * y = omega arith in (
        omega (arith, d.nodes, start_past img r b d.from d.to i 3 8 (2 * (2 * (2 * y))) p start₃ refl),
        ap₂ (λ (u v : ℕ). u + (past - v)) d.b d.nodes
            ∙ ap (out_link img b i) (sym past_is)
            ∙ start_out img r b d.from d.to i 3 8 (2 * (2 * (2 * y))) p start₃ refl
            ∙ ap (rank_in (prefixes_at img (4 * b))) base,
      )
