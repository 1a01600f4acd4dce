-- The eight-page lookup in a band: its questions one by one, and on an accepted image its way, which is the key's.
-- Assumes nothing.
use mathlib.Core.Path.{◌≡◌, refl, sym, ap, ◌∙◌, subst}
use mathlib.Core.Bool.{Bool, true, false}
use mathlib.Core.List.{List, [], ◌∷◌}
use Prim.Native.Nat.{ℕ, suc, ◌+◌, ◌-◌, ◌*◌, ◌/◌, ◌^◌, ◌≤◌, ◌<◌}
use native.Mathlib.Omega.{arith}
use lib.Dec.{ltb}
use borrow.Author.Tests.{le-leb, le-ltb, leb-true, lt-leb, lt-ltb, ltb-true, ne_eqb}
use lib.ListN.{length, get_or, take}
use Rattle.format.specs.Seq.{rank_in}
use Rattle.format.specs.Trie.{on_bits}
use Rattle.format.specs.Image.{depth, page_b, page_levels, page_number, page_pairs, page_roots, page_t, page_with, prefixes_at, root_count}
use Rattle.format.specs.Place.{before}
use Rattle.format.specs.Question.{Outcome, and_then, node_questions, out_links_due, outcome, refused, returns, settle}
use Rattle.format.specs.Answer.{page_of, root_of}
use Rattle.format.proofs.Questions.{asked_no, asked_yes, none_of_yes, yes_of_none}
use Rattle.format.proofs.Jobs.{settle_no, settle-yes, yes_of_returns}
use Rattle.format.proofs.NodeQuestions.{of_nodes}
use Rattle.format.proofs.Checked.{cond_yes, page_nodes_lem}
use Rattle.format.proofs.Read.{next_roots, page_roots_lem}
use Rattle.format.proofs.Levels.{before_roots}
use Rattle.format.proofs.Walk.{root_is}
use Rattle.pages.specs.Page.{Ready}
use Rattle.pages.proofs.Pages.{bytes, checked, some_pages}
use Rattle.pages.proofs.Counts.{links_count}
use Rattle.paged_lookup.specs.Paged.{Way, out, off, all_smaller, follow, has_page, is_below, leaving, number, renumbered, root_questions, step, through, way_from}
use Rattle.paged_lookup.specs.Way.{way_at}
use Rattle.paged_lookup.proofs.LastPages.{LastAt, last_page, page_there, root_before}
use Rattle.paged_lookup.proofs.Ways.{Below, Stands, stands_below, stands_out}

-- ---- questions

-- 28
pub is_below_lem : (m : ℕ) (way : Way) → Below m way → is_below m way ≡ true
unfolding is_below
is_below_lem m (out n) h = lt-ltb n m h
is_below_lem m (off n) h = le-leb n m h

pub not-below : (m : ℕ) (way : Way) → (Below m way → ⊥) → is_below m way ≡ false
unfolding is_below
not-below m (out n) f = le-ltb n m (omega (arith, f))
not-below m (off n) f = lt-leb n m (omega (arith, f))

below-is : (m : ℕ) (way : Way) → is_below m way ≡ true → Below m way
unfolding is_below
below-is m (out n) e = ltb-true n m e
below-is m (off n) e = leb-true n m e

module _ (img : List ℕ) (b : ℕ) (way : Way) where
  pub leave_yes : is_below (out_links_due img b) way ≡ true → leaving img b way ≡ returns way
  unfolding leaving
  leave_yes e = settle-yes ((28, is_below (out_links_due img b) way) ∷ []) way (none_of_yes ((28, is_below (out_links_due img b) way) ∷ []) (e, tt))

  pub leave_no : is_below (out_links_due img b) way ≡ false → leaving img b way ≡ refused 28
  unfolding leaving
  leave_no e = settle_no ((28, is_below (out_links_due img b) way) ∷ []) way 28 (asked_no 28 _ [] e)

-- a way out of a band is that out of its page, and its number is below those due
pub left : (img : List ℕ) (b : ℕ) (way : Way) (o : Outcome Way) → and_then o (leaving img b) ≡ returns way → (o ≡ returns way) × Below (out_links_due img b) way
unfolding and_then leaving
left img b way (refused k) e = absurd (let z : ◌≡◌ {A = ℕ} 0 1 = cc in omega arith)
left img b way (returns w) e =
    let (yes-28, is) = yes_of_returns ((28, is_below (out_links_due img b) w) ∷ []) w way e in
    (ap returns is, subst (Below (out_links_due img b)) is (below-is (out_links_due img b) w (yes_of_none ((28, is_below (out_links_due img b) w) ∷ []) yes-28).0))

-- before band 8 those due are the next band's roots
pub due_roots : (img : List ℕ) (b : ℕ) → b < 8 → out_links_due img b ≡ root_count img (b + 1)
unfolding out_links_due
due_roots img b h = cond_yes (ltb b 8) (root_count img (b + 1)) _ (lt-ltb b 8 h)

-- 27, and then 9 to 11 of the page
module _ (img : List ℕ) (key b : ℕ) (way : Way) where
  pub no_27 : has_page img b (number way) ≡ false → through img key b way ≡ refused 27
  unfolding through root_questions and_then
  no_27 e = ap (λ o. and_then o (leaving img b)) (settle_no (root_questions img b (number way)) (way_from img key b way) 27 (asked_no 27 _ _ e))

  pub past_27 : has_page img b (number way) ≡ true
      → through img key b way ≡ and_then (settle (node_questions (page_roots img b (page_with img b (number way))) (page_pairs img b (page_with img b (number way)))) (way_from img key b way)) (leaving img b)
  unfolding through root_questions settle
  past_27 e = ap (λ o. and_then (outcome o (way_from img key b way)) (leaving img b)) (asked_yes 27 _ _ e)

-- ---- past an off bit

-- past an off bit no node is reached
stays_off : (key d : ℕ) (levels : List (List ℕ)) (j n : ℕ) → follow key d levels (off j) ≡ out n → ⊥
unfolding follow step
stays_off key d [] j n e = absurd (let z : ◌≡◌ {A = ℕ} 0 1 = cc in omega arith)
stays_off key d (ns ∷ levels) j n e = stays_off key (suc d) levels (on_bits (take j ns)) n e

no_out : (f : ℕ → ℕ) (way : Way) {n : ℕ} → ((m : ℕ) → way ≡ out m → ⊥) → renumbered f way ≡ out n → ⊥
unfolding renumbered
no_out f (out m) g e = g m refl
no_out f (off m) g e = absurd (let z : ◌≡◌ {A = ℕ} 0 1 = cc in omega arith)

-- so where a band is left by an on bit, all bits before were on
pub still_on : (img : List ℕ) (key b : ℕ) (on : Bool) (root n : ℕ) → through img key b (way_at on root) ≡ returns (out n) → on ≡ true
unfolding through way_from renumbered number
still_on img key b true root n e = refl
still_on img key b false root n e =
    let i = page_with img b root in
    let way-is : way_from img key b (off root) ≡ out n = (yes_of_returns (root_questions img b (number (off root))) _ (out n) (left img b (out n) _ e).0).1 in
    absurd (no_out _ (follow key (4 * (b - 1)) (page_levels img b i) (off (root - page_t img b i))) (stays_off key (4 * (b - 1)) (page_levels img b i) (root - page_t img b i)) way-is)

-- a number below those due is no figure that ends the walk
pub not_all : (img : List ℕ) (b : ℕ) (on : Bool) (n : ℕ) → n < out_links_due img b → all_smaller img b (way_at on n) ≡ false
unfolding all_smaller
not_all img b true n h = refl
not_all img b false n h = ne_eqb n (out_links_due img b) (λ e. omega arith)

pub number_is : (on : Bool) (n : ℕ) → number (way_at on n) ≡ n
unfolding number
number_is true n = refl
number_is false n = refl

-- ---- an accepted image

module _ {img : List ℕ} (r : Ready img) (b root : ℕ) (lo : 1 ≤ b) (hi : b ≤ 8) (within : root < root_count img b) where
  -- 27 gets a yes: the first page's T is 0
  pub has : has_page img b root ≡ true
  has = page_there img b root 0 (some_pages r b lo hi) (omega (arith, ((checked r).page b 0 lo hi (some_pages r b lo hi)).counters.0))

  last-at : LastAt img b root (page_with img b root)
  last-at = last_page img b root has

  -- the page has the root
  root-held : root < page_t img b (page_with img b root) + page_roots img b (page_with img b root)
  root-held = omega (arith, root_before img b root (page_with img b root) last-at within, next_roots img (bytes r) (checked r) b lo hi (page_with img b root) last-at.in_band)

-- the way of a key, as it comes into a band
module _ {img : List ℕ} (r : Ready img) (key b : ℕ) (way : Way) (lo : 1 ≤ b) (hi : b ≤ 8) (s : Stands img key (4 * (b - 1)) way) where
  bits : 36 - 4 * b ≡ 32 - 4 * (b - 1)
  bits = omega arith

  -- its number is the rank of the key's prefix, so that the page is the one on the key's path
  root-number : (way : Way) → Stands img key (4 * (b - 1)) way → root_of img key b ≡ number way
  unfolding number
  root-number (out n) t = root_is img (bytes r) (checked r) r.some key b n t.within (t.prefix ∙ ap (λ (w : ℕ). key / 2 ^ w) (sym bits))
  root-number (off n) t = unfold root_of in ap (λ (w : ℕ). rank_in (prefixes_at img (4 * (b - 1))) (key / 2 ^ w)) bits ∙ t.smaller

  pub page_on_path : page_number img b (page_with img b (number way)) ≡ page_of img key b
  unfolding page_of
  page_on_path = ap (λ (n : ℕ). page_number img b (page_with img b n)) (sym (root-number way s))

  module _ (within : number way < root_count img b) where
    i : ℕ
    i = page_with img b (number way)

    -- from the page's roots: the page's T counts those before it
    in_page : (way : Way) (T roots : ℕ) → T ≤ number way → number way < T + roots → Below roots (renumbered (◌- T) way) × (renumbered (T +◌) (renumbered (◌- T) way) ≡ way)
    unfolding number renumbered
    in_page (out n) T roots h k = (omega arith, ap out (let e : T + (n - T) ≡ n = omega arith in e))
    in_page (off n) T roots h k = (omega arith, ap off (let e : T + (n - T) ≡ n = omega arith in e))

    pub way_stands : Stands img key (4 * b) (way_from img key b way)
    unfolding way_from i
    way_stands =
        let at = last-at r b (number way) lo hi within in
        let from = in_page way (page_t img b i) (page_roots img b i) at.at (root-held r b (number way) lo hi within) in
        let d : 4 * (b - 1) ≡ depth b 0 = omega arith in
        let T : page_t img b i ≡ before img b 0 i = sym (before_roots img (bytes r) (checked r) r.some b lo hi i at.in_band) in
        let roots : page_roots img b i ≡ length (get_or (page_levels img b i) 0 []) = unfold Rattle.format.specs.Writer.roots_in in sym (page_roots_lem img (bytes r) (checked r) b lo hi i at.in_band) in
        let here : Stands img key (depth b 0) (renumbered (before img b 0 i +◌) (renumbered (◌- page_t img b i) way)) =
        subst (λ (t : ℕ). Stands img key (depth b 0) (renumbered (t +◌) (renumbered (◌- page_t img b i) way))) T (subst (Stands img key (depth b 0)) (sym from.1) (subst (λ (x : ℕ). Stands img key x way) d s)) in
        subst (λ (x : ℕ). Stands img key (4 * b) (renumbered (page_b img b i +◌) (follow key x (page_levels img b i) (renumbered (◌- page_t img b i) way)))) (sym d)
        (stands_out r key b i lo hi at.in_band 3 0 (renumbered (◌- page_t img b i) way) (omega arith) (subst (λ (m : ℕ). Below m (renumbered (◌- page_t img b i) way)) roots from.0) here)

    -- no question gets a no
    pub through-is : through img key b way ≡ returns (way_from img key b way)
    unfolding and_then i
    through-is =
        past_27 img key b way (has r b (number way) lo hi within)
        ∙ ap (λ o. and_then o (leaving img b)) (settle-yes (node_questions (page_roots img b i) (page_pairs img b i)) (way_from img key b way)
        (none_of_yes (node_questions (page_roots img b i) (page_pairs img b i)) (of_nodes (page_roots img b i) (page_pairs img b i) (page_nodes_lem img b i ((checked r).page b i lo hi (last-at r b (number way) lo hi within).in_band)))))
        ∙ leave_yes img b (way_from img key b way) (is_below_lem (out_links_due img b) (way_from img key b way)
        (subst (λ (m : ℕ). Below m (way_from img key b way)) (links_count r b lo hi) (stands_below img key (4 * b) (way_from img key b way) way_stands)))
