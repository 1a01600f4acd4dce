-- A key's way through a page and through a band as the code goes, on every byte sequence whose 1 to 7 get a yes, and on an accepted image.
-- Assumes nothing.
use mathlib.Core.Path.{◌≡◌, refl, sym, ap, ap₂, ◌∙◌, subst}
use mathlib.Core.Bool.{Bool, true, false}
use mathlib.Core.Option.{none, some}
use mathlib.Core.List.{List}
use Prim.Native.Nat.{ℕ, ◌+◌, ◌-◌, ◌*◌, ◌≤◌, ◌<◌}
use native.Mathlib.Omega.{arith}
use lib.ListN.{get_or}
use Rattle.format.specs.declared.OutLink.{OutLink}
use Rattle.format.specs.Page.{levels_in, node_count, number_at, pairs_at}
use Rattle.format.specs.Image.{next_t, page_b, page_levels, page_nodes, page_number, page_pairs, page_roots, page_t, page_with, root_count}
use Rattle.format.specs.Question.{Outcome, and_then, first_no, node_questions, one_to, outcome, refused, returns, settle}
use Rattle.format.proofs.Questions.{asked_no, none_of_yes}
use Rattle.format.proofs.Jobs.{settle_no, settle-yes}
use Rattle.format.proofs.NodeQuestions.{NodesOk, of_nodes}
use Rattle.format.proofs.Checked.{page_nodes_lem}
use Rattle.format.proofs.Walk.{page_with_lem}
use Rattle.nodes.specs.declared.Words.{Words}
use Rattle.nodes.specs.Words.{Gathered, pairs_in, words_of}
use Rattle.nodes.proofs.Pairs.{gathered_from, pairs_are}
use Rattle.pages.specs.declared.PageHead.{PageHead}
use Rattle.pages.specs.Page.{HeadRead, Ready}
use Rattle.pages.proofs.Pages.{b_small, bytes, checked}
use Rattle.pages.proofs.Heads.{head_fits, nodes_are}
use Rattle.paged_lookup.specs.declared.page.Way.TheVariants.{Out, Off}
use Rattle.paged_lookup.specs.Paged as paged
use Rattle.paged_lookup.specs.Paged.{out, off, follow, has_page, leaving, number, renumbered, through, way_from}
use Rattle.paged_lookup.specs.Way.{JudgedIn, way_at, way_of}
use Rattle.paged_lookup.proofs.LastPages.{last_page, root_before}
use Rattle.paged_lookup.proofs.Bands.{has, no_27, past_27}
use Rattle.paged_lookup.proofs.Finding.{PageFound}

-- ---- in a page

-- 10 or 11 gets a no
pub page_refused : (img : List ℕ) (at roots : ℕ) (word : List ℕ) → pairs_in word ≡ pairs_at img at → (x : ℕ) → some x ≡ first_no (node_questions roots (pairs_in word)) → (w : paged.Way)
    → refused x ≡ settle (node_questions roots (pairs_at img at)) w
unfolding settle outcome
page_refused img at roots word same x e w = ap (λ o. outcome o w) (e ∙ ap (λ (ps : List ℕ). first_no (node_questions roots ps)) same)

-- a page whose 9 to 11 get a yes
pub page_way : (img : List ℕ) (at roots : ℕ) (word : List ℕ) → pairs_in word ≡ pairs_at img at → first_no (node_questions roots (pairs_in word)) ≡ none → (way : paged.Way) {b : ℕ} (key level : ℕ) (from : paged.Way) → b ≡ number_at img (at + 2)
    → way ≡ renumbered (b +◌) (follow key level (levels_in 4 roots (pairs_in word)) from)
    → returns way ≡ settle (node_questions roots (pairs_at img at)) (renumbered (number_at img (at + 2) +◌) (follow key level (levels_in 4 roots (pairs_at img at)) from))
page_way img at roots word same asked way {b} key level from eb w =
    ap returns w ∙ ap₂ (λ (x : ℕ) (ps : List ℕ). returns (renumbered (x +◌) (follow key level (levels_in 4 roots ps) from))) eb same
    ∙ sym (settle-yes (node_questions roots (pairs_at img at)) _ (subst (λ (ps : List ℕ). first_no (node_questions roots ps) ≡ none) same asked))

-- the end of the four bits
module _ {way : paged.Way} (b : ℕ) (on : Bool) (n : ℕ) (e : way ≡ way_at on n) where
  pub way_out : on ≡ true → way_of (Out (record { 0 = b + n })) ≡ renumbered (b +◌) way
  unfolding renumbered
  way_out t = ap (renumbered (b +◌)) (sym (e ∙ ap (λ t. way_at t n) t))

  pub way_off : on ≡ false → way_of (Off (record { 0 = b + n })) ≡ renumbered (b +◌) way
  unfolding renumbered
  way_off t = ap (renumbered (b +◌)) (sym (e ∙ ap (λ t. way_at t n) t))

-- ---- in a page of an accepted image

module _ {img : List ℕ} (r : Ready img) {head : PageHead} (d : HeadRead img head) where
  ok : NodesOk (page_roots img head.band head.index) (page_pairs img head.band head.index)
  ok = page_nodes_lem img head.band head.index ((checked r).page head.band head.index d.from d.to d.in_band)

  pub head_small : head.b.0 < 65536
  head_small = omega (arith, d.b, b_small r head.band head.index)

  module _ {words : Words} (ew : words ≡ words_of img (64 * head.number)) where
    pub head_gathered : Gathered words.word words.before
    head_gathered = gathered_from img (bytes r) (64 * head.number) (head_fits r d) ew

    pub head_pairs : pairs_in words.word ≡ pairs_at img (64 * head.number)
    head_pairs = pairs_are img (bytes r) (64 * head.number) (head_fits r d) words ew

    -- 9 to 11 get a yes
    pub head_asked : first_no (node_questions head.roots (pairs_in words.word)) ≡ none
    unfolding page_pairs
    head_asked =
        ap₂ (λ (n : ℕ) (ps : List ℕ). first_no (node_questions n ps)) d.roots (head_pairs ∙ ap (λ (n : ℕ). pairs_at img (64 * n)) d.number)
        ∙ none_of_yes (node_questions (page_roots img head.band head.index) (page_pairs img head.band head.index)) (of_nodes (page_roots img head.band head.index) (page_pairs img head.band head.index) ok)

    pub head_nodes : {n : ℕ} → n ≡ head.roots + get_or words.before 8 0 - head.links → n ≡ node_count head.roots (levels_in 4 head.roots (pairs_in words.word))
    unfolding page_nodes page_levels page_pairs
    head_nodes e =
        nodes_are r d ew e
        ∙ ap₂ (λ (n : ℕ) (ps : List ℕ). node_count n (levels_in 4 n ps)) (sym d.roots) (sym (head_pairs ∙ ap (λ (n : ℕ). pairs_at img (64 * n)) d.number))

    pub head_judged : {n : ℕ} → n ≡ head.roots + get_or words.before 8 0 - head.links → {b : OutLink} → JudgedIn words.word words.before (record { roots = head.roots; nodes = n; b = b })
    head_judged e = record { page_in = record { gathered = head_gathered; asked = head_asked }; nodes_are = head_nodes e }

    pub head_b : head.b.0 ≡ number_at img (64 * head.number + 2)
    unfolding page_b
    head_b = d.b ∙ ap (λ (n : ℕ). number_at img (64 * n + 2)) (sym d.number)

  -- the page as it is read where nothing is known of the image
  head-found : {b root : ℕ} → head.band ≡ b → head.t.0 ≤ root → root < head.t.0 + head.roots → root < root_count img b → PageFound img b root head.index head.number head.t.0 (next_t img b head.index)
  head-found {b} {root} e lo hi within =
      subst (λ (x : ℕ). root < root_count img x → PageFound img x root head.index head.number head.t.0 (next_t img x head.index)) e
      (λ k. record {
        in_band = d.in_band;
        has = has r head.band root d.from d.to k;
        is = page_with_lem img (bytes r) (checked r) r.some head.band head.index root d.from d.to d.in_band (omega (arith, d.t)) (omega (arith, d.t, d.roots));
        number_is = d.number;
        t_is = d.t;
        next_is = refl;
      }) within

  head-roots : {b : ℕ} → head.band ≡ b → head.roots ≡ next_t img b head.index - head.t.0
  unfolding page_roots
  head-roots {b} e = d.roots ∙ ap₂ ◌-◌ (ap (λ (x : ℕ). next_t img x head.index) e) (sym d.t)

-- ---- through a band

module _ {img : List ℕ} {b root i number t next : ℕ} (f : PageFound img b root i number t next) where
  roots_are : next - t ≡ page_roots img b (page_with img b root)
  unfolding page_roots
  roots_are = ap₂ ◌-◌ f.next_is f.t_is ∙ ap (page_roots img b) (sym f.is)

  -- the root is one of the page's
  pub root_in_lem : root < root_count img b → (t ≤ root) × (root - t < next - t)
  root_in_lem u =
      let l = last_page img b root f.has in
      let before = root_before img b root (page_with img b root) l u in
      let low : t ≤ root = omega (arith, f.t_is, ap (page_t img b) f.is, l.at) in
      (low, omega (arith, f.next_is, ap (next_t img b) f.is))

-- from a root, or a figure
module _ (img : List ℕ) (key b root : ℕ) where
  -- the page that is taken
  taken : ℕ
  taken = page_with img b root

  no-page-at : (on : Bool) → has_page img b root ≡ false → through img key b (way_at on root) ≡ refused 27
  unfolding number
  no-page-at true h = no_27 img key b (out root) h
  no-page-at false h = no_27 img key b (off root) h

  page_at : (on : Bool) → has_page img b root ≡ true
      → through img key b (way_at on root)
      ≡ and_then (settle (node_questions (page_roots img b taken) (page_pairs img b taken)) (renumbered (page_b img b taken +◌) (follow key (4 * (b - 1)) (page_levels img b taken) (way_at on (root - page_t img b taken))))) (leaving img b)
  unfolding taken number way_from renumbered
  page_at true h = past_27 img key b (out root) h
  page_at false h = past_27 img key b (off root) h

module _ (img : List ℕ) (key b : ℕ) (on : Bool) (root : ℕ) where
  pub step-none : has_page img b root ≡ false → refused 27 ≡ through img key b (way_at on root)
  step-none h = sym (no-page-at img key b root on h)

  module _ {i page t next : ℕ} (f : PageFound img b root i page t next) where
    -- the page's number in the image
    pub page_told : page ≡ page_number img b (page_with img b root)
    page_told = f.number_is ∙ ap (page_number img b) (sym f.is)

    -- 9 gets a no
    pub step_nine : one_to 60 (next - t) ≡ false → refused 9 ≡ through img key b (way_at on root)
    unfolding node_questions and_then taken
    step_nine h =
        sym (page_at img key b root on f.has
        ∙ ap (λ o. and_then o (leaving img b)) (settle_no (node_questions (page_roots img b (page_with img b root)) (page_pairs img b (page_with img b root))) _ 9 (asked_no 9 _ _ (ap (one_to 60) (sym (roots_are f)) ∙ h))))

    -- its way, judged, and on leaving
    pub step_left : {roots : ℕ} → roots ≡ next - t → (o o' : Outcome paged.Way)
        → o ≡ settle (node_questions roots (pairs_at img (64 * page))) (renumbered (number_at img (64 * page + 2) +◌) (follow key (4 * (b - 1)) (levels_in 4 roots (pairs_at img (64 * page))) (way_at on (root - t))))
        → o' ≡ and_then o (leaving img b) → o' ≡ through img key b (way_at on root)
    unfolding taken page_b page_pairs page_levels
    step_left {roots} er o o' w l =
        let i = page_with img b root in
        let r : roots ≡ page_roots img b i = er ∙ roots_are f in
        let n : 64 * page ≡ 64 * page_number img b i = ap (64 *◌) (f.number_is ∙ ap (page_number img b) (sym f.is)) in
        let x : t ≡ page_t img b i = f.t_is ∙ ap (page_t img b) (sym f.is) in
        let same = ap₂ (λ (m q : ℕ). settle (node_questions q (pairs_at img m)) (renumbered (number_at img (m + 2) +◌) (follow key (4 * (b - 1)) (levels_in 4 q (pairs_at img m)) (way_at on (root - t))))) n r
        ∙ ap (λ (y : ℕ). settle (node_questions (page_roots img b i) (page_pairs img b i)) (renumbered (page_b img b i +◌) (follow key (4 * (b - 1)) (page_levels img b i) (way_at on (root - y))))) x in
        l ∙ ap (λ o. and_then o (leaving img b)) (w ∙ same) ∙ sym (page_at img key b root on f.has)

-- the same in an accepted image, by the head of the page
module _ {img : List ℕ} (r : Ready img) {head : PageHead} (d : HeadRead img head) {b root : ℕ} (e : head.band ≡ b) (lo : head.t.0 ≤ root) (hi : root < head.t.0 + head.roots) (within : root < root_count img b) (key : ℕ) (on : Bool) where
  pub head_told : head.number ≡ page_number img b (page_with img b root)
  head_told = page_told img key b on root (head-found r d e lo hi within)

  pub step_head : (o o' : Outcome paged.Way)
      → o ≡ settle (node_questions head.roots (pairs_at img (64 * head.number))) (renumbered (number_at img (64 * head.number + 2) +◌) (follow key (4 * (head.band - 1)) (levels_in 4 head.roots (pairs_at img (64 * head.number))) (way_at on (root - head.t.0))))
      → o' ≡ and_then o (leaving img b) → o' ≡ through img key b (way_at on root)
  step_head o o' w l =
      step_left img key b on root (head-found r d e lo hi within) (head-roots r d e) o o'
      (w ∙ ap (λ (x : ℕ). settle (node_questions head.roots (pairs_at img (64 * head.number))) (renumbered (number_at img (64 * head.number + 2) +◌) (follow key (4 * (x - 1)) (levels_in 4 head.roots (pairs_at img (64 * head.number))) (way_at on (root - head.t.0))))) e) l
