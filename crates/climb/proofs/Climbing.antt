-- A climb in a page: from an out-link up four levels to the root.
-- Assumes nothing.
use mathlib.Core.Path.{◌≡◌, refl, sym, ap, ap₂, subst, ◌∙◌}
use mathlib.Core.List.{List}
use Prim.Native.Nat.{ℕ, zero, suc, ◌+◌, ◌-◌, ◌*◌, ◌/◌, ◌^◌, ◌≤◌, ◌<◌}
use native.Mathlib.Numerals.{add-one}
use native.Mathlib.Decide.{dec_lt}
use native.Mathlib.Omega.{arith}
use lib.ListN.{length, get_or, take}
use Rattle.format.specs.Trie.{on_bits, bit, child_at}
use Rattle.format.specs.Page.{offset}
use Rattle.format.specs.Image.{out_link_count, page_count, page_levels, page_nodes, page_pairs, page_roots, page_t, prefixes_at, depth}
use Rattle.format.specs.Place.{before, Reached}
use Rattle.format.proofs.Counting.{marks, marks_mono, page_nodes_counted}
use Rattle.format.proofs.PageFacts.{page_facts}
use Rattle.format.proofs.Levels.{level_at, before_roots, child_place}
use Rattle.format.proofs.Walk.{ReachedAt, Out, out_link, reached_any, reached_child, reached_index, reached_out, reached_place, links_total}
use Rattle.format.proofs.Upward.{reached_level, reached_same, root_place, up_link}
use Rattle.nodes.specs.declared.Words.{Words}
use Rattle.nodes.specs.Words.{counts_before, node_in, ones_before, words_of}
use Rattle.pages.specs.declared.Page.{Page}
use Rattle.pages.specs.Page.{Ready, PageRead, child_in}
use Rattle.climb.specs.Climb.{ClimbRight}
use Rattle.climb.specs.Select.{SideOf}
use Rattle.pages.proofs.Pages.{bytes, checked}
use Rattle.pages.proofs.PageWords.{page_small, page_node, page_marks, page_child, page_first, page_on_bits}

-- y is what stands in the level below the band where the climb started: it is still there, or at a node, k levels up, whose prefix goes on to y with the bits passed
pub data Up (img : List ℕ) (b i y place bits k : ℕ) : Type 0 where
  link : k ≡ 0 → bits ≡ 0 → page_nodes img b i ≤ place → place < page_nodes img b i + out_link_count img b i → get_or (prefixes_at img (4 * b)) (out_link img b i place) 0 ≡ y → Up img b i y place bits k
  node : (r : ReachedAt img b i place) → 1 ≤ k → r.l + k ≡ 4 → r.x * 2 ^ k + bits ≡ y → Up img b i y place bits k

-- one level further up
grown : (x t k bits : ℕ) → k < 4 → (2 * x + t) * 2 ^ k + bits ≡ x * 2 ^ (k + 1) + (bits + t * 2 ^ k)
grown x t zero bits h = omega arith
grown x t (suc zero) bits h = omega arith
grown x t (suc (suc zero)) bits h = omega arith
grown x t (suc (suc (suc zero))) bits h = omega arith
grown x t (suc (suc (suc (suc k)))) bits h = absurd (omega arith)

pub unit_next : (k : ℕ) → 2 ^ k * 2 ≡ 2 ^ (k + 1)
unit_next k = sym (ap (2 ^◌) (add-one k) ∙ native.Mathlib.Nat.pow-suc 2 k)

pub unit_small : (k : ℕ) → k < 4 → 2 ^ k ≤ 8
unit_small zero h = omega arith
unit_small (suc zero) h = omega arith
unit_small (suc (suc zero)) h = omega arith
unit_small (suc (suc (suc zero))) h = omega arith
unit_small (suc (suc (suc (suc k)))) h = absurd (omega arith)

module _ (img : List ℕ) (r : Ready img) (b : ℕ) (lo : 1 ≤ b) (hi : b ≤ 8) (i : ℕ) (h : i < page_count img b) where
  some_nodes : page_roots img b i ≤ page_nodes img b i
  some_nodes = omega (arith, page_nodes_counted img b i)

  -- a node whose child stands past the nodes is of the fourth level, and one whose child is a node of an earlier one
  last-level : {p t : ℕ} (q : ReachedAt img b i p) → t ≤ 1 → 1 ≤ bit t (get_or (page_pairs img b i) p 0) → page_nodes img b i ≤ child_place img b i p t → q.l ≡ 3
  last-level {p} {t} q small on past =
      elim (dec_lt q.l 3) [
        | yes m ↦ absurd (omega (arith, reached_place img (bytes r) (checked r) r.some b lo hi i _ _ _ _ (reached_child img (bytes r) (checked r) r.some b lo hi i q.l p q.n q.x q.way t small on m)))
        | no m ↦ omega (arith, q.way.in_page)
      ]

  early-level : {p t : ℕ} (q : ReachedAt img b i p) → t ≤ 1 → 1 ≤ bit t (get_or (page_pairs img b i) p 0) → child_place img b i p t < page_nodes img b i → q.l < 3
  early-level {p} {t} q small on within =
      elim (dec_lt q.l 3) [
        | yes m ↦ m
        | no m ↦ absurd (omega (arith, (reached_out img (bytes r) (checked r) r.some b lo hi i q.l p q.n q.x q.way t small on (omega (arith, q.way.in_page))).past))
      ]

module _ (img : List ℕ) (r : Ready img) (b : ℕ) (lo : 1 ≤ b) (hi : b ≤ 8) (i : ℕ) (h : i < page_count img b) {y place bits k : ℕ} where
  -- the on bit that leads to the place
  pub up_number : Up img b i y place bits k → k < 4 → (page_roots img b i ≤ place) × (place - page_roots img b i < marks (page_pairs img b i) (page_nodes img b i))
  unfolding marks
  up_number (link z e from to at) lt = (omega (arith, some_nodes img r b lo hi i h), omega (arith, some_nodes img r b lo hi i h, links_total img (bytes r) (checked r) r.some b lo hi i h))
  up_number (node q one l at) lt =
      let p = reached_place img (bytes r) (checked r) r.some b lo hi i _ _ _ _ q.way in
      let from : page_roots img b i ≤ place =
      elim (dec_lt place (page_roots img b i)) [
        | yes m ↦ absurd (omega (arith, (root_place img (bytes r) (checked r) r.some b lo hi i place h m q).0))
        | no m ↦ omega arith
      ] in
      (from, omega (arith, links_total img (bytes r) (checked r) r.some b lo hi i h))

  up-place : Up img b i y place bits k → 1 ≤ k → place < page_nodes img b i
  up-place (link z e from to at) one = absurd (omega arith)
  up-place (node q z l at) one = reached_place img (bytes r) (checked r) r.some b lo hi i _ _ _ _ q.way

  pub up_next : Up img b i y place bits k → k < 4 → {p t : ℕ} → p < page_nodes img b i → t ≤ 1 → 1 ≤ bit t (get_or (page_pairs img b i) p 0) → child_place img b i p t ≡ place
      → Up img b i y p (bits + t * 2 ^ k) (k + 1)
  up_next (link z e from to at) lt {p} {t} w small on child =
      let q = reached_any img (bytes r) (checked r) r.some b lo hi i h p w in
      let o : Out img b i (child_place img b i p t) (2 * q.x + t) = up_link img (bytes r) (checked r) r.some b lo hi i p t q small on (omega arith) in
      let three : q.l ≡ 3 = last-level img r b lo hi i h q small on (omega arith) in
      let same : 2 * q.x + t ≡ y = sym o.prefix ∙ ap (λ (n : ℕ). get_or (prefixes_at img (4 * b)) (out_link img b i n) 0) child ∙ at in
      let u : 2 ^ k ≡ 1 = ap (2 ^◌) z in
      node q (omega arith) (omega arith) (sym (grown q.x t k bits lt) ∙ ap₂ (λ (n m : ℕ). (2 * q.x + t) * n + m) u e ∙ omega (arith, same))
  up_next (node c one l at) lt {p} {t} w small on child =
      let q = reached_any img (bytes r) (checked r) r.some b lo hi i h p w in
      let in_page = reached_place img (bytes r) (checked r) r.some b lo hi i _ _ _ _ c.way in
      let early = early-level img r b lo hi i h q small on (omega arith) in
      let m : ℕ = child_at (level_at img (depth b q.l)) q.n t in
      let down : Reached img b i (suc q.l) place m (2 * q.x + t) = subst (λ (n : ℕ). Reached img b i (suc q.l) n m (2 * q.x + t)) child (reached_child img (bytes r) (checked r) r.some b lo hi i q.l p q.n q.x q.way t small on early) in
      let level = reached_level img (bytes r) (checked r) r.some b lo hi i c.l (suc q.l) place c.n m c.x (2 * q.x + t) c.way down in
      let x = (reached_same img (bytes r) (checked r) r.some b lo hi i c.l (suc q.l) place c.n m c.x (2 * q.x + t) c.way down).1 in
      node q (omega arith) (omega arith) (sym (grown q.x t k bits lt) ∙ ap (λ (n : ℕ). n * 2 ^ k + bits) (sym x) ∙ at)

  -- four levels up: a root
  pub up_end : Up img b i y place bits k → k ≡ 4 → bits < 16 → (page_t img b i + place < length (prefixes_at img (4 * (b - 1)))) × (y ≡ 16 * get_or (prefixes_at img (4 * (b - 1))) (page_t img b i + place) 0 + bits)
  up_end (link z e from to at) four small = absurd (omega arith)
  up_end (node c one l at) four small =
      let w = c.way in
      let zero-level : c.l ≡ 0 = omega arith in
      let n : c.n ≡ page_t img b i + place =
      omega (arith, w.index, w.place, ap (λ (m : ℕ). before img b m i) zero-level, ap (λ (m : ℕ). offset m (page_levels img b i)) zero-level, before_roots img (bytes r) (checked r) r.some b lo hi i h) in
      let d : depth b c.l ≡ 4 * (b - 1) = omega arith in
      let x : c.x ≡ get_or (prefixes_at img (4 * (b - 1))) (page_t img b i + place) 0 = sym w.prefix ∙ ap₂ (λ (m k : ℕ). get_or (prefixes_at img m) k 0) d n in
      let u : 2 ^ k ≡ 16 = ap (2 ^◌) four in (
        omega (arith, reached_index img (bytes r) (checked r) r.some b lo hi i _ _ _ _ w, ap (λ (m : ℕ). length (prefixes_at img m)) d),
        sym at ∙ ap₂ (λ (m n : ℕ). n * m + bits) u x ∙ omega arith,
      )

-- ---- the loop

-- a climb from place₀, which has come to place
pub record Climb (img : List ℕ) (page : Page) (words : Words) (place₀ place bits unit level : ℕ) : Type 0 where
  pub ready : Ready img
  pub read : PageRead img page
  pub words_are : words ≡ page.words
  pub few : level ≤ 4
  pub unit_is : unit ≡ 2 ^ level
  pub small : bits < unit
  pub up : Up img page.band page.index (get_or (prefixes_at img (4 * page.band)) (out_link img page.band page.index place₀) 0) place bits level

pub climb_start : {img : List ℕ} {page : Page} {words : Words} (r : Ready img) (d : PageRead img page) → words ≡ page.words → (nodes n : ℕ) → nodes ≡ page.nodes → page.b.0 ≤ n
    → n < page.b.0 + out_link_count img page.band page.index → Climb img page words (nodes + (n - page.b.0)) (nodes + (n - page.b.0)) 0 1 0
climb_start r d ew nodes n en from to =
    record {
      ready = r;
      read = d;
      words_are = ew;
      few = omega arith;
      unit_is = refl;
      small = omega arith;
      up = link refl refl (omega (arith, d.nodes)) (omega (arith, d.nodes)) refl;
    }

module _ {img : List ℕ} {page : Page} {words : Words} {place₀ place bits unit level : ℕ} (s : Climb img page words place₀ place bits unit level) where
  counted-at : (p : ℕ) → p ≤ 240 → ones_before words.word words.before p ≡ marks (page_pairs img page.band page.index) p
  counted-at p h = ap (λ (w : Words). ones_before w.word w.before p) s.words_are ∙ page_marks s.ready s.read p h

  read_at : (p : ℕ) → p < 240 → node_in words.word p ≡ get_or (page_pairs img page.band page.index) p 0
  read_at p h = ap (λ (w : Words). node_in w.word p) s.words_are ∙ page_node s.ready s.read p h

  module _ (h : level < 4) where
    in-marks : (page.roots ≤ place) × (place - page.roots < marks (page_pairs img page.band page.index) page.nodes)
    in-marks =
        let d = s.read in
        let u = up_number img s.ready page.band d.from d.to page.index d.in_band s.up h in
        rw (d.roots, d.nodes) u

    pub climb_number : page.roots ≤ place
    climb_number = in-marks.0

    -- the sums of a turn
    pub climb_fits : (t : ℕ) → t ≤ 1 → (t * unit ≤ 8) × (bits + t * unit < 16) × (unit ≤ 8)
    climb_fits t le = go t le
      where
        few-units : unit ≤ 8
        few-units = omega (arith, s.unit_is, unit_small level h)

        go : (t : ℕ) → t ≤ 1 → (t * unit ≤ 8) × (bits + t * unit < 16) × (unit ≤ 8)
        go zero le = (omega (arith, few-units), omega (arith, few-units, s.small), few-units)
        go (suc zero) le = (omega (arith, few-units), omega (arith, few-units, s.small), few-units)
        go (suc (suc t)) le = absurd (omega arith)

    all-marks : marks (page_pairs img page.band page.index) page.nodes ≡ on_bits (page_pairs img page.band page.index)
    unfolding marks
    all-marks =
        let d = s.read in
        let ps = page_pairs img page.band page.index in
        let e : on_bits (take (page_nodes img page.band page.index) ps) ≡ on_bits ps =
        omega (
          arith,
          links_total img (bytes s.ready) (checked s.ready) s.ready.some page.band d.from d.to page.index d.in_band,
          (page_facts img (bytes s.ready) (checked s.ready) page.band page.index d.from d.to d.in_band).balance,
        ) in
        ap (λ (n : ℕ). on_bits (take n ps)) d.nodes ∙ e

    -- what the search for the on bit asks
    pub climb_bits : (words.before ≡ counts_before 0 words.word) × (get_or words.word 0 0 < 4294967296) × (place - page.roots < get_or words.before 8 0)
    climb_bits =
        let d = s.read in
        let g : words ≡ words_of img (64 * page.number) = s.words_are ∙ d.words in (
          ap (λ (w : Words). w.before) g ∙ ap (counts_before 0) (sym (ap (λ (w : Words). w.word) g)),
          omega (arith, ap (λ (w : Words). get_or w.word 0 0) s.words_are, page_first s.ready d),
          omega (arith, ap (λ (w : Words). get_or w.before 8 0) s.words_are, page_on_bits s.ready d, in-marks.1, all-marks),
        )

    module _ {p : ℕ} (few : p < 240) {t : ℕ} (k : SideOf words.word words.before p (place - page.roots) t) where
      -- the on bit's node is one of the page
      within : p < page.nodes
      within =
          elim (dec_lt p page.nodes) [
            | yes h ↦ h
            | no h ↦ absurd (omega (arith, in-marks.1, marks_mono (page_pairs img page.band page.index) page.nodes p (omega arith), counted-at p (omega arith), child-from t k.number))
          ]
        where
          child-from : (t : ℕ) → child_in words.word words.before 0 p t ≡ place - page.roots → ones_before words.word words.before p ≤ place - page.roots
          child-from zero e = unfold child_in in (omega arith)
          child-from (suc t) e = unfold child_in in (omega arith)

      pub climb_next : Climb img page words place₀ p (bits + t * unit) (unit * 2) (level + 1)
      climb_next =
          let d = s.read in
          let on : 1 ≤ bit t (get_or (page_pairs img page.band page.index) p 0) = rw (← read_at p few) k.on in
          let child : child_place img page.band page.index p t ≡ place = sym (page_child s.ready d p t few) ∙ child-at t k.number in
          record {
            ready = s.ready;
            read = d;
            words_are = s.words_are;
            few = omega arith;
            unit_is = ap (◌* 2) s.unit_is ∙ unit_next level;
            small = bits_small t k.small;
            up = subst (λ (u : ℕ). Up img page.band page.index (get_or (prefixes_at img (4 * page.band)) (out_link img page.band page.index place₀) 0) p (bits + t * u) (level + 1)) (sym s.unit_is)
                (up_next img s.ready page.band d.from d.to page.index d.in_band s.up h (omega (arith, within, d.nodes)) k.small on child);
          }
        where
          bits_small : (t : ℕ) → t ≤ 1 → bits + t * unit < unit * 2
          bits_small zero le = omega (arith, s.small)
          bits_small (suc zero) le = omega (arith, s.small)
          bits_small (suc (suc t)) le = absurd (omega arith)

          child-at : (t : ℕ) → child_in words.word words.before 0 p t ≡ place - page.roots → child_in page.words.word page.words.before page.roots p t ≡ place
          child-at zero e =
              unfold child_in in (
              let w = ap (λ (w : Words). ones_before w.word w.before p) s.words_are in
              omega (arith, climb_number)
              )
          child-at (suc t) e =
              unfold child_in in (
              let w = ap (λ (w : Words). ones_before w.word w.before p) s.words_are in
              let v : node_in words.word p / 2 ≡ node_in page.words.word p / 2 = ap (λ (w : Words). node_in w.word p / 2) s.words_are in
              omega (arith, climb_number)
              )

  module _ (h : 4 ≤ level) (n : ℕ) (from : page.b.0 ≤ n) {nodes : ℕ} (en : nodes ≡ page.nodes) (start : place₀ ≡ nodes + (n - page.b.0)) where
    four : level ≡ 4
    four = omega (arith, s.few)

    pub climb_end : ClimbRight img page.band n (page.t.0 + place) bits
    climb_end =
        let d = s.read in
        let small : bits < 16 = omega (arith, s.small, s.unit_is, ap (2 ^◌) four) in
        let u = up_end img s.ready page.band d.from d.to page.index d.in_band s.up four small in
        let link_is : out_link img page.band page.index place₀ ≡ n = omega (arith, d.b, d.nodes) in
        let root_is : page_t img page.band page.index + place ≡ page.t.0 + place = ap (◌+ place) (sym d.t) in
        record {
          within = omega (arith, u.0, root_is);
          small = small;
          prefix = ap (λ (m : ℕ). get_or (prefixes_at img (4 * page.band)) m 0) (sym link_is) ∙ u.1 ∙ ap (λ (m : ℕ). 16 * get_or (prefixes_at img (4 * (page.band - 1))) m 0 + bits) root_is;
        }

    pub climb_place : place < 240
    climb_place =
        let d = s.read in
        omega (arith, up-place img s.ready page.band d.from d.to page.index d.in_band s.up (omega arith), page_small s.ready d, d.nodes)
