-- A page judged, and a band page after page.
-- Assumes nothing.
use mathlib.Core.Path.{◌≡◌, refl, sym, ap, ap₂, ◌∙◌, subst}
use mathlib.Core.Bool.{Bool, true, false, cond}
use mathlib.Core.List.{List, [], ◌∷◌}
use Prim.Native.Nat.{ℕ, suc, ◌+◌, ◌-◌, ◌*◌, ◌≤◌, ◌<◌}
use native.Mathlib.Numerals.{add-one}
use native.Mathlib.Omega.{arith}
use native.Mathlib.Decide.{ℕ_discrete}
use lib.ListN.{length, get_or, set, take, drop, length-set}
use lib.Seq.{get_or-set_other, get_or-set_same}
use Rattle.format.specs.Seq.{All, every}
use Rattle.format.specs.Trie.{on_bits}
use Rattle.format.specs.Page.{Byte, levels_in, node_count, number_at, pairs_at}
use Rattle.format.specs.Image.{page_count, page_number, page_pairs}
use Rattle.format.specs.Question.{Yes, is_positive, is_zero, no_room, node_questions, questions_from_9}
use Rattle.format.proofs.Lists.{all_append, all_every, all_left, all_right, every_all}
use Rattle.format.proofs.Counting.{every-flatten, flatten_levels}
use Rattle.format.proofs.PageFacts.{nodes_facts}
use Rattle.format.proofs.NodeQuestions.{NodesOk, nodes_of_lem, of_nodes}
use Rattle.format.proofs.Read.{pages_within}
use Rattle.checker.specs.Paged.{BandAt}
use Rattle.repair.specs.declared.judge.Held.{Held}
use Rattle.repair.specs.Numbers.{all_yes, band_links, band_roots, held_levels, held_links, held_roots, links_before, restored, roots_before, roots_held, row_questions}
use Rattle.repair.specs.Sound.{Sound, SoundPage, held_nodes, nodes_before}
use Rattle.repair.specs.Inner.{BandReady, HeadsNoted, OnlyRoots, PageHeld, SoundBand, roots_after}
use Rattle.repair.proofs.Reading.{b_back, T_back}
use Rattle.repair.proofs.RootsHeld.{all_yes_lem, false-true, held_is, yes_all}
use Rattle.repair.proofs.Sums.{sum_next, sum_none}
use Rattle.repair.proofs.Given.{cut}
use Rattle.repair.proofs.Restoring.{links_small}

-- ---- one page

-- 9 to 12 with the roots held, and what is left where one gets a no
after_yes : (ps : List ℕ) (previous : ℕ) → all_yes (row_questions (roots_held ps) ps previous) ≡ true → roots_after ps previous ≡ roots_held ps
unfolding roots_after
after_yes ps previous e = rw e

-- a page whose roots are left has a yes throughout
pub after_some : (ps : List ℕ) (previous : ℕ) → 1 ≤ roots_after ps previous → All Yes (row_questions (roots_held ps) ps previous)
unfolding roots_after
after_some ps previous h = go (all_yes (row_questions (roots_held ps) ps previous)) refl h
  where
    go : (t : Bool) → all_yes (row_questions (roots_held ps) ps previous) ≡ t → 1 ≤ cond t (roots_held ps) 0 → All Yes (row_questions (roots_held ps) ps previous)
    go true e k = yes_all (row_questions (roots_held ps) ps previous) e
    go false e k = absurd (omega arith)

nodes_yes : (r : ℕ) (ps : List ℕ) (previous : ℕ) → All Yes (row_questions r ps previous) → All Yes (node_questions r ps)
unfolding row_questions questions_from_9
nodes_yes r ps previous h = all_left Yes (node_questions r ps) _ h

pub after_none : (ps : List ℕ) (previous : ℕ) → (All Yes (row_questions (roots_held ps) ps previous) → 1 ≤ roots_held ps → ⊥) → roots_after ps previous ≡ 0
unfolding roots_after
after_none ps previous f = go (all_yes (row_questions (roots_held ps) ps previous)) refl
  where
    go : (t : Bool) → all_yes (row_questions (roots_held ps) ps previous) ≡ t → cond t (roots_held ps) 0 ≡ 0
    go true e = elim (ℕ_discrete (roots_held ps) 0) [ yes z ↦ z | no z ↦ absurd (f (yes_all (row_questions (roots_held ps) ps previous) e) (omega arith)) ]
    go false e = refl

module _ (ps : List ℕ) (size : length ps ≡ 240) (previous r : ℕ) (o : OnlyRoots ps r) where
  -- with no other number of roots, so with none
  none-with : (All Yes (row_questions r ps previous) → 1 ≤ r → ⊥) → roots_after ps previous ≡ 0
  none-with f =
      after_none ps previous
      (λ y k. let e = o.only (roots_held ps) (nodes_yes (roots_held ps) ps previous y) in f (subst (λ (q : ℕ). All Yes (row_questions q ps previous)) e y) (omega arith))

  pub none_found : r ≡ 0 → roots_after ps previous ≡ 0
  none_found z = none-with (λ y k. omega arith)

  module _ (some : 1 ≤ r) (end : ℕ) (is : end ≡ node_count r (levels_in 4 r ps)) (fits : end ≤ 240) (zeros : every is_zero (drop end ps) ≡ true) where
    positive-is : every (every is_positive) (levels_in 4 r ps) ≡ every is_positive (take end ps)
    positive-is = every-flatten is_positive (levels_in 4 r ps) ∙ ap (every is_positive) (flatten_levels 4 r ps) ∙ ap (λ (n : ℕ). every is_positive (take n ps)) (sym is)

    -- a node is 00
    pub empty_found : every is_positive (take end ps) ≡ false → roots_after ps previous ≡ 0
    empty_found e =
        none-with (λ y k. false-true (sym e ∙ sym positive-is ∙ all_every (every is_positive) (levels_in 4 r ps) (nodes_of_lem r ps (nodes_yes r ps previous y)).positive))

    module _ (used : every is_positive (take end ps) ≡ true) where
      ok : NodesOk r ps
      ok =
          record {
            some_roots = some;
            few_roots = o.few;
            within = omega arith;
            positive = every_all (every is_positive) (levels_in 4 r ps) (positive-is ∙ used);
            zeros = ap (λ (n : ℕ). every is_zero (drop n ps)) (sym is) ∙ zeros;
          }

      pub found_yes : All Yes (node_questions r ps)
      found_yes = of_nodes r ps ok

      -- the on bits that lead to no node are the out-links
      pub links_left : (all : ℕ) → all ≡ on_bits ps → (r ≤ end) × (end - r ≤ all)
      links_left all e = let f = nodes_facts ps r size ok in (omega (arith, f.count), omega (arith, f.balance))

      -- 12
      pub room_found : no_room previous (levels_in 4 r ps) ≡ false → roots_after ps previous ≡ 0
      unfolding row_questions questions_from_9
      room_found e = none-with (λ y k. false-true (sym e ∙ (all_right Yes (node_questions r ps) _ y).0))

      pub held_found : no_room previous (levels_in 4 r ps) ≡ true → (all : ℕ) → all ≡ on_bits ps → all ≤ 65535 → PageHeld ps previous (record { roots = r; nodes = end; links = all - (end - r) })
      unfolding row_questions questions_from_9
      held_found full all ea few =
          let f = nodes_facts ps r size ok in
          let e : roots_held ps ≡ r = held_is ps size r ok in
          let y : All Yes (row_questions r ps previous) = all_append Yes (node_questions r ps) ((12, no_room previous (levels_in 4 r ps)) ∷ []) found_yes (full, tt) in
          record {
            some = some;
            roots_are = sym (after_yes ps previous (all_yes_lem (row_questions (roots_held ps) ps previous) (rw e y)) ∙ e);
            nodes_are = is ∙ ap (λ (q : ℕ). node_count q (levels_in 4 q ps)) (sym e);
            links_are = (let l : all - (end - r) ≡ on_bits (get_or (levels_in 4 r ps) 3 []) = omega (arith, f.balance, f.count) in l) ∙ ap (λ (q : ℕ). on_bits (get_or (levels_in 4 q ps) 3 [])) (sym e);
            few_roots = o.few;
            few_nodes = fits;
            few_links = omega arith;
          }

-- ---- the loop over a band's pages

pub record Judging (img : List ℕ) (b first pages i roots links nodes per : ℕ) (ts bs : List ℕ) : Type 0 where
  pub small : All Byte img
  pub at : BandAt img b first
  pub pages_are : pages ≡ page_count img b
  pub few : first + pages ≤ 385
  pub room : 64 * (first + pages) ≤ length img
  pub within : i ≤ pages
  pub page : (j : ℕ) → j < i → SoundPage img b j
  pub roots_are : roots ≡ roots_before img b i
  pub links_are : links ≡ links_before img b i
  pub nodes_are : nodes ≡ nodes_before img b i
  pub roots_few : roots ≤ 60 * i
  pub links_few : links ≤ 4096
  pub nodes_few : nodes ≤ 241
  pub per_few : per ≤ 60
  pub noted : HeadsNoted img (first + i) ts bs

pub judging_start : {img : List ℕ} {b first pages : ℕ} {ts bs : List ℕ} → All Byte img → BandReady img b first ts bs → pages ≡ page_count img b → Judging img b first pages 0 0 0 241 60 ts bs
unfolding roots_before links_before
judging_start {img} {b} {first} {pages} {ts} {bs} a h p =
    let z : first ≡ first + 0 = omega arith in
    record {
      small = a;
      at = h.at;
      pages_are = p;
      few = omega (arith, h.few);
      room = omega (arith, pages_within img b h.at.lo h.at.hi, h.at.sized.size, h.at.first_is);
      within = omega arith;
      page = λ j k. absurd (omega arith);
      roots_are = sym (sum_none (held_roots img b));
      links_are = sym (sum_none (held_links img b));
      nodes_are = refl;
      roots_few = omega arith;
      links_few = omega arith;
      nodes_few = omega arith;
      per_few = omega arith;
      noted = subst (λ (p : ℕ). HeadsNoted img p ts bs) z h.noted;
    }

module _ {img : List ℕ} {b first pages i roots links nodes per : ℕ} {ts bs : List ℕ} (u : Judging img b first pages i roots links nodes per ts bs) where
  pub first_some : 1 ≤ first
  first_some = omega (arith, u.at.first_is)

  module _ (h : i < pages) where
    inner : i < page_count img b
    inner = omega (arith, u.pages_are)

    number_is : first + i ≡ page_number img b i
    unfolding page_number
    number_is = ap (◌+ i) u.at.first_is

    -- what is noted of page i
    T-here : number_at (restored img) (64 * (first + i)) ≡ roots
    T-here =
        ap (λ (n : ℕ). number_at (restored img) (64 * n)) number_is
        ∙ T_back img u.at.sized.size b i u.at.lo u.at.hi inner
        ∙ cut (roots_before img b i) (omega (arith, u.roots_are, u.roots_few, u.few, first_some))
        ∙ sym u.roots_are

    B-here : number_at (restored img) (64 * (first + i) + 2) ≡ links
    B-here =
        ap (λ (n : ℕ). number_at (restored img) (64 * n + 2)) number_is
        ∙ b_back img u.at.sized.size b i u.at.lo u.at.hi inner
        ∙ cut (links_before img b i) (omega (arith, u.links_are, u.links_few))
        ∙ sym u.links_are

    put_next : (xs : List ℕ) (x off : ℕ) → length xs ≡ 384 → number_at (restored img) (64 * (first + i) + off) ≡ x
        → ((q : ℕ) → 1 ≤ q → q < first + i → get_or xs (q - 1) 0 ≡ number_at (restored img) (64 * q + off))
        → (q : ℕ) → 1 ≤ q → q < first + i + 1 → get_or (set xs (first + i - 1) x) (q - 1) 0 ≡ number_at (restored img) (64 * q + off)
    put_next xs x off n e f q lo hi =
        elim (ℕ_discrete (first + i) q) [
          | yes d ↦ subst (λ (q : ℕ). get_or (set xs (first + i - 1) x) (q - 1) 0 ≡ number_at (restored img) (64 * q + off)) d
              (get_or-set_same xs (first + i - 1) x 0 (omega (arith, u.few, first_some)) ∙ sym e)
          | no d ↦ get_or-set_other xs (first + i - 1) (q - 1) x 0 (λ z. omega (arith, first_some)) ∙ f q lo (omega arith)
        ]

    plain : (q : ℕ) → 64 * q + 0 ≡ 64 * q
    plain q = omega arith

    noted-next : HeadsNoted img (first + i + 1) (set ts (first + i - 1) roots) (set bs (first + i - 1) links)
    noted-next =
        let n = u.noted.t_size in
        let m = u.noted.b_size in
        record {
          t_size = length-set ts (first + i - 1) roots ∙ n;
          b_size = length-set bs (first + i - 1) links ∙ m;
          t_noted = λ q lo hi.
              put_next ts roots 0 n (ap (number_at (restored img)) (plain (first + i)) ∙ T-here) (λ q lo hi. u.noted.t_noted q lo hi ∙ sym (ap (number_at (restored img)) (plain q))) q lo hi
              ∙ ap (number_at (restored img)) (plain q);
          b_noted = put_next bs links 2 m B-here u.noted.b_noted;
        }

    -- a sound image's page has roots
    pub judging_none : roots_after (pairs_at img (64 * (first + i))) nodes ≡ 0 → Sound img → ⊥
    unfolding page_pairs held_roots
    judging_none z s =
        let y = s.page b i u.at.lo u.at.hi inner in
        let some = (nodes_of_lem _ (page_pairs img b i) (nodes_yes (roots_held (page_pairs img b i)) (page_pairs img b i) (nodes_before img b i) y)).some_roots in
        let none : roots_after (page_pairs img b i) (nodes_before img b i) ≡ 0 = ap₂ (λ (p n : ℕ). roots_after (pairs_at img (64 * p)) n) (sym number_is) (sym u.nodes_are) ∙ z in
        omega (arith, none, some, after_yes (page_pairs img b i) (nodes_before img b i) (all_yes_lem (row_questions (roots_held (page_pairs img b i)) (page_pairs img b i) (nodes_before img b i)) y))

    module _ (held : Held) (is : PageHeld (pairs_at img (64 * (first + i))) nodes held) where
      here : PageHeld (page_pairs img b i) (nodes_before img b i) held
      unfolding page_pairs
      here = subst (λ (n : ℕ). PageHeld (page_pairs img b i) n held) u.nodes_are (subst (λ (p : ℕ). PageHeld (pairs_at img (64 * p)) nodes held) number_is is)

      sound-here : SoundPage img b i
      unfolding held_roots
      sound-here = after_some (page_pairs img b i) (nodes_before img b i) (omega (arith, here.roots_are, here.some))

      roots-here : held.roots ≡ held_roots img b i
      unfolding held_roots
      roots-here = here.roots_are ∙ after_yes (page_pairs img b i) (nodes_before img b i) (all_yes_lem (row_questions (roots_held (page_pairs img b i)) (page_pairs img b i) (nodes_before img b i)) sound-here)

      links-here : held.links ≡ held_links img b i
      unfolding held_links held_levels held_roots
      links-here = here.links_are

      nodes-here : held.nodes ≡ held_nodes img b i
      unfolding held_nodes held_levels held_roots
      nodes-here = here.nodes_are

      roots-after : roots + held.roots ≡ roots_before img b (suc i)
      unfolding roots_before
      roots-after = omega (arith, u.roots_are, sum_next (held_roots img b) i, roots-here)

      links-after : links + held.links ≡ links_before img b (suc i)
      unfolding links_before
      links-after = omega (arith, u.links_are, sum_next (held_links img b) i, links-here)

      -- nor has one so many out-links
      pub judging_many : 4096 < links + held.links → Sound img → ⊥
      judging_many k s = omega (arith, links-after, links_small img u.small s b (suc i) u.at.lo u.at.hi inner)

      pub judging_next : links + held.links ≤ 4096 → (x y : ℕ) → x ≡ roots → y ≡ links
          → Judging img b first pages (i + 1) (roots + held.roots) (links + held.links) held.nodes held.roots (set ts (first + i - 1) x) (set bs (first + i - 1) y)
      judging_next k x y ex ey =
          let next : first + i + 1 ≡ first + suc i = omega arith in
          rw (ex, ey, add-one i)
          record {
            small = u.small;
            at = u.at;
            pages_are = u.pages_are;
            few = u.few;
            room = u.room;
            within = omega arith;
            page = λ j l. elim (ℕ_discrete i j) [ yes e ↦ subst (SoundPage img b) e sound-here | no e ↦ u.page j (omega arith) ];
            roots_are = roots-after;
            links_are = links-after;
            nodes_are = nodes-here;
            roots_few = omega (arith, u.roots_few, is.few_roots);
            links_few = k;
            nodes_few = omega (arith, is.few_nodes);
            per_few = is.few_roots;
            noted = subst (λ (p : ℕ). HeadsNoted img p (set ts (first + i - 1) roots) (set bs (first + i - 1) links)) next noted-next;
          }

  pub judging_end : pages ≤ i → SoundBand img b first ts bs (record { roots = record { 0 = roots }; links = record { 0 = links } })
  unfolding band_roots band_links
  judging_end h =
      let n : i ≡ page_count img b = omega (arith, u.within, u.pages_are) in
      record {
        page = λ j k. u.page j (omega arith);
        roots_are = u.roots_are ∙ ap (roots_before img b) n;
        links_are = u.links_are ∙ ap (links_before img b) n;
        few_roots = omega (arith, u.roots_few, u.few, first_some, u.within);
        few_links = u.links_few;
        noted = subst (λ (i : ℕ). HeadsNoted img (first + i) ts bs) n u.noted;
      }
