-- Questions 8 to 13 of a band, page after page. Assumes nothing.
use mathlib.Core.Path.{◌≡◌, refl, sym, ap, ap₂, ◌∙◌}
use mathlib.Core.Bool.{true, ◌&&◌, cond}
use mathlib.Core.List.{List, [], ◌∷◌, ◌++◌, map, flat_map}
use mathlib.Core.Option.{none, some}
use Prim.Native.Nat.{ℕ, zero, suc, ◌+◌, ◌-◌, ◌*◌, ◌≤◌, ◌<◌}
use native.Mathlib.Nat.{zero-add}
use native.Mathlib.Decide.{ℕ_discrete}
use native.Mathlib.Numerals.{add-one}
use native.Mathlib.Omega.{arith}
use borrow.Author.Tests.{eq-eqb, ne_eqb, lt-ltb, eqb-true}
use lib.Dec.{eqb, ltb}
use lib.ListN.{length, get_or}
use Rattle.format.specs.Seq.{total, up_to, numbers_from}
use Rattle.format.specs.Trie.{on_bits}
use Rattle.format.specs.Page.{first_subtries, levels_in, node_count, number_at, pairs_at}
use Rattle.format.specs.Image.{next_t, out_link_count, page_b, page_count, page_levels, page_nodes, page_number, page_pairs, page_roots, page_t, pages_before, root_count}
use Rattle.format.specs.Question.{Question, band_questions, first_no, head_right, is_zero, no_room, out_links_due, page_needed, page_questions}
use Rattle.format.proofs.Checked.{cond_yes}
use Rattle.format.proofs.Lists.{and_left, and_right, total_next}
use Rattle.format.proofs.Read.{pages_within}
use Rattle.format.proofs.Questions.{after_no, after_yes, asked_no, asked_yes, next_turn, no_at_turn, yes_of_none}
use Rattle.checker.specs.declared.page.Shape.{Shape}
use Rattle.std.specs.Prelude.{Ok}
use Rattle.checker.specs.Paged.{questions_after, questions_at, Asked, BandAt}

-- ---- what the pages before page i of band b ask of its T and B, and the nodes of the page before it: 241 before a band's first page

abbrev pub t_due : List ℕ → ℕ → ℕ → ℕ
t_due img b zero = 0
t_due img b (suc i) = next_t img b i

abbrev pub b_due : List ℕ → ℕ → ℕ → ℕ
b_due img b zero = 0
b_due img b (suc i) = page_b img b i + out_link_count img b i

abbrev pub nodes_due : List ℕ → ℕ → ℕ → ℕ
nodes_due img b zero = 241
nodes_due img b (suc i) = page_nodes img b i

-- questions 8 to 12 of page i, at its place in the bytes
abbrev placed : List ℕ → ℕ → ℕ → List Question
placed img b i = questions_at img (64 * page_number img b i) (t_due img b i) (b_due img b i) (next_t img b i) (nodes_due img b i)

module _ (img : List ℕ) (b : ℕ) where
  t-next : (i : ℕ) → suc i < page_count img b → page_t img b (suc i) ≡ next_t img b i
  unfolding next_t
  t-next i h =
      sym (cond_yes (ltb (i + 1) (page_count img b)) _ _ (lt-ltb (i + 1) (page_count img b) (omega arith)) ∙ ap (page_t img b) (add-one i))

  head-is : (i : ℕ) → i < page_count img b → head_right img b i ≡ (eqb (page_t img b i) (t_due img b i) && eqb (page_b img b i) (b_due img b i))
  unfolding head_right is_zero
  head-is zero h = refl
  head-is (suc i) h = sym (ap (◌&& eqb (page_b img b (suc i)) (b_due img b (suc i))) (eq-eqb (page_t img b (suc i)) (next_t img b i) (t-next i h)))

  -- 12 is asked of a band's first page too: after 241 nodes nothing has room
  needed-is : (i : ℕ) → page_needed img b i ≡ no_room (nodes_due img b i) (page_levels img b i)
  unfolding page_needed no_room
  needed-is zero = sym (lt-ltb 240 (node_count 1 (first_subtries 1 (page_levels img b 0)) + 241) (omega arith))
  needed-is (suc i) = refl

  -- with the T that is due, the questions are the same
  same-questions : (i : ℕ) → i < page_count img b → page_t img b i ≡ t_due img b i → page_questions img b i ≡ placed img b i
  unfolding page_questions questions_at questions_after page_t page_b page_pairs page_levels page_roots
  same-questions i h e = rw (head-is i h, needed-is i, e)

  page_first : (i : ℕ) → i < page_count img b → first_no (page_questions img b i) ≡ first_no (placed img b i)
  page_first i h = elim (ℕ_discrete (page_t img b i) (t_due img b i)) [
    | yes e ↦ ap first_no (same-questions i h e)
    | no n ↦ left n ∙ sym (right n)
  ]
    where
      left : (page_t img b i ≡ t_due img b i → ⊥) → first_no (page_questions img b i) ≡ some 8
      left n = unfold page_questions in asked_no 8 _ _ (head-is i h ∙ ap (◌&& eqb (page_b img b i) (b_due img b i)) (ne_eqb (page_t img b i) (t_due img b i) n))

      right : (page_t img b i ≡ t_due img b i → ⊥) → first_no (placed img b i) ≡ some 8
      right n = unfold questions_at page_t in asked_no 8 _ _ (ap (◌&& eqb (number_at img (64 * page_number img b i + 2)) (b_due img b i)) (ne_eqb (page_t img b i) (t_due img b i) n))

  -- what a yes throughout says of page i, with s as its counts
  module _ (i : ℕ) (h : i < page_count img b) (s : Shape) (asked : Asked (placed img b i) (page_pairs img b i) (next_t img b i - t_due img b i) (Ok s)) where
    all_yes : first_no (placed img b i) ≡ none
    all_yes = sym asked.first_no_is

    eight : eqb (page_t img b i) (t_due img b i) && eqb (page_b img b i) (b_due img b i) ≡ true
    unfolding questions_at page_t page_b
    eight = (yes_of_none (placed img b i) all_yes).0

    t_is : page_t img b i ≡ t_due img b i
    t_is = eqb-true (page_t img b i) (t_due img b i) (and_left (eqb (page_t img b i) (t_due img b i)) (eqb (page_b img b i) (b_due img b i)) eight)

    pub b_is_lem : page_b img b i ≡ b_due img b i
    b_is_lem = eqb-true (page_b img b i) (b_due img b i) (and_right (eqb (page_t img b i) (t_due img b i)) (eqb (page_b img b i) (b_due img b i)) eight)

    roots_are : next_t img b i - t_due img b i ≡ page_roots img b i
    unfolding page_roots
    roots_are = ap (next_t img b i -◌) (sym t_is)

    pub links_counted : s.links ≡ out_link_count img b i
    unfolding out_link_count page_levels
    links_counted = asked.counted.links_are ∙ ap (λ (n : ℕ). on_bits (get_or (levels_in 4 n (page_pairs img b i)) 3 [])) roots_are

    pub nodes_counted : s.nodes ≡ page_nodes img b i
    unfolding page_nodes page_levels
    nodes_counted = asked.counted.nodes_are ∙ ap (λ (n : ℕ). node_count n (levels_in 4 n (page_pairs img b i))) roots_are

    pub page_yes : first_no (page_questions img b i) ≡ none
    page_yes = page_first i h ∙ all_yes

-- ---- the loop over a band's pages: those before page i got a yes throughout

pub record Asking (img : List ℕ) (b i t links nodes : ℕ) : Type 0 where
  pub within : i ≤ page_count img b
  pub so_far : first_no (flat_map (page_questions img b) (up_to i)) ≡ none
  pub t_due_is : t ≡ t_due img b i
  pub links_due : links ≡ b_due img b i
  pub links_total : links ≡ total (map (out_link_count img b) (up_to i))
  pub links_few : links ≤ 480 * i
  pub nodes_due_is : nodes ≡ nodes_due img b i
  pub nodes_few : nodes ≤ 241

pub asking_start : (img : List ℕ) (b : ℕ) → Asking img b 0 0 0 241
unfolding first_no flat_map up_to numbers_from total
asking_start img b = record {
  within = omega arith;
  so_far = refl;
  t_due_is = refl;
  links_due = refl;
  links_total = refl;
  links_few = omega arith;
  nodes_due_is = refl;
  nodes_few = omega arith;
}

-- a no of turn i, where those before got a yes, is the first of all
pub loop_no : (f : ℕ → List Question) (i n x : ℕ) (rs : List Question) → i < n → first_no (flat_map f (up_to i)) ≡ none → some x ≡ first_no (f i)
    → some x ≡ first_no (flat_map f (up_to n) ++ rs)
loop_no f i n x rs h so_far e = sym (after_no (flat_map f (up_to n)) rs x (no_at_turn f i n x h so_far (sym e)))

module _ (img : List ℕ) (b i t links nodes : ℕ) (a : Asking img b i t links nodes) where
  module _ (h : i < page_count img b) (at next : ℕ) (place : at ≡ 64 * page_number img b i) (next_is : next ≡ next_t img b i) where
    pub asking_no : (x : ℕ) → some x ≡ first_no (questions_at img at t links next nodes) → some x ≡ first_no (band_questions img b)
    unfolding band_questions
    asking_no x e =
        let placed-no : some x ≡ first_no (placed img b i) = rw (place, a.t_due_is, a.links_due, next_is, a.nodes_due_is) at e in
        loop_no (page_questions img b) i (page_count img b) x _ h a.so_far (placed-no ∙ sym (page_first img b i h))

    module _ (s : Shape) (asked : Asked (questions_at img at t links next nodes) (pairs_at img at) (next - t) (Ok s)) where
      placed-asked : Asked (placed img b i) (page_pairs img b i) (next_t img b i - t_due img b i) (Ok s)
      unfolding page_pairs
      placed-asked = rw (place, a.t_due_is, a.links_due, next_is, a.nodes_due_is) at asked

      pub asking_next : Asking img b (i + 1) next (links + s.links) s.nodes
      asking_next =
          let more : total (map (out_link_count img b) (up_to (i + 1))) ≡ total (map (out_link_count img b) (up_to i)) + out_link_count img b i =
          unfold up_to in ap (λ (n : ℕ). total (map (out_link_count img b) (numbers_from 0 n))) (add-one i) ∙ total_next (out_link_count img b) 0 i ∙ ap (λ (n : ℕ). total (map (out_link_count img b) (numbers_from 0 i)) + out_link_count img b n) (zero-add i) in
          let links_are = links_counted img b i h s placed-asked in
          let b-due = b_is_lem img b i h s placed-asked in
          rw (add-one i) record {
            within = omega arith;
            so_far = next_turn (page_questions img b) i a.so_far (page_yes img b i h s placed-asked);
            t_due_is = next_is;
            links_due = omega (arith, a.links_due);
            links_total = omega (arith, a.links_total, rw (add-one i) at more);
            links_few = omega (arith, a.links_few, asked.bounded.few_links);
            nodes_due_is = nodes_counted img b i h s placed-asked;
            nodes_few = omega (arith, asked.bounded.few_nodes);
          }

  -- past the last page
  module _ (h : page_count img b ≤ i) where
    last : first_no (band_questions img b) ≡ first_no ((13, eqb links (out_links_due img b)) ∷ [])
    unfolding band_questions
    last =
        let e : i ≡ page_count img b = omega (arith, a.within) in
        after_yes (flat_map (page_questions img b) (up_to (page_count img b))) _ (ap (λ (n : ℕ). first_no (flat_map (page_questions img b) (up_to n))) (sym e) ∙ a.so_far)
        ∙ ap (λ (n : ℕ). first_no ((13, eqb n (out_links_due img b)) ∷ [])) (sym (a.links_total ∙ ap (λ (n : ℕ). total (map (out_link_count img b) (up_to n))) e))

    pub asking_13 : (links ≡ out_links_due img b → ⊥) → some 13 ≡ first_no (band_questions img b)
    asking_13 n = sym (last ∙ asked_no 13 _ _ (ne_eqb links (out_links_due img b) n))

    pub asking_end : links ≡ out_links_due img b → first_no (band_questions img b) ≡ first_no []
    asking_end e = last ∙ asked_yes 13 _ _ (eq-eqb links (out_links_due img b) e)

-- ---- the same with the numbers that the code holds

pub record Turn (img : List ℕ) (b first pages roots i t links nodes : ℕ) : Type 0 where
  pub asking : Asking img b i t links nodes
  pub pages_are : pages ≡ page_count img b
  pub roots_are : roots ≡ root_count img b
  pub first_is : first ≡ 1 + pages_before img b
  pub within : 64 * (first + pages) ≤ length img

pub turn_start : (img : List ℕ) (b first pages roots : ℕ) → BandAt img b first → pages ≡ page_count img b → roots ≡ root_count img b → Turn img b first pages roots 0 0 0 241
turn_start img b first pages roots h p r = record {
  asking = asking_start img b;
  pages_are = p;
  roots_are = r;
  first_is = h.first_is;
  within = omega (arith, pages_within img b h.lo h.hi, h.sized.size, h.first_is);
}

module _ {img : List ℕ} {b first pages roots i t links nodes : ℕ} (u : Turn img b first pages roots i t links nodes) where
  module _ (h : i < pages) (next : ℕ) (next_is : next ≡ cond (ltb (i + 1) pages) (number_at img (64 * (first + (i + 1)))) roots) where
    more : i < page_count img b
    more = omega (arith, u.pages_are)

    place : 64 * (first + i) ≡ 64 * page_number img b i
    unfolding page_number
    place = ap (λ (n : ℕ). 64 * (n + i)) u.first_is

    next-root : next ≡ next_t img b i
    unfolding next_t page_t page_number
    next-root =
        next_is
        ∙ ap₂ (λ (n m : ℕ). cond (ltb (i + 1) n) (number_at img (64 * (first + (i + 1)))) m) u.pages_are u.roots_are
        ∙ ap (λ (n : ℕ). cond (ltb (i + 1) (page_count img b)) (number_at img (64 * (n + (i + 1)))) (root_count img b)) u.first_is

    pub turn_no : (x : ℕ) → some x ≡ first_no (questions_at img (64 * (first + i)) t links next nodes) → some x ≡ first_no (band_questions img b)
    turn_no x e = asking_no img b i t links nodes u.asking more (64 * (first + i)) next place next-root x e

    pub turn_next : (s : Shape) → Asked (questions_at img (64 * (first + i)) t links next nodes) (pairs_at img (64 * (first + i))) (next - t) (Ok s)
        → Turn img b first pages roots (i + 1) next (links + s.links) s.nodes
    turn_next s asked = record {
      asking = asking_next img b i t links nodes u.asking more (64 * (first + i)) next place next-root s asked;
      pages_are = u.pages_are;
      roots_are = u.roots_are;
      first_is = u.first_is;
      within = u.within;
    }

  module _ (h : pages ≤ i) (due : ℕ) (due_is : due ≡ out_links_due img b) where
    pub turn_13 : (links ≡ due → ⊥) → some 13 ≡ first_no (band_questions img b)
    turn_13 n = asking_13 img b i t links nodes u.asking (omega (arith, u.pages_are)) (λ e. n (e ∙ sym due_is))

    pub turn_end : links ≡ due → none ≡ first_no (band_questions img b)
    unfolding first_no
    turn_end e = sym (asking_end img b i t links nodes u.asking (omega (arith, u.pages_are)) (e ∙ due_is))
