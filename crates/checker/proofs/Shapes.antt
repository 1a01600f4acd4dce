-- A page's levels from counts of on bits before places, step by step as the code takes them: questions 9 to 11, and the page's counts. Assumes nothing.
use mathlib.Core.Path.{◌≡◌, refl, sym, ap, ap₂, ◌∙◌}
use mathlib.Core.Bool.{Bool, true, false, ◌&&◌}
use mathlib.Core.List.{List, [], ◌∷◌}
use mathlib.Core.Option.{none, some}
use Prim.Native.Nat.{ℕ, zero, suc, ◌+◌, ◌-◌, ◌*◌, ◌≤◌, ◌<◌}
use native.Mathlib.Omega.{arith}
use borrow.Author.Tests.{le-leb, lt-leb, eqb-true}
use lib.Dec.{leb}
use lib.ListN.{take, drop, get_or}
use Rattle.format.specs.Seq.{every}
use Rattle.format.specs.Trie.{bits, on_bits}
use Rattle.format.specs.Page.{levels_in, node_count}
use Rattle.format.specs.Question.{first_no, is_positive, is_zero, node_questions, one_to}
use Rattle.format.proofs.Lists.{all_drop}
use Rattle.format.proofs.Counting.{marks, marks_add, marks_mono, third_at, fourth_at, nodes_counted, links_counted, every-flatten, flatten_levels}
use Rattle.format.proofs.Questions.{asked_no, asked_yes, none_of_yes, of_range}
use Rattle.nodes.specs.Words.{Gathered, none_empty, ones_before, pairs_in, rest_empty}
use Rattle.nodes.proofs.Numbers.{Nodes}
use Rattle.nodes.proofs.Used.{rest_empty_law}
use Rattle.nodes.proofs.Pairs.{all_counted_in, counted_in, nodes_in_lem, none_empty_in, rest_empty_in}
use Rattle.std.specs.Prelude.{Ok}
use Rattle.checker.specs.Paged.{Asked}

-- ---- bounds

two_bits : (m : ℕ) (l : List ℕ) → Nodes l → on_bits (take m l) ≤ 2 * m
unfolding on_bits bits
two_bits zero l h = omega arith
two_bits (suc m) [] h = omega arith
two_bits (suc m) (d ∷ l) h =
    let p : d ≤ 3 = h.0 in
    omega (arith, two_bits m l h.1)

-- the words of a page of r roots
pub record Known (word counts : List ℕ) (r : ℕ) : Type 0 where
  pub gathered : Gathered word counts
  pub some_roots : 1 ≤ r
  pub few_roots : r ≤ 60

module _ {word counts : List ℕ} {r : ℕ} (k : Known word counts r) where
  nodes : Nodes (pairs_in word)
  nodes = nodes_in_lem k.gathered

  -- m places further there are at most 2 * m on bits more
  pub marks_grow : (n m : ℕ) → marks (pairs_in word) (n + m) ≤ marks (pairs_in word) n + 2 * m
  marks_grow n m = omega (arith, marks_add (pairs_in word) n m, two_bits m (drop n (pairs_in word)) (all_drop (λ d. d ≤ 3) n (pairs_in word) nodes))

  pub marks_few : (n : ℕ) → marks (pairs_in word) n ≤ 2 * n
  unfolding marks
  marks_few n = two_bits n (pairs_in word) nodes

  pub rank : (n x : ℕ) → n ≤ 240 → x ≡ ones_before word counts n → x ≡ marks (pairs_in word) n
  unfolding marks
  rank n x h e = e ∙ counted_in k.gathered n h

  -- question 9 gets a yes
  nine : one_to 60 r ≡ true
  nine = of_range 60 r k.some_roots k.few_roots

  -- question 10's second half, of as many pairs as there are nodes
  all-positive : every (every is_positive) (levels_in 4 r (pairs_in word)) ≡ every is_positive (take (node_count r (levels_in 4 r (pairs_in word))) (pairs_in word))
  all-positive = every-flatten is_positive (levels_in 4 r (pairs_in word)) ∙ ap (every is_positive) (flatten_levels 4 r (pairs_in word))

-- ---- the level ends, one after another

-- a on bits in the first level
pub record Second (word counts : List ℕ) (r a : ℕ) : Type 0 where
  pub known : Known word counts r
  pub is : a ≡ marks (pairs_in word) r
  pub few : a ≤ 120

second : {word counts : List ℕ} {r : ℕ} → Known word counts r → (a : ℕ) → a ≡ ones_before word counts r → Second word counts r a
second {word} {counts} {r} k a e =
    let f = rank k r a (omega (arith, k.few_roots)) e in
    record { known = k; is = f; few = omega (arith, marks_few k r, k.few_roots) }

-- b on bits in the first and second
pub record Third (word counts : List ℕ) (r a b : ℕ) : Type 0 where
  pub before : Second word counts r a
  pub is : b ≡ marks (pairs_in word) (r + a)
  pub place : r + b ≡ fourth_at (pairs_in word) r

third : {word counts : List ℕ} {r a : ℕ} → Second word counts r a → (b : ℕ) → b ≡ ones_before word counts (r + a) → Third word counts r a b
third {word} {counts} {r} {a} s b e =
    let f = rank s.known (r + a) b (omega (arith, s.few, s.known.few_roots)) e in
    record { before = s; is = f; place = ap (r +◌) (f ∙ ap (λ (x : ℕ). marks (pairs_in word) (r + x)) s.is) }

-- both, from the words
pub levels : {word counts : List ℕ} {r : ℕ} → Gathered word counts → 1 ≤ r → r ≤ 60 → Third word counts r (ones_before word counts r) (ones_before word counts (r + ones_before word counts r))
levels {word} {counts} {r} g lo hi =
    third (second (record { gathered = g; some_roots = lo; few_roots = hi }) (ones_before word counts r) refl) (ones_before word counts (r + ones_before word counts r)) refl

-- c on bits in the first three: where the page ends
pub record Fourth (word counts : List ℕ) (r a b c : ℕ) : Type 0 where
  pub before : Third word counts r a b
  pub is : c ≡ marks (pairs_in word) (r + b)
  pub nodes_are : r + c ≡ node_count r (levels_in 4 r (pairs_in word))

pub fourth : {word counts : List ℕ} {r a b : ℕ} → Third word counts r a b → r + b ≤ 240 → (c : ℕ) → c ≡ ones_before word counts (r + b) → Fourth word counts r a b c
fourth {word} {counts} {r} {a} {b} t h c e =
    let f = rank t.before.known (r + b) c h e in
    record { before = t; is = f; nodes_are = ap (r +◌) (f ∙ ap (marks (pairs_in word)) t.place) ∙ sym (nodes_counted (pairs_in word) r) }

-- 9 to 11 got a yes, and all the page's on bits stand before its end
pub record Ended (word counts : List ℕ) (r a b c all : ℕ) : Type 0 where
  pub before : Fourth word counts r a b c
  pub fits : r + c ≤ 240
  pub asked : first_no (node_questions r (pairs_in word)) ≡ none
  pub all_is : all ≡ on_bits (pairs_in word)
  pub end_is : all ≡ marks (pairs_in word) (r + c)

-- ---- questions 9 to 11

module _ {word counts : List ℕ} {r a b : ℕ} (t : Third word counts r a b) where
  pub over_fourth : 240 < r + b → first_no (node_questions r (pairs_in word)) ≡ some 10
  unfolding node_questions
  over_fourth h =
      let ps : List ℕ = pairs_in word in
      let third-first : r ≤ third_at ps r = omega arith in
      let fourth-third : third_at ps r ≤ fourth_at ps r = omega (arith, marks_mono ps r (third_at ps r) third-first) in
      let over : 240 < node_count r (levels_in 4 r ps) =
      omega (arith, nodes_counted ps r, marks_mono ps (third_at ps r) (fourth_at ps r) fourth-third, t.place) in
      asked_yes 9 _ _ (nine t.before.known) ∙ asked_no 10 _ _ (ap (◌&& every (every is_positive) (levels_in 4 r ps)) (lt-leb (node_count r (levels_in 4 r ps)) 240 over))

module _ {word counts : List ℕ} {r a b c : ℕ} (f : Fourth word counts r a b c) where
  k : Known word counts r
  k = f.before.before.known

  pub over_end : 240 < r + c → first_no (node_questions r (pairs_in word)) ≡ some 10
  unfolding node_questions
  over_end h = asked_yes 9 _ _ (nine k) ∙ asked_no 10 _ _ (ap (◌&& every (every is_positive) (levels_in 4 r (pairs_in word))) (lt-leb (node_count r (levels_in 4 r (pairs_in word))) 240 (omega (arith, f.nodes_are))))

  module _ (h : r + c ≤ 240) (p : Bool) (ep : p ≡ none_empty word (r + c)) where
    p-is : p ≡ every is_positive (take (r + c) (pairs_in word))
    p-is = ep ∙ none_empty_in k.gathered (r + c) h

    ten : (leb (node_count r (levels_in 4 r (pairs_in word))) 240 && every (every is_positive) (levels_in 4 r (pairs_in word))) ≡ p
    ten =
        ap₂ ◌&&◌ (le-leb (node_count r (levels_in 4 r (pairs_in word))) 240 (omega (arith, f.nodes_are)))
        (all-positive k ∙ ap (λ (n : ℕ). every is_positive (take n (pairs_in word))) (sym f.nodes_are) ∙ sym p-is)

    pub empty_found : p ≡ false → first_no (node_questions r (pairs_in word)) ≡ some 10
    unfolding node_questions
    empty_found e = asked_yes 9 _ _ (nine k) ∙ asked_no 10 _ _ (ten ∙ e)

    module _ (yes-10 : p ≡ true) (q : Bool) (eq : q ≡ rest_empty word counts (r + c)) where
      q-is : q ≡ every is_zero (drop (r + c) (pairs_in word))
      q-is = eq ∙ rest_empty_in k.gathered (r + c) h

      eleven : every is_zero (drop (node_count r (levels_in 4 r (pairs_in word))) (pairs_in word)) ≡ q
      eleven = ap (λ (n : ℕ). every is_zero (drop n (pairs_in word))) (sym f.nodes_are) ∙ sym q-is

      pub rest_found : q ≡ false → first_no (node_questions r (pairs_in word)) ≡ some 11
      unfolding node_questions
      rest_found e = asked_yes 9 _ _ (nine k) ∙ asked_yes 10 _ _ (ten ∙ yes-10) ∙ asked_no 11 _ _ (eleven ∙ e)

      module _ (yes-11 : q ≡ true) where
        all-before : marks (pairs_in word) (r + c) ≡ on_bits (pairs_in word)
        unfolding marks
        all-before = eqb-true (on_bits (take (r + c) (pairs_in word))) (on_bits (pairs_in word)) (rest_empty_law (pairs_in word) (r + c) ∙ sym q-is ∙ yes-11)

        pub ended : (all : ℕ) → all ≡ get_or counts 8 0 → Ended word counts r a b c all
        unfolding node_questions
        ended all ea =
            let all_is = ea ∙ all_counted_in k.gathered in
            record {
              before = f;
              fits = h;
              asked = none_of_yes (node_questions r (pairs_in word)) (nine k, (ten ∙ yes-10, (eleven ∙ yes-11, tt)));
              all_is = all_is;
              end_is = all_is ∙ sym all-before;
            }

-- ---- what is found

-- of one that 9 to 11 give a yes
module _ {word counts : List ℕ} {r a b c all : ℕ} (e : Ended word counts r a b c all) where
  pub links_few : c ≤ all
  links_few =
      let f = e.before in
      let t = f.before in
      let p : List ℕ = pairs_in word in
      let ab : a ≤ b = omega (arith, t.is, t.before.is, marks_mono p r (r + a) (omega arith)) in
      let bc : b ≤ c = omega (arith, f.is, t.is, marks_mono p (r + a) (r + b) (omega arith)) in
      omega (arith, e.end_is, f.is, marks_mono p (r + b) (r + c) (omega arith))

  links-is : all - c ≡ on_bits (get_or (levels_in 4 r (pairs_in word)) 3 [])
  links-is =
      let f = e.before in
      let p : List ℕ = pairs_in word in
      omega (arith, links_counted p r, f.is, ap (marks p) f.before.place, e.end_is, ap (marks p) (f.nodes_are ∙ nodes_counted p r))

  pub shaped : Asked (node_questions r (pairs_in word)) (pairs_in word) r (Ok (record { nodes = r + c; links = all - c }))
  shaped = record {
    first_no_is = sym e.asked;
    counted = record { nodes_are = e.before.nodes_are; links_are = links-is };
    bounded = record { few_nodes = e.fits; few_links = omega (arith, e.end_is, marks_few e.before.before.before.known (r + c), e.fits) };
  }
