-- What a page of an accepted image says of its row of pairs: node count, roots and out-links are told by it.
-- Assumes nothing.
use mathlib.Core.Path.{◌≡◌, refl, sym, ap, ◌∙◌}
use mathlib.Core.Bool.{true}
use mathlib.Core.List.{List, [], ◌∷◌}
use Prim.Native.Nat.{ℕ, ◌+◌, ◌-◌, ◌≤◌, ◌<◌, min}
use native.Mathlib.Omega.{arith}
use native.Mathlib.Decide.{dec_lt, ℕ_discrete}
use borrow.Author.Tests.{leb-true}
use lib.ListN.{length, get_or, take, drop, length-take}
use lib.Seq.{ext_get_or, get_or-take, get_or-drop}
use Rattle.format.specs.Seq.{All, every}
use Rattle.format.specs.Trie.{bits, on_bits}
use Rattle.format.specs.Page.{Byte, levels_in, node_count}
use Rattle.format.specs.Image.{out_link_count, page_count, page_levels, page_nodes, page_pairs, page_roots}
use Rattle.format.specs.Question.{is_positive}
use Rattle.format.proofs.Lists.{all_at, all_every, all_get, every_all}
use Rattle.format.proofs.Subtries.{on_bits-split}
use Rattle.format.proofs.Bytes.{all_zero_lem}
use Rattle.format.proofs.NodeQuestions.{NodesOk}
use Rattle.format.proofs.Checked.{Checked, page_nodes_lem}
use Rattle.format.proofs.Read.{pairs_240}
use Rattle.format.proofs.Counting.{end_at, every-flatten, flatten_levels, fourth_at, links_counted, marks, marks_mono, nodes_counted, third_at}
use Rattle.format.proofs.Raised.{Raised}

-- ---- a page of an accepted image

-- its pairs that are not 00 are the first, as many as its node count; its roots, on bits, nodes and out-links
pub record PageFacts (ps : List ℕ) (roots nodes links : ℕ) : Type 0 where
  pub size : length ps ≡ 240
  pub count : nodes ≡ end_at ps roots
  pub within : nodes ≤ 240
  pub used : (j : ℕ) → j < nodes → 1 ≤ get_or ps j 0
  pub unused : (j : ℕ) → nodes ≤ j → get_or ps j 0 ≡ 0
  pub balance : roots + on_bits ps ≡ nodes + links

no_bits : (l : List ℕ) → All (λ z. z ≡ 0) l → on_bits l ≡ 0
unfolding on_bits bits
no_bits [] h = refl
no_bits (x ∷ l) h = omega (arith, h.0, no_bits l h.1)

marks_of : (ps : List ℕ) (n : ℕ) → marks ps n ≡ on_bits (take n ps)
unfolding marks
marks_of ps n = refl

-- of a row of pairs that 9 to 11 give a yes with r roots
pub nodes_facts : (ps : List ℕ) (r : ℕ) → length ps ≡ 240 → NodesOk r ps → PageFacts ps r (node_count r (levels_in 4 r ps)) (on_bits (get_or (levels_in 4 r ps) 3 []))
unfolding is_positive
nodes_facts ps r size ok =
    let n = node_count r (levels_in 4 r ps) in
    let rest : All (λ z. z ≡ 0) (drop n ps) = all_zero_lem (drop n ps) ok.zeros in
    record {
      size = size;
      count = nodes_counted ps r;
      within = ok.within;
      used = λ j k.
          leb-true 1 (get_or ps j 0)
          (ap is_positive (sym (get_or-take n ps j 0 k))
          ∙ all_at (λ x. is_positive x ≡ true) (take n ps) j 0
          (every_all is_positive (take n ps) (sym (every-flatten is_positive (levels_in 4 r ps) ∙ ap (every is_positive) (flatten_levels 4 r ps)) ∙ all_every (every is_positive) (levels_in 4 r ps) ok.positive))
          (omega (arith, length-take n ps, ok.within)));
      unused = λ j k. let e : n + (j - n) ≡ j = omega arith in
          ap (λ (m : ℕ). get_or ps m 0) (sym e) ∙ sym (get_or-drop n ps (j - n) 0) ∙ all_get (λ z. z ≡ 0) (drop n ps) (j - n) 0 refl rest;
      balance = omega (arith, links_counted ps r, nodes_counted ps r, ap (marks ps) (nodes_counted ps r), on_bits-split n ps, no_bits (drop n ps) rest, marks_of ps n);
    }

pub page_facts : (img : List ℕ) → All Byte img → Checked img → (b i : ℕ) → 1 ≤ b → b ≤ 8 → i < page_count img b → PageFacts (page_pairs img b i) (page_roots img b i) (page_nodes img b i) (out_link_count img b i)
unfolding page_nodes page_levels out_link_count
page_facts img a c b i lo hi h = nodes_facts (page_pairs img b i) (page_roots img b i) (pairs_240 img a c b lo hi i h) (page_nodes_lem img b i (c.page b i lo hi h))

-- the node count is told by the pairs, and the roots by pairs and node count
pub same_nodes : (ps : List ℕ) (r r' n n' l l' : ℕ) → PageFacts ps r n l → PageFacts ps r' n' l' → n ≡ n'
same_nodes ps r r' n n' l l' f f' =
    elim (dec_lt n n') [
      | yes h ↦ absurd (omega (arith, f.unused n (omega arith), f'.used n h))
      | no h ↦ elim (dec_lt n' n) [
        | yes k ↦ absurd (omega (arith, f'.unused n' (omega arith), f.used n' k))
        | no k ↦ omega arith
      ]
    ]

pub end_rises : (ps : List ℕ) (r r' : ℕ) → r < r' → end_at ps r < end_at ps r'
end_rises ps r r' h =
    let third : third_at ps r ≤ third_at ps r' = omega (arith, marks_mono ps r r' (omega arith)) in
    let fourth : fourth_at ps r ≤ fourth_at ps r' = omega (arith, marks_mono ps (third_at ps r) (third_at ps r') third) in
    omega (arith, marks_mono ps (fourth_at ps r) (fourth_at ps r') fourth)

pub same_roots : (ps : List ℕ) (r r' n n' l l' : ℕ) → PageFacts ps r n l → PageFacts ps r' n' l' → r ≡ r'
same_roots ps r r' n n' l l' f f' =
    let e : end_at ps r ≡ end_at ps r' = sym f.count ∙ same_nodes ps r r' n n' l l' f f' ∙ f'.count in
    elim (dec_lt r r') [
      | yes h ↦ absurd (omega (arith, end_rises ps r r' h))
      | no h ↦ elim (dec_lt r' r) [ yes k ↦ absurd (omega (arith, end_rises ps r' r k)) | no k ↦ omega arith ]
    ]

same_marks : (ps qs : List ℕ) (n : ℕ) → length ps ≡ length qs → ((j : ℕ) → j < n → get_or ps j 0 ≡ get_or qs j 0) → (k : ℕ) → k ≤ n → marks qs k ≡ marks ps k
unfolding marks
same_marks ps qs n e h k le =
    ap on_bits
    (ext_get_or 0 (take k qs) (take k ps) (length-take k qs ∙ ap (λ (m : ℕ). min k m) (sym e) ∙ sym (length-take k ps))
    (λ j p. let lt : j < k = omega (arith, length-take k qs) in get_or-take k qs j 0 lt ∙ sym (h j (omega arith)) ∙ sym (get_or-take k ps j 0 lt)))

-- one bit turned on in the pairs changes the roots or the out-links
pub one_bit : (ps qs : List ℕ) (r n m l : ℕ) → Raised ps qs → PageFacts ps r n l → PageFacts qs r m l → ⊥
one_bit ps qs r n m l raised f g =
    let one_more : m ≡ n + 1 = omega (arith, f.balance, g.balance, raised.more) in
    let here : raised.place ≡ n =
    elim (ℕ_discrete n raised.place) [
      | yes e ↦ sym e
      | no e ↦ absurd (omega (arith, raised.elsewhere n e, f.unused n (omega arith), g.used n (omega arith)))
    ] in
    let first : (k : ℕ) → k ≤ n → marks qs k ≡ marks ps k =
    λ k h. same_marks ps qs n raised.same_length (λ j p. raised.elsewhere j (λ e. omega arith)) k h in
    let r-le : r ≤ n = omega (arith, f.count) in
    let third-le : third_at ps r ≤ n = omega (arith, f.count, marks_mono ps r (fourth_at ps r) (omega arith)) in
    let third : third_at qs r ≡ third_at ps r = ap (r +◌) (first r r-le) in
    let fourth-le : fourth_at ps r ≤ n = omega (arith, f.count, marks_mono ps (third_at ps r) (fourth_at ps r) (omega (arith, marks_mono ps r (third_at ps r) (omega arith)))) in
    let fourth : fourth_at qs r ≡ fourth_at ps r = ap (λ (k : ℕ). r + marks qs k) third ∙ ap (r +◌) (first (third_at ps r) third-le) in
    let end : end_at qs r ≡ end_at ps r = ap (λ (k : ℕ). r + marks qs k) fourth ∙ ap (r +◌) (first (fourth_at ps r) fourth-le) in
    omega (arith, f.count, g.count)
