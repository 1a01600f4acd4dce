-- Questions 9 to 11 of a row of pairs with r roots: what a yes to each says, and back. Assumes nothing.
use mathlib.Core.Path.{◌≡◌}
use mathlib.Core.Bool.{Bool, true}
use mathlib.Core.List.{List}
use Prim.Native.Nat.{ℕ, ◌≤◌}
use native.Mathlib.Omega.{arith}
use lib.Dec.{leb}
use borrow.Author.Tests.{leb-true, le-leb}
use lib.ListN.{length, take, drop}
use Rattle.format.specs.Seq.{All, every}
use Rattle.format.specs.Page.{levels_in, node_count}
use Rattle.format.specs.Question.{Yes, is_positive, is_zero, node_questions}
use Rattle.format.proofs.Lists.{and_left, and_right, and_both, every_all, all_every}
use Rattle.format.proofs.Questions.{of_range, range_of}
use Rattle.format.proofs.Trie.{Shape}
use Rattle.format.proofs.Bytes.{levels_shape}

-- all get a yes
pub record NodesOk (r : ℕ) (pairs : List ℕ) : Type 0 where
  pub some_roots : 1 ≤ r
  pub few_roots : r ≤ 60
  pub within : node_count r (levels_in 4 r pairs) ≤ 240
  pub positive : All (λ l. every is_positive l ≡ true) (levels_in 4 r pairs)
  pub zeros : every is_zero (drop (node_count r (levels_in 4 r pairs)) pairs) ≡ true

module _ (r : ℕ) (pairs : List ℕ) where
  pub nodes_of_lem : All Yes (node_questions r pairs) → NodesOk r pairs
  unfolding node_questions
  nodes_of_lem h =
      let few : Bool = leb (node_count r (levels_in 4 r pairs)) 240 in
      let valid : Bool = every (every is_positive) (levels_in 4 r pairs) in
      record {
        some_roots = (range_of 60 r h.0).0;
        few_roots = (range_of 60 r h.0).1;
        within = leb-true (node_count r (levels_in 4 r pairs)) 240 (and_left few valid h.1.0);
        positive = every_all (every is_positive) (levels_in 4 r pairs) (and_right few valid h.1.0);
        zeros = h.1.1.0;
      }

  pub of_nodes : NodesOk r pairs → All Yes (node_questions r pairs)
  unfolding node_questions
  of_nodes h = (
    of_range 60 r h.some_roots h.few_roots,
    (and_both (le-leb (node_count r (levels_in 4 r pairs)) 240 h.within) (all_every (every is_positive) (levels_in 4 r pairs) h.positive), (h.zeros, tt)),
  )

  -- the levels hang together
  pub nodes_shape : All (λ x. x ≤ 3) pairs → length pairs ≡ 240 → NodesOk r pairs → Shape r (levels_in 4 r pairs)
  nodes_shape small e h = levels_shape 4 r pairs small (omega (arith, h.within)) h.positive

  -- 9 and 10 say as much
  pub ten_shape : All (λ x. x ≤ 3) pairs → length pairs ≡ 240 → All Yes (take 2 (node_questions r pairs)) → Shape r (levels_in 4 r pairs)
  unfolding node_questions
  ten_shape small e h =
      let few : Bool = leb (node_count r (levels_in 4 r pairs)) 240 in
      let valid : Bool = every (every is_positive) (levels_in 4 r pairs) in
      levels_shape 4 r pairs small (omega (arith, leb-true (node_count r (levels_in 4 r pairs)) 240 (and_left few valid h.1.0))) (every_all (every is_positive) (levels_in 4 r pairs) (and_right few valid h.1.0))
