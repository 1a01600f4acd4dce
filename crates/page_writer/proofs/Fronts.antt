-- The level above prefixes and their parents, with one prefix more in front.
-- Assumes nothing.
use mathlib.Core.Path.{◌≡◌}
use mathlib.Core.Bool.{Bool, true, false, cond}
use mathlib.Core.List.{List, [], ◌∷◌}
use Prim.Native.Nat.{ℕ, zero, suc, ◌+◌, ◌/◌, ◌≤◌}
use native.Mathlib.Omega.{arith}
use lib.Dec.{eqb}
use borrow.Author.Tests.{eq-eqb, ne_eqb}
use lib.ListN.{length, drop}
use Rattle.format.specs.Trie.{parents, nodes_over, add_to_first, bit_of}

module _ (x y : ℕ) (l : List ℕ) where
  pub nodes_same : x / 2 ≡ y / 2 → nodes_over (x ∷ y ∷ l) ≡ add_to_first (bit_of x) (nodes_over (y ∷ l))
  unfolding nodes_over
  nodes_same e = rw (eq-eqb (x / 2) (y / 2) e)

  pub nodes_other : (x / 2 ≡ y / 2 → ⊥) → nodes_over (x ∷ y ∷ l) ≡ bit_of x ∷ nodes_over (y ∷ l)
  unfolding nodes_over
  nodes_other e = rw (ne_eqb (x / 2) (y / 2) e)

  pub parents_same : x / 2 ≡ y / 2 → parents (x ∷ y ∷ l) ≡ parents (y ∷ l)
  unfolding parents
  parents_same e = rw (eq-eqb (x / 2) (y / 2) e)

  pub parents_other : (x / 2 ≡ y / 2 → ⊥) → parents (x ∷ y ∷ l) ≡ x / 2 ∷ parents (y ∷ l)
  unfolding parents
  parents_other e = rw (ne_eqb (x / 2) (y / 2) e)

-- the level has a node more at most
pub more_nodes_lem : (x : ℕ) (l : List ℕ) → (length (nodes_over l) ≤ length (nodes_over (x ∷ l))) × (length (nodes_over (x ∷ l)) ≤ length (nodes_over l) + 1)
unfolding nodes_over
more_nodes_lem x [] = (omega arith, omega arith)
more_nodes_lem x (y ∷ l) = go (eqb (x / 2) (y / 2)) (nodes_over (y ∷ l))
  where
    go : (b : Bool) (ns : List ℕ) → (length ns ≤ length (cond b (add_to_first (bit_of x) ns) (bit_of x ∷ ns))) × (length (cond b (add_to_first (bit_of x) ns) (bit_of x ∷ ns)) ≤ length ns + 1)
    go true [] = (unfold add_to_first in omega arith, unfold add_to_first in omega arith)
    go true (n ∷ ns) = (unfold add_to_first in omega arith, unfold add_to_first in omega arith)
    go false ns = (omega arith, omega arith)

pub less_nodes : (n : ℕ) (l : List ℕ) → length (nodes_over (drop n l)) ≤ length (nodes_over l)
less_nodes zero l = omega arith
less_nodes (suc n) [] = omega arith
less_nodes (suc n) (x ∷ l) = omega (arith, less_nodes n l, (more_nodes_lem x l).0)
