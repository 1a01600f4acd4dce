-- `checker::page::first_nodes` meets its contract. Assumes nothing.
use mathlib.Core.Path.{◌≡◌, ap, ◌∙◌}
use mathlib.Core.List.{List}
use Prim.Native.Nat.{ℕ, ◌+◌, ◌-◌, ◌≤◌}
use native.Mathlib.Omega.{arith}
use Rattle.format.proofs.Counting.{marks}
use Rattle.nodes.specs.Words.{Gathered, ones_before, pairs_in}
use Rattle.checker.specs.Paged.{first_nodes, fourth_in, third_in}
use Rattle.checker.proofs.Shapes.{Third, levels}
use Rattle.checker.proofs.First.{first_second, first_third, first_fourth, first_is}
use Rattle.checker.proofs.page.first_nodes.Goals as goal

-- the page's words and roots, and the places of its third and fourth levels
module _ (word counts : List ℕ) (r : ℕ) (gathered : Gathered word counts) (lo : 1 ≤ r) (hi : r ≤ 60) (t f : ℕ) (t_is : t ≡ third_in word counts r) (f_is : f ≡ fourth_in word counts r) where
  -- the on bits of the first level, and of the first and second
  abbrev a : ℕ
  a = ones_before word counts r

  abbrev b : ℕ
  b = ones_before word counts (third_in word counts r)

  known : Third word counts r a b
  known = levels gathered lo hi

  -- x on bits in the first root, y up to the end of the first subtrie's second level
  module _ (x : ℕ) (x_is : x ≡ ones_before word counts 1) where
    of_root : (x ≡ marks (pairs_in word) 1) × (x ≤ 2)
    of_root = first_second known x x_is

    second_in : r + x ≤ 240
    second_in = omega (arith, of_root)

    module _ (y : ℕ) (y_is : y ≡ ones_before word counts (r + x)) where
      to_second : (y ≡ marks (pairs_in word) (r + x)) × (a ≤ y) × (y - a ≤ 4)
      to_second = first_third known x y of_root.1 y_is

      to_second_of : t - r ≤ y
      to_second_of = omega (arith, t_is, to_second)

      third-in : t + (y - (t - r)) ≤ 240
      third-in = omega (arith, t_is, to_second, known.before.few)

      -- and z up to the end of its third
      module _ (z : ℕ) (z_is : z ≡ ones_before word counts (t + (y - (t - r)))) where
        to_third : (z ≡ marks (pairs_in word) (r + a + (y - a))) × (b ≤ z) × (z - b ≤ 8)
        to_third =
            let e : t + (y - (t - r)) ≡ r + a + (y - a) = omega (arith, t_is, to_second) in
            first_fourth known (y - a) z to_second.2 (z_is ∙ ap (ones_before word counts) e)

        to_third_of : f - r ≤ z
        to_third_of = omega (arith, f_is, to_third)

        all : (1 + x + (y - (t - r)) + (z - (f - r)) ≡ first_nodes r (pairs_in word)) × (1 + x + (y - (t - r)) + (z - (f - r)) ≤ 15)
        all =
            let e = first_is known x y z of_root to_second to_third in
            (omega (arith, e, t_is, f_is), omega (arith, of_root, to_second, to_third, t_is, f_is))

pub on_bits_before-requires : goal.on_bits_before-requires
on_bits_before-requires c = let p = c.requires in second_in _ _ _ p.0 p.1 p.2 _ _ p.3 p.4 _ c.on_bits_before-first2.ensures.0

pub overflow_sub-first3-2 : goal.overflow_sub-first3-2
overflow_sub-first3-2 c = let p = c.requires in to_second_of _ _ _ p.0 p.1 p.2 _ _ p.3 p.4 _ c.on_bits_before-first2.ensures.0 _ c.on_bits_before.ensures.0

pub on_bits_before-requires-2 : goal.on_bits_before-requires-2
on_bits_before-requires-2 c = let p = c.requires in third-in _ _ _ p.0 p.1 p.2 _ _ p.3 p.4 _ c.on_bits_before-first2.ensures.0 _ c.on_bits_before.ensures.0

pub overflow_sub-first4-2 : goal.overflow_sub-first4-2
overflow_sub-first4-2 c =
    let p = c.requires in
    to_third_of _ _ _ p.0 p.1 p.2 _ _ p.3 p.4 _ c.on_bits_before-first2.ensures.0 _ c.on_bits_before.ensures.0 _ c.on_bits_before-2.ensures.0

pub returns : goal.returns
returns c =
    let p = c.requires in
    all _ _ _ p.0 p.1 p.2 _ _ p.3 p.4 _ c.on_bits_before-first2.ensures.0 _ c.on_bits_before.ensures.0 _ c.on_bits_before-2.ensures.0
