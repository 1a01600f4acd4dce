-- `checker::page::check_nodes` meets its contract: at each return the questions before got a yes. Assumes nothing.
use mathlib.Core.Path.{◌≡◌, sym, ap, ◌∙◌}
use mathlib.Core.List.{List}
use Prim.Native.Nat.{ℕ, ◌≤◌}
use native.Mathlib.Omega.{arith}
use Rattle.nodes.specs.Words.{Gathered, ones_before}
use Rattle.checker.specs.Paged.{fourth_in, third_in}
use Rattle.checker.proofs.Shapes.{Third, Fourth, levels, fourth, ended, over_fourth, over_end, empty_found, rest_found, links_few, shaped}
use Rattle.checker.proofs.page.check_nodes.Goals as goal

-- the page's words and roots, and the place of its fourth level
module _ (word counts : List ℕ) (r : ℕ) (gathered : Gathered word counts) (lo : 1 ≤ r) (hi : r ≤ 60) (f : ℕ) (f_is : f ≡ fourth_in word counts r) where
  third : Third word counts r (ones_before word counts r) (ones_before word counts (third_in word counts r))
  third = levels gathered lo hi

  fourth_known : f ≤ 240 → (n : ℕ) → n ≡ ones_before word counts f → Fourth word counts r (ones_before word counts r) (ones_before word counts (third_in word counts r)) n
  fourth_known h n e = fourth third (omega (arith, f_is)) n (e ∙ ap (ones_before word counts) f_is)

pub returns-then-fourth-gt240 : goal.returns-then-fourth-gt240
returns-then-fourth-gt240 c =
    let p = c.requires in
    record { first_no_is = sym (over_fourth (third _ _ _ p.0 p.1 p.2 _ p.3) (omega (arith, p.3, c.if-fourth-gt240.true))); counted = tt; bounded = tt }

pub returns-then-end-gt240 : goal.returns-then-end-gt240
returns-then-end-gt240 c =
    let p = c.requires in
    let f = fourth_known _ _ _ p.0 p.1 p.2 _ p.3 c.if-fourth-gt240.false _ c.on_bits_before-fourth_on.ensures.0 in
    record { first_no_is = sym (over_end f c.if-end-gt240.true); counted = tt; bounded = tt }

pub returns-then-not-none_empty : goal.returns-then-not-none_empty
returns-then-not-none_empty c =
    let p = c.requires in
    let f = fourth_known _ _ _ p.0 p.1 p.2 _ p.3 c.if-fourth-gt240.false _ c.on_bits_before-fourth_on.ensures.0 in
    record { first_no_is = sym (empty_found f c.if-end-gt240.false _ c.none_empty.ensures c.if-not-none_empty.true); counted = tt; bounded = tt }

pub returns-then-not-rest_empty : goal.returns-then-not-rest_empty
returns-then-not-rest_empty c =
    let p = c.requires in
    let f = fourth_known _ _ _ p.0 p.1 p.2 _ p.3 c.if-fourth-gt240.false _ c.on_bits_before-fourth_on.ensures.0 in
    record {
      first_no_is = sym (rest_found f c.if-end-gt240.false _ c.none_empty.ensures c.if-not-none_empty.false _ c.rest_empty.ensures c.if-not-rest_empty.true);
      counted = tt;
      bounded = tt;
    }

pub overflow_sub-result : goal.overflow_sub-result
overflow_sub-result c =
    let p = c.requires in
    let f = fourth_known _ _ _ p.0 p.1 p.2 _ p.3 c.if-fourth-gt240.false _ c.on_bits_before-fourth_on.ensures.0 in
    links_few (ended f c.if-end-gt240.false _ c.none_empty.ensures c.if-not-none_empty.false _ c.rest_empty.ensures c.if-not-rest_empty.false _ c.on_bits.ensures.0)

pub returns : goal.returns
returns c =
    let p = c.requires in
    let f = fourth_known _ _ _ p.0 p.1 p.2 _ p.3 c.if-fourth-gt240.false _ c.on_bits_before-fourth_on.ensures.0 in
    shaped (ended f c.if-end-gt240.false _ c.none_empty.ensures c.if-not-none_empty.false _ c.rest_empty.ensures c.if-not-rest_empty.false _ c.on_bits.ensures.0)
