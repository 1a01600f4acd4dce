-- `nodes::Words::none_empty` meets its contract. Assumes nothing.
use mathlib.Core.Path.{◌≡◌, sym, ap, subst, ◌∙◌}
use Prim.Native.Nat.{ℕ, ◌+◌, ◌-◌, ◌<◌}
use native.Mathlib.Omega.{arith}
use borrow.Rule.Slice.PartMut.{mid_of, mid_len}
use borrow.Author.Rules.{rules}
use lib.ListN.{get_or, length}
use Rattle.std.proofs.lemmas.List.{get_or-take, get_or-drop}
use Rattle.std.proofs.Common.{List}
use Rattle.nodes.specs.Words.{none_empty}
use Rattle.nodes.proofs.Passing.{Passing, passing_start, passing_next, passing_no, passing_end}
use Rattle.nodes.proofs.Words.none_empty.Goals as goal
use Rattle.nodes.proofs.Words.none_empty.Goals.{else-loop-next-test, then-loop-next-test+then-left-le32}

-- the words after the first
after_first : (word : List ℕ) (i : ℕ) → i < 8 → get_or word (i + 1) 0 ≡ get_or (mid_of 1 8 word) i 0
after_first word i h =
    let e : 1 + i ≡ i + 1 = omega arith in
    sym (get_or-take 8 _ i 0 h ∙ get_or-drop 1 word i 0 ∙ ap (λ (j : ℕ). get_or word j 0) e)

pub returns-then-n-gt208 : goal.returns-then-n-gt208
returns-then-n-gt208 c =
    let a = c.args in
    let e : 208 + (a.n - 208) ≡ a.n = omega arith in
    c.none_empty_late.ensures ∙ ap (none_empty a.self.now.word) e

pub loop-next-init : goal.loop-next-init
loop-next-init c = passing_start _ _

pub returns-then-used_nodes-ne-LOW_BITS : goal.returns-then-used_nodes-ne-LOW_BITS
returns-then-used_nodes-ne-LOW_BITS c = passing_no _ _ _ _ _ c.loop-next.invariant c.if-left-le32.false (λ e. c.if-used_nodes-ne-LOW_BITS.true (c.used_nodes.ensures ∙ e))

pub loop-next-preserved : goal.loop-next-preserved
loop-next-preserved c =
    let p = c.loop-next.invariant in
    subst (Passing _ _ _ _) (after_first c.args.self.now.word c.loop-next.next-index (omega (arith, p.place)))
    (passing_next _ _ _ _ _ p c.requires c.if-left-le32.false (sym c.used_nodes.ensures ∙ c.if-used_nodes-ne-LOW_BITS.false))

pub returns : goal.returns
returns c = elim c.loop-next-test.branch [
  | else-loop-next-test w ↦
      let some : length (mid_of 1 8 c.args.self.now.word) ≡ 8 = mid_len 1 9 c.args.self.now.word (search rules) in
      c.first_used.ensures ∙ sym (passing_end _ _ _ _ _ c.loop-next.invariant (omega arith))
  | then-loop-next-test+then-left-le32 w ↦ c.first_used.ensures ∙ sym (passing_end _ _ _ _ _ c.loop-next.invariant w.if-left-le32.true)
]
