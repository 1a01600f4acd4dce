-- `edit::keys::keys_without` meets its contract. Assumes nothing.
use mathlib.Core.Path.{◌≡◌}
use mathlib.Core.List.{List}
use Prim.Native.Nat.{ℕ, ◌≤◌}
use native.Mathlib.Omega.{arith}
use lib.ListN.{length}
use Rattle.format.specs.declared.Rectangle.{Rectangle}
use Rattle.format.specs.Answer.{member_keys}
use Rattle.format.specs.Exact.{Accepted, whole_square}
use Rattle.format.specs.Image.{key_count}
use Rattle.format.proofs.Accepted.{facts}
use Rattle.walk.specs.Walk.{Listed}
use Rattle.edit.proofs.Copies.{AllListed, all_listed, left_out}
use Rattle.edit.proofs.keys.keys_without.Goals as goal

-- all keys are listed, and the rank is one of theirs
module _ (img keys : List ℕ) (accepted : Accepted img) (room : key_count img ≤ length keys) (square : Rectangle) (whole : square ≡ whole_square) (places : List ℕ) (n : ℕ)
    (l : Listed (member_keys img square) keys 0 places n) where
  listed : AllListed img keys places n
  listed = all_listed _ _ _ _ _ whole (omega (arith, (facts img accepted).keys.count_is)) l

  count_is : n ≡ key_count img
  count_is = omega (arith, listed.count, (facts img accepted).keys.count_is)

pub overflow_sub-n : goal.overflow_sub-n
overflow_sub-n c = omega (arith, count_is _ _ c.requires.0 c.requires.2 _ c.whole_square.ensures _ _ c.list_members-n.ensures)

pub overflow_sub-n-2 : goal.overflow_sub-n-2
overflow_sub-n-2 c = omega (arith, count_is _ _ c.requires.0 c.requires.2 _ c.whole_square.ensures _ _ c.list_members-n.ensures)

pub move_down-requires : goal.move_down-requires
move_down-requires c =
    let e = count_is _ _ c.requires.0 c.requires.2 _ c.whole_square.ensures _ _ c.list_members-n.ensures in
    (omega (arith, e), omega (arith, e, c.list_members-n.auto.keys))

pub overflow_sub-result : goal.overflow_sub-result
overflow_sub-result c = omega (arith, count_is _ _ c.requires.0 c.requires.2 _ c.whole_square.ensures _ _ c.list_members-n.ensures)

pub returns : goal.returns
returns c =
    left_out _ _ _ _ _ _ (listed _ _ c.requires.0 c.requires.2 _ c.whole_square.ensures _ _ c.list_members-n.ensures)
    (omega (arith, count_is _ _ c.requires.0 c.requires.2 _ c.whole_square.ensures _ _ c.list_members-n.ensures)) c.move_down.ensures
