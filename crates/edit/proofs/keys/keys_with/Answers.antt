-- `edit::keys::keys_with` meets its contract. Assumes nothing.
use mathlib.Core.Path.{◌≡◌}
use mathlib.Core.List.{List}
use Prim.Native.Nat.{ℕ, ◌-◌, ◌<◌}
use native.Mathlib.Omega.{arith}
use lib.ListN.{length, take, drop, length-drop}
use lib.Seq.{length-take-le}
use Rattle.format.specs.declared.Rectangle.{Rectangle}
use Rattle.format.specs.Answer.{member_keys}
use Rattle.format.specs.Exact.{Accepted, whole_square}
use Rattle.format.specs.Image.{key_count}
use Rattle.format.proofs.Accepted.{facts}
use Rattle.walk.specs.Walk.{Listed}
use Rattle.edit.proofs.Copies.{AllListed, all_listed, put_in}
use Rattle.edit.proofs.keys.keys_with.Goals as goal

-- the keys are listed from the second place on
listed : (img keys : List ℕ) → Accepted img → key_count img < length keys → (square : Rectangle) → square ≡ whole_square → (ys : List ℕ) (n : ℕ)
    → Listed (member_keys img square) (take (length keys - 1) (drop 1 keys)) 0 ys n → AllListed img (take (length keys - 1) (drop 1 keys)) ys n
listed img keys accepted room square whole ys n l =
    all_listed _ _ _ _ _ whole (omega (arith, (facts img accepted).keys.count_is, length-take-le (length keys - 1) (drop 1 keys) (omega (arith, length-drop 1 keys)))) l

pub overflow_add-result : goal.overflow_add-result
overflow_add-result c =
    let f = facts c.args.image.now c.requires.0 in
    omega (arith, (listed _ _ c.requires.0 c.requires.2 _ c.whole_square.ensures _ _ c.list_members-n.ensures).count, f.keys.count_is, f.few)

pub returns : goal.returns
returns c =
    let f = (facts c.args.image.now c.requires.0).keys in
    put_in c.args.image.now c.args.keys.now _ _ (omega (arith, f.count_is, c.requires.2)) (listed _ _ c.requires.0 c.requires.2 _ c.whole_square.ensures _ _ c.list_members-n.ensures) _ c.args.rank c.args.key (omega (arith, f.count_is, c.requires.1))
    c.move_down.ensures
