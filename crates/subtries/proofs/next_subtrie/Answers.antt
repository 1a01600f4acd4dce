-- `subtries::next_subtrie` meets its contract. Assumes nothing.
use mathlib.Core.Path.{◌≡◌, sym, subst}
use native.Mathlib.Omega.{arith}
use Rattle.subtries.specs.declared.spot.Spot.{Spot}
use Rattle.subtries.specs.Spot.{SpotAt}
use Rattle.subtries.proofs.Kept.{spots_keep}
use Rattle.subtries.proofs.Subtries.{read_same}
use Rattle.subtries.proofs.next_subtrie.Goals as goal
use Rattle.subtries.proofs.next_subtrie.Goals.{Joined-spot-root-2, then-spot-root-2, else-spot-root-2}

-- after the second test the spot is at the root
standing : (c : Joined-spot-root-2) → let spot = c.if-spot-root-2.spot in (SpotAt c.args.image.now c.args.number spot) × (spot.root.0 ≡ c.args.root.0)
standing c =
    let at : Spot → Type 0 = λ spot. (SpotAt c.args.image.now c.args.number spot) × (spot.root.0 ≡ c.args.root.0) in
    let p = c.requires in
    elim c.if-spot-root-2.branch [
      | then-spot-root-2 w ↦ subst at (sym w.spot-is) w.seek-then-spot-root-2.ensures
      | else-spot-root-2 w ↦ subst at (sym w.spot-is) (p.4.each _ p.1 p.2 (omega (arith, c.if-spot-root.false, w.if-spot-root-2.false)), c.if-spot-root.false)
    ]

pub seek-requires : goal.seek-requires
seek-requires c = let p = c.requires in (p.0, p.1, p.2, p.3, p.4.each _ p.1 p.2)

pub advance-requires : goal.advance-requires
advance-requires c = let p = c.requires in (p.0, p.1, p.2, c.seek.ensures.0)

pub returns-then-spot-root : goal.returns-then-spot-root
returns-then-spot-root c =
    let p = c.requires in
    (read_same c.args.image.now c.args.number c.seek.ensures.1 c.advance.ensures.0, spots_keep p.4 _ p.1 p.2 c.advance.ensures.1)

pub seek-requires-then-spot-root-2 : goal.seek-requires-then-spot-root-2
seek-requires-then-spot-root-2 c = let p = c.requires in (p.0, p.1, p.2, p.3, p.4.each _ p.1 p.2)

pub advance-requires-2 : goal.advance-requires-2
advance-requires-2 c = let p = c.requires in (p.0, p.1, p.2, (standing c).0)

pub returns : goal.returns
returns c =
    let p = c.requires in
    (read_same c.args.image.now c.args.number (standing (goal.at.returns c).Joined-spot-root-2).1 c.advance-2.ensures.0, spots_keep p.4 _ p.1 p.2 c.advance-2.ensures.1)
