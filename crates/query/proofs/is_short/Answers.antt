-- `query::is_short` meets its contract. Assumes nothing.
use mathlib.Core.Path.{sym, ap}
use native.Mathlib.Omega.{arith}
use borrow.Author.Tests.{le-ltb}
use lib.Dec.{ltb}
use lib.ListN.{length}
use Rattle.format.specs.Answer.{member_keys}
use Rattle.walk.proofs.Whole.{members_at_most}
use Rattle.query.proofs.is_short.Goals as goal

pub returns-then-all-places : goal.returns-then-all-places
returns-then-all-places c =
    sym (le-ltb c.args.places (length (member_keys c.args.image.now c.args.rectangle)) (omega (arith, members_at_most c.requires.0 c.args.rectangle, c.requires.1, c.if-all-places.true)))

pub returns : goal.returns
returns c = ap (ltb c.args.places) c.count_members.ensures.0
