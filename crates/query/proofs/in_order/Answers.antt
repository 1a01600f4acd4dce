-- `query::in_order` meets its contract. Assumes nothing.
use Rattle.query.proofs.Jobs.{order_no, order_is}
use Rattle.query.proofs.in_order.Goals as goal

pub returns-then-holders : goal.returns-then-holders
returns-then-holders c = order_no c.args.rectangle c.if-holders.true

pub returns : goal.returns
returns c = order_is c.args.rectangle c.if-holders.false
