-- `capi::fill` meets its contract. Assumes nothing.
use Rattle.capi.proofs.Answers.{nine}
use borrow.Author.Rules.{rules}
use Rattle.capi.proofs.fill.Goals as goal

pub returns : goal.returns
returns c = nine c.args.rank c.args.pages (search rules)
