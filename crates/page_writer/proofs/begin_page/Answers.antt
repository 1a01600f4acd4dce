-- `page_writer::begin_page` meets its contract. Assumes nothing.
use Rattle.page_writer.proofs.Filled.{page_begun}
use Rattle.page_writer.proofs.begin_page.Goals as goal

pub returns : goal.returns
returns c = page_begun c.args.page.now _ _ _ _ _ c.put_number.ensures c.put_number-2.ensures c.clear.ensures
