-- `header::counts_fit` meets its contract. Assumes nothing.
use Rattle.header.proofs.Asked.{fit_none, fit_pages, fit_roots, fit_rest}
use Rattle.header.proofs.counts_fit.Goals as goal

pub returns-then-key_count-eq0 : goal.returns-then-key_count-eq0
returns-then-key_count-eq0 c = fit_none _ _ c.key_count.ensures.0 c.requires c.if-key_count-eq0.true _ c.all_zero.ensures

pub returns-then-page_count-ne1 : goal.returns-then-page_count-ne1
returns-then-page_count-ne1 c =
    fit_pages _ _ c.key_count.ensures.0 c.if-key_count-eq0.false _ c.page_count.ensures.0 c.if-page_count-ne1.true

pub returns-then-root_count-ne1 : goal.returns-then-root_count-ne1
returns-then-root_count-ne1 c =
    fit_roots _ _ c.key_count.ensures.0 c.if-key_count-eq0.false _ c.page_count.ensures.0 c.if-page_count-ne1.false _ c.root_count.ensures.0 c.if-root_count-ne1.true

pub returns : goal.returns
returns c =
    fit_rest _ _ c.key_count.ensures.0 c.if-key_count-eq0.false _ c.page_count.ensures.0 c.if-page_count-ne1.false _ c.root_count.ensures.0 c.if-root_count-ne1.false _ c.counts_positive.ensures
