-- `pages::Band::page_near` meets its contract. Assumes nothing.
use mathlib.Core.Path.{◌∙◌}
use native.Mathlib.Omega.{arith}
use Rattle.pages.proofs.Pages.{t_small}
use Rattle.pages.proofs.PageWords.{page_small}
use Rattle.pages.proofs.Heads.{opened_read}
use Rattle.pages.proofs.Band.page_near.Goals as goal

pub overflow_add-head : goal.overflow_add-head
overflow_add-head c =
    let p = c.requires in
    let h = c.page_head-head in
    record { fits = omega (arith, (page_small p.0 (opened_read h.ensures.0)).0, h.ensures.0.t, t_small p.0 h.result.band h.result.index) }

pub returns-then-root-head : goal.returns-then-root-head
returns-then-root-head c = let e = c.page.ensures in let h = c.page_head-head.ensures in (e.0, e.1 ∙ h.1, omega arith, omega arith)
