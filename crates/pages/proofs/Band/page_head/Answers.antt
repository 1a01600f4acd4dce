-- `pages::Band::page_head` meets its contract. Assumes nothing.
use mathlib.Core.Path.{refl, ◌∙◌}
use native.Mathlib.Omega.{arith}
use Rattle.pages.proofs.Pages.{head_t, head_b}
use Rattle.pages.proofs.Opened.{number_is, in_image, t_le, roots_are}
use Rattle.pages.proofs.Band.page_head.Goals as goal

pub overflow_add-result : goal.overflow_add-result
overflow_add-result c = let p = c.requires in omega (arith, in_image p.0 p.1 p.2)

pub overflow_sub-result : goal.overflow_sub-result
overflow_sub-result c =
    let p = c.requires in
    t_le p.0 p.1 p.2 (c.number_at-t.ensures.0 ∙ head_t p.0 _ _) c.number_after.ensures

pub overflow_sub-result-2 : goal.overflow_sub-result-2
overflow_sub-result-2 c =
    let p = c.requires in
    omega (arith, c.number_at-b.ensures.0 ∙ head_b p.0 _ _, c.number_after-2.ensures)

pub returns : goal.returns
returns c =
    let p = c.requires in
    let t = c.number_at-t.ensures.0 ∙ head_t p.0 _ _ in
    let b = c.number_at-b.ensures.0 ∙ head_b p.0 _ _ in (
      record {
        from = p.1.from;
        to = p.1.to;
        in_band = p.2;
        number = number_is p.0 p.1 p.2;
        t = t;
        b = b;
        roots = roots_are p.0 p.1 p.2 t c.number_after.ensures;
        links = omega (arith, b, c.number_after-2.ensures);
      },
      refl,
      refl,
    )
