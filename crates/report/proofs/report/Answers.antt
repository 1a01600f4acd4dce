-- `report::report` meets its contract. Assumes nothing.
use mathlib.Core.Path.{◌≡◌, ap, ap₂, ◌∙◌}
use mathlib.Core.List.{List, ◌++◌}
use Prim.Native.Nat.{ℕ, ◌≤◌}
use native.Mathlib.Omega.{arith}
use lib.ListN.{length, length-take, take}
use borrow.Author.Rules.{rules}
use Rattle.format.specs.Refusal.{outcome_of}
use Rattle.format.specs.Text.{admissions_word, refused_word, rows}
use Rattle.nodes.proofs.Numbers.{bytes_of}
use Rattle.report.specs.Row.{field_of}
use Rattle.report.proofs.Reports.{printed_listed, printed_long, printed_refused, put_all, told}
use Rattle.report.proofs.report.Goals as goal

pub returns-then-image-gt65536 : goal.returns-then-image-gt65536
returns-then-image-gt65536 c =
    put_all c.args.image.now c.args.out.now _ 14 _ _
    (ap (λ (n : ℕ). refused_word ++ field_of n 10) c.number.ensures ∙ printed_long c.args.image.now c.if-image-gt65536.true)
    (omega arith) c.put_refusal.ensures

pub returns-in-Err : goal.returns-in-Err
returns-in-Err c =
    let d = told c.args.image.now _ _ _ _ _ c.whole_square.ensures (ap outcome_of c.in-Err.is) c.list.ensures in
    put_all c.args.image.now c.args.out.now _ 14 _ _
    (ap (λ (n : ℕ). refused_word ++ field_of n 10) c.number-in-Err.ensures
    ∙ printed_refused c.args.image.now (bytes_of c.args.image.now (λ i. (c.type_inv.image i).fits)) (omega arith) _ (search rules) _ d.0)
    (omega arith) c.put_refusal-in-Err.ensures

pub slice_bounds-keys-end : goal.slice_bounds-keys-end
slice_bounds-keys-end c =
    let d = told c.args.image.now _ _ _ _ _ c.whole_square.ensures (ap outcome_of c.in-Ok.is) c.list.ensures in
    omega (arith, (printed_listed c.args.image.now (bytes_of c.args.image.now (λ i. (c.type_inv.image i).fits)) (omega arith) _ (search rules) _ d.0).0)

pub slice_bounds-put_listing-end-in-Ok : goal.slice_bounds-put_listing-end-in-Ok
slice_bounds-put_listing-end-in-Ok c =
    let d = told c.args.image.now _ _ _ _ _ c.whole_square.ensures (ap outcome_of c.in-Ok.is) c.list.ensures in
    let p = printed_listed c.args.image.now (bytes_of c.args.image.now (λ i. (c.type_inv.image i).fits)) (omega arith) _ (search rules) _ d.0 in
    let few : c.in-Ok.n ≤ length c.list.new.keys = omega (arith, p.0) in
    omega (arith, length-take c.in-Ok.n c.list.new.keys)

pub returns-in-Ok : goal.returns-in-Ok
returns-in-Ok c =
    let d = told c.args.image.now _ _ _ _ _ c.whole_square.ensures (ap outcome_of c.in-Ok.is) c.list.ensures in
    let p = printed_listed c.args.image.now (bytes_of c.args.image.now (λ i. (c.type_inv.image i).fits)) (omega arith) _ (search rules) _ d.0 in
    let few : c.in-Ok.n ≤ length c.list.new.keys = omega (arith, p.0) in
    let size : length (take c.in-Ok.n c.list.new.keys) ≡ c.in-Ok.n = omega (arith, length-take c.in-Ok.n c.list.new.keys) in
    put_all c.args.image.now c.args.out.now _ _ _ _
    (ap₂ (λ (n : ℕ) (b : List ℕ). admissions_word ++ field_of n 10 ++ rows 0 (take c.in-Ok.n b)) size d.1 ∙ p.1) (omega (arith, p.0, size)) c.put_listing.ensures
