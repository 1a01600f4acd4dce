-- `gate::scan` meets its contract. Assumes nothing.
use mathlib.Core.Path.{sym}
use native.Mathlib.Omega.{arith}
use Rattle.std.proofs.lemmas.Result.{err_from_is_err_and}
use Rattle.format.proofs.Histories.{records_fit}
use Rattle.format.proofs.Questions.{yes_of_none}
use Rattle.format.proofs.LookupAnswers.{header_long, image_accepted}
use Rattle.nodes.proofs.Numbers.{bytes_of}
use Rattle.gate.proofs.Scans.{gate_refused, gate_yes, image_refused, rank_below, scanned_yes}
use Rattle.gate.proofs.scan.Goals as goal

-- a refused image
pub returns-in_err-found : goal.returns-in_err-found
returns-in_err-found c =
    let p = err_from_is_err_and c.from_residual.result c.from_residual.ensures.1 in
    rw (p.1, p.2) (image_refused _ _ _ _ _ _ _ _ _ c.in_err-found.ensures)

-- ---- 36, 29 and 21 to 24

pub at_gate-requires : goal.at_gate-requires
at_gate-requires c = header_long _ _ _ _ (sym c.in_ok-found.ensures)

pub returns-in_err-rank : goal.returns-in_err-rank
returns-in_err-rank c =
    let p = err_from_is_err_and c.from_residual-in_err-rank.result c.from_residual-in_err-rank.ensures.1 in
    let e = rw c.rank.ensures at c.in_err-rank.ensures in
    rw (p.1, p.2) (gate_refused _ _ _ _ _ _ _ _ _ c.in_ok-found.ensures _ e)

-- ---- the lane, the records and the time fit

pub key_count-keys-requires : goal.key_count-keys-requires
key_count-keys-requires c = header_long _ _ _ _ (sym c.in_ok-found.ensures)

pub holder_record-last-requires : goal.holder_record-last-requires
holder_record-last-requires c =
    let fit = records_fit _ _ _ _ _ _ (yes_of_none _ (gate_yes c.args.lift c.args.image.now c.args.records.now c.args.lane c.args.holder c.args.slot c.args.time c.args.lockout _ c.in_ok-found.ensures _ (rw c.rank.ensures at c.in_ok-rank.ensures))) in
    let accepted = image_accepted _ _ _ _ (sym c.in_ok-found.ensures) (bytes_of c.args.image.now (λ i. (c.type_inv.image i).fits)) in
    (accepted, omega (arith, fit.size))

-- and the rank is below the key count
pub admit-requires : goal.admit-requires
admit-requires c =
    let e = rw c.rank.ensures at c.in_ok-rank.ensures in
    let below = rank_below c.args.lift c.args.image.now c.args.records.now c.args.lane c.args.holder c.args.slot c.args.time c.args.lockout _ c.in_ok-found.ensures _ e (bytes_of c.args.image.now (λ i. (c.type_inv.image i).fits)) in (
      c.key_count-keys.ensures.1,
      omega (arith, c.key_count-keys.ensures.0, below),
      rw c.key_count-keys.ensures.0 (records_fit _ _ _ _ _ _ (yes_of_none _ (gate_yes c.args.lift c.args.image.now c.args.records.now c.args.lane c.args.holder c.args.slot c.args.time c.args.lockout _ c.in_ok-found.ensures _ e))),
    )

pub returns : goal.returns
returns c =
    scanned_yes c.args.lift c.args.image.now c.args.records.now c.args.lane c.args.holder c.args.slot c.args.time c.args.lockout _ c.in_ok-found.ensures _ (rw c.rank.ensures at c.in_ok-rank.ensures) _ _ c.key_count-keys.ensures.0
    c.ranges.holder.fits c.holder_record-last.ensures _ _ c.admit.ensures
