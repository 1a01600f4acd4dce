-- `writer::fill_image` meets its contract. Assumes nothing.
use mathlib.Core.Path.{refl}
use native.Mathlib.Omega.{arith}
use Rattle.writer.proofs.Job.{plan_no_room, plan_room, plan_written}
use Rattle.writer.proofs.fill_image.Goals as goal

pub returns-then-out-length : goal.returns-then-out-length
returns-then-out-length c = (plan_no_room _ c.args.out.now c.args.plan.now c.requires (omega arith), refl)

pub fill_bands-requires : goal.fill_bands-requires
fill_bands-requires c =
    plan_room _ c.args.out.now c.args.plan.now c.requires (omega arith) _ c.fill_header.auto.out

pub returns : goal.returns
returns c = (
  plan_written _ c.args.out.now c.args.plan.now c.requires (omega arith) _ _ c.fill_header.ensures c.fill_bands.ensures.bytes,
  c.fill_bands.ensures.memory,
)
