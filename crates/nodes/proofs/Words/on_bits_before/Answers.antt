-- `nodes::Words::on_bits_before` meets its contract: the on bits before the node's word, and those of the word without its last bits. Assumes nothing.
use mathlib.Core.Path.{◌≡◌, ap, ap₂, ◌∙◌}
use Prim.Native.Nat.{ℕ, ◌+◌, ◌-◌, ◌*◌, ◌/◌, ◌^◌}
use native.Mathlib.Omega.{arith}
use lib.Count.{ones}
use lib.ListN.{get_or}
use lib.Pow.{shr-shr}
use Rattle.nodes.specs.Words.{ones_before}
use Rattle.nodes.proofs.Words.on_bits_before.Goals as goal

pub returns : goal.returns
unfolding ones_before
returns c =
    let w : ℕ = get_or c.args.self.now.word c.place_of-j.result.0 0 in
    let k : ℕ = c.place_of-j.result.1 in
    let e : 1 + (63 - 2 * k) ≡ 64 - 2 * k = omega arith in (
      ap₂ ◌+◌ c.from.ensures
          (c.ones_in.ensures.0 ∙ ap ones (shr-shr w 1 (63 - 2 * k) ∙ ap (λ (x : ℕ). w / 2 ^ x) e))
          ∙ rw (c.place_of-j.ensures.0, c.place_of-j.ensures.1),
      omega arith,
    )
