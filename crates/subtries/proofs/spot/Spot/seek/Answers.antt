-- `subtries::spot::Spot::seek` meets its contract. Assumes nothing.
use mathlib.Core.Path.{sym, subst}
use Prim.Native.Nat.{ℕ, ◌<◌}
use native.Mathlib.Omega.{arith}
use Rattle.format.specs.Image.{root_count}
use Rattle.subtries.specs.Spot.{SpotAt}
use Rattle.pages.proofs.Pages.{header_long}
use Rattle.subtries.proofs.spot.Spot.seek.Goals as goal

pub skip-requires : goal.skip-requires
skip-requires c =
    let p = c.requires in (p.0, p.1, p.2, p.4 (omega arith), omega arith, c.if-root-self.true)

pub first_page-first-requires : goal.first_page-first-requires
first_page-first-requires c = let p = c.requires in (header_long p.0, p.1, p.2)

pub of_root-requires : goal.of_root-requires
of_root-requires c =
    let b = c.read-band.ensures in
    (c.requires.0, b.0, subst (λ (n : ℕ). c.args.root.0 < root_count c.args.image.now n) (sym b.1) c.requires.3)

pub returns : goal.returns
returns c =
    let f = c.of_root.ensures in
    (subst (λ (n : ℕ). SpotAt c.args.image.now n c.of_root.result) c.read-band.ensures.1 f.0, f.1)
