-- The spots of the eight bands: what is kept of one band leaves the others'.
-- Assumes nothing.
use mathlib.Core.List.{List}
use mathlib.Core.Path.{◌≡◌, refl, sym, ap, subst, ◌∙◌}
use Prim.Native.Nat.{ℕ, ◌-◌, ◌≤◌}
use native.Mathlib.Decide.{ℕ_discrete}
use native.Mathlib.Omega.{arith}
use lib.ListN.{get_or, replicate, get_or-replicate, length-set}
use lib.Seq.{get_or-set_same, get_or-set_other}
use Rattle.subtries.specs.declared.spot.Spot.{Spot}
use Rattle.subtries.specs.declared.spot.TheConstants.{NO_SPOT}
use Rattle.subtries.specs.Spot.{Spots, Standing, spot_in, with_spot}

-- the spots after one band's was put
pub spots_keep : {img : List ℕ} {spots : List Spot} → Spots img spots → (b : ℕ) → 1 ≤ b → b ≤ 8 → {spot : Spot} → Standing img b spot → Spots img (with_spot spots b spot)
spots_keep {img} {spots} s b lo hi {spot} f = record { long = length-set spots (b - 1) spot ∙ s.long; each = each }
  where
    each : (c : ℕ) → 1 ≤ c → c ≤ 8 → Standing img c (spot_in (with_spot spots b spot) c)
    each c clo chi =
        elim (ℕ_discrete c b) [
          | yes q ↦ let there : spot ≡ spot_in (with_spot spots b spot) b = sym (get_or-set_same spots (b - 1) spot NO_SPOT (omega (arith, s.long))) in
              subst (λ (k : ℕ). Standing img k (spot_in (with_spot spots b spot) k)) (sym q) (subst (Standing img b) there f)
          | no q ↦ subst (Standing img c) (sym (get_or-set_other spots (b - 1) (c - 1) spot NO_SPOT (λ e. q (omega arith)))) (s.each c clo chi)
        ]

-- at the start no band has a spot
pub no_spots : (img : List ℕ) → Spots img (replicate 8 NO_SPOT)
no_spots img =
    record {
      long = refl;
      each = λ b lo hi h.
          let none : get_or (replicate 8 NO_SPOT) (b - 1) NO_SPOT ≡ NO_SPOT = get_or-replicate 8 (b - 1) NO_SPOT NO_SPOT (omega arith) in
          absurd (omega (arith, ap (λ (t : Spot). t.root.0) none, ap (λ (t : Spot). t.end.0) none));
    }
