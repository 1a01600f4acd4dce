-- How a block lies to a rectangle, from how its holders and its slots lie to the two ranges.
-- Assumes nothing.
use mathlib.Core.Logic.{⊎_elim}
use mathlib.Core.Path.{◌≡◌, refl, sym, ap, ap₂, ◌∙◌}
use Prim.Native.Nat.{ℕ, ◌+◌, ◌-◌, ◌*◌, ◌%◌, ◌^◌, ◌≤◌, ◌<◌}
use native.Mathlib.Nat.{mod-eq_of_lt, pow-le-pow_right}
use native.Mathlib.Omega.{arith}
use Rattle.format.specs.declared.Rectangle.{Rectangle}
use Rattle.format.specs.Key.{holder_of, slot_of}
use Rattle.format.specs.Cell.{Apart as CellApart, before_holders, after_holders, before_slots, after_slots}
use Rattle.walk.specs.declared.block.Block.{Block}
use Rattle.walk.specs.declared.block.Place.{Place}
use Rattle.walk.specs.declared.block.Place.TheVariants.{Apart, Inside, Across}
use Rattle.walk.specs.contracts.block.PlaceOrd.TheImpl.{cmp-value}
use Rattle.std.specs.Ordering.{ord_min}
use Rattle.walk.specs.Block.{BlockOf, RangeRight, PlaceRight}
use Rattle.walk.proofs.Blocks.{holder_low, holder_high, slot_low, slot_high, holder_end, slot_end}
use Rattle.walk.proofs.Endings.{power_positive}

-- ---- a block

-- a number shifted to the left, and the one before the next such number, as numbers of 32 bits
abbrev pub first_of : ℕ → ℕ → ℕ
first_of n h = n * 2 ^ h % 4294967296

abbrev pub last_of : ℕ → ℕ → ℕ
last_of n h = n * 2 ^ h % 4294967296 + (1 * 2 ^ h % 4294967296 - 1)

module _ {h : ℕ} (le : h ≤ 16) where
  pub one_is : 1 * 2 ^ h % 4294967296 ≡ 2 ^ h
  one_is =
      let e : 1 * 2 ^ h ≡ 2 ^ h = omega arith in
      ap (◌% 4294967296) e ∙ mod-eq_of_lt (omega (arith, pow-le-pow_right {n = 2} (omega arith) {i = h} {j = 16} le))

  pub one_some : 1 ≤ 1 * 2 ^ h % 4294967296
  one_some = omega (arith, one_is, power_positive h)

  module _ {block : Block} (o : BlockOf block) (short : block.prefix < 2 ^ (32 - 2 * h)) where
    holder-ends : block.holder * 2 ^ h + 2 ^ h ≤ 65536
    holder-ends = omega (arith, holder_end h block.prefix le short, ap (◌* 2 ^ h) o.holder_is)

    slot-ends : block.slot * 2 ^ h + 2 ^ h ≤ 65536
    slot-ends = omega (arith, slot_end h block.prefix le short, ap (◌* 2 ^ h) o.slot_is)

    pub holder_fits : last_of block.holder h < 4294967296
    holder_fits = omega (arith, one_is, holder-ends, mod-eq_of_lt {n = block.holder * 2 ^ h} {m = 4294967296} (omega (arith, holder-ends)))

    pub slot_fits : last_of block.slot h < 4294967296
    slot_fits = omega (arith, one_is, slot-ends, mod-eq_of_lt {n = block.slot * 2 ^ h} {m = 4294967296} (omega (arith, slot-ends)))

    first-holder : first_of block.holder h ≡ holder_of (block.prefix * 2 ^ (2 * h))
    first-holder = mod-eq_of_lt (omega (arith, holder-ends)) ∙ ap (◌* 2 ^ h) o.holder_is ∙ sym (holder_low h block.prefix le short)

    last-holder : last_of block.holder h ≡ holder_of (block.prefix * 2 ^ (2 * h) + (2 ^ (2 * h) - 1))
    last-holder = ap₂ (λ (m n : ℕ). m + (n - 1)) (mod-eq_of_lt (omega (arith, holder-ends))) one_is ∙ ap (λ (m : ℕ). m * 2 ^ h + (2 ^ h - 1)) o.holder_is ∙ sym (holder_high h block.prefix le short)

    first_slot : first_of block.slot h ≡ slot_of (block.prefix * 2 ^ (2 * h))
    first_slot = mod-eq_of_lt (omega (arith, slot-ends)) ∙ ap (◌* 2 ^ h) o.slot_is ∙ sym (slot_low h block.prefix le short)

    last-slot : last_of block.slot h ≡ slot_of (block.prefix * 2 ^ (2 * h) + (2 ^ (2 * h) - 1))
    last-slot = ap₂ (λ (m n : ℕ). m + (n - 1)) (mod-eq_of_lt (omega (arith, slot-ends))) one_is ∙ ap (λ (m : ℕ). m * 2 ^ h + (2 ^ h - 1)) o.slot_is ∙ sym (slot_high h block.prefix le short)

    module _ (rectangle : Rectangle) where
      pub apart_by_holder : {p : Place} → RangeRight rectangle.holders (first_of block.holder h) (last_of block.holder h) p → p ≡ Apart → CellApart rectangle (2 * h) block.prefix
      apart_by_holder r e =
          ⊎_elim (λ (a : last_of block.holder h < rectangle.holders.low). before_holders (omega (arith, last-holder)))
          (λ (a : rectangle.holders.high < first_of block.holder h). after_holders (omega (arith, first-holder))) (rw e at r)

      apart_by_slot : RangeRight rectangle.slots (first_of block.slot h) (last_of block.slot h) Apart → CellApart rectangle (2 * h) block.prefix
      apart_by_slot r =
          ⊎_elim (λ (a : last_of block.slot h < rectangle.slots.low). before_slots (omega (arith, last-slot)))
          (λ (a : rectangle.slots.high < first_of block.slot h). after_slots (omega (arith, first_slot))) r

      inside-both : RangeRight rectangle.holders (first_of block.holder h) (last_of block.holder h) Inside → RangeRight rectangle.slots (first_of block.slot h) (last_of block.slot h) Inside
          → PlaceRight rectangle (2 * h) block.prefix Inside
      inside-both r s =
          record { from_holder = omega (arith, first-holder, r.0); to_holder = omega (arith, last-holder, r.1); from_slot = omega (arith, first_slot, s.0); to_slot = omega (arith, last-slot, s.1) }

      -- the block lies as its holders or its slots do, whichever lie further out
      pub further_out : (a b : Place) → RangeRight rectangle.holders (first_of block.holder h) (last_of block.holder h) a → RangeRight rectangle.slots (first_of block.slot h) (last_of block.slot h) b
          → PlaceRight rectangle (2 * h) block.prefix (ord_min cmp-value.it a b)
      further_out Apart Apart r s = apart_by_holder r refl
      further_out Apart Across r s = apart_by_holder r refl
      further_out Apart Inside r s = apart_by_holder r refl
      further_out Across Apart r s = apart_by_slot s
      further_out Across Across r s = tt
      further_out Across Inside r s = tt
      further_out Inside Apart r s = apart_by_slot s
      further_out Inside Across r s = tt
      further_out Inside Inside r s = inside-both r s
