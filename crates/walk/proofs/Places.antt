-- Keys written into a buffer one after the other, as far as it has places.
-- Assumes nothing.
use mathlib.Core.List.{List, [], ◌∷◌, ◌++◌}
use mathlib.Core.Path.{◌≡◌, refl, sym, ap, ◌∙◌}
use Prim.Native.Nat.{ℕ, zero, suc, ◌+◌, ◌≤◌}
use native.Mathlib.Nat.{add-zero}
use native.Mathlib.Omega.{arith}
use lib.ListN.{length, drop, set, length-append}
use Rattle.walk.specs.Walk.{written, Listed}

written_both : (d : ℕ) (xs ys buffer : List ℕ) → written d (xs ++ ys) buffer ≡ written (d + length xs) ys (written d xs buffer)
unfolding written
written_both d [] ys buffer = ap (λ (n : ℕ). written n ys buffer) (sym (add-zero d))
written_both d (x ∷ xs) ys buffer =
    let e : suc d + length xs ≡ d + suc (length xs) = omega arith in
    written_both (suc d) xs ys (set buffer d x) ∙ ap (λ (n : ℕ). written n ys (written (suc d) xs (set buffer d x))) e

-- past the last place nothing is written
pub set_past : (l : List ℕ) (d x : ℕ) → length l ≤ d → set l d x ≡ l
set_past [] d x h = refl
set_past (y ∷ l) zero x h = absurd (omega arith)
set_past (y ∷ l) (suc d) x h = ap (y ∷◌) (set_past l d x (omega arith))

written-later : (d y : ℕ) (xs l : List ℕ) → written (suc d) xs (y ∷ l) ≡ y ∷ written d xs l
unfolding written
written-later d y [] l = refl
written-later d y (x ∷ xs) l = written-later (suc d) y xs (set l d x)

-- with a place for each
pub written_all : (xs buffer : List ℕ) → length xs ≤ length buffer → written 0 xs buffer ≡ xs ++ drop (length xs) buffer
unfolding written
written_all [] buffer h = refl
written_all (x ∷ xs) [] h = absurd (omega arith)
written_all (x ∷ xs) (y ∷ l) h = written-later 0 x xs l ∙ ap (x ∷◌) (written_all xs l (omega arith))

pub listed_none : {xs buffer : List ℕ} {d : ℕ} → xs ≡ [] → Listed xs buffer d buffer d
unfolding written
listed_none {xs} {buffer} {d} e = rw e (record { count = omega arith; holds = refl })

pub listed_one : {xs buffer : List ℕ} {d : ℕ} (k : ℕ) → xs ≡ k ∷ [] → Listed xs buffer d (set buffer d k) (d + 1)
unfolding written
listed_one {xs} {buffer} {d} k e = rw e (record { count = refl; holds = refl })

pub listed_both : {zs xs ys buffer₀ buffer₁ buffer₂ : List ℕ} {d n m : ℕ} → zs ≡ xs ++ ys → Listed xs buffer₀ d buffer₁ n → Listed ys buffer₁ n buffer₂ m → Listed zs buffer₀ d buffer₂ m
listed_both {zs} {xs} {ys} {buffer₀} {buffer₁} {buffer₂} {d} {n} {m} e p q =
    record {
      count = omega (arith, p.count, q.count, ap length e, length-append xs ys);
      holds = q.holds ∙ ap (λ (k : ℕ). written k ys buffer₁) p.count ∙ ap (written (d + length xs) ys) p.holds ∙ sym (ap (λ (l : List ℕ). written d l buffer₀) e ∙ written_both d xs ys buffer₀);
    }
