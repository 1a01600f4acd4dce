-- Weaving and unweaving undo each other; spreads and gathered bits in parts; sizes.
-- Assumes nothing.
use mathlib.Core.Path.{◌≡◌, sym, ap, ap₂, ◌∙◌}
use Prim.Native.Nat.{ℕ, zero, suc, ◌+◌, ◌*◌, ◌/◌, ◌%◌, ◌^◌, ◌<◌}
use native.Mathlib.Nat.{pow-suc, pow-succ', mul_assoc, mul_left_comm, div-div-eq-div-mul, zero-add, suc-add}
use native.Mathlib.Omega.{arith}
use Rattle.format.specs.Key.{gather, holder_of, key_of, slot_of, spread}

-- the key of d bits of each
abbrev weave : ℕ → ℕ → ℕ → ℕ
weave d h s = 2 * spread d h + spread d s

weave_suc : (d h s : ℕ) → weave (suc d) h s ≡ 4 * weave d (h / 2) (s / 2) + 2 * (h % 2) + s % 2
unfolding spread
weave_suc d h s = omega arith

slot_back : (d h s : ℕ) → s < 2 ^ d → gather d (weave d h s) ≡ s
unfolding gather
slot_back zero h s f = omega arith
slot_back (suc d) h s f =
    let e : weave (suc d) h s ≡ 4 * weave d (h / 2) (s / 2) + 2 * (h % 2) + s % 2 = weave_suc d h s in
    let q : weave (suc d) h s / 4 ≡ weave d (h / 2) (s / 2) = omega arith in
    let ih : gather d (weave d (h / 2) (s / 2)) ≡ s / 2 = slot_back d (h / 2) (s / 2) (omega (arith, pow-suc 2 d)) in
    rw (q, ih) (omega arith)

holder_back : (d h s : ℕ) → h < 2 ^ d → gather d (weave d h s / 2) ≡ h
unfolding gather
holder_back zero h s f = omega arith
holder_back (suc d) h s f =
    let e : weave (suc d) h s ≡ 4 * weave d (h / 2) (s / 2) + 2 * (h % 2) + s % 2 = weave_suc d h s in
    let q : weave (suc d) h s / 2 / 4 ≡ weave d (h / 2) (s / 2) / 2 = omega arith in
    let ih : gather d (weave d (h / 2) (s / 2) / 2) ≡ h / 2 = holder_back d (h / 2) (s / 2) (omega (arith, pow-suc 2 d)) in
    rw (q, ih) (omega arith)

weave_back : (d k : ℕ) → k < 4 ^ d → weave d (gather d (k / 2)) (gather d k) ≡ k
unfolding spread gather
weave_back zero k f = omega arith
weave_back (suc d) k f =
    let g : ℕ = gather (suc d) k in
    let g' : ℕ = gather (suc d) (k / 2) in
    let half : g / 2 ≡ gather d (k / 4) = omega arith in
    let swap : k / 2 / 4 ≡ k / 4 / 2 = omega arith in
    let half' : g' / 2 ≡ gather d (k / 4 / 2) = rw (← swap) (omega arith) in
    let ih : weave d (gather d (k / 4 / 2)) (gather d (k / 4)) ≡ k / 4 = weave_back d (k / 4) (omega (arith, pow-suc 4 d)) in
    let in-half : weave d (g' / 2) (g / 2) ≡ k / 4 = ap₂ (weave d) half' half ∙ ih in
    weave_suc d g' g ∙ omega arith

pub slot_of_key_of : (h s : ℕ) → s < 65536 → slot_of (key_of h s) ≡ s
unfolding slot_of key_of
slot_of_key_of h s f = slot_back 16 h s f

pub holder_of_key_of : (h s : ℕ) → h < 65536 → holder_of (key_of h s) ≡ h
unfolding holder_of key_of
holder_of_key_of h s f = holder_back 16 h s f

pub key_of_back : (k : ℕ) → k < 4294967296 → key_of (holder_of k) (slot_of k) ≡ k
unfolding holder_of slot_of key_of
key_of_back k f = weave_back 16 k f

-- no two admissions have one key
pub key_of_injective : (h s h' s' : ℕ) → h < 65536 → s < 65536 → h' < 65536 → s' < 65536 → key_of h s ≡ key_of h' s' → (h ≡ h') × (s ≡ s')
key_of_injective h s h' s' fh fs fh' fs' e = (
  sym (holder_of_key_of h s fh) ∙ ap holder_of e ∙ holder_of_key_of h' s' fh',
  sym (slot_of_key_of h s fs) ∙ ap slot_of e ∙ slot_of_key_of h' s' fs',
)

-- ---- in parts

-- the spread of a number in two parts, the lower of m bits: the spread of each, the higher one 2 m places up
pub spread_join : (m n high low : ℕ) → low < 2 ^ m → spread (m + n) (high * 2 ^ m + low) ≡ spread n high * 4 ^ m + spread m low
unfolding spread
spread_join zero n high low l =
    let e : high * 2 ^ 0 + low ≡ high = omega arith in
    let f = ap (spread n) e in
    rw zero-add (omega arith)
spread_join (suc m) n high low l =
    let p : high * 2 ^ suc m ≡ 2 * (high * 2 ^ m) = ap (λ (q : ℕ). high * q) (pow-succ' 2 m) ∙ mul_left_comm high 2 (2 ^ m) in
    let q : spread n high * 4 ^ suc m ≡ 4 * (spread n high * 4 ^ m) = ap (λ (r : ℕ). spread n high * r) (pow-succ' 4 m) ∙ mul_left_comm (spread n high) 4 (4 ^ m) in
    let e : (high * 2 ^ suc m + low) / 2 ≡ high * 2 ^ m + low / 2 = omega arith in
    let ih = spread_join m n high (low / 2) (omega (arith, pow-succ' 2 m)) in
    let g = ap (spread (m + n)) e ∙ ih in
    rw suc-add (omega arith)

-- the spread of 16 bits is made of the spreads of the two bytes
pub spread_bytes : (x : ℕ) → spread 8 (x / 256) * 65536 + spread 8 (x % 256) ≡ spread 16 x
spread_bytes x = sym (spread_join 8 8 (x / 256) (x % 256) (omega arith)) ∙ ap (spread 16) (omega arith)

-- m gathered bits, and n more from 2 m places up
pub gather-join : (m n k : ℕ) → gather (m + n) k ≡ gather m k + 2 ^ m * gather n (k / 4 ^ m)
unfolding gather
gather-join zero n k =
    let e : k / 4 ^ 0 ≡ k = omega arith in
    let f = ap (gather n) e in
    rw zero-add (omega arith)
gather-join (suc m) n k =
    let e : k / 4 ^ suc m ≡ k / 4 / 4 ^ m = ap (λ (p : ℕ). k / p) (pow-succ' 4 m) ∙ sym (div-div-eq-div-mul k 4 (4 ^ m)) in
    let ih = gather-join m n (k / 4) in
    let p : 2 ^ suc m * gather n (k / 4 / 4 ^ m) ≡ 2 * (2 ^ m * gather n (k / 4 / 4 ^ m)) = ap (λ (q : ℕ). q * gather n (k / 4 / 4 ^ m)) (pow-succ' 2 m) ∙ mul_assoc 2 (2 ^ m) (gather n (k / 4 / 4 ^ m)) in
    rw (suc-add, e) (omega arith)

-- ---- sizes

-- three times a spread is below 4 ^ n: so twice one and another stay below it too
pub spread_small : (n x : ℕ) → 3 * spread n x < 4 ^ n
unfolding spread
spread_small zero x = omega arith
spread_small (suc n) x = let ih = spread_small n (x / 2) in omega (arith, pow-succ' 4 n)

weave_small : (d h s : ℕ) → weave d h s < 4 ^ d
unfolding spread
weave_small zero h s = omega arith
weave_small (suc d) h s = omega (arith, weave_suc d h s, weave_small d (h / 2) (s / 2), pow-suc 4 d)

pub key_of_small : (h s : ℕ) → key_of h s < 4294967296
unfolding key_of
key_of_small h s = weave_small 16 h s

pub gather_small : (d n : ℕ) → gather d n < 2 ^ d
unfolding gather
gather_small zero n = omega arith
gather_small (suc d) n = omega (arith, gather_small d (n / 4), pow-suc 2 d)

pub holder_of_small : (k : ℕ) → holder_of k < 65536
unfolding holder_of
holder_of_small k = gather_small 16 (k / 2)

pub slot_of_small : (k : ℕ) → slot_of k < 65536
unfolding slot_of
slot_of_small k = gather_small 16 k
