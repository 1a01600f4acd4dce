-- Numbers put into bytes at places one after the other: what stays, and what stands there then.
-- Assumes nothing.
use mathlib.Core.Path.{◌≡◌, refl, sym, ap, ◌∙◌}
use mathlib.Core.Bool.{true}
use mathlib.Core.List.{List, [], ◌∷◌, ◌++◌, map, flat_map}
use Prim.Native.Nat.{ℕ, zero, suc, ◌+◌, ◌/◌, ◌%◌, ◌≤◌, ◌<◌}
use native.Mathlib.Nat.{add-zero}
use native.Mathlib.Numerals.{add-one}
use native.Mathlib.Omega.{arith}
use lib.ListN.{length, get_or, set, length-set}
use lib.Seq.{get_or-set_other, get_or-set_same, length-sets, set-append_left}
use Rattle.format.specs.Seq.{All, numbers_from}
use Rattle.format.specs.Page.{Byte, number_at, two_bytes}
use Rattle.format.proofs.Lists.{all_set, all_to}
use Rattle.repair.specs.Kept.{Agree, kept}
use Rattle.repair.specs.Numbers.{put_number, put_numbers}
use Rattle.repair.proofs.Agreeing.{Kept, of_kept}

-- ---- one number

pub length_put : (l : List ℕ) (n : ℕ × ℕ) → length (put_number l n) ≡ length l
unfolding put_number
length_put l n = length-sets l n.0 (two_bytes (n.1 % 65536))

-- a place that is neither of a number's two
abbrev Apart : ℕ → ℕ × ℕ → Type 0
Apart j n = (j ≡ n.0 → ⊥) × (j ≡ suc n.0 → ⊥)

put_apart : (l : List ℕ) (n : ℕ × ℕ) (j : ℕ) → Apart j n → get_or (put_number l n) j 0 ≡ get_or l j 0
unfolding put_number two_bytes
put_apart l n j (a, b) = get_or-set_other (set l n.0 (n.1 % 65536 / 256)) (suc n.0) j (n.1 % 65536 % 256) 0 b ∙ get_or-set_other l n.0 j (n.1 % 65536 / 256) 0 a

-- the number's two bytes stand at its place
pub record Stands (l : List ℕ) (n : ℕ × ℕ) : Type 0 where
  pub first : get_or l n.0 0 ≡ n.1 % 65536 / 256
  pub second : get_or l (suc n.0) 0 ≡ n.1 % 65536 % 256

put_stands : (l : List ℕ) (n : ℕ × ℕ) → n.0 + 2 ≤ length l → Stands (put_number l n) n
unfolding put_number two_bytes
put_stands l n h =
    let at = n.0 in
    let x = n.1 % 65536 in
    record {
      first = get_or-set_other (set l at (x / 256)) (suc at) at (x % 256) 0 (λ z. omega arith) ∙ get_or-set_same l at (x / 256) 0 (omega arith);
      second = get_or-set_same (set l at (x / 256)) (suc at) (x % 256) 0 (omega (arith, length-set l at (x / 256)));
    }

pub stands_number : {l : List ℕ} {n : ℕ × ℕ} → Stands l n → number_at l n.0 ≡ n.1 % 65536
unfolding number_at
stands_number {l} {n} s = omega (arith, s.first, s.second, ap (λ (j : ℕ). get_or l j 0) (add-one n.0))

-- bytes stay bytes
put_bytes : (l : List ℕ) (n : ℕ × ℕ) → All Byte l → All Byte (put_number l n)
unfolding put_number two_bytes
put_bytes l n h = let x = n.1 % 65536 in all_set Byte (set l n.0 (x / 256)) (suc n.0) (x % 256) (all_set Byte l n.0 (x / 256) h (omega arith)) (omega arith)

-- ---- some numbers

pub length_puts : (l : List ℕ) (ns : List (ℕ × ℕ)) → length (put_numbers l ns) ≡ length l
unfolding put_numbers
length_puts l [] = refl
length_puts l (n ∷ ns) = length_puts (put_number l n) ns ∙ length_put l n

pub puts_bytes : (l : List ℕ) (ns : List (ℕ × ℕ)) → All Byte l → All Byte (put_numbers l ns)
unfolding put_numbers
puts_bytes l [] h = h
puts_bytes l (n ∷ ns) h = puts_bytes (put_number l n) ns (put_bytes l n h)

pub puts_append : (l : List ℕ) (ms ns : List (ℕ × ℕ)) → put_numbers l (ms ++ ns) ≡ put_numbers (put_numbers l ms) ns
unfolding put_numbers
puts_append l [] ns = refl
puts_append l (m ∷ ms) ns = puts_append (put_number l m) ms ns

puts_apart : (l : List ℕ) (ns : List (ℕ × ℕ)) (j : ℕ) → All (Apart j) ns → get_or (put_numbers l ns) j 0 ≡ get_or l j 0
unfolding put_numbers
puts_apart l [] j h = refl
puts_apart l (n ∷ ns) j h = puts_apart (put_number l n) ns j h.1 ∙ put_apart l n j h.0

-- ---- at places that are not kept: the kept bytes stay

abbrev pub Loose : ℕ × ℕ → Type 0
Loose n = (Kept n.0 → ⊥) × (Kept (suc n.0) → ⊥)

pub puts_agree : (l : List ℕ) (ns : List (ℕ × ℕ)) → All Loose ns → Agree l (put_numbers l ns)
puts_agree l ns h =
    record {
      size = sym (length_puts l ns);
      same = λ i k. sym (puts_apart l ns i (all_to Loose (Apart i) (λ n f. (λ e. f.0 (kept_at i n.0 e k), λ e. f.1 (kept_at i (suc n.0) e k))) ns h));
    }
  where
    kept_at : (i j : ℕ) → i ≡ j → kept i ≡ true → Kept j
    kept_at i j e k = rw e at (of_kept i k)

-- ---- at ascending places, from lo on and all before hi: each number stands there then

abbrev pub Between : ℕ → ℕ → List (ℕ × ℕ) → Type 0
Between lo hi [] = lo ≤ hi
Between lo hi (n ∷ ns) = (lo ≤ n.0) × Between (n.0 + 2) hi ns

between_order : (lo hi : ℕ) (ns : List (ℕ × ℕ)) → Between lo hi ns → lo ≤ hi
between_order lo hi [] h = h
between_order lo hi (n ∷ ns) h = omega (arith, h.0, between_order (n.0 + 2) hi ns h.1)

below_apart : (j lo hi : ℕ) (ns : List (ℕ × ℕ)) → Between lo hi ns → j < lo → All (Apart j) ns
below_apart j lo hi [] h k = tt
below_apart j lo hi (n ∷ ns) h k = let lo-le = h.0 in ((λ z. omega arith, λ z. omega arith), below_apart j (n.0 + 2) hi ns h.1 (omega arith))

pub puts_stand : (l : List ℕ) (lo hi : ℕ) (ns : List (ℕ × ℕ)) → Between lo hi ns → hi ≤ length l → All (Stands (put_numbers l ns)) ns
unfolding put_numbers
puts_stand l lo hi [] b h = tt
puts_stand l lo hi (n ∷ ns) b h =
    let s = put_stands l n (omega (arith, between_order (n.0 + 2) hi ns b.1)) in (
      record {
        first = puts_apart (put_number l n) ns n.0 (below_apart n.0 (n.0 + 2) hi ns b.1 (omega arith)) ∙ s.first;
        second = puts_apart (put_number l n) ns (suc n.0) (below_apart (suc n.0) (n.0 + 2) hi ns b.1 (omega arith)) ∙ s.second;
      },
      puts_stand (put_number l n) (n.0 + 2) hi ns b.1 (omega (arith, length_put l n)),
    )

-- what stands past them is as it was
put_front : (l rest : List ℕ) (n : ℕ × ℕ) → n.0 + 2 ≤ length l → put_number (l ++ rest) n ≡ put_number l n ++ rest
unfolding put_number two_bytes
put_front l rest n h =
    let x = n.1 % 65536 in
    ap (λ (m : List ℕ). set m (suc n.0) (x % 256)) (set-append_left l rest n.0 (x / 256) (omega arith))
    ∙ set-append_left (set l n.0 (x / 256)) rest (suc n.0) (x % 256) (omega (arith, length-set l n.0 (x / 256)))

pub puts_front : (l rest : List ℕ) (lo hi : ℕ) (ns : List (ℕ × ℕ)) → Between lo hi ns → hi ≤ length l → put_numbers (l ++ rest) ns ≡ put_numbers l ns ++ rest
unfolding put_numbers
puts_front l rest lo hi [] b h = refl
puts_front l rest lo hi (n ∷ ns) b h =
    ap (λ (m : List ℕ). put_numbers m ns) (put_front l rest n (omega (arith, between_order (n.0 + 2) hi ns b.1)))
    ∙ puts_front (put_number l n) rest (n.0 + 2) hi ns b.1 (omega (arith, length_put l n))

-- ---- ascending places one after the other

pub between_lower : (lo mid hi : ℕ) (ns : List (ℕ × ℕ)) → lo ≤ mid → Between mid hi ns → Between lo hi ns
between_lower lo mid hi [] h b = omega arith
between_lower lo mid hi (n ∷ ns) h b = let k = b.0 in (omega arith, b.1)

pub between-map : (g : ℕ → ℕ) (f : ℕ → ℕ × ℕ) (s n : ℕ) → ((t : ℕ) → s ≤ t → t < s + n → (g t ≤ (f t).0) × ((f t).0 + 2 ≤ g (suc t))) → Between (g s) (g (s + n)) (map f (numbers_from s n))
unfolding numbers_from
between-map g f s zero h = omega (arith, ap g (add-zero s))
between-map g f s (suc n) h =
    let e : s + suc n ≡ suc s + n = omega arith in
    let here = h s (omega arith) (omega arith) in
    rw e (here.0, between_lower ((f s).0 + 2) (g (suc s)) (g (suc s + n)) (map f (numbers_from (suc s) n)) here.1 (between-map g f (suc s) n (λ t lo hi. h t (omega arith) (omega arith))))

pub between-append : (lo mid hi : ℕ) (ms ns : List (ℕ × ℕ)) → Between lo mid ms → Between mid hi ns → Between lo hi (ms ++ ns)
between-append lo mid hi [] ns a b = between_lower lo mid hi ns a b
between-append lo mid hi (m ∷ ms) ns a b = (a.0, between-append (m.0 + 2) mid hi ms ns a.1 b)

pub between-flat_map : (g : ℕ → ℕ) (f : ℕ → List (ℕ × ℕ)) (s n : ℕ) → ((t : ℕ) → s ≤ t → t < s + n → Between (g t) (g (suc t)) (f t)) → Between (g s) (g (s + n)) (flat_map f (numbers_from s n))
unfolding flat_map numbers_from
between-flat_map g f s zero h = omega (arith, ap g (add-zero s))
between-flat_map g f s (suc n) h =
    let e : s + suc n ≡ suc s + n = omega arith in
    rw e (between-append (g s) (g (suc s)) (g (suc s + n)) (f s) (flat_map f (numbers_from (suc s) n)) (h s (omega arith) (omega arith)) (between-flat_map g f (suc s) n (λ t lo hi. h t (omega arith) (omega arith))))
