-- Greedy packing of subtries by their node counts, and that it is the only packing that 10 and 12 accept.
-- Assumes nothing.
use mathlib.Core.Path.{◌≡◌, refl, ap, ◌∙◌, subst}
use mathlib.Core.Bool.{Bool, true, false}
use mathlib.Core.List.{List, [], ◌∷◌, ◌++◌, map, flatten}
use Prim.Native.Nat.{ℕ, suc, ◌+◌, ◌≤◌, ◌<◌}
use native.Mathlib.Omega.{arith}
use lib.Dec.{leb}
use borrow.Author.Tests.{leb-true, leb-false, le-leb, lt-leb}
use lib.ListN.{length}
use Rattle.format.specs.Seq.{All, total}
use Rattle.format.specs.Writer.{pack, subtries_per_page}

-- ---- sizes in groups

-- the first size of a group
abbrev pub first : List ℕ → ℕ
first [] = 0
first (x ∷ xs) = x

-- after a page that holds t, the first size of the next page had no place
abbrev pub Closed : ℕ → List (List ℕ) → Type 0
Closed t [] = Unit {0}
Closed t (q ∷ qs) = 240 < first q + t

-- no page is empty, none has above 240 nodes, and each but the last is closed by the next one's first size
abbrev pub Packed : List (List ℕ) → Type 0
Packed [] = Unit {0}
Packed (p ∷ ps) = (1 ≤ length p) × (total p ≤ 240) × Closed (total p) ps × Packed ps

pack_joins : (n used x : ℕ) (xs : List ℕ) → used + x ≤ 240 → pack n used (x ∷ xs) ≡ pack (n + 1) (used + x) xs
unfolding pack
pack_joins n used x xs h = rw (le-leb (used + x) 240 h, pack)

pack-opens : (n used x : ℕ) (xs : List ℕ) → 240 < used + x → pack n used (x ∷ xs) ≡ n ∷ pack 1 x xs
unfolding pack
pack-opens n used x xs h = rw (lt-leb (used + x) 240 h, pack)

-- an open page of n subtries with used nodes takes the rest p of its group, and the groups ps come after it
pack_open : (ps : List (List ℕ)) → ((n used : ℕ) → used ≤ 240 → Closed used ps → pack n used (flatten ps) ≡ n ∷ map length ps)
    → (p : List ℕ) (n used : ℕ) → used + total p ≤ 240 → Closed (used + total p) ps → pack n used (p ++ flatten ps) ≡ (n + length p) ∷ map length ps
unfolding total
pack_open ps f [] n used h c =
    let e : n ≡ n + 0 = omega arith in
    f n used (omega arith) (subst (λ (t : ℕ). Closed t ps) (omega arith) c) ∙ ap (◌∷ map length ps) e
pack_open ps f (x ∷ p) n used h c =
    let e : n + 1 + length p ≡ n + suc (length p) = omega arith in
    pack_joins n used x (p ++ flatten ps) (omega arith)
    ∙ pack_open ps f p (n + 1) (used + x) (omega arith) (subst (λ (t : ℕ). Closed t ps) (omega arith) c)
    ∙ ap (◌∷ map length ps) e

pack-later : (ps : List (List ℕ)) → Packed ps → (n used : ℕ) → used ≤ 240 → Closed used ps → pack n used (flatten ps) ≡ n ∷ map length ps
unfolding pack flatten total
pack-later [] k n used h c = refl
pack-later ([] ∷ ps) k n used h c = absurd (omega (arith, k.0))
pack-later ((x ∷ p) ∷ ps) k n used h c =
    let e : 1 + length p ≡ suc (length p) = omega arith in
    pack-opens n used x (p ++ flatten ps) (omega arith)
    ∙ ap (n ∷◌) (pack_open ps (pack-later ps k.3) p 1 x k.1 k.2 ∙ ap (◌∷ map length ps) e)

-- Sizes in groups that are packed are the groups that the writer makes.
pub packed_only : (ps : List (List ℕ)) → Packed ps → subtries_per_page (flatten ps) ≡ map length ps
unfolding subtries_per_page flatten total
packed_only [] k = refl
packed_only ([] ∷ ps) k = absurd (omega (arith, k.0))
packed_only ((x ∷ p) ∷ ps) k =
    let e : 1 + length p ≡ suc (length p) = omega arith in
    pack_open ps (pack-later ps k.3) p 1 x k.1 k.2 ∙ ap (◌∷ map length ps) e

-- ---- and it makes such groups

record Groups (n used : ℕ) (sizes counts : List ℕ) : Type 0 where
  rest : List ℕ
  later : List (List ℕ)
  pub all : rest ++ flatten later ≡ sizes
  pub are : counts ≡ (n + length rest) ∷ map length later
  pub fits : used + total rest ≤ 240
  pub closed : Closed (used + total rest) later
  packed_later : Packed later

pack_groups : (n used : ℕ) (sizes : List ℕ) → used ≤ 240 → All (λ x. x ≤ 240) sizes → Groups n used sizes (pack n used sizes)
unfolding pack flatten total
pack_groups n used [] h a =
    let e : n ≡ n + 0 = omega arith in
    record { rest = []; later = []; all = refl; are = ap (◌∷ []) e; fits = omega arith; closed = tt; packed_later = tt }
pack_groups n used (x ∷ xs) h a = go (leb (used + x) 240) refl (λ k. pack_groups (n + 1) (used + x) xs k a.1) (pack_groups 1 x xs a.0 a.1)
  where
    go : (b : Bool) → leb (used + x) 240 ≡ b → (used + x ≤ 240 → Groups (n + 1) (used + x) xs (pack (n + 1) (used + x) xs)) → Groups 1 x xs (pack 1 x xs)
        → Groups n used (x ∷ xs) (pack n used (x ∷ xs))
    go true e f g =
        let k = leb-true (used + x) 240 e in
        let r = f k in
        let c : n + 1 + length r.rest ≡ n + suc (length r.rest) = omega arith in
        record {
          rest = x ∷ r.rest;
          later = r.later;
          all = ap (x ∷◌) r.all;
          are = pack_joins n used x xs k ∙ r.are ∙ ap (◌∷ map length r.later) c;
          fits = omega (arith, r.fits);
          closed = subst (λ (t : ℕ). Closed t r.later) (omega arith) r.closed;
          packed_later = r.packed_later;
        }
    go false e f g =
        let k = leb-false (used + x) 240 e in
        let c : n ≡ n + 0 = omega arith in
        let d : 1 + length g.rest ≡ suc (length g.rest) = omega arith in
        record {
          rest = [];
          later = (x ∷ g.rest) ∷ g.later;
          all = ap (x ∷◌) g.all;
          are = pack-opens n used x xs k ∙ (λ i. c i ∷ (g.are ∙ ap (◌∷ map length g.later) d) i);
          fits = omega arith;
          closed = omega arith;
          packed_later = (omega arith, g.fits, g.closed, g.packed_later);
        }

pub record Grouped (sizes counts : List ℕ) : Type 0 where
  pub groups : List (List ℕ)
  pub all : flatten groups ≡ sizes
  pub are : counts ≡ map length groups
  pub packed_groups : Packed groups

pub packed_grouped : (sizes : List ℕ) → All (λ x. x ≤ 240) sizes → Grouped sizes (subtries_per_page sizes)
unfolding subtries_per_page flatten total
packed_grouped [] a = record { groups = []; all = refl; are = refl; packed_groups = tt }
packed_grouped (x ∷ xs) a =
    let g = pack_groups 1 x xs a.0 a.1 in
    let d : 1 + length g.rest ≡ suc (length g.rest) = omega arith in
    record {
      groups = (x ∷ g.rest) ∷ g.later;
      all = ap (x ∷◌) g.all;
      are = g.are ∙ ap (◌∷ map length g.later) d;
      packed_groups = (omega arith, g.fits, g.closed, g.packed_later);
    }
