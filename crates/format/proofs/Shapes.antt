-- Levels that hang together: each has as many nodes as the one above has on bits, and no node is 00.
-- Assumes nothing.
use mathlib.Core.Path.{◌≡◌, refl, sym, ap, ◌∙◌}
use mathlib.Core.Bool.{Bool, true, false, cond}
use mathlib.Core.List.{List, [], ◌∷◌, ◌++◌}
use Prim.Native.Nat.{ℕ, zero, suc, ◌+◌, ◌*◌, ◌/◌, ◌%◌, ◌^◌, ◌<◌, ◌≤◌}
use native.Mathlib.Nat.{pow-suc, zero-add}
use lib.ListN.{length, length-append}
use native.Mathlib.Omega.{arith}
use lib.Dec.{eqb}
use borrow.Author.Tests.{eqb-true}
use Rattle.format.specs.Seq.{cons_if}
use Rattle.format.specs.Trie.{add_to_first, below, bit_of, bits, descend, levels_over, nodes_over, on_bits, parents}
use Rattle.format.proofs.Trie.{Above, odd_head, Level, Fits, Halved, halved, Asc, Nodes, Shape, level, below_asc, length-below}

-- ---- the levels over a list hang together

-- the prefixes below levels, where r stand above them
abbrev pub last_on : ℕ → List (List ℕ) → ℕ
last_on r [] = r
last_on r (ns ∷ levels) = last_on (on_bits ns) levels

pub last_on_append : (r : ℕ) (ls ms : List (List ℕ)) → last_on r (ls ++ ms) ≡ last_on (last_on r ls) ms
last_on_append r [] ms = refl
last_on_append r (ns ∷ ls) ms = last_on_append (on_bits ns) ls ms

pub shape_append : (r : ℕ) (ls ms : List (List ℕ)) → Shape r ls → Shape (last_on r ls) ms → Shape r (ls ++ ms)
shape_append r [] ms s t = t
shape_append r (ns ∷ ls) ms s t = (s.0, s.1, shape_append (on_bits ns) ls ms s.2 t)

pub shape_left : (r : ℕ) (ls ms : List (List ℕ)) → Shape r (ls ++ ms) → Shape r ls
shape_left r [] ms s = tt
shape_left r (ns ∷ ls) ms s = (s.0, s.1, shape_left (on_bits ns) ls ms s.2)

pub shape_right : (r : ℕ) (ls ms : List (List ℕ)) → Shape r (ls ++ ms) → Shape (last_on r ls) ms
shape_right r [] ms s = s
shape_right r (ns ∷ ls) ms s = shape_right (on_bits ns) ls ms s.2

-- each node has one on bit or two
pub on_bits_bounds : (ns : List ℕ) → Nodes ns → (length ns ≤ on_bits ns) × (on_bits ns ≤ 2 * length ns)
unfolding on_bits bits
on_bits_bounds [] h = omega arith
on_bits_bounds (n ∷ ns) h = omega (arith, h.0, h.1, on_bits_bounds ns h.2)

pub last_on_grows : (r : ℕ) (ls : List (List ℕ)) → Shape r ls → r ≤ last_on r ls
last_on_grows r [] s = omega arith
last_on_grows r (ns ∷ ls) s = omega (arith, s.0, on_bits_bounds ns s.1, last_on_grows (on_bits ns) ls s.2)

pub record Over (x : ℕ) (xs : List ℕ) (ps ns : List ℕ) : Type 0 where
  pub same : length ns ≡ length ps
  pub nodes : Nodes ns
  pub on : on_bits ns ≡ suc (length xs)

pub over : (x : ℕ) (xs : List ℕ) → Above x xs → Over x xs (parents (x ∷ xs)) (nodes_over (x ∷ xs))
unfolding parents nodes_over bit_of on_bits bits add_to_first
over x [] h = record { same = refl; nodes = (omega arith, omega arith, tt); on = omega arith }
over x (y ∷ ys) h = go (eqb (x / 2) (y / 2)) refl (over y ys h.1)
  where
    go : (b : Bool) → eqb (x / 2) (y / 2) ≡ b → Over y ys (parents (y ∷ ys)) (nodes_over (y ∷ ys))
        → Over x (y ∷ ys) (cond b (parents (y ∷ ys)) (x / 2 ∷ parents (y ∷ ys))) (cond b (add_to_first (bit_of x) (nodes_over (y ∷ ys))) (bit_of x ∷ nodes_over (y ∷ ys)))
    go false e o = record { same = ap suc o.same; nodes = (omega arith, omega arith, o.nodes); on = omega (arith, o.on) }
    go true e o =
        let half : x / 2 ≡ y / 2 = eqb-true (x / 2) (y / 2) e in
        let (ps, ns, p, n) = odd_head y ys (omega arith) h.1 in
        two (parents (y ∷ ys)) (nodes_over (y ∷ ys)) ns (omega arith) n o
      where
        two : (P N ns : List ℕ) → x % 2 ≡ 0 → N ≡ 1 ∷ ns → Over y ys P N → Over x (y ∷ ys) P (add_to_first (bit_of x) N)
        two P N ns even n o =
            let same : suc (length ns) ≡ length P = ap length (sym n) ∙ o.same in
            let nodes : Nodes (1 ∷ ns) = rw n at o.nodes in
            let on : 1 / 2 + 1 % 2 + on_bits ns ≡ suc (length ys) = rw n at o.on in
            rw (n, even) (record { same = same; nodes = (omega arith, omega arith, nodes.2); on = omega arith })

pub record Formed (count : ℕ) (levels : List (List ℕ)) : Type 0 where
  pub shape : Shape 1 levels
  pub last : last_on 1 levels ≡ count

pub levels_formed : (n x : ℕ) (xs : List ℕ) → Above x xs → Fits n (x ∷ xs) → Formed (suc (length xs)) (levels_over n (x ∷ xs))
unfolding levels_over
levels_formed zero x [] a f = record { shape = tt; last = refl }
levels_formed zero x (y ∷ ys) a f = absurd (omega arith)
levels_formed (suc n) x xs a f =
    let h : Halved n x (parents (x ∷ xs)) = halved n x xs a f in
    let o = over x xs a in
    let t : Formed (length (parents (x ∷ xs))) (levels_over n (parents (x ∷ xs))) = rw h.is (levels_formed n (x / 2) h.rest h.above h.fits) in
    record {
      shape = shape_append 1 (levels_over n (parents (x ∷ xs))) (nodes_over (x ∷ xs) ∷ []) t.shape (o.same ∙ sym t.last, o.nodes, tt);
      last = last_on_append 1 (levels_over n (parents (x ∷ xs))) (nodes_over (x ∷ xs) ∷ []) ∙ o.on;
    }

pub length-levels_over : (n : ℕ) (xs : List ℕ) → length (levels_over n xs) ≡ n
unfolding levels_over
length-levels_over zero xs = refl
length-levels_over (suc n) xs = length-append (levels_over n (parents xs)) (nodes_over xs ∷ []) ∙ omega (arith, length-levels_over n (parents xs))

-- ---- what levels spell

fits_cons_if : (n x : ℕ) (b : Bool) (l : List ℕ) → x < 2 ^ n → Fits n l → Fits n (cons_if b x l)
unfolding cons_if
fits_cons_if n x true l h f = (h, f)
fits_cons_if n x false l h f = f

pub below_fits : (n : ℕ) (ps ns : List ℕ) → Fits n ps → Fits (suc n) (below ps ns)
unfolding below
below_fits n [] ns f = tt
below_fits n (p ∷ ps) [] f = tt
below_fits n (p ∷ ps) (m ∷ ns) f =
    fits_cons_if (suc n) (2 * p) (eqb (m / 2) 1) _ (omega (arith, pow-suc 2 n, f.0))
    (fits_cons_if (suc n) (2 * p + 1) (eqb (m % 2) 1) _ (omega (arith, pow-suc 2 n, f.0)) (below_fits n ps ns f.1))

pub record Keys (n count : ℕ) (xs : List ℕ) : Type 0 where
  pub asc : Asc xs
  pub fits : Fits n xs
  pub count_is : length xs ≡ count

pub descend_keys : (n : ℕ) (ps : List ℕ) (levels : List (List ℕ)) → Asc ps → Fits n ps → Shape (length ps) levels
    → Keys (length levels + n) (last_on (length ps) levels) (descend ps levels)
unfolding descend
descend_keys n ps [] a f s = rw (zero-add n) (record { asc = a; fits = f; count_is = refl })
descend_keys n ps (ns ∷ levels) a f s =
    let l : Level ps ns = level ps ns a s.0 s.1 in
    let e : suc (length levels) + n ≡ length levels + suc n = omega arith in
    rw (e, ← length-below ps ns l)
    (descend_keys (suc n) (below ps ns) levels (below_asc ps ns l) (below_fits n ps ns f) (rw (length-below ps ns l) s.2))
