-- Levels and the keys they spell, both ways: the levels of ascending keys spell the keys, and levels that hang together come back from what they spell.
-- Assumes nothing.
use mathlib.Core.Path.{◌≡◌, refl, sym, ap, ap₂, ◌∙◌}
use mathlib.Core.Bool.{Bool, true, false, cond}
use mathlib.Core.List.{List, [], ◌∷◌, ◌++◌, append-nil, append_assoc}
use Prim.Native.Nat.{ℕ, zero, suc, ◌+◌, ◌*◌, ◌/◌, ◌%◌, ◌^◌, ◌<◌, ◌≤◌}
use native.Mathlib.Nat.{pow-suc, add-zero, add-suc, suc-add}
use lib.ListN.{length}
use native.Mathlib.Omega.{arith}
use lib.Dec.{eqb}
use borrow.Author.Tests.{eqb-true, eqb-false, ne_eqb, eq-eqb}
use Rattle.format.specs.Seq.{All, cons_if}
use Rattle.format.specs.Trie.{add_to_first, below, bit_of, bits, descend, levels_over, nodes_over, on_bits, parents}

-- every number above x, in ascending order
abbrev pub Above : ℕ → List ℕ → Type 0
Above x [] = Unit {0}
Above x (y ∷ ys) = (x < y) × Above y ys

below_one : (x : ℕ) (ps ns : List ℕ) → below (x / 2 ∷ ps) (bit_of x ∷ ns) ≡ x ∷ below ps ns
unfolding below bit_of cons_if
below_one x ps ns = go (x % 2) refl
  where
    go : (r : ℕ) → x % 2 ≡ r → below (x / 2 ∷ ps) (bit_of x ∷ ns) ≡ x ∷ below ps ns
    go zero e = rw e (ap {B = List ℕ} (λ (y : ℕ). y ∷ below ps ns) (omega arith))
    go (suc zero) e = rw e (ap {B = List ℕ} (λ (y : ℕ). y ∷ below ps ns) (omega arith))
    go (suc (suc r)) e = absurd (omega arith)

-- an odd prefix is its parent's last: the parent's node has the second bit alone
pub odd_head : (y : ℕ) (ys : List ℕ) → y % 2 ≡ 1 → Above y ys
    → (ps : List ℕ) × (ns : List ℕ) × (parents (y ∷ ys) ≡ y / 2 ∷ ps) × (nodes_over (y ∷ ys) ≡ 1 ∷ ns)
unfolding parents nodes_over bit_of
odd_head y [] odd h = ([], [], refl, rw odd)
odd_head y (z ∷ zs) odd h =
    let apart : eqb (y / 2) (z / 2) ≡ false = ne_eqb (y / 2) (z / 2) (λ e. omega arith) in
    (parents (z ∷ zs), nodes_over (z ∷ zs), rw apart, rw (apart, odd))

-- a node with both bits
below_both : (p : ℕ) (ps ns : List ℕ) → below (p ∷ ps) (3 ∷ ns) ≡ 2 * p ∷ below (p ∷ ps) (1 ∷ ns)
unfolding below cons_if
below_both p ps ns = refl

-- an even prefix before its odd sibling
sibling : (x y : ℕ) (ys P N ps ns : List ℕ) → x % 2 ≡ 0 → 2 * (y / 2) ≡ x → P ≡ y / 2 ∷ ps → N ≡ 1 ∷ ns → below P N ≡ y ∷ ys
    → below P (add_to_first (bit_of x) N) ≡ x ∷ y ∷ ys
unfolding add_to_first bit_of
sibling x y ys P N ps ns even half p n ih =
    rw (p, n, even) (below_both (y / 2) ps ns ∙ ap₂ {C = List ℕ} (λ (a : ℕ) (l : List ℕ). a ∷ l) half (rw (p, n) at ih))

pub up_down : (x : ℕ) (xs : List ℕ) → Above x xs → below (parents (x ∷ xs)) (nodes_over (x ∷ xs)) ≡ x ∷ xs
unfolding parents nodes_over below
up_down x [] h = below_one x [] []
up_down x (y ∷ ys) h = go (eqb (x / 2) (y / 2)) refl (up_down y ys h.1)
  where
    go : (b : Bool) → eqb (x / 2) (y / 2) ≡ b → below (parents (y ∷ ys)) (nodes_over (y ∷ ys)) ≡ y ∷ ys
        → below (cond b (parents (y ∷ ys)) (x / 2 ∷ parents (y ∷ ys))) (cond b (add_to_first (bit_of x) (nodes_over (y ∷ ys))) (bit_of x ∷ nodes_over (y ∷ ys)))
        ≡ x ∷ y ∷ ys
    go false e ih = below_one x (parents (y ∷ ys)) (nodes_over (y ∷ ys)) ∙ ap {B = List ℕ} (λ l. x ∷ l) ih
    go true e ih =
        let same : x / 2 ≡ y / 2 = eqb-true (x / 2) (y / 2) e in
        let (ps, ns, p, n) = odd_head y ys (omega arith) h.1 in
        sibling x y ys (parents (y ∷ ys)) (nodes_over (y ∷ ys)) ps ns (omega arith) (omega arith) p n ih

-- a level's nodes ns at the ascending prefixes ps
abbrev pub Level : List ℕ → List ℕ → Type 0
Level [] [] = Unit {0}
Level [] (n ∷ ns) = ⊥
Level (p ∷ ps) [] = ⊥
Level (p ∷ ps) (n ∷ ns) = (1 ≤ n) × (n ≤ 3) × Above p ps × Level ps ns

-- x has no sibling at the head of the list
abbrev Apart : ℕ → List ℕ → Type 0
Apart x [] = Unit {0}
Apart x (y ∷ ys) = x / 2 < y / 2

parents_apart : (x : ℕ) (ys : List ℕ) → Apart x ys → parents (x ∷ ys) ≡ x / 2 ∷ parents ys
unfolding parents
parents_apart x [] h = refl
parents_apart x (y ∷ ys) h = rw (ne_eqb (x / 2) (y / 2) (λ e. omega arith))

nodes_apart : (x : ℕ) (ys : List ℕ) → Apart x ys → nodes_over (x ∷ ys) ≡ bit_of x ∷ nodes_over ys
unfolding nodes_over
nodes_apart x [] h = refl
nodes_apart x (y ∷ ys) h = rw (ne_eqb (x / 2) (y / 2) (λ e. omega arith))

below_apart : (x p : ℕ) → x / 2 ≡ p → (ps ns : List ℕ) → Above p ps → Level ps ns → Apart x (below ps ns)
unfolding below cons_if
below_apart x p e [] ns a l = tt
below_apart x p e (q ∷ qs) [] a l = tt
below_apart x p e (q ∷ qs) (zero ∷ ms) a l = absurd (omega arith)
below_apart x p e (q ∷ qs) (suc zero ∷ ms) a l = omega arith
below_apart x p e (q ∷ qs) (suc (suc zero) ∷ ms) a l = omega arith
below_apart x p e (q ∷ qs) (suc (suc (suc zero)) ∷ ms) a l = omega arith
below_apart x p e (q ∷ qs) (suc (suc (suc (suc m))) ∷ ms) a l = absurd (omega arith)

pub record Spelt (ps ns xs : List ℕ) : Type 0 where
  pub up : parents xs ≡ ps
  pub nodes : nodes_over xs ≡ ns

-- one child
single : (x p n : ℕ) (ps ns xs : List ℕ) → x / 2 ≡ p → bit_of x ≡ n → Apart x xs → Spelt ps ns xs → Spelt (p ∷ ps) (n ∷ ns) (x ∷ xs)
single x p n ps ns xs half bit a s =
    record {
      up = parents_apart x xs a ∙ ap₂ {C = List ℕ} (λ (h : ℕ) (l : List ℕ). h ∷ l) half s.up;
      nodes = nodes_apart x xs a ∙ ap₂ {C = List ℕ} (λ (h : ℕ) (l : List ℕ). h ∷ l) bit s.nodes;
    }

-- two children
double : (p : ℕ) (ps ns xs : List ℕ) → Spelt (p ∷ ps) (1 ∷ ns) ((2 * p + 1) ∷ xs) → Spelt (p ∷ ps) (3 ∷ ns) (2 * p ∷ (2 * p + 1) ∷ xs)
unfolding parents nodes_over add_to_first bit_of
double p ps ns xs s =
    let same : eqb (2 * p / 2) ((2 * p + 1) / 2) ≡ true = eq-eqb (2 * p / 2) ((2 * p + 1) / 2) (omega arith) in
    let even : 2 * p % 2 ≡ 0 = omega arith in
    record { up = rw same s.up; nodes = rw (same, s.nodes, even) }

pub down_up : (ps ns : List ℕ) → Level ps ns → Spelt ps ns (below ps ns)
unfolding below cons_if parents nodes_over bit_of
down_up [] [] l = record { up = refl; nodes = refl }
down_up [] (n ∷ ns) l = absurd l
down_up (p ∷ ps) [] l = absurd l
down_up (p ∷ ps) (zero ∷ ns) l = absurd (omega arith)
down_up (p ∷ ps) (suc zero ∷ ns) l = single (2 * p + 1) p 1 ps ns (below ps ns) (omega arith) (omega arith) (below_apart (2 * p + 1) p (omega arith) ps ns l.2 l.3) (down_up ps ns l.3)
down_up (p ∷ ps) (suc (suc zero) ∷ ns) l = single (2 * p) p 2 ps ns (below ps ns) (omega arith) (omega arith) (below_apart (2 * p) p (omega arith) ps ns l.2 l.3) (down_up ps ns l.3)
down_up (p ∷ ps) (suc (suc (suc zero)) ∷ ns) l =
    double p ps ns (below ps ns)
    (single (2 * p + 1) p 1 ps ns (below ps ns) (omega arith) (omega arith) (below_apart (2 * p + 1) p (omega arith) ps ns l.2 l.3) (down_up ps ns l.3))
down_up (p ∷ ps) (suc (suc (suc (suc m))) ∷ ns) l = absurd (omega arith)

-- ---- whole tries

pub descend_snoc : (ps : List ℕ) (levels : List (List ℕ)) (ns : List ℕ) → descend ps (levels ++ ns ∷ []) ≡ below (descend ps levels) ns
unfolding descend
descend_snoc ps [] ns = refl
descend_snoc ps (l ∷ levels) ns = descend_snoc (below ps l) levels ns

-- the prefixes fit n bits
abbrev pub Fits : ℕ → List ℕ → Type 0
Fits n xs = All (λ x. x < 2 ^ n) xs

-- the parents of ascending prefixes of n + 1 bits are ascending, have n bits, and begin with the first one's
pub record Halved (n x : ℕ) (l : List ℕ) : Type 0 where
  pub rest : List ℕ
  pub is : l ≡ x / 2 ∷ rest
  pub above : Above (x / 2) rest
  pub fits : Fits n (x / 2 ∷ rest)

step : (n x y : ℕ) (l : List ℕ) → x < y → x < 2 ^ suc n → Halved n y l → (b : Bool) → eqb (x / 2) (y / 2) ≡ b → Halved n x (cond b l (x / 2 ∷ l))
step n x y l lt fit r true e =
    let same : y / 2 ≡ x / 2 = sym (eqb-true (x / 2) (y / 2) e) in
    record { rest = r.rest; is = rw (← same) r.is; above = rw same at r.above; fits = rw same at r.fits }
step n x y l lt fit r false e =
    record {
      rest = y / 2 ∷ r.rest;
      is = ap {B = List ℕ} (λ t. x / 2 ∷ t) r.is;
      above = (lower (x / 2) (y / 2) (eqb-false (x / 2) (y / 2) e) (omega arith), r.above);
      fits = (omega (arith, pow-suc 2 n), r.fits);
    }
  where
    lower : (a b : ℕ) → (a ≡ b → ⊥) → a ≤ b → a < b
    lower a b ne le = omega arith

pub halved : (n x : ℕ) (xs : List ℕ) → Above x xs → Fits (suc n) (x ∷ xs) → Halved n x (parents (x ∷ xs))
unfolding parents
halved n x [] a f = record { rest = []; is = refl; above = tt; fits = (omega (arith, pow-suc 2 n), tt) }
halved n x (y ∷ ys) a f = step n x y (parents (y ∷ ys)) a.0 f.0 (halved n y ys a.1 f.1) (eqb (x / 2) (y / 2)) refl

pub levels_spell : (n x : ℕ) (xs : List ℕ) → Above x xs → Fits n (x ∷ xs) → descend (0 ∷ []) (levels_over n (x ∷ xs)) ≡ x ∷ xs
unfolding levels_over descend
levels_spell zero x [] a f = ap {B = List ℕ} (λ (k : ℕ). k ∷ []) (omega arith)
levels_spell zero x (y ∷ ys) a f = absurd (omega arith)
levels_spell (suc n) x xs a f =
    let h : Halved n x (parents (x ∷ xs)) = halved n x xs a f in
    descend_snoc (0 ∷ []) (levels_over n (parents (x ∷ xs))) (nodes_over (x ∷ xs))
    ∙ ap (λ (ps : List ℕ). below ps (nodes_over (x ∷ xs)))
    (ap (λ (ps : List ℕ). descend (0 ∷ []) (levels_over n ps)) h.is ∙ levels_spell n (x / 2) h.rest h.above h.fits ∙ sym h.is)
    ∙ up_down x xs a

-- ---- back from levels to the trie of what they spell

abbrev pub Asc : List ℕ → Type 0
Asc [] = Unit {0}
Asc (x ∷ xs) = Above x xs

abbrev pub Nodes : List ℕ → Type 0
Nodes [] = Unit {0}
Nodes (n ∷ ns) = (1 ≤ n) × (n ≤ 3) × Nodes ns

-- levels that hang together: r nodes in the first, in each later one as many as the one above has on bits
abbrev pub Shape : ℕ → List (List ℕ) → Type 0
Shape r [] = Unit {0}
Shape r (ns ∷ levels) = (length ns ≡ r) × Nodes ns × Shape (on_bits ns) levels

pub level : (ps ns : List ℕ) → Asc ps → length ns ≡ length ps → Nodes ns → Level ps ns
level [] [] a e h = tt
level [] (n ∷ ns) a e h = absurd (omega arith)
level (p ∷ ps) [] a e h = absurd (omega arith)
level (p ∷ ps) (n ∷ ns) a e h = (h.0, h.1, a, level ps ns (tail p ps a) (omega arith) h.2)
  where
    tail : (p : ℕ) (ps : List ℕ) → Above p ps → Asc ps
    tail p [] a = tt
    tail p (q ∷ qs) a = a.1

above_apart : (x : ℕ) (l : List ℕ) → Apart x l → Asc l → Above x l
above_apart x [] h a = tt
above_apart x (y ∷ ys) h a = (omega arith, a)

pub below_asc : (ps ns : List ℕ) → Level ps ns → Asc (below ps ns)
unfolding below cons_if
below_asc [] ns l = tt
below_asc (p ∷ ps) [] l = tt
below_asc (p ∷ ps) (zero ∷ ns) l = absurd (omega arith)
below_asc (p ∷ ps) (suc zero ∷ ns) l =
    above_apart (2 * p + 1) (below ps ns) (below_apart (2 * p + 1) p (omega arith) ps ns l.2 l.3) (below_asc ps ns l.3)
below_asc (p ∷ ps) (suc (suc zero) ∷ ns) l =
    above_apart (2 * p) (below ps ns) (below_apart (2 * p) p (omega arith) ps ns l.2 l.3) (below_asc ps ns l.3)
below_asc (p ∷ ps) (suc (suc (suc zero)) ∷ ns) l =
    (omega arith, above_apart (2 * p + 1) (below ps ns) (below_apart (2 * p + 1) p (omega arith) ps ns l.2 l.3) (below_asc ps ns l.3))
below_asc (p ∷ ps) (suc (suc (suc (suc m))) ∷ ns) l = absurd (omega arith)

pub length-below : (ps ns : List ℕ) → Level ps ns → length (below ps ns) ≡ on_bits ns
unfolding below cons_if on_bits bits
length-below [] [] l = refl
length-below [] (n ∷ ns) l = absurd l
length-below (p ∷ ps) [] l = absurd l
length-below (p ∷ ps) (zero ∷ ns) l = absurd (omega arith)
length-below (p ∷ ps) (suc zero ∷ ns) l = rw (← length-below ps ns l.3) (omega arith)
length-below (p ∷ ps) (suc (suc zero) ∷ ns) l = rw (← length-below ps ns l.3) (omega arith)
length-below (p ∷ ps) (suc (suc (suc zero)) ∷ ns) l = rw (← length-below ps ns l.3) (omega arith)
length-below (p ∷ ps) (suc (suc (suc (suc m))) ∷ ns) l = absurd (omega arith)

pub levels_back : (k : ℕ) (ps : List ℕ) (levels : List (List ℕ)) → Asc ps → Shape (length ps) levels
    → levels_over (k + length levels) (descend ps levels) ≡ levels_over k ps ++ levels
unfolding levels_over descend
levels_back k ps [] a s = rw add-zero (sym (append-nil (levels_over k ps)))
levels_back k ps (ns ∷ levels) a s =
    let l : Level ps ns = level ps ns a s.0 s.1 in
    let up : parents (below ps ns) ≡ ps = (down_up ps ns l).up in
    let nodes : nodes_over (below ps ns) ≡ ns = (down_up ps ns l).nodes in
    ap (λ (n : ℕ). levels_over n (descend (below ps ns) levels)) (add-suc k (length levels) ∙ sym (suc-add k (length levels)))
    ∙ levels_back (suc k) (below ps ns) levels (below_asc ps ns l) (rw (length-below ps ns l) s.2)
    ∙ ap₂ (λ (qs ms : List ℕ). (levels_over k qs ++ ms ∷ []) ++ levels) up nodes
    ∙ append_assoc (levels_over k ps) (ns ∷ []) levels
