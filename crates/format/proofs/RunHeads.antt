-- Runs of keys: the prefixes at their heads, and the levels of two runs one after the other.
-- Assumes nothing.
use mathlib.Core.Bool.{Bool, true, false, cond}
use mathlib.Core.List.{List, [], ◌∷◌, ◌++◌}
use mathlib.Core.Path.{◌≡◌, refl, sym, ap, ap₂, ◌∙◌}
use Prim.Native.Nat.{ℕ, zero, suc, ◌/◌, ◌^◌, ◌≤◌, ◌<◌}
use native.Mathlib.Nat.{pow-succ', div-one, div-div-eq-div-mul}
use native.Mathlib.Omega.{arith}
use lib.Dec.{eqb}
use borrow.Author.Tests.{eqb-true, eqb-false, ne_eqb}
use lib.ListN.{length}
use Rattle.format.specs.Trie.{add_to_first, bit_of, nodes_over, parents}
use Rattle.format.proofs.Trie.{Above}
use Rattle.format.proofs.Descent.{halve}

-- the parents of the parents .., m times: the prefixes without their last m bits, each once
unfoldable pub heads : ℕ → List ℕ → List ℕ
heads zero xs = xs
heads (suc m) xs = heads m (parents xs)

-- the last of x ∷ xs
abbrev pub last : ℕ → List ℕ → ℕ
last x [] = x
last x (y ∷ ys) = last y ys

-- without m bits and one more
pub shift : (k m : ℕ) → k / 2 / 2 ^ m ≡ k / 2 ^ suc m
shift k m = div-div-eq-div-mul k 2 (2 ^ m) ∙ ap (λ (d : ℕ). k / d) (sym (pow-succ' 2 m))

-- ---- the parents of a run

pub record Parents (x : ℕ) (xs l : List ℕ) : Type 0 where
  pub rest : List ℕ
  pub is : l ≡ x / 2 ∷ rest
  pub above : Above (x / 2) rest
  pub end : last (x / 2) rest ≡ last x xs / 2

par_step : (x y : ℕ) (ys l : List ℕ) → x < y → Parents y ys l → (b : Bool) → eqb (x / 2) (y / 2) ≡ b → Parents x (y ∷ ys) (cond b l (x / 2 ∷ l))
par_step x y ys l lt r true e =
    let same : y / 2 ≡ x / 2 = sym (eqb-true (x / 2) (y / 2) e) in
    record { rest = r.rest; is = rw (← same) r.is; above = rw same at r.above; end = rw same at r.end }
par_step x y ys l lt r false e =
    record {
      rest = y / 2 ∷ r.rest;
      is = ap (x / 2 ∷◌) r.is;
      above = (lower (x / 2) (y / 2) (eqb-false (x / 2) (y / 2) e) (omega arith), r.above);
      end = r.end;
    }
  where
    lower : (a b : ℕ) → (a ≡ b → ⊥) → a ≤ b → a < b
    lower a b ne le = omega arith

pub parents_of : (x : ℕ) (xs : List ℕ) → Above x xs → Parents x xs (parents (x ∷ xs))
unfolding parents
parents_of x [] a = record { rest = []; is = refl; above = tt; end = refl }
parents_of x (y ∷ ys) a = par_step x y ys (parents (y ∷ ys)) a.0 (parents_of y ys a.1) (eqb (x / 2) (y / 2)) refl

-- the prefixes of a run of keys begin with the first one's and end with the last one's
pub record Heads (m x : ℕ) (xs l : List ℕ) : Type 0 where
  pub rest : List ℕ
  pub is : l ≡ x / 2 ^ m ∷ rest
  pub above : Above (x / 2 ^ m) rest
  pub end : last (x / 2 ^ m) rest ≡ last x xs / 2 ^ m

pub heads_of : (m x : ℕ) (xs : List ℕ) → Above x xs → Heads m x xs (heads m (x ∷ xs))
unfolding heads
heads_of zero x xs a = record { rest = xs; is = ap (◌∷ xs) (sym (div-one x)); above = rw (div-one x) a; end = rw (div-one x) (sym (div-one (last x xs))) }
heads_of (suc m) x xs a =
    let p = parents_of x xs a in
    let h = heads_of m (x / 2) p.rest p.above in
    let e : x / 2 / 2 ^ m ≡ x / 2 ^ suc m = shift x m in
    record {
      rest = h.rest;
      is = ap (heads m) p.is ∙ h.is ∙ ap (◌∷ h.rest) e;
      above = rw e at h.above;
      end = ap (λ (t : ℕ). last t h.rest) (sym e) ∙ h.end ∙ ap (◌/ 2 ^ m) p.end ∙ shift (last x xs) m;
    }

-- ---- two runs, one after the other

cond-append : (b : Bool) (x : ℕ) (l m : List ℕ) → cond b (l ++ m) (x ∷ (l ++ m)) ≡ cond b l (x ∷ l) ++ m
cond-append true x l m = refl
cond-append false x l m = refl

pub parents-append : (x : ℕ) (xs : List ℕ) (y : ℕ) (ys : List ℕ) → (last x xs / 2 ≡ y / 2 → ⊥) → parents ((x ∷ xs) ++ y ∷ ys) ≡ parents (x ∷ xs) ++ parents (y ∷ ys)
unfolding parents
parents-append x [] y ys ne = rw (ne_eqb (x / 2) (y / 2) ne)
parents-append x (z ∷ zs) y ys ne =
    ap (λ (l : List ℕ). cond (eqb (x / 2) (z / 2)) l (x / 2 ∷ l)) (parents-append z zs y ys ne) ∙ cond-append (eqb (x / 2) (z / 2)) (x / 2) (parents (z ∷ zs)) (parents (y ∷ ys))

add_append : (b : ℕ) (l m : List ℕ) → 1 ≤ length l → add_to_first b (l ++ m) ≡ add_to_first b l ++ m
unfolding add_to_first
add_append b [] m h = absurd (omega arith)
add_append b (x ∷ l) m h = refl

pub some_nodes : (x : ℕ) (xs : List ℕ) → 1 ≤ length (nodes_over (x ∷ xs))
unfolding nodes_over add_to_first
some_nodes x [] = omega arith
some_nodes x (y ∷ ys) = go (eqb (x / 2) (y / 2)) (nodes_over (y ∷ ys)) (some_nodes y ys)
  where
    go : (b : Bool) (l : List ℕ) → 1 ≤ length l → 1 ≤ length (cond b (add_to_first (bit_of x) l) (bit_of x ∷ l))
    go true [] h = absurd (omega arith)
    go true (n ∷ l) h = omega arith
    go false l h = omega arith

nodes_append : (x : ℕ) (xs : List ℕ) (y : ℕ) (ys : List ℕ) → (last x xs / 2 ≡ y / 2 → ⊥) → nodes_over ((x ∷ xs) ++ y ∷ ys) ≡ nodes_over (x ∷ xs) ++ nodes_over (y ∷ ys)
unfolding nodes_over
nodes_append x [] y ys ne = rw (ne_eqb (x / 2) (y / 2) ne)
nodes_append x (z ∷ zs) y ys ne =
    ap (λ (l : List ℕ). cond (eqb (x / 2) (z / 2)) (add_to_first (bit_of x) l) (bit_of x ∷ l)) (nodes_append z zs y ys ne)
    ∙ go (eqb (x / 2) (z / 2)) (nodes_over (z ∷ zs)) (some_nodes z zs)
  where
    go : (b : Bool) (l : List ℕ) → 1 ≤ length l
        → cond b (add_to_first (bit_of x) (l ++ nodes_over (y ∷ ys))) (bit_of x ∷ (l ++ nodes_over (y ∷ ys))) ≡ cond b (add_to_first (bit_of x) l) (bit_of x ∷ l) ++ nodes_over (y ∷ ys)
    go true l h = add_append (bit_of x) l (nodes_over (y ∷ ys)) h
    go false l h = refl

-- the last key of one run and the first of the next go apart before their last m bits
abbrev pub Parted : ℕ → ℕ → List ℕ → ℕ → Type 0
Parted m x xs y = last x xs / 2 ^ m ≡ y / 2 ^ m → ⊥

pub parted_less : (m x : ℕ) (xs : List ℕ) (y : ℕ) → Parted (suc m) x xs y → Parted m x xs y
parted_less m x xs y p e = p (halve (last x xs) m ∙ ap (◌/ 2) e ∙ sym (halve y m))

pub heads_append : (m x : ℕ) (xs : List ℕ) (y : ℕ) (ys : List ℕ) → Above x xs → Above y ys → Parted m x xs y → heads m ((x ∷ xs) ++ y ∷ ys) ≡ heads m (x ∷ xs) ++ heads m (y ∷ ys)
unfolding heads
heads_append zero x xs y ys a b p = refl
heads_append (suc m) x xs y ys a b p =
    let q = parents_of x xs a in
    let r = parents_of y ys b in
    let ne : last x xs / 2 ≡ y / 2 → ⊥ = λ e. p (sym (shift (last x xs) m) ∙ ap (◌/ 2 ^ m) e ∙ shift y m) in
    ap (heads m) (parents-append x xs y ys ne ∙ ap₂ ◌++◌ q.is r.is)
    ∙ heads_append m (x / 2) q.rest (y / 2) r.rest q.above r.above (λ e. p (sym (shift (last x xs) m) ∙ ap (◌/ 2 ^ m) (sym q.end) ∙ e ∙ shift y m))
    ∙ ap₂ (λ (s t : List ℕ). heads m s ++ heads m t) (sym q.is) (sym r.is)

-- the nodes over the prefixes of two runs
pub level_append : (m x : ℕ) (xs : List ℕ) (y : ℕ) (ys : List ℕ) → Above x xs → Above y ys → Parted (suc m) x xs y
    → nodes_over (heads m ((x ∷ xs) ++ y ∷ ys)) ≡ nodes_over (heads m (x ∷ xs)) ++ nodes_over (heads m (y ∷ ys))
level_append m x xs y ys a b p =
    let q = heads_of m x xs a in
    let r = heads_of m y ys b in
    ap nodes_over (heads_append m x xs y ys a b (parted_less m x xs y p) ∙ ap₂ ◌++◌ q.is r.is)
    ∙ nodes_append (x / 2 ^ m) q.rest (y / 2 ^ m) r.rest (λ e. p (halve (last x xs) m ∙ ap (◌/ 2) (sym q.end) ∙ e ∙ sym (halve y m)))
    ∙ ap₂ (λ (s t : List ℕ). nodes_over s ++ nodes_over t) (sym q.is) (sym r.is)
