-- Finding one's way down the levels: where a node's children stand, which prefixes the next level has, what an index is in an ascending list.
-- Assumes nothing.
use mathlib.Core.Bool.{Bool, true, false, ◌||◌}
use mathlib.Core.List.{List, [], ◌∷◌, ◌++◌, Memᴰ}
use mathlib.Core.Logic.{◌⊎◌, inl, inr, ⊎_elim}
use mathlib.Core.Path.{◌≡◌, refl, sym, ap, ◌∙◌}
use Prim.Native.Nat.{ℕ, zero, suc, ◌+◌, ◌*◌, ◌/◌, ◌%◌, ◌^◌, ◌≤◌, ◌<◌}
use native.Mathlib.Nat.{add-zero, div-one, div-div-eq-div-mul, pow-suc}
use native.Mathlib.Decide.{dec_lt, ℕ_discrete}
use native.Mathlib.Omega.{arith}
use borrow.Author.Tests.{lt-ltb, le-ltb, eq-eqb, ne_eqb}
use lib.Dec.{eqb}
use lib.ListN.{length, get_or, take, drop}
use lib.Seq.{get_or-append-add, length-take-le}
use Rattle.format.specs.Seq.{cons_if, is_in, rank_in, select}
use Rattle.format.specs.Trie.{below, bit, bits, child_at, descend, on_bits}
use Rattle.format.proofs.Trie.{Above, Asc, Nodes, Shape}
use Rattle.format.proofs.Subtries.{nodes_take}
use Rattle.format.proofs.Members.{asc_tail}

-- ---- nodes by index

pub node_at_lem : (ns : List ℕ) (i : ℕ) → Nodes ns → i < length ns → (1 ≤ get_or ns i 0) × (get_or ns i 0 ≤ 3)
node_at_lem [] i h k = absurd (omega arith)
node_at_lem (n ∷ ns) zero h k = (h.0, h.1)
node_at_lem (n ∷ ns) (suc i) h k = node_at_lem ns i h.2 (omega arith)

pub on_bits-suc : (ns : List ℕ) (i : ℕ) → i < length ns → on_bits (take (suc i) ns) ≡ on_bits (take i ns) + (get_or ns i 0 / 2 + get_or ns i 0 % 2)
unfolding on_bits bits
on_bits-suc [] i h = absurd (omega arith)
on_bits-suc (n ∷ ns) zero h = omega arith
on_bits-suc (n ∷ ns) (suc i) h = omega (arith, on_bits-suc ns i (omega arith))

pub on_bits-take : (ns : List ℕ) (i : ℕ) → on_bits (take i ns) ≤ on_bits ns
unfolding on_bits
on_bits-take ns zero = omega arith
on_bits-take [] (suc i) = omega arith
on_bits-take (n ∷ ns) (suc i) = omega (arith, on_bits-take ns i)

pub child_place_lem : (ns : List ℕ) (i c : ℕ) → i < length ns → c ≤ 1 → 1 ≤ bit c (get_or ns i 0) → child_at ns i c < on_bits ns
child_place_lem ns i zero h k b = omega (arith, on_bits-suc ns i h, on_bits-take ns (suc i))
child_place_lem ns i (suc zero) h k b = omega (arith, on_bits-suc ns i h, on_bits-take ns (suc i))
child_place_lem ns i (suc (suc c)) h k b = absurd (omega arith)

-- ---- the next level's prefixes

cons_if-append : (b : Bool) (x : ℕ) (l m : List ℕ) → cons_if b x l ++ m ≡ cons_if b x (l ++ m)
unfolding cons_if
cons_if-append true x l m = refl
cons_if-append false x l m = refl

-- x in front of l where the bit is on
cons_if_on : (b x : ℕ) (l : List ℕ) → 1 ≤ b → b ≤ 1 → cons_if (eqb b 1) x l ≡ x ∷ l
unfolding cons_if
cons_if_on b x l h k = rw (eq-eqb b 1 (omega arith))

length-cons_if : (b x : ℕ) (l : List ℕ) → b ≤ 1 → length (cons_if (eqb b 1) x l) ≡ b + length l
unfolding cons_if
length-cons_if zero x l h = omega arith
length-cons_if (suc zero) x l h = omega arith
length-cons_if (suc (suc b)) x l h = absurd (omega arith)

pub length-below : (ps ns : List ℕ) → length ns ≡ length ps → Nodes ns → length (below ps ns) ≡ on_bits ns
unfolding below on_bits bits
length-below [] [] e v = refl
length-below [] (n ∷ ns) e v = absurd (omega arith)
length-below (p ∷ ps) [] e v = absurd (omega arith)
length-below (p ∷ ps) (n ∷ ns) e v =
    length-cons_if (n / 2) _ _ (omega (arith, v.1))
    ∙ omega (arith, length-cons_if (n % 2) (2 * p + 1) (below ps ns) (omega arith), length-below ps ns (omega arith) v.2)

-- the children of the node at i, between those of the nodes before it and those of the nodes after it
below_split : (ps ns : List ℕ) (i : ℕ) → length ns ≡ length ps → i < length ps
    → below ps ns ≡ below (take i ps) (take i ns) ++ cons_if (eqb (get_or ns i 0 / 2) 1) (2 * get_or ps i 0) (cons_if (eqb (get_or ns i 0 % 2) 1) (2 * get_or ps i 0 + 1) (below (drop (suc i) ps) (drop (suc i) ns)))
unfolding below
below_split [] ns i e h = absurd (omega arith)
below_split (p ∷ ps) [] i e h = absurd (omega arith)
below_split (p ∷ ps) (n ∷ ns) zero e h = refl
below_split (p ∷ ps) (n ∷ ns) (suc i) e h = simp (cons_if-append, below_split ps ns i (omega arith) (omega arith))

module _ (ps ns : List ℕ) (i : ℕ) (same : length ns ≡ length ps) (v : Nodes ns) (h : i < length ps) where
  child : (k : ℕ) → get_or (below ps ns) (on_bits (take i ns) + k) 0
      ≡ get_or (cons_if (eqb (get_or ns i 0 / 2) 1) (2 * get_or ps i 0) (cons_if (eqb (get_or ns i 0 % 2) 1) (2 * get_or ps i 0 + 1) (below (drop (suc i) ps) (drop (suc i) ns)))) k 0
  child k =
      let l : length (take i ns) ≡ length (take i ps) = length-take-le i ns (omega arith) ∙ sym (length-take-le i ps (omega arith)) in
      rw (below_split ps ns i same h, ← length-below (take i ps) (take i ns) l (nodes_take i ns v))
      (get_or-append-add (below (take i ps) (take i ns)) _ k 0)

  child-first : 1 ≤ get_or ns i 0 / 2 → get_or (below ps ns) (on_bits (take i ns)) 0 ≡ 2 * get_or ps i 0
  child-first b =
      let n = node_at_lem ns i v (omega arith) in
      ap (λ (k : ℕ). get_or (below ps ns) k 0) (sym (add-zero (on_bits (take i ns)))) ∙ child 0 ∙ ap (λ (l : List ℕ). get_or l 0 0) (cons_if_on _ _ _ b (omega arith))

  child-second : 1 ≤ get_or ns i 0 % 2 → get_or (below ps ns) (on_bits (take i ns) + get_or ns i 0 / 2) 0 ≡ 2 * get_or ps i 0 + 1
  child-second b =
      let n = node_at_lem ns i v (omega arith) in
      child (get_or ns i 0 / 2) ∙ past (get_or ns i 0 / 2) _ _ (omega arith) ∙ ap (λ (l : List ℕ). get_or l 0 0) (cons_if_on _ _ _ b (omega arith))
    where
      past : (b x : ℕ) (l : List ℕ) → b ≤ 1 → get_or (cons_if (eqb b 1) x l) b 0 ≡ get_or l 0 0
      past zero x l h = unfold cons_if in refl
      past (suc zero) x l h = unfold cons_if in refl
      past (suc (suc b)) x l h = absurd (omega arith)

  -- the child of an on bit has the node's prefix and that bit
  pub child_prefix : (c : ℕ) → c ≤ 1 → 1 ≤ bit c (get_or ns i 0) → get_or (below ps ns) (child_at ns i c) 0 ≡ 2 * get_or ps i 0 + c
  child_prefix zero k b = child-first b ∙ omega arith
  child_prefix (suc zero) k b = child-second b
  child_prefix (suc (suc c)) k b = absurd (omega arith)

-- ---- indices in an ascending list

pub above_at : (x : ℕ) (l : List ℕ) (i : ℕ) → Above x l → i < length l → x < get_or l i 0
above_at x [] i a h = absurd (omega arith)
above_at x (y ∷ l) zero a h = a.0
above_at x (y ∷ l) (suc i) a h = omega (arith, a.0, above_at y l i a.1 (omega arith))

pub asc_lt : (l : List ℕ) (i j : ℕ) → Asc l → i < j → j < length l → get_or l i 0 < get_or l j 0
asc_lt [] i j a h k = absurd (omega arith)
asc_lt (x ∷ l) i zero a h k = absurd (omega arith)
asc_lt (x ∷ l) zero (suc j) a h k = above_at x l j a (omega arith)
asc_lt (x ∷ l) (suc i) (suc j) a h k = asc_lt l i j (asc_tail x l a) (omega arith) (omega arith)

pub asc_index : (l : List ℕ) (i j : ℕ) → Asc l → i < length l → j < length l → get_or l i 0 ≡ get_or l j 0 → i ≡ j
asc_index l i j a h k e =
    elim (dec_lt i j) [
      | yes u ↦ absurd (omega (arith, asc_lt l i j a u k))
      | no u ↦ elim (dec_lt j i) [ yes t ↦ absurd (omega (arith, asc_lt l j i a t h)) | no t ↦ omega arith ]
    ]

pub mem_at : (l : List ℕ) (i : ℕ) → i < length l → Memᴰ (get_or l i 0) l
mem_at [] i h = absurd (omega arith)
mem_at (x ∷ l) zero h = mathlib.Core.List.Memᴰ.head refl
mem_at (x ∷ l) (suc i) h = mathlib.Core.List.Memᴰ.tail (mem_at l i (omega arith))

-- rank: the index of an element is the count of smaller elements

pub rank_none : (x y : ℕ) (l : List ℕ) → x ≤ y → Above y l → rank_in l x ≡ 0
unfolding rank_in select cons_if
rank_none x y [] h a = refl
rank_none x y (z ∷ l) h a = rw (le-ltb z x (omega (arith, a.0))) (rank_none x z l (omega (arith, a.0)) a.1)

pub rank_at : (l : List ℕ) (i : ℕ) → Asc l → i < length l → rank_in l (get_or l i 0) ≡ i
unfolding rank_in select cons_if
rank_at [] i a h = absurd (omega arith)
rank_at (x ∷ l) zero a h = rw (le-ltb x x (omega arith)) (rank_none x x l (omega arith) a)
rank_at (x ∷ l) (suc i) a h = rw (lt-ltb x (get_or l i 0) (above_at x l i a (omega arith))) (ap suc (rank_at l i (asc_tail x l a) (omega arith)))

-- a member stands at its rank
pub record AtRank (l : List ℕ) (y : ℕ) : Type 0 where
  pub within : rank_in l y < length l
  pub here : get_or l (rank_in l y) 0 ≡ y

-- where a member stands
record Index (l : List ℕ) (y : ℕ) : Type 0 where
  n : ℕ
  within : n < length l
  here : get_or l n 0 ≡ y

index_of : (l : List ℕ) (y : ℕ) → Memᴰ y l → Index l y
index_of [] y m = absurd (mathlib.Core.List.Memᴰ.not-nil m)
index_of (e ∷ l) y m =
    ⊎_elim (λ (d : y ≡ e). record { n = 0; within = omega arith; here = sym d })
    (λ (t : Memᴰ y l). let r = index_of l y t in record { n = suc r.n; within = omega (arith, r.within); here = r.here }) (mathlib.Core.List.Memᴰ.cases_cons m)

-- its place is its rank
pub at_rank_lem : (l : List ℕ) (y : ℕ) → Asc l → Memᴰ y l → AtRank l y
at_rank_lem l y a m =
    let i = index_of l y m in
    let r : rank_in l y ≡ i.n = ap (rank_in l) (sym i.here) ∙ rank_at l i.n a i.within in
    record { within = omega (arith, i.within); here = ap (λ (n : ℕ). get_or l n 0) r ∙ i.here }

-- membership as a test
pub is_in-mem : (x : ℕ) (l : List ℕ) → Memᴰ x l → is_in x l ≡ true
unfolding is_in
is_in-mem x [] m = absurd (mathlib.Core.List.Memᴰ.not-nil m)
is_in-mem x (y ∷ l) m = ⊎_elim (λ (e : x ≡ y). rw (eq-eqb x y e)) (λ (t : Memᴰ x l). rw (is_in-mem x l t) (or-true (eqb x y))) (mathlib.Core.List.Memᴰ.cases_cons m)
  where
    or-true : (b : Bool) → (b || true) ≡ true
    or-true true = refl
    or-true false = refl

-- and a number that passes the test is a member
pub mem-is_in : (x : ℕ) (l : List ℕ) → is_in x l ≡ true → Memᴰ x l
unfolding is_in
mem-is_in x [] h = absurd (let z : ◌≡◌ {A = ℕ} 0 1 = cc in omega arith)
mem-is_in x (y ∷ l) h =
    elim (ℕ_discrete x y) [
      | yes e ↦ mathlib.Core.List.Memᴰ.head e
      | no e ↦ mathlib.Core.List.Memᴰ.tail (mem-is_in x l (sym (ap (◌|| is_in x l) (ne_eqb x y e)) ∙ h))
    ]

pub is_in-not : (x : ℕ) (l : List ℕ) → (Memᴰ x l → ⊥) → is_in x l ≡ false
unfolding is_in
is_in-not x [] f = refl
is_in-not x (y ∷ l) f = rw (ne_eqb x y (λ e. f (mathlib.Core.List.Memᴰ.head e))) (is_in-not x l (λ m. f (mathlib.Core.List.Memᴰ.tail m)))

-- ---- which prefixes the next level has

-- x is a child of the node at some index: its half is the prefix there, and its bit is on
pub record Child (x : ℕ) (ps ns : List ℕ) : Type 0 where
  pub index : ℕ
  pub within : index < length ps
  pub prefix : x / 2 ≡ get_or ps index 0
  pub lit : 1 ≤ bit (x % 2) (get_or ns index 0)

mem-cons_if : (x b y : ℕ) (l : List ℕ) → b ≤ 1 → Memᴰ x (cons_if (eqb b 1) y l) → ((1 ≤ b) × (x ≡ y)) ⊎ Memᴰ x l
unfolding cons_if
mem-cons_if x zero y l h m = inr m
mem-cons_if x (suc zero) y l h m = ⊎_elim (λ (e : x ≡ y). inl (omega arith, e)) (λ (t : Memᴰ x l). inr t) (mathlib.Core.List.Memᴰ.cases_cons m)
mem-cons_if x (suc (suc b)) y l h m = absurd (omega arith)

pub child_of_mem : (x : ℕ) (ps ns : List ℕ) → Nodes ns → Memᴰ x (below ps ns) → Child x ps ns
unfolding below
child_of_mem x [] ns v m = absurd (mathlib.Core.List.Memᴰ.not-nil m)
child_of_mem x (p ∷ ps) [] v m = absurd (mathlib.Core.List.Memᴰ.not-nil m)
child_of_mem x (p ∷ ps) (n ∷ ns) v m =
    elim (mem-cons_if x (n / 2) (2 * p) _ (omega (arith, v.1)) m) [
      | inl t ↦ let e : x % 2 ≡ 0 = omega arith in record { index = 0; within = omega arith; prefix = omega arith; lit = rw e t.0 }
      | inr t ↦ elim (mem-cons_if x (n % 2) (2 * p + 1) _ (omega arith) t) [
        | inl u ↦ let e : x % 2 ≡ 1 = omega arith in record { index = 0; within = omega arith; prefix = omega arith; lit = rw e u.0 }
        | inr u ↦ let c = child_of_mem x ps ns v.2 u in
            record { index = suc c.index; within = omega (arith, c.within); prefix = c.prefix; lit = c.lit }
      ]
    ]

-- of a prefix that stands in an ascending list, 2p + c stands in the next one only where bit c of its node is on
pub bit_of_mem : (ps ns : List ℕ) (i c : ℕ) → Asc ps → Nodes ns → i < length ps → c ≤ 1 → Memᴰ (2 * get_or ps i 0 + c) (below ps ns) → 1 ≤ bit c (get_or ns i 0)
bit_of_mem ps ns i c a v h k m =
    let t = child_of_mem (2 * get_or ps i 0 + c) ps ns v m in
    let e : i ≡ t.index = asc_index ps i t.index a h t.within (omega (arith, t.prefix)) in
    let f : (2 * get_or ps i 0 + c) % 2 ≡ c = omega arith in
    rw e (rw f at t.lit)

-- ---- the prefixes of keys

pub halve : (k w : ℕ) → k / 2 ^ suc w ≡ k / 2 ^ w / 2
halve k w = ap (λ (d : ℕ). k / d) (pow-suc 2 w) ∙ sym (div-div-eq-div-mul k (2 ^ w) 2)

-- a key below some levels has its prefix above them
pub key_prefix : (k r : ℕ) (ps : List ℕ) (ls : List (List ℕ)) → Shape r ls → Memᴰ k (descend ps ls) → Memᴰ (k / 2 ^ length ls) ps
unfolding descend
key_prefix k r ps [] s m = mathlib.Core.List.Memᴰ.cast (div-one k) m
key_prefix k r ps (ns ∷ ls) s m =
    let c = child_of_mem (k / 2 ^ length ls) ps ns s.1 (key_prefix k (on_bits ns) (below ps ns) ls s.2 m) in
    mathlib.Core.List.Memᴰ.cast (halve k (length ls) ∙ c.prefix) (mem_at ps c.index c.within)
