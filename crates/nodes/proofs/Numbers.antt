-- Nodes as numbers: what a word gathered from bytes says of the nodes in it. Assumes nothing.
use mathlib.Core.Path.{◌≡◌, refl, sym, ap, ◌∙◌}
use mathlib.Core.List.{List, [], ◌∷◌, flat_map}
use Prim.Native.Nat.{ℕ, zero, suc, ◌+◌, ◌*◌, ◌/◌, ◌%◌, ◌^◌, ◌≤◌, ◌<◌}
use native.Mathlib.Omega.{arith}
use lib.ListN.{length, take, drop, get_or, replicate}
use lib.Seq.{drop-cons}
use lib.Pow.{shr-shr}
use lib.Count.{ones, ones_in, ones_cat}
use Rattle.format.specs.Seq.{All}
use Rattle.format.specs.Trie.{bits, on_bits}
use Rattle.format.specs.Page.{Byte, pairs_of}
use Rattle.format.proofs.Lists.{all_get, all_of}
use Rattle.nodes.specs.Words.{half_at, word_at}

-- each is a node: a number of two bits
abbrev pub Nodes : List ℕ → Type 0
Nodes = All (λ d. d ≤ 3)

pub nodes_same : (d n : ℕ) → d ≤ 3 → Nodes (replicate n d)
nodes_same d zero h = tt
nodes_same d (suc n) h = (h, nodes_same d n h)

-- what is below 256 at each place is a list of bytes
pub bytes_of : (l : List ℕ) → ((i : ℕ) → get_or l i 0 < 256) → All Byte l
bytes_of l h = all_of Byte l 0 h

-- the number of nodes, the first the highest, after those of w
unfoldable pub val : ℕ → List ℕ → ℕ
val w [] = w
val w (d ∷ ds) = val (w * 4 + d) ds

-- without its last nodes
val_cut : (w : ℕ) (ds : List ℕ) → Nodes ds → val w ds / 2 ^ (2 * length ds) ≡ w
unfolding val
val_cut w [] h = omega arith
val_cut w (d ∷ ds) h =
    let p : d ≤ 3 = h.0 in
    let e : 2 * suc (length ds) ≡ 2 * length ds + 2 = omega arith in
    let q : (w * 4 + d) / 4 ≡ w = omega arith in
    ap (λ (x : ℕ). val (w * 4 + d) ds / 2 ^ x) e
    ∙ sym (shr-shr (val (w * 4 + d) ds) (2 * length ds) 2)
    ∙ ap (λ (x : ℕ). x / 4) (val_cut (w * 4 + d) ds h.1)
    ∙ q

pub val_take : (w k m : ℕ) (ds : List ℕ) → k + m ≡ length ds → Nodes ds → val w ds / 2 ^ (2 * m) ≡ val w (take k ds)
unfolding val
val_take w zero m ds e h =
    let f : m ≡ length ds = omega arith in
    ap (λ (x : ℕ). val w ds / 2 ^ (2 * x)) f ∙ val_cut w ds h
val_take w (suc k) m [] e h = absurd (omega arith)
val_take w (suc k) m (d ∷ ds) e h = val_take (w * 4 + d) k m ds (omega arith) h.1

-- its last node
pub val_last : (w k : ℕ) (ds : List ℕ) → k < length ds → Nodes ds → val w (take (suc k) ds) % 4 ≡ get_or ds k 0
unfolding val
val_last w k [] l h = absurd (omega arith)
val_last w zero (d ∷ ds) l h =
    let p : d ≤ 3 = h.0 in
    omega arith
val_last w (suc k) (d ∷ ds) l h = val_last (w * 4 + d) k ds (omega arith) h.1

-- its set bits are the nodes' on bits
pub ones-bits : (d : ℕ) → d ≤ 3 → ones d ≡ bits d
unfolding ones ones_in bits
ones-bits zero h = refl
ones-bits (suc zero) h = refl
ones-bits (suc (suc zero)) h = refl
ones-bits (suc (suc (suc zero))) h = refl
ones-bits (suc (suc (suc (suc d)))) h = absurd (omega arith)

ones_after : (w : ℕ) (ds : List ℕ) → Nodes ds → ones (val w ds) ≡ ones w + on_bits ds
unfolding val on_bits
ones_after w [] h = omega arith
ones_after w (d ∷ ds) h =
    let p : d ≤ 3 = h.0 in
    omega (arith, ones_after (w * 4 + d) ds h.1, ones_cat 2 w d (omega arith), ones-bits d p)

pub ones_val : (ds : List ℕ) → Nodes ds → ones (val 0 ds) ≡ on_bits ds
unfolding ones ones_in
ones_val ds h = ones_after 0 ds h ∙ omega arith

-- ---- bytes

module _ (l : List ℕ) (h : All Byte l) where
  -- one byte more
  byte : (w k i j : ℕ) → suc i ≡ j → i < length l
      → val w (flat_map pairs_of (take (suc k) (drop i l))) ≡ val (w * 256 + get_or l i 0) (flat_map pairs_of (take k (drop j l)))
  unfolding flat_map pairs_of val
  byte w k i j e r =
      let b : ℕ = get_or l i 0 in
      let p : b < 256 = all_get Byte l i 0 (omega arith) h in
      let q : (((w * 4 + b / 64) * 4 + b / 16 % 4) * 4 + b / 4 % 4) * 4 + b % 4 ≡ w * 256 + b = omega arith in
      ap (λ (x : List ℕ). val w (flat_map pairs_of (take (suc k) x))) (drop-cons l i 0 r)
      ∙ ap (λ (x : ℕ). val x (flat_map pairs_of (take k (drop (suc i) l)))) q
      ∙ ap (λ (x : ℕ). val (w * 256 + b) (flat_map pairs_of (take k (drop x l)))) e

  -- four bytes, and what follows them
  half-more : (w i m : ℕ) → i + 4 ≤ length l
      → val w (flat_map pairs_of (take (suc (suc (suc (suc m)))) (drop i l))) ≡ val (w * 4294967296 + half_at l i) (flat_map pairs_of (take m (drop (i + 4) l)))
  unfolding half_at
  half-more w i m r =
      byte w (suc (suc (suc m))) i (i + 1) (omega arith) (omega arith)
      ∙ byte _ (suc (suc m)) (i + 1) (i + 2) (omega arith) (omega arith)
      ∙ byte _ (suc m) (i + 2) (i + 3) (omega arith) (omega arith)
      ∙ byte _ m (i + 3) (i + 4) (omega arith) (omega arith)
      ∙ ap (λ (x : ℕ). val x (flat_map pairs_of (take m (drop (i + 4) l)))) (omega arith)

  pub half_val : (w i : ℕ) → i + 4 ≤ length l → val w (flat_map pairs_of (take 4 (drop i l))) ≡ w * 4294967296 + half_at l i
  unfolding flat_map val
  half_val w i r = half-more w i 0 r

  pub word_val : (i : ℕ) → i + 8 ≤ length l → val 0 (flat_map pairs_of (take 8 (drop i l))) ≡ word_at l i
  unfolding flat_map val word_at
  word_val i r =
      half-more 0 i 4 (omega arith)
      ∙ byte _ 3 (i + 4) (i + 5) (omega arith) (omega arith)
      ∙ byte _ 2 (i + 5) (i + 6) (omega arith) (omega arith)
      ∙ byte _ 1 (i + 6) (i + 7) (omega arith) (omega arith)
      ∙ byte _ 0 (i + 7) (i + 8) (omega arith) (omega arith)
      ∙ omega arith
