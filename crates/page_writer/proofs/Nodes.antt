-- Nodes in bytes: a node changed, bytes of nodes that are 00, and nodes read back from their bytes.
-- Assumes nothing.
use mathlib.Core.Path.{◌≡◌, refl, ap}
use mathlib.Core.List.{List, [], ◌∷◌, ◌++◌, flat_map}
use Prim.Native.Nat.{ℕ, zero, suc, ◌+◌, ◌*◌, ◌-◌, ◌/◌, ◌%◌, ◌^◌, ◌≤◌, ◌<◌}
use native.Mathlib.Omega.{arith}
use lib.ListN.{length, get_or, drop, set, replicate}
use Rattle.format.specs.Seq.{All}
use Rattle.format.specs.Trie.{bit_of}
use Rattle.format.specs.Page.{byte_of, node_bytes, pairs_of}
use Rattle.page_writer.specs.Page.{bit_in}

-- four nodes more
quarter : (n : ℕ) → suc (suc (suc (suc n))) / 4 ≡ suc (n / 4)
quarter n = omega arith

same_place : (n : ℕ) → suc (suc (suc (suc n))) % 4 ≡ n % 4
same_place n = omega arith

-- b added to the node after ns
pub node_added : (k : ℕ) (ns : List ℕ) (n b : ℕ) (rest : List ℕ) → length ns < 4 * k
    → node_bytes k (ns ++ (b + n) ∷ rest) ≡ set (node_bytes k (ns ++ n ∷ rest)) (length ns / 4) (get_or (node_bytes k (ns ++ n ∷ rest)) (length ns / 4) 0 + b * 4 ^ (3 - length ns % 4))
unfolding node_bytes byte_of
node_added zero ns n b rest h = absurd (omega arith)
node_added (suc k) [] n b rest h =
    let e : 64 * (b + n) + 16 * get_or rest 0 0 + 4 * get_or rest 1 0 + get_or rest 2 0 ≡ 64 * n + 16 * get_or rest 0 0 + 4 * get_or rest 1 0 + get_or rest 2 0 + b * 64 = omega arith in
    ap (◌∷ node_bytes k (drop 3 rest)) e
node_added (suc k) (p ∷ []) n b rest h =
    let e : 64 * p + 16 * (b + n) + 4 * get_or rest 0 0 + get_or rest 1 0 ≡ 64 * p + 16 * n + 4 * get_or rest 0 0 + get_or rest 1 0 + b * 16 = omega arith in
    ap (◌∷ node_bytes k (drop 2 rest)) e
node_added (suc k) (p ∷ q ∷ []) n b rest h =
    let e : 64 * p + 16 * q + 4 * (b + n) + get_or rest 0 0 ≡ 64 * p + 16 * q + 4 * n + get_or rest 0 0 + b * 4 = omega arith in
    ap (◌∷ node_bytes k (drop 1 rest)) e
node_added (suc k) (p ∷ q ∷ r ∷ []) n b rest h =
    let e : 64 * p + 16 * q + 4 * r + (b + n) ≡ 64 * p + 16 * q + 4 * r + n + b * 1 = omega arith in
    ap (◌∷ node_bytes k (drop 0 rest)) e
node_added (suc k) (p ∷ q ∷ r ∷ s ∷ ns) n b rest h =
    rw (quarter (length ns), same_place (length ns)) (ap (byte_of (p ∷ q ∷ r ∷ s ∷ []) ∷◌) (node_added k ns n b rest (omega arith)))

-- the byte of four nodes that are 00
pub zero_byte : (k i n : ℕ) (rest : List ℕ) → 4 * i + 4 ≤ n → get_or (node_bytes k (replicate n 0 ++ rest)) i 0 ≡ 0
unfolding node_bytes byte_of
zero_byte zero i n rest h = refl
zero_byte (suc k) zero (suc (suc (suc (suc n)))) rest h = refl
zero_byte (suc k) (suc i) (suc (suc (suc (suc n)))) rest h = zero_byte k i n rest (omega arith)
zero_byte (suc k) i zero rest h = absurd (omega arith)
zero_byte (suc k) i (suc zero) rest h = absurd (omega arith)
zero_byte (suc k) i (suc (suc zero)) rest h = absurd (omega arith)
zero_byte (suc k) i (suc (suc (suc zero))) rest h = absurd (omega arith)

-- nodes come back from their bytes
pub nodes_back : (k : ℕ) (ns : List ℕ) → length ns ≡ 4 * k → All (λ n. n ≤ 3) ns → flat_map pairs_of (node_bytes k ns) ≡ ns
unfolding node_bytes byte_of pairs_of flat_map
nodes_back zero [] e a = refl
nodes_back zero (n ∷ ns) e a = absurd (omega arith)
nodes_back (suc k) [] e a = absurd (omega arith)
nodes_back (suc k) (p ∷ []) e a = absurd (omega arith)
nodes_back (suc k) (p ∷ q ∷ []) e a = absurd (omega arith)
nodes_back (suc k) (p ∷ q ∷ r ∷ []) e a = absurd (omega arith)
nodes_back (suc k) (p ∷ q ∷ r ∷ s ∷ ns) e a =
    let a₀ = a.0 in
    let a₁ = a.1.0 in
    let a₂ = a.1.1.0 in
    let a₃ = a.1.1.1.0 in
    let b = 64 * p + 16 * q + 4 * r + s in
    let e₀ : b / 64 ≡ p = omega arith in
    let e₁ : b / 16 % 4 ≡ q = omega arith in
    let e₂ : b / 4 % 4 ≡ r = omega arith in
    let e₃ : b % 4 ≡ s = omega arith in
    λ i. e₀ i ∷ e₁ i ∷ e₂ i ∷ e₃ i ∷ nodes_back k ns (omega arith) a.1.1.1.1 i

-- the bit of a prefix in a node's byte, by its place from the highest
pub bit_place : (n x : ℕ) → 128 / 2 ^ (2 * (n % 4) + x % 2) ≡ bit_in n x
unfolding bit_in bit_of
bit_place n x = go (n % 4) (x % 2) (omega arith) (omega arith)
  where
    go : (j b : ℕ) → j < 4 → b < 2 → 128 / 2 ^ (2 * j + b) ≡ (2 - b) * 4 ^ (3 - j)
    go zero zero h k = refl
    go zero (suc zero) h k = refl
    go zero (suc (suc b)) h k = absurd (omega arith)
    go (suc zero) zero h k = refl
    go (suc zero) (suc zero) h k = refl
    go (suc zero) (suc (suc b)) h k = absurd (omega arith)
    go (suc (suc zero)) zero h k = refl
    go (suc (suc zero)) (suc zero) h k = refl
    go (suc (suc zero)) (suc (suc b)) h k = absurd (omega arith)
    go (suc (suc (suc zero))) zero h k = refl
    go (suc (suc (suc zero))) (suc zero) h k = refl
    go (suc (suc (suc zero))) (suc (suc b)) h k = absurd (omega arith)
    go (suc (suc (suc (suc j)))) b h k = absurd (omega arith)
