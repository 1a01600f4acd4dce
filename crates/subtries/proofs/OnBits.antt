-- The on bits of a word of a page's nodes, and of nodes that are counted 28 at a time.
-- Assumes nothing.
use mathlib.Core.List.{List}
use mathlib.Core.Path.{◌≡◌, sym, ap, ap₂, ◌∙◌}
use Prim.Native.Nat.{ℕ, zero, suc, ◌+◌, ◌-◌, ◌*◌, ◌/◌, ◌%◌, ◌^◌, ◌≤◌, ◌<◌}
use native.Mathlib.Nat.{add_assoc, add-zero, div-eq_of_lt, mod-lt}
use native.Mathlib.Omega.{arith}
use lib.Count.{ones, ones_cat, ones-le, ones_step}
use lib.ListN.{get_or}
use lib.Pow.{shr-shr}
use Rattle.reader.specs.Page.{node_of, NodesIn}
use Rattle.subtries.specs.OnBits.{on_bits_from}

-- the set bits of a node
pub ones_node : (n : ℕ) → n < 4 → n / 2 + n % 2 ≡ ones n
ones_node n h = let z : n / 2 / 2 ≡ 0 = omega arith in omega (arith, ones_step n, ones_step (n / 2), ap ones z, ones-le 0 0 (omega arith))

-- the set bits of a word's first nodes
nodes_ones : {page : List ℕ} {at m word : ℕ} → NodesIn word page at m → (n : ℕ) → n ≤ m → n < 32 → at + n ≤ 240 → ones (word / 2 ^ (64 - 2 * n)) ≡ on_bits_from page at n
unfolding on_bits_from
nodes_ones {page} {at} {m} {word} w zero h k l = ap ones (div-eq_of_lt w.small) ∙ omega (arith, ones-le 0 0 (omega arith))
nodes_ones {page} {at} {m} {word} w (suc n) h k l =
    let x : ℕ = word / 2 ^ (64 - 2 * suc n) in
    let e : 64 - 2 * suc n ≡ 62 - 2 * n = omega arith in
    let f : 64 - 2 * suc n + 2 ≡ 64 - 2 * n = omega arith in
    let high : x / 4 ≡ word / 2 ^ (64 - 2 * n) = shr-shr word (64 - 2 * suc n) 2 ∙ ap (λ (y : ℕ). word / 2 ^ y) f in
    let low : x % 4 ≡ node_of page (at + n) = ap (λ (y : ℕ). word / 2 ^ y % 4) e ∙ w.node n (omega arith) (omega arith) in
    let small : x % 4 < 4 = mod-lt x (omega arith) in
    let both : x / 4 * 4 + x % 4 ≡ x = omega arith in
    sym (ap ones both)
    ∙ ones_cat 2 (x / 4) (x % 4) small
    ∙ ap₂ ◌+◌ (ap ones high ∙ nodes_ones w n (omega arith) (omega arith) (omega arith)) (sym (ones_node (x % 4) small) ∙ ap (λ (y : ℕ). y / 2 + y % 2) low)

-- nodes after nodes
on_bits_add : (page : List ℕ) (from m n : ℕ) → on_bits_from page from (m + n) ≡ on_bits_from page from m + on_bits_from page (from + m) n
unfolding on_bits_from
on_bits_add page from m zero = ap (on_bits_from page from) (add-zero m) ∙ sym (add-zero (on_bits_from page from m))
on_bits_add page from m (suc n) =
    let e : m + suc n ≡ suc (m + n) = omega arith in
    let f : from + (m + n) ≡ from + m + n = omega arith in
    ap (on_bits_from page from) e
    ∙ ap₂ (λ (x y : ℕ). x + (node_of page y / 2 + node_of page y % 2)) (on_bits_add page from m n) f
    ∙ add_assoc (on_bits_from page from m) (on_bits_from page (from + m) n) (node_of page (from + m + n) / 2 + node_of page (from + m + n) % 2)

-- at most two a node
on_bits_few : (page : List ℕ) (from n : ℕ) → on_bits_from page from n ≤ 2 * n
unfolding on_bits_from
on_bits_few page from zero = omega arith
on_bits_few page from (suc n) =
    let x : ℕ = node_of page (from + n) in
    let small : x < 4 = mod-lt (get_or page (4 + (from + n) / 4) 0 / 4 ^ (3 - (from + n) % 4)) (omega arith) in
    omega (arith, on_bits_few page from n, node-few x small)
  where
    node-few : (x : ℕ) → x < 4 → x / 2 + x % 2 ≤ 2
    node-few x h = omega arith

-- ---- a count of 28 nodes at a time: `left` nodes are still to come, from `at` on
pub record Counting (page : List ℕ) (from n sum at left : ℕ) : Type 0 where
  pub inside : at < 240
  pub to : at + left ≤ 240
  pub few : n ≤ 240
  pub sum_is : sum + on_bits_from page at left ≡ on_bits_from page from n

module _ {page : List ℕ} {from n sum at left : ℕ} (s : Counting page from n sum at left) where
  pub counting_small : sum ≤ 480
  counting_small = omega (arith, s.sum_is, s.few, on_bits_few page from n)

  module _ {word : ℕ} (w : NodesIn word page at 28) where
    pub counting_next : 28 < left → {m : ℕ} → m ≡ ones (word / 2 ^ 8) → Counting page from n (sum + m) (at + 28) (left - 28)
    counting_next h {m} e =
        let k : left ≡ 28 + (left - 28) = omega arith in
        record {
          inside = omega (arith, s.to);
          to = omega (arith, s.to);
          few = s.few;
          sum_is = omega (arith, s.sum_is, e, nodes_ones w 28 (omega arith) (omega arith) (omega (arith, s.to)), ap (on_bits_from page at) k, on_bits_add page at 28 (left - 28));
        }

    pub counting_end : left ≤ 28 → {m : ℕ} → m ≡ ones (word / 2 ^ 1 / 2 ^ (63 - 2 * left)) → (sum + m ≡ on_bits_from page from n) × (sum + m ≤ 480)
    counting_end h {m} e =
        let k : 1 + (63 - 2 * left) ≡ 64 - 2 * left = omega arith in
        let all : sum + m ≡ on_bits_from page from n = omega (arith, s.sum_is, e, ap ones (shr-shr word 1 (63 - 2 * left) ∙ ap (λ (x : ℕ). word / 2 ^ x) k), nodes_ones w left h (omega arith) s.to) in
        (all, omega (arith, s.few, on_bits_few page from n))
