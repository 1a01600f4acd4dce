-- A word of a page's nodes: which node stands where, and the word moved on.
-- Assumes nothing.
use mathlib.Core.List.{List, [], ◌∷◌, flat_map}
use mathlib.Core.Path.{◌≡◌, refl, sym, ap, ap₂, ◌∙◌}
use Prim.Native.Nat.{ℕ, zero, suc, ◌+◌, ◌-◌, ◌*◌, ◌/◌, ◌%◌, ◌^◌, ◌≤◌, ◌<◌}
use native.Mathlib.Nat.{add-zero, div-one, mod-eq_of_lt, mod-lt, zero-div}
use native.Mathlib.Omega.{arith}
use lib.ListN.{length, get_or, take, drop, length-drop}
use lib.Pow.{field, mod-mod-pow, shl-shr, shr_lt, shr-shr}
use lib.Seq.{get_or-drop, get_or-take, length-take-le}
use Rattle.format.specs.Seq.{All}
use Rattle.format.specs.Page.{Byte, pairs_of}
use Rattle.format.proofs.Bytes.{length_pairs, pairs_small}
use Rattle.format.proofs.Lists.{all_take, all_drop}
use Rattle.nodes.specs.Words.{word_at}
use Rattle.nodes.proofs.Numbers.{val_last, val_take, word_val}
use Rattle.reader.specs.Page.{node_of, NodesIn}

-- the node at a place of bytes
pub pair_at : (bs : List ℕ) (j : ℕ) → All Byte bs → get_or (flat_map pairs_of bs) j 0 ≡ get_or bs (j / 4) 0 / 4 ^ (3 - j % 4) % 4
unfolding flat_map pairs_of
pair_at [] j a = ap (◌% 4) (sym (zero-div (4 ^ (3 - j % 4))))
pair_at (x ∷ bs) zero a = omega (arith, a.0)
pair_at (x ∷ bs) (suc zero) a = refl
pair_at (x ∷ bs) (suc (suc zero)) a = refl
pair_at (x ∷ bs) (suc (suc (suc zero))) a = ap (◌% 4) (sym (div-one x))
pair_at (x ∷ bs) (suc (suc (suc (suc j)))) a =
    let q : suc (suc (suc (suc j))) / 4 ≡ suc (j / 4) = omega arith in
    let m : suc (suc (suc (suc j))) % 4 ≡ j % 4 = omega arith in
    pair_at bs j a.1 ∙ sym (ap₂ (λ (u v : ℕ). get_or (x ∷ bs) u 0 / 4 ^ (3 - v) % 4) q m)

-- node k of a word that was moved on by m nodes
moved_node : (w m k : ℕ) → k + m < 32 → w * 2 ^ (2 * m) % 2 ^ 64 / 2 ^ (62 - 2 * k) % 4 ≡ w / 2 ^ (62 - 2 * (k + m)) % 4
moved_node w m k h =
    let n : ℕ = w * 2 ^ (2 * m) in
    let all : 64 ≡ 2 * k + 2 + (62 - 2 * k) = omega arith in
    let part : 62 - 2 * k ≡ 2 * m + (62 - 2 * (k + m)) = omega arith in
    ap (λ (x : ℕ). n % 2 ^ x / 2 ^ (62 - 2 * k) % 4) all
    ∙ ap (◌% 4) (field n (2 * k + 2) (62 - 2 * k))
    ∙ mod-mod-pow (n / 2 ^ (62 - 2 * k)) (2 * k) 2
    ∙ ap (λ (x : ℕ). n / 2 ^ x % 4) part
    ∙ ap (◌% 4) (sym (shr-shr n (2 * m) (62 - 2 * (k + m))) ∙ ap (◌/ 2 ^ (62 - 2 * (k + m))) (shl-shr w (2 * m)))

-- the node of a byte, moved to the highest bits: 28 places on, and as many more as nodes of the byte stand before it
pub one_is : (page : List ℕ) (j s : ℕ) → s ≡ 56 + 2 * (j % 4) → NodesIn (get_or page (4 + j / 4) 0 * 2 ^ s % 2 ^ 64) page j 1
one_is page j s e =
    let b : ℕ = get_or page (4 + j / 4) 0 in
    let m : ℕ = 28 + j % 4 in
    let double : s ≡ 2 * m = omega arith in
    record {
      small = mod-lt (b * 2 ^ s) (omega arith);
      node = λ k h l.
          let z : k ≡ 0 = omega arith in
          let there : j + k ≡ j = omega arith in
          let low : 62 - 2 * (k + m) ≡ 6 - 2 * (j % 4) = omega arith in
          ap (λ (x : ℕ). b * 2 ^ x % 2 ^ 64 / 2 ^ (62 - 2 * k) % 4) double
          ∙ moved_node b m k (omega arith)
          ∙ ap (λ (x : ℕ). b / 2 ^ x % 4) low
          ∙ ap (λ (x : ℕ). b / x % 4) (powers (j % 4) (omega arith))
          ∙ ap (node_of page) (sym there);
    }
  where
    -- two bits for each place after the node's
    powers : (k : ℕ) → k < 4 → 2 ^ (6 - 2 * k) ≡ 4 ^ (3 - k)
    powers zero h = refl
    powers (suc zero) h = refl
    powers (suc (suc zero)) h = refl
    powers (suc (suc (suc zero))) h = refl
    powers (suc (suc (suc (suc k)))) h = absurd (omega arith)

module _ (page : List ℕ) (long : length page ≡ 64) (small : All Byte page) where
  -- node k of eight bytes
  word-node : (byte k : ℕ) → byte ≤ 52 → k < 32 → word_at page (4 + byte) / 2 ^ (62 - 2 * k) % 4 ≡ node_of page (4 * byte + k)
  word-node byte k hb hk =
      let bs : List ℕ = take 8 (drop (4 + byte) page) in
      let bs-small : All Byte bs = all_take Byte 8 (drop (4 + byte) page) (all_drop Byte (4 + byte) page small) in
      let size : length (flat_map pairs_of bs) ≡ 32 = length_pairs bs ∙ ap (4 *◌) (length-take-le 8 (drop (4 + byte) page) (omega (arith, length-drop (4 + byte) page))) in
      let ends : 62 - 2 * k ≡ 2 * (31 - k) = omega arith in
      let whole : suc k + (31 - k) ≡ length (flat_map pairs_of bs) = omega arith in
      let q : 4 + byte + k / 4 ≡ 4 + (4 * byte + k) / 4 = omega arith in
      let m : k % 4 ≡ (4 * byte + k) % 4 = omega arith in
      let there : k / 4 < 8 = omega arith in
      ap₂ (λ (x y : ℕ). x / 2 ^ y % 4) (sym (word_val page small (4 + byte) (omega arith))) ends
      ∙ ap (◌% 4) (val_take 0 (suc k) (31 - k) (flat_map pairs_of bs) whole (pairs_small bs bs-small))
      ∙ val_last 0 k (flat_map pairs_of bs) (omega arith) (pairs_small bs bs-small)
      ∙ pair_at bs k bs-small
      ∙ ap (λ (x : ℕ). x / 4 ^ (3 - k % 4) % 4) (get_or-take 8 (drop (4 + byte) page) (k / 4) 0 there ∙ get_or-drop (4 + byte) page (k / 4) 0)
      ∙ ap₂ (λ (x y : ℕ). get_or page x 0 / 4 ^ (3 - y) % 4) q m

  -- the word of eight bytes, moved on to the node
  pub many_are : (j byte : ℕ) → byte ≤ 52 → 4 * byte ≤ j → ((k : ℕ) → k < 28 → j + k < 240 → k + (j - 4 * byte) < 32) → NodesIn (word_at page (4 + byte) * 2 ^ (2 * (j - 4 * byte)) % 2 ^ 64) page j 28
  many_are j byte hb ha room =
      record {
        small = mod-lt (word_at page (4 + byte) * 2 ^ (2 * (j - 4 * byte))) (omega arith);
        node = λ k h l. let e : 4 * byte + (k + (j - 4 * byte)) ≡ j + k = omega arith in moved_node (word_at page (4 + byte)) (j - 4 * byte) k (room k h l) ∙ word-node byte (k + (j - 4 * byte)) hb (room k h l) ∙ ap (node_of page) e;
      }

module _ {page : List ℕ} {j n word : ℕ} (w : NodesIn word page j n) where
  -- fewer nodes
  pub nodes_less : {m : ℕ} → m ≤ n → NodesIn word page j m
  nodes_less h = record { small = w.small; node = λ k l. w.node k (omega arith) }

  -- the node in the highest bits
  pub nodes_top : 0 < n → j < 240 → word / 2 ^ 62 ≡ node_of page j
  nodes_top few h = sym (mod-eq_of_lt (shr_lt 2 62 w.small)) ∙ w.node 0 few (omega arith) ∙ ap (node_of page) (add-zero j)

  -- moved on by one node, or by none
  pub nodes_next : n < 32 → (on : ℕ) → on ≤ 1 → NodesIn (word * 2 ^ (2 * on) % 2 ^ 64) page (j + on) (n - 1)
  nodes_next few on le =
      record {
        small = mod-lt (word * 2 ^ (2 * on)) (omega arith);
        node = λ k h l. let e : j + (k + on) ≡ j + on + k = omega arith in moved_node word on k (omega arith) ∙ w.node (k + on) (omega arith) (omega arith) ∙ ap (node_of page) e;
      }
