-- A page's nodes filled in from the last to the first, a byte at a time: the byte of the current node is held back until it is left.
-- Assumes nothing.
use mathlib.Core.Path.{◌≡◌, refl, sym, ap, ◌∙◌}
use mathlib.Core.List.{List, [], ◌∷◌, ◌++◌, append-nil}
use Prim.Native.Nat.{ℕ, suc, ◌+◌, ◌/◌, ◌%◌, ◌≤◌, ◌<◌}
use native.Mathlib.Omega.{arith}
use native.Mathlib.Decide.{ℕ_discrete}
use borrow.Author.Tests.{eq-eqb, ne_eqb}
use lib.ListN.{length, get_or, take, drop, set, replicate, length-append, length-drop, length-set, take-append-drop, get_or-append}
use lib.Seq.{length-take-le, get_or-set_same, set-set, set-get_or, set-append_left, get_or-append-add, drop-drop}
use Rattle.format.specs.Seq.{All}
use Rattle.format.specs.Trie.{bit_of}
use Rattle.format.specs.Page.{node_bytes, pairs_at, Byte}
use Rattle.format.proofs.Lists.{all_at}
use Rattle.format.proofs.Bytes.{length-node_bytes, node_bytes_small, bytes_back}
use Rattle.page_writer.specs.Page.{nodes_of, with_nodes, bit_in, page_left, byte_left}
use Rattle.page_writer.proofs.Nodes.{node_added, zero_byte}

-- ---- a page with other nodes

module _ (page nodes : List ℕ) (room : 64 ≤ length page) where
  pub length_with : length (with_nodes page nodes) ≡ length page
  unfolding with_nodes
  length_with =
      omega (arith, length-append (take 4 page) (node_bytes 60 nodes ++ drop 64 page), length-append (node_bytes 60 nodes) (drop 64 page), length-take-le 4 page (omega arith), length-node_bytes 60 nodes, length-drop 64 page)

  -- a byte of its nodes
  pub byte_with : (i : ℕ) → i < 60 → get_or (with_nodes page nodes) (4 + i) 0 ≡ get_or (node_bytes 60 nodes) i 0
  unfolding with_nodes
  byte_with i h =
      let e : length (take 4 page) ≡ 4 = length-take-le 4 page (omega arith) in
      ap (λ (n : ℕ). get_or (take 4 page ++ (node_bytes 60 nodes ++ drop 64 page)) (n + i) 0) (sym e)
      ∙ get_or-append-add (take 4 page) (node_bytes 60 nodes ++ drop 64 page) i 0
      ∙ get_or-append (node_bytes 60 nodes) (drop 64 page) 0 i (omega (arith, length-node_bytes 60 nodes))

  -- and one stored
  set-with : (i v : ℕ) → i < 60 → set (with_nodes page nodes) (4 + i) v ≡ take 4 page ++ (set (node_bytes 60 nodes) i v ++ drop 64 page)
  unfolding with_nodes
  set-with i v h =
      let e : length (take 4 page) ≡ 4 = length-take-le 4 page (omega arith) in
      ap (λ (n : ℕ). set (take 4 page ++ (node_bytes 60 nodes ++ drop 64 page)) (n + i) v) (sym e)
      ∙ set_after (take 4 page) (node_bytes 60 nodes ++ drop 64 page)
      ∙ ap (take 4 page ++◌) (set-append_left (node_bytes 60 nodes) (drop 64 page) i v (omega (arith, length-node_bytes 60 nodes)))
    where
      set_after : (p q : List ℕ) → set (p ++ q) (length p + i) v ≡ p ++ set q i v
      set_after [] q = let e : 0 + i ≡ i = omega arith in ap (λ (n : ℕ). set q n v) e
      set_after (x ∷ p) q = let e : suc (length p) + i ≡ suc (length p + i) = omega arith in ap (λ (n : ℕ). set (x ∷ (p ++ q)) n v) e ∙ ap (x ∷◌) (set_after p q)

-- the page as it is
pub with_own : (page : List ℕ) → 64 ≤ length page → with_nodes page (nodes_of page) ≡ page
unfolding with_nodes nodes_of
with_own page room =
    let n : length (take 60 (drop 4 page)) ≡ 60 = length-take-le 60 (drop 4 page) (omega (arith, length-drop 4 page)) in
    let b : node_bytes 60 (pairs_at page 0) ≡ take 60 (drop 4 page) =
    ap (λ (k : ℕ). node_bytes k (pairs_at page 0)) (sym n) ∙ bytes_back (take 60 (drop 4 page)) (pairs_at page 0) [] (sym (append-nil _)) tt in
    ap (λ (l : List ℕ). take 4 page ++ (l ++ drop 64 page)) b ∙ cut page
  where
    cut : (page : List ℕ) → take 4 page ++ (take 60 (drop 4 page) ++ drop 64 page) ≡ page
    cut page = ap (λ (l : List ℕ). take 4 page ++ (take 60 (drop 4 page) ++ l)) (sym (drop-drop 60 4 page)) ∙ ap (take 4 page ++◌) (take-append-drop 60 (drop 4 page)) ∙ take-append-drop 4 page

-- ---- the byte held back

-- the page is `page₀` with other nodes, once the byte of node n is stored
abbrev pub Held : List ℕ → List ℕ → ℕ → ℕ → List ℕ → Type 0
Held page₀ page n byte nodes = set page (4 + n / 4) byte ≡ with_nodes page₀ nodes

module _ (page₀ page : List ℕ) (n byte : ℕ) (room : 64 ≤ length page₀) (same : length page ≡ length page₀) (lt : n < 240) where
  pub held_byte : (nodes : List ℕ) → Held page₀ page n byte nodes → byte ≡ get_or (node_bytes 60 nodes) (n / 4) 0
  held_byte nodes h =
      sym (get_or-set_same page (4 + n / 4) byte 0 (omega arith)) ∙ ap (λ (l : List ℕ). get_or l (4 + n / 4) 0) h ∙ byte_with page₀ nodes room (n / 4) (omega arith)

  -- the bit of a prefix turned on in node n, which is v
  pub held_on : (before : List ℕ) (v x : ℕ) (rest : List ℕ) → length before ≡ n → Held page₀ page n byte (before ++ v ∷ rest) → Held page₀ page n (byte + bit_in n x) (before ++ (bit_of x + v) ∷ rest)
  unfolding bit_in with_nodes
  held_on before v x rest e h =
      let b = held_byte (before ++ v ∷ rest) h in
      let w = byte + bit_in n x in
      sym (set-set page (4 + n / 4) byte w)
      ∙ ap (λ (l : List ℕ). set l (4 + n / 4) w) h
      ∙ set-with page₀ (before ++ v ∷ rest) room (n / 4) w (omega arith)
      ∙ ap (λ (l : List ℕ). take 4 page₀ ++ (l ++ drop 64 page₀)) (sym (stored b))
    where
      stored : byte ≡ get_or (node_bytes 60 (before ++ v ∷ rest)) (n / 4) 0 → node_bytes 60 (before ++ (bit_of x + v) ∷ rest) ≡ set (node_bytes 60 (before ++ v ∷ rest)) (n / 4) (byte + bit_in n x)
      stored b = rw (b, ← e) (node_added 60 before v (bit_of x) rest (omega arith))

  -- the byte stays a byte
  pub held_small : (nodes : List ℕ) → Held page₀ page n byte nodes → All (λ m. m ≤ 3) nodes → byte < 256
  held_small nodes h a = rw (held_byte nodes h) (all_at Byte (node_bytes 60 nodes) (n / 4) 0 (node_bytes_small 60 nodes a) (omega (arith, length-node_bytes 60 nodes)))

-- node n + 1 left for node n, which is 00 as all before it
pub held_left : (page₀ page : List ℕ) (n byte : ℕ) → 64 ≤ length page₀ → length page ≡ length page₀ → suc n < 240 → (rest : List ℕ) → Held page₀ page (suc n) byte (replicate (suc n) 0 ++ rest)
    → Held page₀ (page_left page (suc n) byte) n (byte_left (suc n) byte) (replicate (suc n) 0 ++ rest)
unfolding page_left byte_left
held_left page₀ page n byte room same lt rest h =
    elim (ℕ_discrete (suc n % 4) 0) [
      | yes e ↦ rw (eq-eqb (suc n % 4) 0 e) (
          let z : get_or (set page (4 + suc n / 4) byte) (4 + n / 4) 0 ≡ 0 = ap (λ (l : List ℕ). get_or l (4 + n / 4) 0) h ∙ byte_with page₀ (replicate (suc n) 0 ++ rest) room (n / 4) (omega arith) ∙ zero_byte 60 (n / 4) (suc n) rest (omega arith) in
          ap (set (set page (4 + suc n / 4) byte) (4 + n / 4)) (sym z) ∙ set-get_or (set page (4 + suc n / 4) byte) (4 + n / 4) 0 ∙ h)
      | no e ↦ rw (ne_eqb (suc n % 4) 0 e) (
          let q : n / 4 ≡ suc n / 4 = omega arith in
          ap (λ (k : ℕ). set page (4 + k) byte) q ∙ h)
    ]

pub length_left : (page : List ℕ) (n byte : ℕ) → length (page_left page n byte) ≡ length page
unfolding page_left
length_left page n byte = elim (ℕ_discrete (n % 4) 0) [
  | yes e ↦ rw (eq-eqb (n % 4) 0 e) (length-set page (4 + n / 4) byte)
  | no e ↦ rw (ne_eqb (n % 4) 0 e) refl
]
