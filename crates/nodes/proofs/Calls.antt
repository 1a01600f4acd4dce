-- What the counts over words say of the page that the words were gathered from. Assumes nothing.
use mathlib.Core.Path.{◌≡◌, ap, ◌∙◌}
use mathlib.Core.List.{List}
use Prim.Native.Nat.{ℕ, ◌+◌, ◌-◌, ◌*◌, ◌/◌, ◌%◌, ◌^◌, ◌≤◌, ◌<◌}
use native.Mathlib.Omega.{arith}
use lib.Count.{ones, ones_cat}
use lib.Pow.{shr-shr}
use lib.ListN.{length, get_or, take}
use Rattle.format.specs.Seq.{All}
use Rattle.format.specs.Trie.{bits, on_bits}
use Rattle.format.specs.Page.{Byte, pairs_at}
use Rattle.nodes.specs.declared.Words.{Words}
use Rattle.nodes.specs.Words.{words_of, ones_before, ones_through, node_in}
use Rattle.nodes.proofs.Numbers.{ones-bits}
use Rattle.nodes.proofs.Gathered.{on_bits_law, total_law, node_law}

-- through a node are those before it and its own
pub through_node : (word before : List ℕ) (n : ℕ) → ones_through word before n ≡ ones_before word before n + bits (node_in word n)
unfolding ones_through ones_before node_in
through_node word before n =
    let j : ℕ = (n + 16) / 32 in
    let k : ℕ = (n + 16) % 32 in
    let x : ℕ = get_or word j 0 in
    let w : ℕ = x / 2 ^ (62 - 2 * k) in
    let e : 62 - 2 * k + 2 ≡ 64 - 2 * k = omega arith in
    let high : w / 4 ≡ x / 2 ^ (64 - 2 * k) = shr-shr x (62 - 2 * k) 2 ∙ ap (λ (m : ℕ). x / 2 ^ m) e in
    let parts : w ≡ w / 4 * 4 + w % 4 = omega arith in
    omega (arith, ap ones parts, ones_cat 2 (w / 4) (w % 4) (omega arith), ap ones high, ones-bits (w % 4) (omega arith))

module _ (bytes : List ℕ) (small : All Byte bytes) (at : ℕ) (fits : at + 64 ≤ length bytes) (words : Words) (gathered : words ≡ words_of bytes at) where
  -- on_bits_before
  pub counted : (n : ℕ) → n ≤ 240 → ones_before words.word words.before n ≡ on_bits (take n (pairs_at bytes at))
  counted n h = ap (λ (w : Words). ones_before w.word w.before n) gathered ∙ on_bits_law bytes small at fits n h

  -- on_bits
  pub all_counted : get_or words.before 8 0 ≡ on_bits (pairs_at bytes at)
  all_counted = ap (λ (w : Words). get_or w.before 8 0) gathered ∙ total_law bytes small at fits

  -- node_at
  pub node_read : (n : ℕ) → n < 240 → node_in words.word n ≡ get_or (pairs_at bytes at) n 0
  node_read n h = ap (λ (w : Words). node_in w.word n) gathered ∙ node_law bytes small at fits n h
