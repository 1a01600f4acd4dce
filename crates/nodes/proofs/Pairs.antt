-- The pairs of words that were gathered from a page, and what the counts over the words say of them. Assumes nothing.
use mathlib.Core.Path.{◌≡◌, sym, ap, ap₂, subst, ◌∙◌}
use mathlib.Core.List.{List}
use Prim.Native.Nat.{ℕ, suc, ◌+◌, ◌≤◌, ◌<◌}
use native.Mathlib.Nat.{zero-add}
use native.Mathlib.Omega.{arith}
use lib.ListN.{length, get_or, take, drop, length-map}
use lib.Seq.{ext_get_or}
use Rattle.format.specs.Seq.{All, every, up_to}
use Rattle.format.specs.Trie.{bits, on_bits}
use Rattle.format.specs.Page.{Byte, pairs_at}
use Rattle.format.specs.Question.{is_positive, is_zero}
use Rattle.format.proofs.Lists.{length_up_to, map_at}
use Rattle.format.proofs.Descent.{on_bits-suc}
use Rattle.nodes.specs.declared.Words.{Words}
use Rattle.nodes.specs.Words.{Gathered, node_in, none_empty, ones_before, ones_through, pairs_in, rest_empty, words_of}
use Rattle.nodes.proofs.Numbers.{Nodes}
use Rattle.nodes.proofs.Gathered.{length_nodes, nodes_small}
use Rattle.nodes.proofs.Used.{none_empty_law}
use Rattle.nodes.proofs.Rest.{rest_empty_words}
use Rattle.nodes.proofs.Calls.{counted, all_counted, node_read, through_node}

pub length_pairs_in : (word : List ℕ) → length (pairs_in word) ≡ 240
unfolding pairs_in
length_pairs_in word = length-map (up_to 240) (node_in word) ∙ length_up_to 240

-- a pair is the node at its place
pub pair_in : (word : List ℕ) (p : ℕ) → p < 240 → get_or (pairs_in word) p 0 ≡ node_in word p
unfolding pairs_in up_to
pair_in word p h = map_at (node_in word) 0 0 240 p h ∙ ap (node_in word) (zero-add p)

-- gathered from a page, the pairs are the page's
pub pairs_are : (bytes : List ℕ) → All Byte bytes → (at : ℕ) → at + 64 ≤ length bytes → (words : Words) → words ≡ words_of bytes at → pairs_in words.word ≡ pairs_at bytes at
pairs_are bytes small at fits words e =
    let n = length_pairs_in words.word in
    let m = length_nodes bytes small at fits in
    ext_get_or 0 (pairs_in words.word) (pairs_at bytes at) (n ∙ sym m)
    (λ i h. let k : i < 240 = omega arith in pair_in words.word i k ∙ node_read bytes small at fits words e i k)

-- the words of a page are so gathered
pub gathered_from : (bytes : List ℕ) → All Byte bytes → (at : ℕ) → at + 64 ≤ length bytes → {words : Words} → words ≡ words_of bytes at → Gathered words.word words.before
gathered_from bytes small at fits e =
    record { bytes = bytes; at = at; small = small; fits = fits; word_is = ap (λ (w : Words). w.word) e; before_is = ap (λ (w : Words). w.before) e }

module _ {word before : List ℕ} (g : Gathered word before) where
  abbrev words : Words
  words = record { word = word; before = before }

  from : words ≡ words_of g.bytes g.at
  from = λ i. record { word = g.word_is i; before = g.before_is i }

  same : pairs_in word ≡ pairs_at g.bytes g.at
  same = pairs_are g.bytes g.small g.at g.fits words from

  pub nodes_in_lem : Nodes (pairs_in word)
  nodes_in_lem = subst Nodes (sym same) (nodes_small g.bytes g.small g.at g.fits)

  -- on_bits_before
  pub counted_in : (n : ℕ) → n ≤ 240 → ones_before word before n ≡ on_bits (take n (pairs_in word))
  counted_in n h = counted g.bytes g.small g.at g.fits words from n h ∙ ap (λ (l : List ℕ). on_bits (take n l)) (sym same)

  -- on_bits_through
  pub through_in : (n : ℕ) → n < 240 → ones_through word before n ≡ on_bits (take (suc n) (pairs_in word))
  unfolding bits
  through_in n h =
      omega (arith, through_node word before n, counted_in n (omega arith), on_bits-suc (pairs_in word) n (omega (arith, length_pairs_in word)), ap bits (pair_in word n h))

  -- on_bits
  pub all_counted_in : get_or before 8 0 ≡ on_bits (pairs_in word)
  all_counted_in = all_counted g.bytes g.small g.at g.fits words from ∙ ap on_bits (sym same)

  -- none_empty
  pub none_empty_in : (n : ℕ) → n ≤ 240 → none_empty word n ≡ every is_positive (take n (pairs_in word))
  none_empty_in n h =
      ap (λ (w : List ℕ). none_empty w n) g.word_is ∙ none_empty_law g.bytes g.small g.at n g.fits h ∙ ap (λ (l : List ℕ). every is_positive (take n l)) (sym same)

  -- rest_empty
  pub rest_empty_in : (n : ℕ) → n ≤ 240 → rest_empty word before n ≡ every is_zero (drop n (pairs_in word))
  rest_empty_in n h =
      ap₂ (λ (w v : List ℕ). rest_empty w v n) g.word_is g.before_is ∙ rest_empty_words g.bytes g.small g.at n g.fits h ∙ ap (λ (l : List ℕ). every is_zero (drop n l)) (sym same)
