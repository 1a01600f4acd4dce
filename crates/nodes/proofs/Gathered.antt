-- A page's words and its nodes: counts over the words are counts over the nodes. Assumes nothing.
use mathlib.Core.Path.{◌≡◌, refl, sym, ap, ap₂, ◌∙◌}
use mathlib.Core.List.{List, [], ◌∷◌, ◌++◌, flat_map}
use Prim.Native.Nat.{ℕ, zero, suc, ◌+◌, ◌-◌, ◌*◌, ◌/◌, ◌%◌, ◌^◌, ◌≤◌, ◌<◌}
use native.Mathlib.Nat.{zero-add}
use native.Mathlib.Decide.{dec_lt}
use native.Mathlib.Omega.{arith}
use lib.ListN.{length, take, drop, get_or, replicate, length-append, length-take, length-drop}
use lib.Seq.{drop-drop, take-add, take-take, take_all, take-nil, drop-nil, get_or-drop, get_or-append-add}
use lib.Bits.{bit_or, or_shifted_r}
use lib.Count.{ones, ones_in}
use Rattle.format.specs.Seq.{All, numbers_from}
use Rattle.format.specs.Trie.{bits, on_bits}
use Rattle.format.specs.Page.{Byte, pairs_at, pairs_of}
use Rattle.format.proofs.Lists.{all_get, all_take, all_drop, all_append, drop-take}
use Rattle.format.proofs.Bytes.{length_pairs, pairs_small}
use Rattle.format.proofs.Subtries.{on_bits-append}
use Rattle.nodes.specs.Words.{counts_before, half_at, word_at, words_in, filled_up, ones_before, node_in}
use Rattle.nodes.proofs.Numbers.{Nodes, nodes_same, val, val_take, val_last, ones_val, half_val, word_val}

-- ---- words of 32 nodes

unfoldable pub words_from : ℕ → List ℕ → List ℕ
words_from zero qs = []
words_from (suc m) qs = val 0 (take 32 qs) ∷ words_from m (drop 32 qs)

word_from : (m j : ℕ) (qs : List ℕ) → j < m → get_or (words_from m qs) j 0 ≡ val 0 (take 32 (drop (32 * j) qs))
unfolding words_from
word_from zero j qs h = absurd (omega arith)
word_from (suc m) zero qs h = refl
word_from (suc m) (suc j) qs h =
    let e : 32 + 32 * j ≡ 32 * suc j = omega arith in
    word_from m j (drop 32 qs) (omega arith) ∙ ap (λ (x : List ℕ). val 0 (take 32 x)) (drop-drop (32 * j) 32 qs ∙ ap (λ (x : ℕ). drop x qs) e)

counts_from : (a m j : ℕ) (qs : List ℕ) → Nodes qs → j < m → get_or (counts_before a (words_from m qs)) j 0 ≡ a + on_bits (take (32 * j) qs)
unfolding words_from counts_before on_bits
counts_from a zero j qs s h = absurd (omega arith)
counts_from a (suc m) zero qs s h = omega arith
counts_from a (suc m) (suc j) qs s h =
    let e : 32 * suc j ≡ 32 + 32 * j = omega arith in
    let t : on_bits (take (32 * suc j) qs) ≡ on_bits (take 32 qs) + on_bits (take (32 * j) (drop 32 qs)) =
    ap (λ (x : ℕ). on_bits (take x qs)) e ∙ ap on_bits (take-add 32 (32 * j) qs) ∙ on_bits-append (take 32 qs) (take (32 * j) (drop 32 qs)) in
    counts_from (a + ones (val 0 (take 32 qs))) m j (drop 32 qs) (all_drop (λ d. d ≤ 3) 32 qs s) (omega arith)
    ∙ omega (arith, t, ones_val (take 32 qs) (all_take (λ d. d ≤ 3) 32 qs s))

-- ---- nodes of bytes

take_pairs : (k : ℕ) (l : List ℕ) → take (4 * k) (flat_map pairs_of l) ≡ flat_map pairs_of (take k l)
unfolding flat_map pairs_of
take_pairs zero l = refl
take_pairs (suc k) [] = take-nil (4 * suc k)
take_pairs (suc k) (b ∷ bs) =
    let e : 4 * suc k ≡ suc (suc (suc (suc (4 * k)))) = omega arith in
    ap (λ (n : ℕ). take n (flat_map pairs_of (b ∷ bs))) e ∙ ap (λ (x : List ℕ). b / 64 ∷ b / 16 % 4 ∷ b / 4 % 4 ∷ b % 4 ∷ x) (take_pairs k bs)

drop_pairs : (k : ℕ) (l : List ℕ) → drop (4 * k) (flat_map pairs_of l) ≡ flat_map pairs_of (drop k l)
unfolding flat_map pairs_of
drop_pairs zero l = refl
drop_pairs (suc k) [] = drop-nil (4 * suc k)
drop_pairs (suc k) (b ∷ bs) =
    let e : 4 * suc k ≡ suc (suc (suc (suc (4 * k)))) = omega arith in
    ap (λ (n : ℕ). drop n (flat_map pairs_of (b ∷ bs))) e ∙ drop_pairs k bs

module _ (bytes : List ℕ) (small : All Byte bytes) where
  -- m words from i on, then 0
  words_on : ℕ → ℕ → List ℕ
  words_on zero i = 0 ∷ []
  words_on (suc m) i = word_at bytes i ∷ words_on m (i + 8)

  words-on : (m i : ℕ) → i + 8 * m ≤ length bytes → words_on m i ≡ words_from (suc m) (flat_map pairs_of (take (8 * m) (drop i bytes)))
  unfolding words_on words_from flat_map val
  words-on zero i h = refl
  words-on (suc m) i h =
      let l : List ℕ = drop i bytes in
      let first : word_at bytes i ≡ val 0 (take 32 (flat_map pairs_of (take (8 * suc m) l))) =
      sym (word_val bytes small i (omega arith))
      ∙ ap (λ (x : List ℕ). val 0 (flat_map pairs_of x)) (sym (take-take 8 (8 * suc m) l (omega arith)))
      ∙ ap (val 0) (sym (take_pairs 8 (take (8 * suc m) l))) in
      let e : 8 * suc m - 8 ≡ 8 * m = omega arith in
      let later : drop 8 (take (8 * suc m) l) ≡ take (8 * m) (drop (i + 8) bytes) =
      drop-take 8 (8 * suc m) l ∙ ap₂ take e (drop-drop 8 i bytes) in
      ap₂ ◌∷◌ first
      (words-on m (i + 8) (omega arith)
      ∙ ap (words_from (suc m)) (ap (flat_map pairs_of) (sym later) ∙ sym (drop_pairs 8 (take (8 * suc m) l))))

  half-small : (i : ℕ) → half_at bytes i < 4294967296
  unfolding half_at
  half-small i = omega (arith, byte i, byte (i + 1), byte (i + 2), byte (i + 3))
    where
      byte : (j : ℕ) → get_or bytes j 0 < 256
      byte j = all_get Byte bytes j 0 (omega arith) small

  module _ (at : ℕ) (fits : at + 64 ≤ length bytes) where
    -- with 16 nodes f before the page's
    words_of : (f : ℕ) → val 0 (replicate 16 f ++ take 16 (pairs_at bytes at)) ∷ words_on 7 (at + 8) ≡ words_from 9 (replicate 16 f ++ pairs_at bytes at)
    unfolding words_from
    words_of f =
        let e : at + 8 ≡ at + 4 + 4 = omega arith in
        let later : take 56 (drop (at + 8) bytes) ≡ drop 4 (take 60 (drop (at + 4) bytes)) =
        ap (take 56) (ap (λ (x : ℕ). drop x bytes) e ∙ sym (drop-drop 4 (at + 4) bytes)) ∙ sym (drop-take 4 60 (drop (at + 4) bytes)) in
        ap (val 0 (replicate 16 f ++ take 16 (pairs_at bytes at)) ∷◌)
        (words-on 7 (at + 8) (omega arith) ∙ ap (words_from 8) (ap (flat_map pairs_of) later ∙ sym (drop_pairs 4 (take 60 (drop (at + 4) bytes)))))

    first-half : (w : ℕ) → val w (take 16 (pairs_at bytes at)) ≡ w * 4294967296 + half_at bytes (at + 4)
    first-half w =
        ap (val w) (take_pairs 4 (take 60 (drop (at + 4) bytes)) ∙ ap (flat_map pairs_of) (take-take 4 60 (drop (at + 4) bytes) (omega arith)))
        ∙ half_val bytes small w (at + 4) (omega arith)

    words_are : words_in bytes at ≡ half_at bytes (at + 4) ∷ words_on 7 (at + 8)
    unfolding words_in words_on
    words_are =
        let e₂ : at + 16 ≡ at + 8 + 8 = omega arith in
        let e₃ : at + 24 ≡ at + 8 + 8 + 8 = omega arith in
        let e₄ : at + 32 ≡ at + 8 + 8 + 8 + 8 = omega arith in
        let e₅ : at + 40 ≡ at + 8 + 8 + 8 + 8 + 8 = omega arith in
        let e₆ : at + 48 ≡ at + 8 + 8 + 8 + 8 + 8 + 8 = omega arith in
        let e₇ : at + 56 ≡ at + 8 + 8 + 8 + 8 + 8 + 8 + 8 = omega arith in
        λ i. half_at bytes (at + 4) ∷ word_at bytes (at + 8) ∷ word_at bytes (e₂ i) ∷ word_at bytes (e₃ i) ∷ word_at bytes (e₄ i) ∷ word_at bytes (e₅ i) ∷ word_at bytes (e₆ i) ∷ word_at bytes (e₇ i) ∷ 0 ∷ []

    words-from : words_in bytes at ≡ words_from 9 (replicate 16 0 ++ pairs_at bytes at)
    unfolding val
    words-from =
        let e : half_at bytes (at + 4) ≡ val 0 (replicate 16 0 ++ take 16 (pairs_at bytes at)) = sym (first-half 0 ∙ omega arith) in
        words_are ∙ ap (◌∷ words_on 7 (at + 8)) e ∙ words_of 0

    -- the words with the 16 places before the first node taken for 11
    pub words_filled : filled_up (words_in bytes at) ≡ words_from 9 (replicate 16 3 ++ pairs_at bytes at)
    unfolding filled_up numbers_from words_on val
    words_filled =
        let e : bit_or (half_at bytes (at + 4)) 0xffff_ffff_0000_0000 ≡ val 0 (replicate 16 3 ++ take 16 (pairs_at bytes at)) =
        or_shifted_r 4294967295 32 (half_at bytes (at + 4)) (half-small (at + 4)) ∙ sym (first-half 4294967295) in
        ap filled_up words_are ∙ ap (◌∷ words_on 7 (at + 8)) e ∙ words_of 3

    pub nodes_small : Nodes (pairs_at bytes at)
    nodes_small = pairs_small (take 60 (drop (at + 4) bytes)) (all_take Byte 60 (drop (at + 4) bytes) (all_drop Byte (at + 4) bytes small))

    pub length_nodes : length (pairs_at bytes at) ≡ 240
    length_nodes = omega (arith, length_pairs (take 60 (drop (at + 4) bytes)), length-take 60 (drop (at + 4) bytes), length-drop (at + 4) bytes)

    -- the page's nodes with 16 times 00 before them
    qs : List ℕ
    qs = replicate 16 0 ++ pairs_at bytes at

    qs-small : Nodes qs
    unfolding qs
    qs-small = all_append (λ d. d ≤ 3) (replicate 16 0) (pairs_at bytes at) (nodes_same 0 16 (omega arith)) nodes_small

    length-qs : length qs ≡ 256
    unfolding qs
    length-qs = length-append (replicate 16 0) (pairs_at bytes at) ∙ omega (arith, length_nodes)

    part : ℕ → List ℕ
    part j = take 32 (drop (32 * j) qs)

    part_small : (j : ℕ) → Nodes (part j)
    unfolding part
    part_small j = all_take (λ d. d ≤ 3) 32 (drop (32 * j) qs) (all_drop (λ d. d ≤ 3) (32 * j) qs qs-small)

    length_part : (j : ℕ) → j < 8 → length (part j) ≡ 32
    unfolding part
    length_part j h = omega (arith, length-take 32 (drop (32 * j) qs), length-drop (32 * j) qs, length-qs)

    word_is : (j : ℕ) → j < 9 → get_or (words_in bytes at) j 0 ≡ val 0 (part j)
    unfolding qs part
    word_is j h = ap (λ (ws : List ℕ). get_or ws j 0) words-from ∙ word_from 9 j qs h

    before_is : (j : ℕ) → j < 9 → get_or (counts_before 0 (words_in bytes at)) j 0 ≡ on_bits (take (32 * j) qs)
    unfolding qs
    before_is j h = ap (λ (ws : List ℕ). get_or (counts_before 0 ws) j 0) words-from ∙ counts_from 0 9 j qs qs-small h ∙ omega arith

    -- the first k nodes of a word
    word_cut : (j k m : ℕ) → j < 8 → k + m ≡ 32 → get_or (words_in bytes at) j 0 / 2 ^ (2 * m) ≡ val 0 (take k (drop (32 * j) qs))
    word_cut j k m h e =
        ap (λ (w : ℕ). w / 2 ^ (2 * m)) (word_is j (omega arith))
        ∙ val_take 0 k m (part j) (e ∙ sym (length_part j h)) (part_small j)
        ∙ (unfold part in ap (val 0) (take-take k 32 (drop (32 * j) qs) (omega arith)))

    word_ones : (j k : ℕ) → k < 32 → 32 * j + k ≤ 256 → ones (get_or (words_in bytes at) j 0 / 2 ^ (64 - 2 * k)) ≡ on_bits (take k (drop (32 * j) qs))
    word_ones j k l r = elim (dec_lt j 8) [
      | yes h ↦
          let e : 64 - 2 * k ≡ 2 * (32 - k) = omega arith in
          ap (λ (x : ℕ). ones (get_or (words_in bytes at) j 0 / 2 ^ x)) e
          ∙ ap ones (word_cut j k (32 - k) h (omega arith))
          ∙ ones_val (take k (drop (32 * j) qs)) (all_take (λ d. d ≤ 3) k (drop (32 * j) qs) (all_drop (λ d. d ≤ 3) (32 * j) qs qs-small))
      | no h ↦ let e : j ≡ 8 = omega arith in let f : k ≡ 0 = omega arith in rw (e, f) (unfold words_in ones ones_in on_bits in refl)
    ]

    -- the on bits of the first n nodes
    pub on_bits_law : (n : ℕ) → n ≤ 240 → ones_before (words_in bytes at) (counts_before 0 (words_in bytes at)) n ≡ on_bits (take n (pairs_at bytes at))
    unfolding ones_before
    on_bits_law n h =
        let j : ℕ = (n + 16) / 32 in
        let k : ℕ = (n + 16) % 32 in
        let e : 32 * j + k ≡ 16 + n = omega arith in
        ap₂ ◌+◌ (before_is j (omega arith)) (word_ones j k (omega arith) (omega arith))
        ∙ sym (on_bits-append (take (32 * j) qs) (take k (drop (32 * j) qs)))
        ∙ ap on_bits (sym (take-add (32 * j) k qs) ∙ ap (λ (x : ℕ). take x qs) e ∙ take-add 16 n qs)
        ∙ on_bits-append (take 16 qs) (take n (drop 16 qs))
        ∙ (unfold qs on_bits bits in zero-add (on_bits (take n (pairs_at bytes at))))

    -- node n
    pub node_law : (n : ℕ) → n < 240 → node_in (words_in bytes at) n ≡ get_or (pairs_at bytes at) n 0
    unfolding node_in
    node_law n h =
        let j : ℕ = (n + 16) / 32 in
        let k : ℕ = (n + 16) % 32 in
        let e : 62 - 2 * k ≡ 2 * (31 - k) = omega arith in
        let f : 32 * j + k ≡ 16 + n = omega arith in
        let ds : List ℕ = drop (32 * j) qs in
        ap (λ (x : ℕ). get_or (words_in bytes at) j 0 / 2 ^ x % 4) e
        ∙ ap (◌% 4) (word_cut j (suc k) (31 - k) (omega arith) (omega arith))
        ∙ val_last 0 k ds (omega (arith, length-drop (32 * j) qs, length-qs)) (all_drop (λ d. d ≤ 3) (32 * j) qs qs-small)
        ∙ get_or-drop (32 * j) qs k 0
        ∙ ap (λ (x : ℕ). get_or qs x 0) f
        ∙ (unfold qs in get_or-append-add (replicate 16 0) (pairs_at bytes at) n 0)

    -- the on bits of all nodes
    whole : take 256 qs ≡ replicate 16 0 ++ pairs_at bytes at
    unfolding qs
    whole = take_all 256 qs (omega (arith, length-qs))

    pub total_law : get_or (counts_before 0 (words_in bytes at)) 8 0 ≡ on_bits (pairs_at bytes at)
    total_law =
        before_is 8 (omega arith)
        ∙ ap on_bits whole
        ∙ on_bits-append (replicate 16 0) (pairs_at bytes at)
        ∙ (unfold on_bits bits in zero-add (on_bits (pairs_at bytes at)))

    -- word 7 has the last 32 nodes
    pub last_word : get_or (words_in bytes at) 7 0 ≡ val 0 (drop 208 (pairs_at bytes at))
    last_word = word_is 7 (omega arith) ∙ ap (val 0) last-part
      where
        last-part : part 7 ≡ drop 208 (pairs_at bytes at)
        last-part = unfold part qs in take_all 32 (drop 208 (pairs_at bytes at)) (omega (arith, length-drop 208 (pairs_at bytes at), length_nodes))
