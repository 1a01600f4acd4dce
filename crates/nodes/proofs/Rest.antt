-- Whether the nodes from a place on are all 00. Assumes nothing.
use mathlib.Core.Path.{◌≡◌, refl, sym, ap, ap₂, ◌∙◌}
use mathlib.Core.Bool.{Bool, true, false}
use mathlib.Core.List.{List}
use Prim.Native.Nat.{ℕ, zero, suc, ◌+◌, ◌-◌, ◌*◌, ◌/◌, ◌%◌, ◌^◌, ◌≤◌, ◌<◌}
use native.Mathlib.Nat.{pow-suc, mod-lt}
use native.Mathlib.Decide.{ℕ_discrete}
use native.Mathlib.Omega.{arith}
use borrow.Author.Tests.{eq-eqb, ne_eqb, ltb-true}
use lib.Count.{ones, ones_in, ones_step, ones_cat}
use lib.Dec.{eqb, ltb}
use lib.ListN.{length, take, drop, length-drop}
use lib.Pow.{pow_pos, split}
use lib.Seq.{drop-drop}
use Rattle.format.specs.Seq.{All, every}
use Rattle.format.specs.Trie.{on_bits}
use Rattle.format.specs.Page.{Byte, pairs_at}
use Rattle.format.specs.Question.{is_zero}
use Rattle.format.proofs.Checked.{cond_yes, cond_no}
use Rattle.format.proofs.Lists.{all_drop, all_take}
use Rattle.format.proofs.Subtries.{on_bits-split}
use Rattle.nodes.specs.Words.{counts_before, rest_empty, words_in}
use Rattle.nodes.proofs.Numbers.{Nodes, val, val_take, ones_val}
use Rattle.nodes.proofs.Gathered.{nodes_small, length_nodes, on_bits_law, total_law, last_word}
use Rattle.nodes.proofs.Used.{all_empty, rest_empty_law}

-- a number without set bits is 0
no_ones : (k n : ℕ) → n < 2 ^ k → ones n ≡ 0 → n ≡ 0
no_ones zero n h e = omega arith
no_ones (suc k) n h e =
    let half : n / 2 ≡ 0 = no_ones k (n / 2) (omega (arith, pow-suc 2 k)) (omega (arith, ones_step n)) in
    omega (arith, ones_step n)

-- in a word of 32 nodes, from node k on
module _ (ds : List ℕ) (h : Nodes ds) (long : length ds ≡ 32) (k : ℕ) (hi : k ≤ 32) where
  w : ℕ
  w = val 0 ds

  s : ℕ
  s = 64 - 2 * k

  kept : ℕ
  kept = w / 2 ^ s * 2 ^ s

  small : w < 18446744073709551616
  unfolding w
  small =
      let e : val 0 ds / 2 ^ (2 * 32) ≡ val 0 (take 0 ds) = val_take 0 0 32 ds (sym long) h in
      omega (arith, e, val-none)
    where
      val-none : val 0 (take 0 ds) ≡ 0
      val-none = unfold val in refl

  rest : ones (w % 2 ^ s) ≡ on_bits (drop k ds)
  unfolding w s
  rest =
      let e : s ≡ 2 * (32 - k) = omega arith in
      let cut : w / 2 ^ s ≡ val 0 (take k ds) = ap (λ (x : ℕ). w / 2 ^ x) e ∙ val_take 0 k (32 - k) ds (omega arith) h in
      let parts : ones w ≡ ones (w / 2 ^ s) + ones (w % 2 ^ s) = ap ones (sym (split w s)) ∙ ones_cat s (w / 2 ^ s) (w % 2 ^ s) (mod-lt w (pow_pos s)) in
      omega (arith, parts, ones_val ds h, ap ones cut, ones_val (take k ds) (all_take (λ d. d ≤ 3) k ds h), on_bits-split k ds)

  pub word_rest : eqb (val 0 ds / 2 ^ (64 - 2 * k) * 2 ^ (64 - 2 * k) % 2 ^ 64) (val 0 ds) ≡ every is_zero (drop k ds)
  unfolding w s kept
  word_rest =
      let parts : kept + w % 2 ^ s ≡ w = split w s in
      let same : kept % 18446744073709551616 ≡ kept = omega (arith, small) in
      ap (λ (x : ℕ). eqb x w) same ∙ elim (ℕ_discrete (w % 2 ^ s) 0) [
        | yes z ↦ let none : on_bits (drop k ds) ≡ 0 = sym rest ∙ ap ones z ∙ no-ones-zero in
            eq-eqb kept w (omega (arith, parts)) ∙ sym (eq-eqb (on_bits (drop k ds)) 0 none) ∙ all_empty (drop k ds)
        | no n ↦ let some : on_bits (drop k ds) ≡ 0 → ⊥ = λ e. n (no_ones s (w % 2 ^ s) (mod-lt w (pow_pos s)) (rest ∙ e)) in
            ne_eqb kept w (λ e. n (omega (arith, parts))) ∙ sym (ne_eqb (on_bits (drop k ds)) 0 some) ∙ all_empty (drop k ds)
      ]
    where
      no-ones-zero : ones 0 ≡ 0
      no-ones-zero = unfold ones ones_in in refl

-- of a page
pub rest_empty_words : (bytes : List ℕ) → All Byte bytes → (at n : ℕ) → at + 64 ≤ length bytes → n ≤ 240
    → rest_empty (words_in bytes at) (counts_before 0 (words_in bytes at)) n ≡ every is_zero (drop n (pairs_at bytes at))
unfolding rest_empty
rest_empty_words bytes small at n fits h = go (ltb 208 n) refl
  where
    ps : List ℕ
    ps = pairs_at bytes at

    ds : List ℕ
    ds = drop 208 (pairs_at bytes at)

    go : (t : Bool) → ltb 208 n ≡ t → rest_empty (words_in bytes at) (counts_before 0 (words_in bytes at)) n ≡ every is_zero (drop n (pairs_at bytes at))
    go true t =
        let big : 208 < n = ltb-true 208 n t in
        let k : ℕ = n - 208 in
        let e : 208 + k ≡ n = omega arith in
        cond_yes (ltb 208 n) _ _ t
        ∙ ap (λ (x : ℕ). eqb (x / 2 ^ (64 - 2 * k) * 2 ^ (64 - 2 * k) % 2 ^ 64) x) (last_word bytes small at fits)
        ∙ word_rest ds (all_drop (λ d. d ≤ 3) 208 ps (nodes_small bytes small at fits)) (omega (arith, length-drop 208 ps, length_nodes bytes small at fits)) k (omega arith)
        ∙ ap (every is_zero) (drop-drop k 208 ps ∙ ap (λ (x : ℕ). drop x ps) e)
    go false t =
        cond_no (ltb 208 n) _ _ t
        ∙ ap₂ eqb (on_bits_law bytes small at fits n h) (total_law bytes small at fits)
        ∙ rest_empty_law ps n
