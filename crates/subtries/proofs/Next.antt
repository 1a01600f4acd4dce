-- From a subtrie to the next of its page: where its levels start, and its first out-link.
-- Assumes nothing.
use mathlib.Core.List.{List, Memᴰ}
use mathlib.Core.Path.{◌≡◌, sym, ap, ap₂, ◌∙◌}
use Prim.Native.Nat.{ℕ, zero, suc, ◌+◌, ◌*◌, ◌/◌, ◌%◌, ◌≤◌, ◌<◌}
use native.Mathlib.Decide.{dec_lt, ℕ_discrete}
use native.Mathlib.Omega.{arith}
use borrow.Author.Tests.{lt-ltb, le-ltb}
use lib.Count.{ones, ones-le, ones_step}
use native.Mathlib.Nat.{add-zero}
use lib.ListN.{length, get_or}
use Rattle.format.specs.Seq.{is_in, rank_in}
use Rattle.format.specs.Image.{depth, prefixes_at}
use Rattle.format.proofs.Trie.{Asc}
use Rattle.format.proofs.Descent.{asc_lt, at_rank_lem}
use Rattle.format.proofs.Levels.{prefixes_asc}
use Rattle.pages.specs.Page.{Ready}
use Rattle.pages.proofs.Pages.{bytes, checked}
use Rattle.subtries.proofs.Ranks.{rank_agree, rank_next}
use Rattle.subtries.proofs.Sets.{bit_small}
use Rattle.subtries.specs.Subtrie.{as_bit, set_of}
use Rattle.subtries.specs.Spot.{LevelStart}
use Rattle.subtries.proofs.Starts.{start_rank, parent_mem}

-- no prefix of d bits lies from base + w on below base'
abbrev pub Gap : List ℕ → ℕ → ℕ → ℕ → ℕ → Type 0
Gap img d w base base' = (z : ℕ) → Memᴰ z (prefixes_at img d) → z < base' → z < base + w

module _ (img : List ℕ) (r : Ready img) where
  -- between neighbours
  pub gap_first : (d n : ℕ) → n + 1 < length (prefixes_at img d) → Gap img d 1 (get_or (prefixes_at img d) n 0) (get_or (prefixes_at img d) (n + 1) 0)
  gap_first d n h z m lt =
      let P = prefixes_at img d in
      let a : Asc P = prefixes_asc img (bytes r) (checked r) r.some d in
      let k = at_rank_lem P z a m in
      elim (dec_lt (rank_in P z) n) [
        | yes q ↦ omega (arith, asc_lt P (rank_in P z) n a q (omega arith), k.here)
        | no q ↦ elim (ℕ_discrete (rank_in P z) n) [
          | yes e ↦ omega (arith, k.here, ap (λ (j : ℕ). get_or P j 0) e)
          | no e ↦ elim (ℕ_discrete (rank_in P z) (n + 1)) [
            | yes f ↦ absurd (omega (arith, k.here, ap (λ (j : ℕ). get_or P j 0) f))
            | no f ↦ absurd (omega (arith, asc_lt P (n + 1) (rank_in P z) a (omega arith) k.within, k.here))
          ]
        ]
      ]

  -- one level down
  pub gap_next : (d w base base' : ℕ) → d < 32 → Gap img d w base base' → Gap img (suc d) (2 * w) (2 * base) (2 * base')
  gap_next d w base base' h g z m lt =
      let k = g (z / 2) (parent_mem img r d z h m) (omega arith) in
      omega arith

  -- ranks on both sides of a gap agree
  pub gap_rank : (d w base base' : ℕ) → base + w ≤ base' → Gap img d w base base' → rank_in (prefixes_at img d) (base + w) ≡ rank_in (prefixes_at img d) base'
  gap_rank d w base base' h g =
      rank_agree (prefixes_at img d) (base + w) base'
      (λ k m. elim (dec_lt k base') [
        | yes b ↦ lt-ltb k (base + w) (g k m b) ∙ sym (lt-ltb k base' b)
        | no b ↦ le-ltb k (base + w) (omega arith) ∙ sym (le-ltb k base' (omega arith))
      ])

  -- the first nodes of two subtries on a level
  pub start_shift : (b : ℕ) (lo : 1 ≤ b) (hi : b ≤ 8) (i l w base p base' p' : ℕ) → LevelStart img b i l w base p → LevelStart img b i l w base' p'
      → p' + rank_in (prefixes_at img (depth b l)) base ≡ p + rank_in (prefixes_at img (depth b l)) base'
  start_shift b lo hi i l w base p base' p' c c' =
      omega (arith, start_rank img r b lo hi i l w base p c, start_rank img r b lo hi i l w base' p' c', c.way.place, c.way.index, c'.way.place, c'.way.index)

-- the rank after m numbers, of which a set tells those that are there
pub rank_run : (l : List ℕ) (z m : ℕ) → Asc l → rank_in l (z + m) ≡ rank_in l z + ones (set_of (λ v. is_in (z + v) l) m)
unfolding set_of
rank_run l z zero a = ap (rank_in l) (add-zero z) ∙ omega (arith, ones-le 0 0 (omega arith))
rank_run l z (suc m) a =
    let s : ℕ = set_of (λ v. is_in (z + v) l) m in
    let t : ℕ = as_bit (is_in (z + m) l) in
    let small : t ≤ 1 = bit_small (is_in (z + m) l) in
    let e : z + suc m ≡ suc (z + m) = omega arith in
    let low : (2 * s + t) % 2 ≡ t = omega arith in
    let high : (2 * s + t) / 2 ≡ s = omega arith in
    let both : ones (2 * s + t) ≡ t + ones s = ones_step (2 * s + t) ∙ ap₂ (λ (u v : ℕ). u + ones v) low high in
    ap (rank_in l) e ∙ rank_next l (z + m) a ∙ omega (arith, rank_run l z m a)
