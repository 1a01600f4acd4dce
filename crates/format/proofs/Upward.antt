-- From an out-link of a page up to the node that leads there: finding by rank.
-- Assumes nothing.
use mathlib.Core.List.{List, [], ◌∷◌}
use mathlib.Core.Path.{◌≡◌, sym, ap, ap₂, ◌∙◌, subst}
use Prim.Native.Nat.{ℕ, zero, suc, ◌+◌, ◌*◌, ◌-◌, ◌≤◌, ◌<◌}
use native.Mathlib.Decide.{dec_lt}
use native.Mathlib.Omega.{arith}
use lib.ListN.{length, get_or}
use Rattle.format.specs.Seq.{All}
use Rattle.format.specs.Page.{Byte, offset}
use Rattle.format.specs.Image.{key_count, page_count, page_levels, page_nodes, page_pairs, page_roots, page_t, prefixes_at, depth}
use Rattle.format.specs.Trie.{bit}
use Rattle.format.specs.Place.{before, Reached}
use Rattle.format.proofs.Checked.{Checked}
use Rattle.format.proofs.Read.{page_four}
use Rattle.format.proofs.Places.{offset_within}
use Rattle.format.proofs.Levels.{child_place}
use Rattle.format.proofs.Walk.{reached_place, reached_child, reached_out, Out, ReachedAt}

-- ---- the bit with a number

-- ---- a place is one node's

offset_rises : (l m : ℕ) (page : List (List ℕ)) → offset l page ≤ offset (l + m) page
offset_rises zero m page = omega arith
offset_rises (suc l) m [] = omega arith
offset_rises (suc l) m (ns ∷ page) = let e : suc l + m ≡ suc (l + m) = omega arith in omega (arith, ap (λ (k : ℕ). offset k (ns ∷ page)) e, offset_rises l m page)

level_past : (page : List (List ℕ)) (l l' j j' : ℕ) → l < length page → j < length (get_or page l []) → l < l' → offset l page + j ≡ offset l' page + j' → ⊥
level_past page l l' j j' h k lt e =
    let n : suc l + (l' - suc l) ≡ l' = omega arith in
    omega (arith, offset_within l page h, offset_rises (suc l) (l' - suc l) page, ap (λ (m : ℕ). offset m page) n)

module _ (img : List ℕ) (a : All Byte img) (c : Checked img) (some : 1 ≤ key_count img) (b : ℕ) (lo : 1 ≤ b) (hi : b ≤ 8) where
  -- the level, the number and the prefix of a place are told by the place
  pub reached_level : (i l l' p n n' x x' : ℕ) → Reached img b i l p n x → Reached img b i l' p n' x' → l ≡ l'
  reached_level i l l' p n n' x x' r r' =
      let four = page_four img a c b lo hi i in
      elim (dec_lt l l') [
        | yes h ↦ absurd (level_past (page_levels img b i) l l' r.j r'.j (omega (arith, r.in_page, four)) r.inner h (sym r.place ∙ r'.place))
        | no h ↦ elim (dec_lt l' l) [
          | yes k ↦ absurd (level_past (page_levels img b i) l' l r'.j r.j (omega (arith, r'.in_page, four)) r'.inner k (sym r'.place ∙ r.place))
          | no k ↦ omega arith
        ]
      ]

  pub reached_same : (i l l' p n n' x x' : ℕ) → Reached img b i l p n x → Reached img b i l' p n' x' → (n ≡ n') × (x ≡ x')
  reached_same i l l' p n n' x x' r r' =
      let e : l ≡ l' = reached_level i l l' p n n' x x' r r' in
      let j : r.j ≡ r'.j = omega (arith, r.place, r'.place, ap (λ (m : ℕ). offset m (page_levels img b i)) e) in
      let m : n ≡ n' = r.index ∙ ap₂ (λ (k j : ℕ). before img b k i + j) e j ∙ sym r'.index in
      (m, sym r.prefix ∙ ap₂ (λ (k m : ℕ). get_or (prefixes_at img (depth b k)) m 0) e m ∙ r'.prefix)

  -- a node of the first level is the root of its number
  pub root_place : (i p : ℕ) → i < page_count img b → p < page_roots img b i → (r : ReachedAt img b i p) → (r.l ≡ 0) × (r.n ≡ page_t img b i + p)
  root_place i p h k r =
      let at = Rattle.format.proofs.Walk.reached_root img a c some b lo hi i (page_t img b i + p) h (omega arith) (omega arith) in
      let e : page_t img b i + p - page_t img b i ≡ p = omega arith in
      let at' : Reached img b i 0 p (page_t img b i + p) _ = subst (λ (q : ℕ). Reached img b i 0 q (page_t img b i + p) (get_or (prefixes_at img (depth b 0)) (page_t img b i + p) 0)) e at in
      (reached_level i r.l 0 p _ _ _ _ r.way at', (reached_same i r.l 0 p _ _ _ _ r.way at').0)

  module _ (i p t : ℕ) (r : ReachedAt img b i p) (small : t ≤ 1) (on : 1 ≤ bit t (get_or (page_pairs img b i) p 0)) where
    high-level : page_nodes img b i ≤ child_place img b i p t → r.l ≡ 3
    high-level h =
        elim (dec_lt r.l 3) [
          | yes k ↦ absurd (omega (arith, reached_place img a c some b lo hi i _ _ _ _ (reached_child img a c some b lo hi i r.l p r.n r.x r.way t small on k)))
          | no k ↦ omega (arith, r.way.in_page)
        ]

    -- a place past the nodes is an out-link, and that number's prefix in the next level is p's and t
    pub up_link : page_nodes img b i ≤ child_place img b i p t → Out img b i (child_place img b i p t) (2 * r.x + t)
    up_link h = reached_out img a c some b lo hi i r.l p r.n r.x r.way t small on (high-level h)
