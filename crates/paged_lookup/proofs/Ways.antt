-- A key's way down the levels of an accepted image: level by level of the trie, and down the four levels of a page.
-- Assumes nothing.
use mathlib.Core.Path.{◌≡◌, refl, sym, ap, ap₂, ◌∙◌, subst}
use mathlib.Core.Bool.{Bool, true, false, cond}
use mathlib.Core.List.Memᴰ
use mathlib.Core.List.{List, [], map, Memᴰ}
use Prim.Native.Nat.{ℕ, zero, suc, ◌+◌, ◌-◌, ◌*◌, ◌/◌, ◌^◌, ◌≤◌, ◌<◌}
use native.Mathlib.Omega.{arith}
use native.Mathlib.Decide.{ℕ_discrete}
use borrow.Author.Tests.{eq-eqb, ne_eqb}
use lib.ListN.{length, get_or, take, drop, drop_of_length-le}
use lib.Seq.{drop-cons}
use Rattle.format.specs.Seq.{numbers_from, rank_in, total}
use Rattle.format.specs.Key.{key_bit}
use Rattle.format.specs.Trie.{bit, child_at, on_bits}
use Rattle.format.specs.Image.{depth, page_b, page_count, page_levels, page_roots, prefixes_at}
use Rattle.format.specs.Place.{before}
use Rattle.format.specs.Question.{is_zero}
use Rattle.format.proofs.Members.{rank_le}
use Rattle.format.proofs.Read.{page_four, page_shape}
use Rattle.format.proofs.Descent.{child_of_mem, child_place_lem, mem_at, on_bits-suc, on_bits-take}
use Rattle.format.proofs.Ranks.{rank_child, rank_stranger}
use Rattle.format.proofs.Places.{level_next}
use Rattle.format.proofs.Levels.{before_in, before_links, before_next, child_at_index, level_count, level_valid, level_at, next_prefix, next_within, no_prefix, node_index, prefixes_asc, prefixes_next}
use Rattle.format.proofs.Lookup.{longer}
use Rattle.pages.specs.Page.{Ready}
use Rattle.pages.specs.Prefix.{AtPrefix}
use Rattle.pages.proofs.Pages.{bytes, checked}
use Rattle.paged_lookup.specs.Paged.{Way, out, off, follow, renumbered, step}

-- ---- one level

module _ (side : ℕ) (ns : List ℕ) (j : ℕ) where
  pub step_off : bit side (get_or ns j 0) ≡ 0 → step side ns (out j) ≡ off (child_at ns j side)
  unfolding step is_zero
  step_off e = rw (eq-eqb (bit side (get_or ns j 0)) 0 e, step)

  pub step_on : (bit side (get_or ns j 0) ≡ 0 → ⊥) → step side ns (out j) ≡ out (child_at ns j side)
  unfolding step is_zero
  step_on f = rw (ne_eqb (bit side (get_or ns j 0)) 0 f, step)

-- a way's number is below m; past an off bit it may be equal to it
abbrev pub Below : ℕ → Way → Type 0
Below m (out n) = n < m
Below m (off n) = n ≤ m

-- as many nodes of the next level are reached as the level has on bits
pub step-below : (side : ℕ) (ns : List ℕ) (way : Way) → side ≤ 1 → Below (length ns) way → Below (on_bits ns) (step side ns way)
unfolding step
step-below side ns (off j) s h = on_bits-take ns j
step-below side ns (out j) s h =
    elim (ℕ_discrete (bit side (get_or ns j 0)) 0) [
      | yes z ↦ subst (Below (on_bits ns)) (sym (step_off side ns j z)) (left side)
      | no z ↦ subst (Below (on_bits ns)) (sym (step_on side ns j z)) (child_place_lem ns j side h s (omega arith))
    ]
  where
    left : (t : ℕ) → child_at ns j t ≤ on_bits ns
    left zero = on_bits-take ns j
    left (suc t) = omega (arith, on_bits-suc ns j h, on_bits-take ns (suc j))

-- ---- in the trie

-- the key's prefix of d bits is none of the image's, and n of these are smaller
pub record Missing (img : List ℕ) (key d n : ℕ) : Type 0 where
  pub stranger : Memᴰ (key / 2 ^ (32 - d)) (prefixes_at img d) → ⊥
  pub smaller : rank_in (prefixes_at img d) (key / 2 ^ (32 - d)) ≡ n

-- a key's way has led to the key's prefix of d bits, or to how many are smaller
abbrev pub Stands : List ℕ → ℕ → ℕ → Way → Type 0
Stands img key d (out n) = AtPrefix img d n (key / 2 ^ (32 - d))
Stands img key d (off n) = Missing img key d n

pub stands_below : (img : List ℕ) (key d : ℕ) (way : Way) → Stands img key d way → Below (length (prefixes_at img d)) way
stands_below img key d (out n) s = s.within
stands_below img key d (off n) s = omega (arith, s.smaller, rank_le (prefixes_at img d) (key / 2 ^ (32 - d)))

module _ {img : List ℕ} (r : Ready img) (key : ℕ) where
  -- one level down
  pub stands_next : (d : ℕ) (way : Way) → d < 32 → Stands img key d way → Stands img key (suc d) (step (key_bit key d) (level_at img d) way)
  unfolding step
  stands_next d (off n) h s =
      let x = key / 2 ^ (32 - d) in
      let e = prefixes_next img (bytes r) (checked r) r.some d h in
      let l = longer key d h in
      record {
        stranger = λ k. let t = child_of_mem (2 * x + key_bit key d) (prefixes_at img d) (level_at img d) (level_valid img (bytes r) (checked r) r.some d h)
            (subst (λ (ps : List ℕ). Memᴰ (2 * x + key_bit key d) ps) e (Memᴰ.cast (sym l) k)) in
            s.stranger (Memᴰ.cast (let half : x ≡ get_or (prefixes_at img d) t.index 0 = omega (arith, t.prefix) in half) (mem_at (prefixes_at img d) t.index t.within));
        smaller = ap₂ rank_in e l
            ∙ rank_stranger (prefixes_at img d) (level_at img d) x (key_bit key d) (prefixes_asc img (bytes r) (checked r) r.some d) (level_valid img (bytes r) (checked r) r.some d h)
            (level_count img (bytes r) (checked r) r.some d h) s.stranger (omega arith)
            ∙ ap (λ (k : ℕ). on_bits (take k (level_at img d))) s.smaller;
      }
  stands_next d (out n) h s =
      let t = key_bit key d in
      let small : key_bit key d ≤ 1 = omega arith in
      let up : key / 2 ^ (32 - suc d) ≡ 2 * get_or (prefixes_at img d) n 0 + key_bit key d = longer key d h ∙ ap (λ (x : ℕ). 2 * x + key_bit key d) (sym s.prefix) in
      elim (ℕ_discrete (bit t (get_or (level_at img d) n 0)) 0) [
        | yes z ↦ subst (Stands img key (suc d)) (sym (step_off t (level_at img d) n z))
            (record {
              stranger = λ m. no_prefix img (bytes r) (checked r) r.some d n t h s.within small z (Memᴰ.cast (sym up) m);
              smaller = ap₂ rank_in (prefixes_next img (bytes r) (checked r) r.some d h) up
                  ∙ rank_child (prefixes_at img d) (level_at img d) n t (prefixes_asc img (bytes r) (checked r) r.some d) (level_valid img (bytes r) (checked r) r.some d h)
                  (level_count img (bytes r) (checked r) r.some d h) s.within small;
            })
        | no z ↦ subst (Stands img key (suc d)) (sym (step_on t (level_at img d) n z))
            (record {
              within = next_within img (bytes r) (checked r) r.some d n t h s.within small (omega arith);
              prefix = next_prefix img (bytes r) (checked r) r.some d n t h s.within small (omega arith) ∙ sym up;
            })
      ]

-- ---- in a page

-- the on bits of level l of the pages of band b before page i
abbrev on_bits_before : List ℕ → ℕ → ℕ → ℕ → ℕ
on_bits_before img b l i = total (map (λ k. on_bits (get_or (page_levels img b k) l [])) (numbers_from 0 i))

module _ {img : List ℕ} (r : Ready img) (key b i : ℕ) (lo : 1 ≤ b) (hi : b ≤ 8) (in_band : i < page_count img b) where
  -- one level down in the page is one level down in the trie
  step_in : (l side : ℕ) (way : Way) → l < 4 → Below (length (get_or (page_levels img b i) l [])) way
      → step side (level_at img (depth b l)) (renumbered (before img b l i +◌) way) ≡ renumbered (on_bits_before img b l i +◌) (step side (get_or (page_levels img b i) l []) way)
  unfolding step renumbered
  step_in l side (off j) lv h = ap off (before_in img (bytes r) (checked r) r.some b lo hi i in_band l j lv h)
  step_in l side (out j) lv h =
      ap₂ (λ (m k : ℕ). cond (is_zero (bit side m)) (off k) (out k)) (node_index img (bytes r) (checked r) r.some b lo hi i in_band l j lv h) (child_at_index img (bytes r) (checked r) r.some b lo hi i in_band l j lv h side)
      ∙ either (is_zero (bit side (get_or (get_or (page_levels img b i) l []) j 0))) (child_at (get_or (page_levels img b i) l []) j side)
    where
      either : (t : Bool) (k : ℕ) → cond t (off (on_bits_before img b l i + k)) (out (on_bits_before img b l i + k)) ≡ renumbered (on_bits_before img b l i +◌) (cond t (off k) (out k))
      either true k = refl
      either false k = refl

  -- level l of the page, and the levels after it
  module _ (l : ℕ) (lv : l < 4) (way : Way) where
    here : List ℕ
    here = get_or (page_levels img b i) l []

    next : Way
    next = step (key_bit key (depth b l)) here way

    follow-next : follow key (depth b l) (drop l (page_levels img b i)) way ≡ follow key (suc (depth b l)) (drop (suc l) (page_levels img b i)) next
    unfolding here next follow
    follow-next = ap (λ ls. follow key (depth b l) ls way) (drop-cons (page_levels img b i) l [] (omega (arith, page_four img (bytes r) (checked r) b lo hi i)))

    next-stands : Below (length here) way → Stands img key (depth b l) (renumbered (before img b l i +◌) way) → Stands img key (suc (depth b l)) (renumbered (on_bits_before img b l i +◌) next)
    unfolding here next
    next-stands h s = subst (Stands img key (suc (depth b l))) (step_in l (key_bit key (depth b l)) way lv h) (stands_next r key (depth b l) (renumbered (before img b l i +◌) way) (omega arith) s)

    next-below : Below (length here) way → Below (on_bits here) next
    unfolding next
    next-below h = step-below (key_bit key (depth b l)) here way (omega arith) h

  -- from a level of the page, with k levels after it, down to the page's out-links
  pub stands_out : (k l : ℕ) (way : Way) → l + k ≡ 3 → Below (length (get_or (page_levels img b i) l [])) way → Stands img key (depth b l) (renumbered (before img b l i +◌) way)
      → Stands img key (4 * b) (renumbered (page_b img b i +◌) (follow key (depth b l) (drop l (page_levels img b i)) way))
  unfolding follow here
  stands_out zero l way e h s =
      let lv : l < 4 = omega arith in
      let three : l ≡ 3 = omega arith in
      let d : suc (depth b l) ≡ 4 * b = omega arith in
      let v = next l lv way in
      let none : drop (suc l) (page_levels img b i) ≡ [] = drop_of_length-le (page_levels img b i) {i = suc l} (omega (arith, page_four img (bytes r) (checked r) b lo hi i)) in
      let links : on_bits_before img b l i ≡ page_b img b i = ap (λ (x : ℕ). on_bits_before img b x i) three ∙ before_links img (bytes r) (checked r) r.some b lo hi i in_band in
      subst (λ w. Stands img key (4 * b) (renumbered (page_b img b i +◌) w)) (sym (follow-next l lv way ∙ ap (λ ls. follow key (suc (depth b l)) ls v) none))
      (subst (λ (m : ℕ). Stands img key (4 * b) (renumbered (m +◌) v)) links (subst (λ (x : ℕ). Stands img key x (renumbered (on_bits_before img b l i +◌) v)) d (next-stands l lv way h s)))
  stands_out (suc k) l way e h s =
      let lv : l < 4 = omega arith in
      let d : suc (depth b l) ≡ depth b (suc l) = omega arith in
      let v = next l lv way in
      let ahead : on_bits_before img b l i ≡ before img b (suc l) i = before_next img (bytes r) (checked r) r.some b lo hi l i (omega arith) in_band in
      let room : on_bits (get_or (page_levels img b i) l []) ≡ length (get_or (page_levels img b i) (suc l) []) =
      sym (level_next (page_roots img b i) l (page_levels img b i) (page_shape img (bytes r) (checked r) b lo hi i in_band) (omega (arith, page_four img (bytes r) (checked r) b lo hi i))) in
      subst (λ w. Stands img key (4 * b) (renumbered (page_b img b i +◌) w)) (sym (follow-next l lv way ∙ ap (λ (x : ℕ). follow key x (drop (suc l) (page_levels img b i)) v) d))
      (stands_out k (suc l) v (omega arith) (subst (λ (m : ℕ). Below m v) room (next-below l lv way h))
      (subst (λ (x : ℕ). Stands img key x (renumbered (before img b (suc l) i +◌) v)) d (subst (λ (m : ℕ). Stands img key (suc (depth b l)) (renumbered (m +◌) v)) ahead (next-stands l lv way h s))))
