-- An accepted image that agrees in the kept bytes: its numbers are those worked out, so it is the restored image.
-- Assumes nothing.
use mathlib.Core.Path.{◌≡◌, refl, sym, ap, ap₂, ◌∙◌}
use mathlib.Core.List.{List, [], map}
use Prim.Native.Nat.{ℕ, zero, suc, ◌+◌, ◌*◌, ◌%◌, ◌≤◌, ◌<◌}
use native.Mathlib.Omega.{arith}
use lib.Dec.{ltb}
use borrow.Author.Tests.{le-ltb}
use lib.ListN.{length, get_or}
use Rattle.format.specs.Seq.{All, total, up_to}
use Rattle.format.specs.Trie.{on_bits}
use Rattle.format.specs.Page.{Byte, levels_in, node_count, number_at}
use Rattle.format.specs.Image.{bands, key_count, out_link_count, page_b, page_count, page_levels, page_nodes, page_number, page_pairs, page_roots, page_t, root_count}
use Rattle.format.specs.Question.{out_links_due}
use Rattle.format.specs.Exact.{Accepted}
use Rattle.format.proofs.Lists.{all_up_to, map_same}
use Rattle.format.proofs.Bytes.{number_small}
use Rattle.format.proofs.Checked.{Checked, cond_no, page_nodes_lem}
use Rattle.format.proofs.Accepted.{facts}
use Rattle.format.proofs.Read.{next_last, next_roots, no_roots, pairs_240}
use Rattle.format.proofs.Counters.{b_counts, t_counts}
use Rattle.repair.specs.Kept.{Agree}
use Rattle.repair.specs.Numbers.{band_links, band_roots, header_number, held_levels, held_links, held_roots, links_before, restored, roots_before, roots_held}
use Rattle.repair.specs.Sound.{held_nodes}
use Rattle.repair.proofs.Sums.{sum_next, sum_none}
use Rattle.repair.proofs.Agreeing.{agree_sym, agree_trans, same_count, same_pairs, same_place, same_total}
use Rattle.repair.proofs.Reading.{b_back, T_back, header_back, restored_agrees, restored_bytes}
use Rattle.repair.proofs.RootsHeld.{held_is}
use Rattle.repair.proofs.Numbered.{page_at, same_bytes}

-- T and B as numbers at a page's place
t-number : (img : List ℕ) (b i p : ℕ) → page_number img b i ≡ p → page_t img b i ≡ number_at img (64 * p)
unfolding page_t
t-number img b i p e = ap (λ (q : ℕ). number_at img (64 * q)) e

b_number : (img : List ℕ) (b i p : ℕ) → page_number img b i ≡ p → page_b img b i ≡ number_at img (64 * p + 2)
unfolding page_b
b_number img b i p e = ap (λ (q : ℕ). number_at img (64 * q + 2)) e

pub cut : (x : ℕ) → x < 65536 → x % 65536 ≡ x
cut x h = omega arith

module _ {img new : List ℕ} (i : Accepted new) (g : Agree img new) where
  c : Checked new
  c = (facts new i).questions

  module _ (b : ℕ) (lo : 1 ≤ b) (hi : b ≤ 8) where
    there : (p : ℕ) → p < page_count img b → p < page_count new b
    there p h = omega (arith, same_count g b lo hi)

    pub roots_given : (p : ℕ) → p < page_count img b → held_roots img b p ≡ page_roots new b p
    unfolding held_roots
    roots_given p h = ap roots_held (same_pairs g b p lo hi) ∙ held_is (page_pairs new b p) (pairs_240 new i.bytes c b lo hi p (there p h)) (page_roots new b p) (page_nodes_lem new b p (c.page b p lo hi (there p h)))

    pub levels_given : (p : ℕ) → p < page_count img b → held_levels img b p ≡ page_levels new b p
    unfolding held_levels page_levels
    levels_given p h = ap₂ (levels_in 4) (roots_given p h) (same_pairs g b p lo hi)

    pub nodes_given : (p : ℕ) → p < page_count img b → held_nodes img b p ≡ page_nodes new b p
    unfolding held_nodes page_nodes
    nodes_given p h = ap₂ node_count (roots_given p h) (levels_given p h)

    links-given : (p : ℕ) → p < page_count img b → held_links img b p ≡ out_link_count new b p
    unfolding held_links out_link_count
    links-given p h = ap (λ (v : List (List ℕ)). on_bits (get_or v 3 [])) (levels_given p h)

    -- T and B
    roots-sum : (n : ℕ) → n ≤ page_count img b → roots_before img b n ≡ total (map (page_roots new b) (up_to n))
    unfolding roots_before
    roots-sum n h = ap total (map_same (held_roots img b) (page_roots new b) (up_to n) (all_up_to (λ p. held_roots img b p ≡ page_roots new b p) n (λ p k. roots_given p (omega arith))))

    links-sum : (n : ℕ) → n ≤ page_count img b → links_before img b n ≡ total (map (out_link_count new b) (up_to n))
    unfolding links_before
    links-sum n h = ap total (map_same (held_links img b) (out_link_count new b) (up_to n) (all_up_to (λ p. held_links img b p ≡ out_link_count new b p) n (λ p k. links-given p (omega arith))))

    T-given : (p : ℕ) → p < page_count img b → roots_before img b p ≡ page_t new b p
    T-given p h = roots-sum p (omega arith) ∙ sym (t_counts new i.bytes c b lo hi p (there p h))

    B-given : (p : ℕ) → p < page_count img b → links_before img b p ≡ page_b new b p
    B-given p h = links-sum p (omega arith) ∙ sym (b_counts new i.bytes c b lo hi p (there p h))

    -- the band's roots and out-links
    pub band_links_given : band_links img b ≡ out_links_due new b
    unfolding band_links
    band_links_given = links-sum (page_count img b) (omega arith) ∙ ap (λ (n : ℕ). total (map (out_link_count new b) (up_to n))) (same_count g b lo hi) ∙ c.link b lo hi

    pub band_roots_given : band_roots img b ≡ root_count new b
    unfolding band_roots
    band_roots_given = roots-sum (page_count img b) (omega arith) ∙ ap (λ (n : ℕ). total (map (page_roots new b) (up_to n))) (same_count g b lo hi) ∙ go (page_count new b) refl
      where
        go : (n : ℕ) → page_count new b ≡ n → total (map (page_roots new b) (up_to n)) ≡ root_count new b
        go zero e = sum_none (page_roots new b) ∙ sym (no_roots new i.bytes c b lo hi e)
        go (suc n) e =
            omega (arith, sum_next (page_roots new b) n, t_counts new i.bytes c b lo hi n (omega arith), next_roots new i.bytes c b lo hi n (omega arith), next_last new i.bytes c b lo hi n (sym e))

  -- ---- it is the restored image

  pub given_size : length img ≡ 64 * (1 + total (map (page_count img) bands))
  given_size = g.size ∙ c.header.size ∙ ap (λ (n : ℕ). 64 * (1 + n)) (sym (same_total g))

  small : (at : ℕ) → number_at new at < 65536
  small at = number_small new at i.bytes

  header-given : (k : ℕ) → k < 9 → header_number img k ≡ number_at new (6 + 4 * k)
  unfolding header_number out_links_due key_count root_count
  header-given zero h = band_links_given 8 (omega arith) (omega arith) ∙ cond_no (ltb 8 8) (root_count new 9) (key_count new) (le-ltb 8 8 (omega arith))
  header-given (suc b) h = band_roots_given (suc b) (omega arith) (omega arith)

  pub restored-is : All Byte img → restored img ≡ new
  restored-is bytes =
      same_bytes (restored_bytes img bytes) i.bytes (agree_trans (agree_sym (restored_agrees img)) g)
      (record {
        counts = λ k h. header_back img given_size k h ∙ ap (◌% 65536) (header-given k h) ∙ cut _ (small (6 + 4 * k));
        t_same = λ p lo h. let a = page_at img given_size p lo (omega (arith, (restored_agrees img).size)) in T-at p a.band a.index a.lo a.hi a.within a.is;
        b_same = λ p lo h. let a = page_at img given_size p lo (omega (arith, (restored_agrees img).size)) in B-at p a.band a.index a.lo a.hi a.within a.is;
      })
    where
      T-at : (p b n : ℕ) → 1 ≤ b → b ≤ 8 → n < page_count img b → page_number img b n ≡ p → number_at (restored img) (64 * p) ≡ number_at new (64 * p)
      T-at p b n lo hi h e =
          ap (λ (q : ℕ). number_at (restored img) (64 * q)) (sym e)
          ∙ T_back img given_size b n lo hi h
          ∙ ap (◌% 65536) (T-given b lo hi n h ∙ t-number new b n p (sym (same_place g b n lo hi) ∙ e))
          ∙ cut _ (small (64 * p))

      B-at : (p b n : ℕ) → 1 ≤ b → b ≤ 8 → n < page_count img b → page_number img b n ≡ p → number_at (restored img) (64 * p + 2) ≡ number_at new (64 * p + 2)
      B-at p b n lo hi h e =
          ap (λ (q : ℕ). number_at (restored img) (64 * q + 2)) (sym e)
          ∙ b_back img given_size b n lo hi h
          ∙ ap (◌% 65536) (B-given b lo hi n h ∙ b_number new b n p (sym (same_place g b n lo hi) ∙ e))
          ∙ cut _ (small (64 * p + 2))
