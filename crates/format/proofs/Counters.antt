-- T and B of an accepted image are what paper 01 says they are: counts over the earlier pages of the band. The statement is specs/Counters.antt.
-- Assumes nothing.
use mathlib.Core.List.{List, [], map, map-append, map-map}
use mathlib.Core.Path.{◌≡◌, sym, ap, ◌∙◌}
use Prim.Native.Nat.{ℕ, zero, suc, ◌+◌, ◌-◌, ◌≤◌, ◌<◌}
use native.Mathlib.Nat.{add-zero, zero-add}
use native.Mathlib.Omega.{arith}
use lib.ListN.{get_or, take, length-map}
use lib.Seq.{take_at}
use Rattle.format.specs.Seq.{All, numbers_from, total, up_to}
use Rattle.format.specs.Trie.{on_bits}
use Rattle.format.specs.Page.{Byte}
use Rattle.format.specs.Image.{band_levels, keys_of, out_link_count, page_b, page_count, page_levels, page_roots, page_t}
use Rattle.format.specs.Writer.{pages_of, pages_of_band, roots_in}
use Rattle.format.specs.Counters.{BandCounters, Counters}
use Rattle.format.proofs.Lists.{all_up_to, length-numbers, map_same, numbers-split}
use Rattle.format.proofs.Checked.{Checked}
use Rattle.format.proofs.Read.{band_pages, next_more, next_roots, page_roots_lem}
use Rattle.format.proofs.Back.{band_is, bands_of_lem}
use Rattle.format.proofs.Accepted.{facts}

-- the first i of the pages numbered up to n
first_pages : (f : ℕ → List (List ℕ)) (i n : ℕ) → i ≤ n → take i (map f (up_to n)) ≡ map f (up_to i)
unfolding up_to
first_pages f i n h =
    let e : n ≡ i + (n - i) = omega arith in
    ap (λ (m : ℕ). take i (map f (numbers_from 0 m))) e
    ∙ ap (λ (l : List ℕ). take i (map f l)) (numbers-split 0 i (n - i))
    ∙ ap (take i) (map-append f (numbers_from 0 i) (numbers_from (0 + i) (n - i)))
    ∙ take_at (map f (numbers_from 0 i)) (map f (numbers_from (0 + i) (n - i))) i (length-map (numbers_from 0 i) f ∙ length-numbers 0 i)

module _ (img : List ℕ) (a : All Byte img) (c : Checked img) (b : ℕ) (lo : 1 ≤ b) (hi : b ≤ 8) where
  T-from : (s i : ℕ) → s + i < page_count img b → page_t img b s + total (map (page_roots img b) (numbers_from s i)) ≡ page_t img b (s + i)
  unfolding numbers_from total
  T-from s zero h = omega (arith, ap (page_t img b) (add-zero s))
  T-from s (suc i) h =
      let e : s + suc i ≡ suc s + i = omega arith in
      omega (arith, ap (page_t img b) e, T-from (suc s) i (omega arith), next_roots img a c b lo hi s (omega arith), next_more img a c b lo hi s (omega arith))

  -- T over the pages as read, whose roots are what their T's and the band's root count mark off
  pub t_counts : (i : ℕ) → i < page_count img b → page_t img b i ≡ total (map (page_roots img b) (up_to i))
  unfolding up_to
  t_counts i h = omega (arith, T-from 0 i (omega arith), ap (page_t img b) (zero-add i), (c.page b 0 lo hi (omega arith)).counters.0)

  B-from : (s i : ℕ) → s + i < page_count img b → page_b img b s + total (map (out_link_count img b) (numbers_from s i)) ≡ page_b img b (s + i)
  unfolding numbers_from total
  B-from s zero h = omega (arith, ap (page_b img b) (add-zero s))
  B-from s (suc i) h =
      let e : s + suc i ≡ suc s + i = omega arith in
      omega (arith, ap (page_b img b) e, B-from (suc s) i (omega arith), (c.page b (suc s) lo hi (omega arith)).counters)

  -- B over the pages as read
  pub b_counts : (i : ℕ) → i < page_count img b → page_b img b i ≡ total (map (out_link_count img b) (up_to i))
  unfolding up_to
  b_counts i h = omega (arith, B-from 0 i (omega arith), ap (page_b img b) (zero-add i), (c.page b 0 lo hi (omega arith)).counters.1)

  -- the pages as read are the pages of the trie
  pages_are : map (page_levels img b) (up_to (page_count img b)) ≡ pages_of_band (keys_of img) b
  unfolding pages_of_band
  pages_are = sym (ap (λ (bs : List (List (List ℕ))). pages_of (get_or bs (b - 1) [])) (bands_of_lem img a c) ∙ ap pages_of (band_is (band_levels img) b lo hi) ∙ band_pages img a c b lo hi)

  -- and so are the first i of them
  earlier : (i : ℕ) → i ≤ page_count img b → take i (pages_of_band (keys_of img) b) ≡ map (page_levels img b) (up_to i)
  earlier i h = ap (take i) (sym pages_are) ∙ first_pages (page_levels img b) i (page_count img b) h

  -- so T and B count what the earlier pages of the trie hold
  pub band_counters : BandCounters img b
  unfolding out_link_count
  band_counters =
      record {
        pages = pages_are;
        t_is = λ i h. t_counts i h
            ∙ ap total (sym (ap (map roots_in) (earlier i (omega arith)) ∙ map-map roots_in (page_levels img b) (up_to i) ∙ map_same (λ k. roots_in (page_levels img b k)) (page_roots img b) (up_to i)
            (all_up_to (λ k. roots_in (page_levels img b k) ≡ page_roots img b k) i (λ k l. page_roots_lem img a c b lo hi k (omega arith)))));
        b_is = λ i h. b_counts i h ∙ ap total (sym (ap (map (λ page. on_bits (get_or page 3 []))) (earlier i (omega arith)) ∙ map-map (λ page. on_bits (get_or page 3 [])) (page_levels img b) (up_to i)));
      }

-- the statement
pub counters : Counters
counters img i b lo hi = let f = facts img i in band_counters img i.bytes f.questions b lo hi
