-- The header and the pages of eight bands are a run of bytes.
-- Assumes nothing.
use mathlib.Core.Path.{ap}
use mathlib.Core.List.{List, [], ◌∷◌, ◌++◌, map, flat_map}
use Prim.Native.Nat.{ℕ, ◌+◌, ◌≤◌, ◌<◌}
use native.Mathlib.Omega.{arith}
use lib.ListN.{length, get_or}
use Rattle.format.specs.Seq.{All, total}
use Rattle.format.specs.Trie.{on_bits}
use Rattle.format.specs.Page.{Byte, two_bytes}
use Rattle.format.specs.Header.{header, header_end, header_start}
use Rattle.format.specs.Image.{bands}
use Rattle.format.specs.Writer.{band_bytes, band_counts, page_bytes, pages_of, roots_in}
use Rattle.format.proofs.Lists.{all_append, all_numbers, all_flat_map, all_map}
use Rattle.format.proofs.Pages.{Paged, glue, glue_roots, glue_links}
use Rattle.format.proofs.Bytes.{two_bytes_small, page_bytes_small}
use Rattle.format.proofs.HeaderBytes.{count_bytes_lem, count_bytes, end_bytes, start_bytes}
use Rattle.format.proofs.Written.{Bands, bytes_of, few_links, few_pages, few_roots, the_pages}

bytes_small : (t o : ℕ) (ps : List (List (List ℕ))) → Paged ps → t + roots_in (glue ps) < 65536 → o + total (map (λ p. on_bits (get_or p 3 [])) ps) < 65536 → All Byte (band_bytes t o ps)
unfolding band_bytes total
bytes_small t o [] h ht ho = tt
bytes_small t o (p ∷ ps) h ht ho =
    all_append Byte (page_bytes t o p) (band_bytes (t + roots_in p) (o + on_bits (get_or p 3 [])) ps) (page_bytes_small t o (roots_in p) p (omega arith) (omega arith) h.0.shape)
    (bytes_small (t + roots_in p) (o + on_bits (get_or p 3 [])) ps h.2 (omega (arith, glue_roots p ps h)) (omega arith))

module _ (lift n : ℕ) (small : lift ≤ 999) (band : ℕ → List (List ℕ)) (h : Bands n band) where
  counts-bytes : (b : ℕ) → 1 ≤ b → b ≤ 8 → All Byte (count_bytes (band b))
  counts-bytes b lo hi =
      let r = few_roots n band h b lo hi in
      let f = h.few in
      all_append Byte (two_bytes (length (pages_of (band b)))) (two_bytes (roots_in (band b))) (two_bytes_small (length (pages_of (band b))) (omega (arith, few_pages n band h b lo hi))) (two_bytes_small (roots_in (band b)) (omega arith))

  pages_bytes : (b : ℕ) → 1 ≤ b → b ≤ 8 → All Byte (band_bytes 0 0 (pages_of (band b)))
  pages_bytes b lo hi =
      let g = the_pages n band h b lo hi in
      let f = h.few in
      bytes_small 0 0 (pages_of (band b)) g.paged (omega (arith, few_roots n band h b lo hi, ap roots_in g.glued))
      (omega (arith, few_links n band h b lo hi, glue_links (pages_of (band b)) g.paged, ap (λ (v : List (List ℕ)). on_bits (get_or v 3 [])) g.glued))

  all-counts : All Byte (flat_map two_bytes (flat_map band_counts (map band bands)))
  unfolding bands
  all-counts =
      rw (count_bytes_lem (map band bands)) (all_flat_map count_bytes Byte (map band bands) (all_map band (λ x. All Byte (count_bytes x)) bands (all_numbers (λ b. All Byte (count_bytes (band b))) 1 8 (λ b lo hi. counts-bytes b lo (omega arith)))))

  header-bytes : All Byte (header lift n (flat_map band_counts (map band bands)))
  unfolding header
  header-bytes =
      let counts = flat_map two_bytes (flat_map band_counts (map band bands)) in
      all_append Byte (header_start lift ++ two_bytes n ++ counts) (header_end lift)
      (all_append Byte (header_start lift ++ two_bytes n) counts (all_append Byte (header_start lift) (two_bytes n) (start_bytes lift) (two_bytes_small n (omega (arith, h.few)))) all-counts)
      (end_bytes lift small)

  pub all_bytes : All Byte (bytes_of lift n band)
  unfolding bands
  all_bytes =
      all_append Byte (header lift n (flat_map band_counts (map band bands))) (flat_map (λ x. band_bytes 0 0 (pages_of x)) (map band bands)) header-bytes
      (all_flat_map (λ x. band_bytes 0 0 (pages_of x)) Byte (map band bands) (all_map band (λ x. All Byte (band_bytes 0 0 (pages_of x))) bands (all_numbers (λ b. All Byte (band_bytes 0 0 (pages_of (band b)))) 1 8 (λ b lo hi. pages_bytes b lo (omega arith)))))
