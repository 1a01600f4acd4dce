-- An accepted image is the image of its list.
-- Assumes nothing.
use mathlib.Core.Path.{◌≡◌, refl, sym, ap, ap₂, ◌∙◌}
use mathlib.Core.List.{List, [], ◌∷◌, ◌++◌, map, flat_map, append_assoc}
use Prim.Native.Nat.{ℕ, zero, suc, ◌+◌, ◌-◌, ◌*◌, ◌/◌, ◌%◌, ◌≤◌, ◌<◌}
use native.Mathlib.Nat.{add-zero}
use native.Mathlib.Numerals.{add-one}
use native.Mathlib.Omega.{arith}
use lib.Dec.{ltb}
use borrow.Author.Tests.{lt-ltb, le-ltb}
use lib.ListN.{length, get_or, take, drop, replicate, length-drop, take-append-drop}
use lib.Seq.{take-add, drop-drop, take_all, take_at, drop_at, length-take-le}
use Rattle.format.specs.Seq.{All, numbers_from, total}
use Rattle.format.specs.Trie.{below, descend, levels_of, levels_over, nodes_over, on_bits, parents}
use Rattle.format.specs.Page.{Byte, number_at, two_bytes}
use Rattle.format.specs.Header.{header, header_end, header_start, mark, version_for}
use Rattle.format.specs.Image.{band_levels, bands, image_levels, key_count, keys_of, lift_of, page_count, page_number, pages_before, prefixes_at, root_count, version_of}
use Rattle.format.specs.Question.{out_links_due}
use Rattle.format.specs.Writer.{band_bytes, band_counts, bands_in, bands_of, image_of, pages_of}
use Rattle.format.proofs.Lists.{all_get, all_numbers, numbers_all, length-numbers, length-flat_map, flat_map-map, numbers-split, total-append}
use Rattle.format.proofs.Trie.{Shape, levels_back}
use Rattle.format.proofs.Shapes.{last_on, last_on_append, shape_append, Keys, descend_keys}
use Rattle.format.proofs.Bytes.{two_bytes_back, zeros_are}
use Rattle.format.proofs.HeaderBytes.{count_bytes_lem, count_bytes}
use Rattle.format.proofs.Checked.{Counts, no_keys, some_keys, Checked, cond_yes, cond_no, lift_is}
use Rattle.format.proofs.Read.{band_four, band_roots_lem, band_shape, band_last, band_bytes_lem, band_page_count}

-- ---- bands out of a row of levels

pub bands_back : (f : ℕ → List (List ℕ)) (xs : List ℕ) → All (λ x. length (f x) ≡ 4) xs → bands_in (length xs) (flat_map f xs) ≡ map f xs
unfolding bands_in flat_map
bands_back f [] h = refl
bands_back f (x ∷ xs) h = rw (take_at (f x) (flat_map f xs) 4 h.0, drop_at (f x) (flat_map f xs) 4 h.0) (ap (f x ∷◌) (bands_back f xs h.1))

-- band b of the eight
pub band_is : (band : ℕ → List (List ℕ)) (b : ℕ) → 1 ≤ b → b ≤ 8 → get_or (map band bands) (b - 1) [] ≡ band b
unfolding bands numbers_from
band_is band b lo hi = numbers_all (λ b. get_or (map band bands) (b - 1) [] ≡ band b) 1 8 (refl, (refl, (refl, (refl, (refl, (refl, (refl, (refl, tt)))))))) b lo (omega arith)

-- levels without nodes
no_levels : (ls : List (List ℕ)) → Shape 0 ls → ls ≡ replicate (length ls) []
unfolding on_bits
no_levels [] s = refl
no_levels ([] ∷ ls) s = ap ([] ∷◌) (no_levels ls s.2)
no_levels ((n ∷ ns) ∷ ls) s = absurd (omega (arith, s.0))

-- ---- pages in a row

pub pages_before-suc : (img : List ℕ) (b : ℕ) → 1 ≤ b → pages_before img (suc b) ≡ pages_before img b + page_count img b
unfolding pages_before total numbers_from
pages_before-suc img b lo =
    let n : suc b - 1 ≡ (b - 1) + 1 = omega arith in
    let at : 1 + (b - 1) ≡ b = omega arith in
    ap (λ (k : ℕ). total (map (page_count img) (numbers_from 1 k))) n
    ∙ ap (λ (l : List ℕ). total (map (page_count img) l)) (numbers-split 1 (b - 1) 1)
    ∙ ap total (mathlib.Core.List.map-append (page_count img) (numbers_from 1 (b - 1)) ((1 + (b - 1)) ∷ []))
    ∙ total-append (map (page_count img) (numbers_from 1 (b - 1))) (page_count img (1 + (b - 1)) ∷ [])
    ∙ ap (λ (c : ℕ). total (map (page_count img) (numbers_from 1 (b - 1))) + c) (add-zero (page_count img (1 + (b - 1))) ∙ ap (page_count img) at)

first_six : (l : List ℕ) → 6 ≤ length l → take 6 l ≡ get_or l 0 0 ∷ get_or l 1 0 ∷ get_or l 2 0 ∷ get_or l 3 0 ∷ get_or l 4 0 ∷ get_or l 5 0 ∷ []
first_six [] h = absurd (omega arith)
first_six (a ∷ []) h = absurd (omega arith)
first_six (a ∷ b ∷ []) h = absurd (omega arith)
first_six (a ∷ b ∷ c ∷ []) h = absurd (omega arith)
first_six (a ∷ b ∷ c ∷ d ∷ []) h = absurd (omega arith)
first_six (a ∷ b ∷ c ∷ d ∷ e ∷ []) h = absurd (omega arith)
first_six (a ∷ b ∷ c ∷ d ∷ e ∷ f ∷ l) h = refl

-- what the image's list is
pub record Listed (img : List ℕ) : Type 0 where
  pub keys : Keys 32 (key_count img) (keys_of img)
  pub levels : levels_of (keys_of img) ≡ image_levels img

module _ (img : List ℕ) (a : All Byte img) (c : Checked img) where
  record From (b n : ℕ) : Type 0 where
    shape : Shape (root_count img b) (flat_map (band_levels img) (numbers_from b n))
    last : last_on (root_count img b) (flat_map (band_levels img) (numbers_from b n)) ≡ key_count img

  levels-from : (b n : ℕ) → 1 ≤ b → b + suc n ≡ 9 → From b (suc n)
  unfolding flat_map numbers_from out_links_due
  levels-from b zero lo e =
      let hi : b ≤ 8 = omega arith in
      let end : last_on (root_count img b) (band_levels img b) ≡ key_count img = band_last img a c b lo hi ∙ cond_no (ltb b 8) _ _ (le-ltb b 8 (omega arith)) in
      record {
        shape = shape_append (root_count img b) (band_levels img b) [] (band_shape img a c b lo hi) tt;
        last = last_on_append (root_count img b) (band_levels img b) [] ∙ end;
      }
  levels-from b (suc n) lo e =
      let hi : b ≤ 8 = omega arith in
      let next : last_on (root_count img b) (band_levels img b) ≡ root_count img (suc b) =
      band_last img a c b lo hi ∙ cond_yes (ltb b 8) _ _ (lt-ltb b 8 (omega arith)) ∙ ap (root_count img) (add-one b) in
      let r = levels-from (suc b) n (omega arith) (omega arith) in
      let l : List (List ℕ) = flat_map (band_levels img) (numbers_from (suc b) (suc n)) in
      record {
        shape = shape_append (root_count img b) (band_levels img b) l (band_shape img a c b lo hi) (rw next r.shape);
        last = last_on_append (root_count img b) (band_levels img b) l ∙ rw next r.last;
      }

  fours : All (λ b. length (band_levels img b) ≡ 4) bands
  unfolding bands
  fours = all_numbers (λ b. length (band_levels img b) ≡ 4) 1 8 (λ b lo hi. band_four img a c b lo (omega arith))

  pub image_shape : Shape (root_count img 1) (image_levels img)
  unfolding image_levels bands
  image_shape = (levels-from 1 7 (omega arith) (omega arith)).shape

  pub image_last : last_on (root_count img 1) (image_levels img) ≡ key_count img
  unfolding image_levels bands
  image_last = (levels-from 1 7 (omega arith) (omega arith)).last

  pub image_32 : length (image_levels img) ≡ 32
  unfolding image_levels bands
  image_32 = length-flat_map (band_levels img) 4 bands fours ∙ ap (◌* 4) (length-numbers 1 8)

  -- ---- the list

  -- the 32 levels are all that the keys' ways go down
  pub keys_descend : keys_of img ≡ descend (0 ∷ []) (image_levels img)
  unfolding keys_of prefixes_at
  keys_descend = ap (descend (0 ∷ [])) (take_all 32 (image_levels img) (omega (arith, image_32)))

  empty-list : root_count img 1 ≡ 0 → image_levels img ≡ replicate 32 []
  empty-list e = no_levels (image_levels img) (rw e at image_shape) ∙ ap (λ (n : ℕ). replicate n []) image_32

  none-listed : image_levels img ≡ replicate 32 [] → key_count img ≡ 0 → Listed img
  unfolding keys_of prefixes_at descend below levels_of levels_over parents nodes_over
  none-listed e z = record { keys = rw (e, z) (record { asc = tt; fits = tt; count_is = refl }); levels = rw e }

  some-listed : root_count img 1 ≡ 1 → Listed img
  unfolding levels_of levels_over
  some-listed e =
      let s : Shape 1 (image_levels img) = rw e at image_shape in
      let l : last_on 1 (image_levels img) ≡ key_count img = rw e at image_last in
      let n : length (image_levels img) + 0 ≡ 32 = omega (arith, image_32) in
      let m : 0 + length (image_levels img) ≡ 32 = omega (arith, image_32) in
      record {
        keys = rw keys_descend (rw (l, n) at (descend_keys 0 (0 ∷ []) (image_levels img) tt (omega arith, tt) s));
        levels = rw keys_descend (ap (λ (k : ℕ). levels_over k (descend (0 ∷ []) (image_levels img))) (sym m) ∙ levels_back 0 (0 ∷ []) (image_levels img) tt s);
      }

  pub listed : Listed img
  listed = go c.header.counts
    where
      go : Counts img → Listed img
      go (no_keys z f) = none-listed (empty-list (f 1 (omega arith) (omega arith)).1) z
      go (some_keys k p r f) = some-listed r

  -- an image without keys
  pub no_keys_listed : key_count img ≡ 0 → keys_of img ≡ []
  no_keys_listed z = go (keys_of img) (listed.keys.count_is ∙ z)
    where
      go : (l : List ℕ) → length l ≡ 0 → l ≡ []
      go [] e = refl
      go (x ∷ l) e = absurd (omega arith)

  pub bands_of_lem : bands_of (keys_of img) ≡ map (band_levels img) bands
  unfolding bands_of image_levels
  bands_of_lem = ap (bands_in 8) listed.levels ∙ ap (λ (n : ℕ). bands_in n (flat_map (band_levels img) bands)) (sym eight) ∙ bands_back (band_levels img) bands fours
    where
      eight : length bands ≡ 8
      eight = unfold bands numbers_from in refl

  -- ---- the header

  start : take 6 img ≡ header_start (number_at img 40)
  unfolding header_start mark version_of number_at two_bytes
  start =
      let h = c.header in
      let small : get_or img 4 0 < 256 = all_get Byte img 4 0 (omega arith) a in
      let x : get_or img 3 0 ≡ version_for (number_at img 40) / 256 = omega (arith, h.version) in
      let y : get_or img 4 0 ≡ version_for (number_at img 40) % 256 = omega (arith, h.version) in
      first_six img (omega (arith, h.long)) ∙ (λ i. h.marked 0 (omega arith) i ∷ h.marked 1 (omega arith) i ∷ h.marked 2 (omega arith) i ∷ x i ∷ y i ∷ h.five i ∷ [])

  counts_at : (b : ℕ) → 1 ≤ b → b ≤ 8 → count_bytes (band_levels img b) ≡ take 4 (drop (4 + 4 * b) img)
  unfolding page_count root_count
  counts_at b lo hi =
      let h = c.header.long in
      let e : 4 + 4 * b + 2 ≡ 6 + 4 * b = omega arith in
      ap₂ (λ (p r : ℕ). two_bytes p ++ two_bytes r) (band_page_count img a c b lo hi) (band_roots_lem img a c b lo hi)
      ∙ ap₂ ◌++◌ (two_bytes_back img (4 + 4 * b) (omega arith) a) (two_bytes_back img (6 + 4 * b) (omega arith) a)
      ∙ sym (take-add 2 2 (drop (4 + 4 * b) img) ∙ ap (λ (l : List ℕ). take 2 (drop (4 + 4 * b) img) ++ take 2 l) (drop-drop 2 (4 + 4 * b) img ∙ ap (λ (n : ℕ). drop n img) e))

  all-counts : (b n : ℕ) → 1 ≤ b → b + n ≤ 9 → flat_map count_bytes (map (band_levels img) (numbers_from b n)) ≡ take (4 * n) (drop (4 + 4 * b) img)
  unfolding flat_map numbers_from
  all-counts b zero lo e = refl
  all-counts b (suc n) lo e =
      let size : 4 * suc n ≡ 4 + 4 * n = omega arith in
      let next : 4 + 4 * b + 4 ≡ 4 + 4 * suc b = omega arith in
      ap₂ ◌++◌ (counts_at b lo (omega arith)) (all-counts (suc b) n (omega arith) (omega arith))
      ∙ sym (ap (λ (k : ℕ). take k (drop (4 + 4 * b) img)) size
      ∙ take-add 4 (4 * n) (drop (4 + 4 * b) img)
      ∙ ap (λ (l : List ℕ). take 4 (drop (4 + 4 * b) img) ++ take (4 * n) l) (drop-drop 4 (4 + 4 * b) img ∙ ap (λ (k : ℕ). drop k img) next))

  pub header_back : header (number_at img 40) (key_count img) (flat_map band_counts (map (band_levels img) bands)) ≡ take 64 img
  unfolding header header_end key_count bands
  header_back =
      let h = c.header in
      let long = h.long in
      let zeros : replicate 22 0 ≡ take 22 (drop 42 img) = sym (zeros_are (take 22 (drop 42 img)) h.tail ∙ ap (λ (n : ℕ). replicate n 0) (length-take-le 22 (drop 42 img) (omega (arith, length-drop 42 img)))) in
      let end : header_end (number_at img 40) ≡ take 24 (drop 40 img) =
      ap₂ ◌++◌ (two_bytes_back img 40 (omega arith) a) zeros ∙ sym (take-add 2 22 (drop 40 img) ∙ ap (λ (l : List ℕ). take 2 (drop 40 img) ++ take 22 l) (drop-drop 2 40 img)) in
      let eight : header_start (number_at img 40) ++ two_bytes (number_at img 6) ≡ take 8 img = ap₂ ◌++◌ (sym start) (two_bytes_back img 6 (omega arith) a) ∙ sym (take-add 6 2 img) in
      let counts : flat_map two_bytes (flat_map band_counts (map (band_levels img) (numbers_from 1 8))) ≡ take 32 (drop 8 img) =
      count_bytes_lem (map (band_levels img) (numbers_from 1 8)) ∙ all-counts 1 8 (omega arith) (omega arith) in
      (λ i. eight i ++ counts i ++ end i)
      ∙ append_assoc (take 8 img) (take 32 (drop 8 img)) (take 24 (drop 40 img))
      ∙ sym (take-add 8 56 img ∙ ap (take 8 img ++◌) (take-add 32 24 (drop 8 img) ∙ ap (λ (l : List ℕ). take 32 (drop 8 img) ++ take 24 l) (drop-drop 32 8 img)))

  -- ---- the pages

  all-pages : (b n : ℕ) → 1 ≤ b → b + n ≤ 9
      → flat_map (λ b. band_bytes 0 0 (pages_of (band_levels img b))) (numbers_from b n) ≡ take (64 * total (map (page_count img) (numbers_from b n))) (drop (64 * (1 + pages_before img b)) img)
  unfolding flat_map numbers_from total page_number
  all-pages b zero lo e = refl
  all-pages b (suc n) lo e =
      let k : ℕ = total (map (page_count img) (numbers_from (suc b) n)) in
      let at : ℕ = 64 * (1 + pages_before img b) in
      let size : 64 * (page_count img b + k) ≡ 64 * page_count img b + 64 * k = omega arith in
      let here : 64 * (1 + pages_before img b + 0) ≡ at = omega arith in
      let next : at + 64 * page_count img b ≡ 64 * (1 + pages_before img (suc b)) = omega (arith, pages_before-suc img b lo) in
      ap₂ ◌++◌ (band_bytes_lem img a c b lo (omega arith) ∙ ap (λ (m : ℕ). take (64 * page_count img b) (drop m img)) here) (all-pages (suc b) n (omega arith) (omega arith))
      ∙ sym (ap (λ (m : ℕ). take m (drop at img)) size
      ∙ take-add (64 * page_count img b) (64 * k) (drop at img)
      ∙ ap (λ (l : List ℕ). take (64 * page_count img b) (drop at img) ++ take (64 * k) l) (drop-drop (64 * page_count img b) at img ∙ ap (λ (m : ℕ). drop m img) next))

  pages-back : flat_map (λ band. band_bytes 0 0 (pages_of band)) (map (band_levels img) bands) ≡ drop 64 img
  unfolding bands pages_before total numbers_from
  pages-back =
      flat_map-map (band_levels img) (λ band. band_bytes 0 0 (pages_of band)) bands
      ∙ all-pages 1 8 (omega arith) (omega arith)
      ∙ take_all (64 * total (map (page_count img) bands)) (drop 64 img) (omega (arith, length-drop 64 img, c.header.size))

  -- ---- all

  pub image_back : image_of (lift_of img) (keys_of img) ≡ img
  unfolding image_of
  image_back =
      ap (λ (lift : ℕ). image_of lift (keys_of img)) (lift_is img c.header)
      ∙ ap₂ (λ (n : ℕ) (bs : List (List (List ℕ))). header (number_at img 40) n (flat_map band_counts bs) ++ flat_map (λ band. band_bytes 0 0 (pages_of band)) bs) listed.keys.count_is bands_of_lem
      ∙ ap₂ ◌++◌ header_back pages-back
      ∙ take-append-drop 64 img
