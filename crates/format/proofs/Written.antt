-- The bytes of eight bands and their header, as the writer gives them, read again: 1 to 13 get a yes, and the bands are found.
-- Assumes nothing.
use mathlib.Core.Path.{◌≡◌, refl, sym, ap, ◌∙◌, subst}
use mathlib.Core.List.{List, [], ◌∷◌, ◌++◌, map, flat_map, append_assoc, map-map}
use Prim.Native.Nat.{ℕ, zero, suc, ◌+◌, ◌-◌, ◌*◌, ◌≤◌, ◌<◌}
use native.Mathlib.Numerals.{add-one}
use native.Mathlib.Omega.{arith}
use native.Mathlib.Decide.{ℕ_discrete}
use lib.Dec.{ltb}
use borrow.Author.Tests.{lt-ltb, le-ltb}
use lib.ListN.{length, get_or, take, drop, replicate, length-append, get_or-append}
use lib.Seq.{drop-drop, drop_at, take_at, get_or-take}
use Rattle.format.specs.Seq.{All, numbers_from, total, up_to}
use Rattle.format.specs.Trie.{on_bits}
use Rattle.format.specs.Page.{Byte, number_at, two_bytes}
use Rattle.format.specs.Header.{header, header_end, header_start, mark, version_for}
use Rattle.format.specs.Image.{band_levels, bands, key_count, lift_of, out_link_count, page_count, page_levels, page_number, pages_before, root_count, version_of}
use Rattle.format.specs.Question.{out_links_due}
use Rattle.format.specs.Writer.{band_bytes, band_counts, pages_of, roots_in}
use Rattle.format.proofs.Lists.{all_numbers, map_same}
use Rattle.format.proofs.Trie.{Shape}
use Rattle.format.proofs.Shapes.{last_on_grows}
use Rattle.format.proofs.Pages.{Paged, glue, glue_roots, glue_links, last_on_four, Pages, pages_of_lem}
use Rattle.format.proofs.Bytes.{number_of, zeros_all}
use Rattle.format.proofs.HeaderBytes.{count_bytes_lem, count_bytes, header_parts, length_counts, length-header, length_start, length_two}
use Rattle.format.proofs.Checked.{Counts, no_keys, some_keys, Header, Checked, cond_yes, cond_no, lift_is}
use Rattle.format.proofs.Read.{band_glued}
use Rattle.format.proofs.Back.{pages_before-suc}
use Rattle.format.proofs.WrittenPages.{AllRead, length-band_bytes, roots_none, read_pages, levels_read, all_ok}

-- ---- eight bands

pub data Top (n r : ℕ) : Type 0 where
  none : n ≡ 0 → r ≡ 0 → Top n r
  some : 1 ≤ n → r ≡ 1 → Top n r

-- eight bands that hang together, over n keys
pub record Bands (n : ℕ) (band : ℕ → List (List ℕ)) : Type 0 where
  pub four : (b : ℕ) → 1 ≤ b → b ≤ 8 → length (band b) ≡ 4
  pub shape : (b : ℕ) → 1 ≤ b → b ≤ 8 → Shape (roots_in (band b)) (band b)
  pub links : (b : ℕ) → 1 ≤ b → b < 8 → on_bits (get_or (band b) 3 []) ≡ roots_in (band (suc b))
  pub last : on_bits (get_or (band 8) 3 []) ≡ n
  pub few : n ≤ 4096
  pub top : Top n (roots_in (band 1))

-- their bytes, for a lift
abbrev pub bytes_of : ℕ → ℕ → (ℕ → List (List ℕ)) → List ℕ
bytes_of lift n band = header lift n (flat_map band_counts (map band bands)) ++ flat_map (λ x. band_bytes 0 0 (pages_of x)) (map band bands)

paged_length : (ps : List (List (List ℕ))) → Paged ps → length ps ≤ roots_in (glue ps)
paged_length [] h = omega arith
paged_length (p ∷ ps) h = omega (arith, glue_roots p ps h, h.0.some_roots, paged_length ps h.2)

length_pages : (band : ℕ → List (List ℕ)) (xs : List ℕ) → length (flat_map (λ x. band_bytes 0 0 (pages_of x)) (map band xs)) ≡ 64 * total (map (λ b. length (pages_of (band b))) xs)
unfolding flat_map total
length_pages band [] = refl
length_pages band (b ∷ xs) =
    length-append (band_bytes 0 0 (pages_of (band b))) (flat_map (λ x. band_bytes 0 0 (pages_of x)) (map band xs))
    ∙ omega (arith, length-band_bytes 0 0 (pages_of (band b)), length_pages band xs)

module _ (n : ℕ) (band : ℕ → List (List ℕ)) (h : Bands n band) where
  pub the_pages : (b : ℕ) → 1 ≤ b → b ≤ 8 → Pages (band b)
  the_pages b lo hi = pages_of_lem (roots_in (band b)) (band b) (h.four b lo hi) (h.shape b lo hi)

  grows : (b : ℕ) → 1 ≤ b → b ≤ 8 → roots_in (band b) ≤ on_bits (get_or (band b) 3 [])
  grows b lo hi = rw (← last_on_four (roots_in (band b)) (band b) (h.four b lo hi)) (last_on_grows (roots_in (band b)) (band b) (h.shape b lo hi))

  -- no band has more roots than there are keys
  links_few : (k b : ℕ) → 1 ≤ b → b + k ≡ 8 → on_bits (get_or (band b) 3 []) ≤ n
  links_few zero b lo e = let eight : b ≡ 8 = omega arith in omega (arith, ap (λ (b : ℕ). on_bits (get_or (band b) 3 [])) eight, h.last)
  links_few (suc k) b lo e = omega (arith, h.links b lo (omega arith), grows (suc b) (omega arith) (omega arith), links_few k (suc b) (omega arith) (omega arith))

  pub few_links : (b : ℕ) → 1 ≤ b → b ≤ 8 → on_bits (get_or (band b) 3 []) ≤ n
  few_links b lo hi = links_few (8 - b) b lo (omega arith)

  pub few_roots : (b : ℕ) → 1 ≤ b → b ≤ 8 → roots_in (band b) ≤ n
  few_roots b lo hi = omega (arith, grows b lo hi, few_links b lo hi)

  -- with keys, each band has a root
  some_roots : (k : ℕ) → suc k ≤ 8 → 1 ≤ roots_in (band 1) → 1 ≤ roots_in (band (suc k))
  some_roots zero hi e = e
  some_roots (suc k) hi e = omega (arith, some_roots k (omega arith) e, h.links (suc k) (omega arith) (omega arith), grows (suc k) (omega arith) (omega arith))

  pub few_pages : (b : ℕ) → 1 ≤ b → b ≤ 8 → length (pages_of (band b)) ≤ roots_in (band b)
  few_pages b lo hi = let p = the_pages b lo hi in rw p.glued at (paged_length (pages_of (band b)) p.paged)

  some_pages : (b : ℕ) → 1 ≤ b → b ≤ 8 → 1 ≤ roots_in (band b) → 1 ≤ length (pages_of (band b))
  some_pages b lo hi k = go (pages_of (band b)) (the_pages b lo hi).glued
    where
      go : (ps : List (List (List ℕ))) → glue ps ≡ band b → 1 ≤ length ps
      go [] e = absurd (omega (arith, roots_none, ap roots_in e))
      go (p ∷ ps) e = omega arith

-- ---- the bytes, read

-- the parts of the bytes
pub record Parts (lift n : ℕ) (band : ℕ → List (List ℕ)) (img : List ℕ) : Type 0 where
  pub start : take 6 img ≡ header_start lift
  pub from_6 : drop 6 img ≡ two_bytes n ++ (flat_map two_bytes (flat_map band_counts (map band bands)) ++ (header_end lift ++ flat_map (λ x. band_bytes 0 0 (pages_of x)) (map band bands)))
  pub from_8 : drop 8 img ≡ flat_map count_bytes (map band bands) ++ (header_end lift ++ flat_map (λ x. band_bytes 0 0 (pages_of x)) (map band bands))
  pub from_40 : drop 40 img ≡ header_end lift ++ flat_map (λ x. band_bytes 0 0 (pages_of x)) (map band bands)
  pub from_64 : drop 64 img ≡ flat_map (λ x. band_bytes 0 0 (pages_of x)) (map band bands)
  pub size : length img ≡ 64 * (1 + total (map (λ b. length (pages_of (band b))) bands))

eight : (band : ℕ → List (List ℕ)) → length (map band bands) ≡ 8
unfolding bands numbers_from
eight band = refl

pub parts : (lift n : ℕ) (band : ℕ → List (List ℕ)) → Parts lift n band (bytes_of lift n band)
parts lift n band =
    let img = bytes_of lift n band in
    let counts = flat_map band_counts (map band bands) in
    let body = flat_map (λ x. band_bytes 0 0 (pages_of x)) (map band bands) in
    let sixteen : length counts ≡ 16 = omega (arith, length_counts (map band bands), eight band) in
    let end = header_end lift ++ body in
    let rest = flat_map two_bytes counts ++ end in
    let e : img ≡ header_start lift ++ (two_bytes n ++ rest) = header_parts lift n counts body in
    let e₆ : drop 6 img ≡ two_bytes n ++ rest = ap (drop 6) e ∙ drop_at (header_start lift) (two_bytes n ++ rest) 6 (length_start lift) in
    let e₈ : drop 8 img ≡ rest = sym (drop-drop 2 6 img) ∙ ap (drop 2) e₆ ∙ (unfold two_bytes in refl) in
    record {
      start = ap (take 6) e ∙ take_at (header_start lift) (two_bytes n ++ rest) 6 (length_start lift);
      from_6 = e₆;
      from_8 = e₈ ∙ ap (◌++ end) (count_bytes_lem (map band bands));
      from_40 = sym (drop-drop 32 8 img) ∙ ap (drop 32) e₈ ∙ drop_at (flat_map two_bytes counts) end 32 (omega (arith, length_two counts));
      from_64 = drop_at (header lift n counts) body 64 (length-header lift n counts sixteen);
      size = length-append (header lift n counts) body ∙ omega (arith, length-header lift n counts sixteen, length_pages band bands);
    }

counts_from : (band : ℕ → List (List ℕ)) (img R : List ℕ) → drop 8 img ≡ flat_map count_bytes (map band bands) ++ R
    → (k m : ℕ) → suc k + m ≡ 9 → drop (4 + 4 * suc k) img ≡ flat_map count_bytes (map band (numbers_from (suc k) m)) ++ R
unfolding flat_map numbers_from bands
counts_from band img R e zero m n =
    let eight : 8 ≡ m = omega arith in
    e ∙ ap (λ (m : ℕ). flat_map count_bytes (map band (numbers_from 1 m)) ++ R) eight
counts_from band img R e (suc k) m n =
    let next : 4 + 4 * suc (suc k) ≡ 4 + 4 * suc k + 4 = omega arith in
    let more = flat_map count_bytes (map band (numbers_from (suc (suc k)) m)) ++ R in
    ap (λ (j : ℕ). drop j img) next
    ∙ sym (drop-drop 4 (4 + 4 * suc k) img)
    ∙ ap (drop 4) (counts_from band img R e k (suc m) (omega arith) ∙ append_assoc (count_bytes (band (suc k))) (flat_map count_bytes (map band (numbers_from (suc (suc k)) m))) R)
    ∙ drop_at (count_bytes (band (suc k))) more 4 (unfold two_bytes in refl)

record CountsAt (band : ℕ → List (List ℕ)) (img : List ℕ) (b : ℕ) : Type 0 where
  pages_are : page_count img b ≡ length (pages_of (band b))
  roots_are : root_count img b ≡ roots_in (band b)

counts_at : (band : ℕ → List (List ℕ)) (img R : List ℕ) → drop 8 img ≡ flat_map count_bytes (map band bands) ++ R → (k m : ℕ) → suc k + suc m ≡ 9 → CountsAt band img (suc k)
unfolding flat_map numbers_from page_count root_count
counts_at band img R e k m n =
    let more = flat_map count_bytes (map band (numbers_from (suc (suc k)) m)) ++ R in
    let here : drop (4 + 4 * suc k) img ≡ two_bytes (length (pages_of (band (suc k)))) ++ (two_bytes (roots_in (band (suc k))) ++ more) = counts_from band img R e k (suc m) n ∙ simp append_assoc in
    let next : 4 + 4 * suc k + 2 ≡ 6 + 4 * suc k = omega arith in
    let there : drop (6 + 4 * suc k) img ≡ two_bytes (roots_in (band (suc k))) ++ more = ap (λ (j : ℕ). drop j img) (sym next) ∙ sym (drop-drop 2 (4 + 4 * suc k) img) ∙ ap (drop 2) here ∙ (unfold two_bytes in refl) in
    record { pages_are = number_of img (4 + 4 * suc k) _ _ here; roots_are = number_of img (6 + 4 * suc k) _ _ there }

module _ (lift n : ℕ) (small : lift ≤ 999) (band : ℕ → List (List ℕ)) (h : Bands n band) (img : List ℕ) (p : Parts lift n band img) where
  counts-in : (b : ℕ) → 1 ≤ b → b ≤ 8 → CountsAt band img b
  counts-in b lo hi =
      let e : suc (b - 1) ≡ b = omega arith in
      subst (CountsAt band img) e (counts_at band img _ p.from_8 (b - 1) (8 - b) (omega arith))

  keys_in : key_count img ≡ n
  unfolding key_count
  keys_in = number_of img 6 n _ p.from_6

  pages-from : (k m : ℕ) → suc k + m ≡ 9 → drop (64 * (1 + pages_before img (suc k))) img ≡ flat_map (λ x. band_bytes 0 0 (pages_of x)) (map band (numbers_from (suc k) m))
  unfolding flat_map numbers_from bands pages_before total
  pages-from zero m e = let eight : 8 ≡ m = omega arith in p.from_64 ∙ ap (λ (m : ℕ). flat_map (λ x. band_bytes 0 0 (pages_of x)) (map band (numbers_from 1 m))) eight
  pages-from (suc k) m e =
      let c = counts-in (suc k) (omega arith) (omega arith) in
      let at : ℕ = 64 * (1 + pages_before img (suc k)) in
      let size : length (band_bytes 0 0 (pages_of (band (suc k)))) ≡ 64 * page_count img (suc k) = length-band_bytes 0 0 (pages_of (band (suc k))) ∙ ap (64 *◌) (sym c.pages_are) in
      let next : 64 * (1 + pages_before img (suc (suc k))) ≡ at + 64 * page_count img (suc k) = omega (arith, pages_before-suc img (suc k) (omega arith)) in
      ap (λ (j : ℕ). drop j img) next
      ∙ sym (drop-drop (64 * page_count img (suc k)) at img)
      ∙ ap (drop (64 * page_count img (suc k))) (pages-from k (suc m) (omega arith))
      ∙ drop_at (band_bytes 0 0 (pages_of (band (suc k)))) (flat_map (λ x. band_bytes 0 0 (pages_of x)) (map band (numbers_from (suc (suc k)) m))) (64 * page_count img (suc k)) size

  band-read : (b : ℕ) → 1 ≤ b → b ≤ 8 → AllRead img b 0 0 0 (pages_of (band b))
  unfolding flat_map numbers_from page_number
  band-read b lo hi =
      let g = the_pages n band h b lo hi in
      let c = counts-in b lo hi in
      let k : suc (b - 1) ≡ b = omega arith in
      let from : drop (64 * (1 + pages_before img b)) img ≡ flat_map (λ x. band_bytes 0 0 (pages_of x)) (map band (numbers_from b (suc (8 - b)))) =
      subst (λ (j : ℕ). drop (64 * (1 + pages_before img j)) img ≡ flat_map (λ x. band_bytes 0 0 (pages_of x)) (map band (numbers_from j (suc (8 - b))))) k (pages-from (b - 1) (suc (8 - b)) (omega arith)) in
      let here : 64 * (1 + pages_before img b + 0) ≡ 64 * (1 + pages_before img b) = omega arith in
      read_pages img b 0 0 0 (pages_of (band b)) (flat_map (λ x. band_bytes 0 0 (pages_of x)) (map band (numbers_from (suc b) (8 - b)))) g.paged
      (omega (arith, c.pages_are)) (ap (λ (j : ℕ). drop j img) here ∙ from) (omega (arith, c.roots_are, ap roots_in g.glued))

  pub pages_in_lem : (b : ℕ) → 1 ≤ b → b ≤ 8 → map (page_levels img b) (up_to (page_count img b)) ≡ pages_of (band b)
  unfolding up_to
  pages_in_lem b lo hi = ap (λ (m : ℕ). map (page_levels img b) (numbers_from 0 m)) (counts-in b lo hi).pages_are ∙ levels_read img b 0 0 0 (pages_of (band b)) (band-read b lo hi)

  link_in : (b : ℕ) → 1 ≤ b → b ≤ 8 → total (map (out_link_count img b) (up_to (page_count img b))) ≡ on_bits (get_or (band b) 3 [])
  unfolding out_link_count
  link_in b lo hi =
      let g = the_pages n band h b lo hi in
      ap total (sym (map-map (λ p. on_bits (get_or p 3 [])) (page_levels img b) (up_to (page_count img b))) ∙ ap (map (λ p. on_bits (get_or p 3 []))) (pages_in_lem b lo hi))
      ∙ sym (glue_links (pages_of (band b)) g.paged)
      ∙ ap (λ (v : List (List ℕ)). on_bits (get_or v 3 [])) g.glued

  below_in : (b : ℕ) → 1 ≤ b → b ≤ 8 → on_bits (get_or (band b) 3 []) ≡ out_links_due img b
  unfolding out_links_due
  below_in b lo hi =
      elim (ℕ_discrete b 8) [
        | yes e ↦ ap (λ (b : ℕ). on_bits (get_or (band b) 3 [])) e ∙ h.last ∙ sym keys_in ∙ sym (cond_no (ltb b 8) (root_count img (b + 1)) (key_count img) (le-ltb b 8 (omega arith)))
        | no e ↦ h.links b lo (omega arith)
            ∙ sym (counts-in (suc b) (omega arith) (omega arith)).roots_are
            ∙ ap (root_count img) (sym (add-one b))
            ∙ sym (cond_yes (ltb b 8) (root_count img (b + 1)) (key_count img) (lt-ltb b 8 (omega arith)))
      ]

  counts-ok : Counts img
  counts-ok = go h.top
    where
      go : Top n (roots_in (band 1)) → Counts img
      go (none e r) =
          no_keys (keys_in ∙ e)
          (λ b lo hi. (omega (arith, (counts-in b lo hi).pages_are, few_pages n band h b lo hi, few_roots n band h b lo hi), omega (arith, (counts-in b lo hi).roots_are, few_roots n band h b lo hi)))
      go (some e r) =
          some_keys (omega (arith, keys_in)) (omega (arith, (counts-in 1 (omega arith) (omega arith)).pages_are, few_pages n band h 1 (omega arith) (omega arith), some_pages n band h 1 (omega arith) (omega arith) (omega arith)))
          ((counts-in 1 (omega arith) (omega arith)).roots_are ∙ r) (λ b lo hi. more b (omega arith) hi)
        where
          more : (b : ℕ) → 1 ≤ b → b ≤ 8 → (1 ≤ page_count img b) × (1 ≤ root_count img b)
          more b lo hi =
              let k : suc (b - 1) ≡ b = omega arith in
              let s : 1 ≤ roots_in (band b) = subst (λ (b : ℕ). 1 ≤ roots_in (band b)) k (some_roots n band h (b - 1) (omega arith) (omega arith)) in
              (omega (arith, (counts-in b lo hi).pages_are, some_pages n band h b lo hi s), omega (arith, (counts-in b lo hi).roots_are))

  from_start : (k : ℕ) → k < 6 → get_or img k 0 ≡ get_or (header_start lift) k 0
  from_start k l = sym (get_or-take 6 img k 0 l) ∙ ap (λ (l : List ℕ). get_or l k 0) p.start

  pub version_in : version_of img ≡ version_for lift
  unfolding version_of number_at header_start mark two_bytes
  version_in = omega (arith, from_start 3 (omega arith), from_start 4 (omega arith))

  lift-at : number_at img 40 ≡ lift
  unfolding header_end
  lift-at = number_of img 40 lift _ (p.from_40 ∙ append_assoc (two_bytes lift) (replicate 22 0) _)

  tail-in : take 22 (drop 42 img) ≡ replicate 22 0
  unfolding header_end two_bytes
  tail-in = ap (take 22) (sym (drop-drop 2 40 img) ∙ ap (drop 2) p.from_40)

  header_ok : Header img
  unfolding header_start mark two_bytes
  header_ok =
      record {
        long = omega (arith, p.size);
        marked = λ k l. from_start k (omega arith) ∙ get_or-append mark (drop 3 (header_start lift)) 0 k l;
        version = version_in ∙ ap version_for (sym lift-at);
        lift = rw lift-at small;
        few = rw keys_in h.few;
        five = from_start 5 (omega arith);
        tail = rw tail-in (zeros_all 22);
        size = p.size ∙ ap (λ (l : List ℕ). 64 * (1 + total l)) (map_same (λ b. length (pages_of (band b))) (page_count img) bands (unfold bands in all_numbers (λ b. length (pages_of (band b)) ≡ page_count img b) 1 8 (λ b lo hi. sym (counts-in b lo (omega arith)).pages_are)));
        counts = counts-ok;
      }

  pub lift_in : lift_of img ≡ lift
  lift_in = lift_is img header_ok ∙ lift-at

  pub is_checked : Checked img
  is_checked =
      record {
        header = header_ok;
        page = λ b i lo hi k. all_ok img b 0 0 0 (pages_of (band b)) (the_pages n band h b lo hi).paged (band-read b lo hi) (refl, refl) i (omega arith) (omega (arith, (counts-in b lo hi).pages_are));
        link = λ b lo hi. link_in b lo hi ∙ below_in b lo hi;
      }

  -- the bands are found in the bytes
  pub bands_in_lem : (b : ℕ) → 1 ≤ b → b ≤ 8 → All Byte img → band_levels img b ≡ band b
  bands_in_lem b lo hi a = band_glued img a is_checked b lo hi ∙ ap glue (pages_in_lem b lo hi) ∙ (the_pages n band h b lo hi).glued
