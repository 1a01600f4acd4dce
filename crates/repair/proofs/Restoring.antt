-- Where the kept bytes are sound, the restored image is accepted.
-- Assumes nothing.
use mathlib.Core.Path.{◌≡◌, sym, ap, ap₂, ◌∙◌, subst}
use mathlib.Core.Bool.{Bool, true, ◌&&◌}
use mathlib.Core.List.{List, [], map}
use Prim.Native.Nat.{ℕ, zero, suc, ◌+◌, ◌-◌, ◌*◌, ◌≤◌, ◌<◌}
use native.Mathlib.Numerals.{add-one}
use native.Mathlib.Omega.{arith}
use native.Mathlib.Decide.{dec_lt, ℕ_discrete}
use lib.Dec.{eqb, leb, ltb}
use borrow.Author.Tests.{eqb-true, le-leb, le-ltb, lt-ltb, ltb-true}
use lib.ListN.{length, get_or, drop}
use Rattle.format.specs.Seq.{All, every, total, up_to}
use Rattle.format.specs.Trie.{on_bits}
use Rattle.format.specs.Page.{Byte, first_subtries, levels_in, node_count, number_at}
use Rattle.format.specs.Image.{bands, key_count, next_t, out_link_count, page_b, page_count, page_levels, page_nodes, page_number, page_pairs, page_roots, page_t, root_count}
use Rattle.format.specs.Question.{Yes, header_questions, is_positive, is_zero, lift_right, mark_right, no_room, node_questions, out_links_due, questions_from_9, version_known, zeros_right}
use Rattle.format.specs.Exact.{Accepted}
use Rattle.format.proofs.Lists.{all_left, all_right, all_up_to, and_left, and_right, map_same}
use Rattle.format.proofs.Shapes.{last_on_grows}
use Rattle.format.proofs.Pages.{last_on_four}
use Rattle.format.proofs.Bytes.{length-levels_in}
use Rattle.format.proofs.NodeQuestions.{NodesOk, nodes_of_lem, nodes_shape}
use Rattle.format.proofs.Checked.{Checked, Counts, HeadRight, PageNeeded, PageOk, accepted, cond_no, cond_yes, header_of, no_keys, of_counts, some_keys}
use Rattle.format.proofs.Accepted.{accepted_of_yes}
use Rattle.format.proofs.Read.{pages_within}
use Rattle.format.proofs.Bounds.{page_bound}
use Rattle.nodes.proofs.Gathered.{length_nodes, nodes_small}
use Rattle.repair.specs.Kept.{Agree}
use Rattle.repair.specs.Numbers.{band_links, band_roots, header_number, held_levels, held_links, held_roots, links_before, restored, roots_before, row_questions}
use Rattle.repair.specs.Repair.{is_repairable}
use Rattle.repair.specs.Sound.{Sound, SoundTop, header_kept, held_nodes, no_pages, nodes_before, one_root}
use Rattle.repair.proofs.Agreeing.{agree_sym, same_count, same_header, same_pairs, same_place, same_total}
use Rattle.repair.proofs.Reading.{b_back, T_back, header_back, restored_agrees, restored_bytes}
use Rattle.repair.proofs.Sums.{sum_grows, sum_le, sum_next, sum_none, sum_some}
use Rattle.repair.proofs.Given.{cut}
use Rattle.repair.proofs.RepairLaws.{repairable_of}

-- ---- what the kept bytes of the header say

module _ (img : List ℕ) (e : header_kept img ≡ true) where
  abbrev sized : Bool
  sized = eqb (length img) (64 * (1 + total (map (page_count img) bands)))

  abbrev one : Bool
  one = leb 64 (length img)

  pub kept_size : length img ≡ 64 * (1 + total (map (page_count img) bands))
  unfolding header_kept
  kept_size = eqb-true (length img) (64 * (1 + total (map (page_count img) bands))) (and_right (one && mark_right img && version_known img && zeros_right img && lift_right img) sized e)

  -- 1 to 7 and 35, where 4 and 7 get a yes too
  kept-yes : leb (key_count img) 4096 ≡ true → Counts img → All Yes (header_questions img)
  unfolding header_questions header_kept
  kept-yes four counts =
      let e₅ = and_left (one && mark_right img && version_known img && zeros_right img && lift_right img) sized e in
      let e₄ = and_left (one && mark_right img && version_known img && zeros_right img) (lift_right img) e₅ in
      let e₃ = and_left (one && mark_right img && version_known img) (zeros_right img) e₄ in
      let e₂ = and_left (one && mark_right img) (version_known img) e₃ in (
        and_left one (mark_right img) e₂,
        (
          and_right one (mark_right img) e₂,
          (
            and_right (one && mark_right img) (version_known img) e₃,
            (
              four,
              (
                and_right (one && mark_right img && version_known img) (zeros_right img) e₄,
                (
                  and_right (one && mark_right img && version_known img && zeros_right img) (lift_right img) e₅,
                  (and_right (one && mark_right img && version_known img && zeros_right img && lift_right img) sized e, (of_counts img counts, tt)),
                ),
              ),
            ),
          ),
        ),
      )

module _ (img : List ℕ) (bytes : All Byte img) (s : Sound img) where
  size : length img ≡ 64 * (1 + total (map (page_count img) bands))
  size = kept_size img s.header

  -- ---- a sound page

  module _ (b : ℕ) (lo : 1 ≤ b) (hi : b ≤ 8) where
    pub page_room : (i : ℕ) → i < page_count img b → 64 * page_number img b i + 64 ≤ length img
    unfolding page_number
    page_room i h = omega (arith, size, pages_within img b lo hi)

    page_ok : (i : ℕ) → i < page_count img b → NodesOk (held_roots img b i) (page_pairs img b i)
    unfolding row_questions questions_from_9
    page_ok i h = nodes_of_lem _ _ (all_left Yes (node_questions (held_roots img b i) (page_pairs img b i)) _ (s.page b i lo hi h))

    page-needed : (i : ℕ) → i < page_count img b → no_room (nodes_before img b i) (held_levels img b i) ≡ true
    unfolding row_questions questions_from_9 held_levels
    page-needed i h = (all_right Yes (node_questions (held_roots img b i) (page_pairs img b i)) _ (s.page b i lo hi h)).0

    -- it has at least as many out-links as roots
    page-grows : (i : ℕ) → i < page_count img b → held_roots img b i ≤ held_links img b i
    unfolding held_levels held_links page_pairs
    page-grows i h =
        let at : ℕ = 64 * page_number img b i in
        let r = held_roots img b i in
        let shape = nodes_shape r (page_pairs img b i) (nodes_small img bytes at (page_room i h)) (length_nodes img bytes at (page_room i h)) (page_ok i h) in
        omega (arith, last_on_grows r (held_levels img b i) shape, last_on_four r (held_levels img b i) (length-levels_in 4 r (page_pairs img b i)))

    band-grows : band_roots img b ≤ band_links img b
    unfolding band_roots band_links roots_before links_before
    band-grows = sum_le (held_roots img b) (held_links img b) (page_count img b) page-grows

    pages-rooted : page_count img b ≤ band_roots img b
    unfolding band_roots roots_before
    pages-rooted = sum_some (held_roots img b) (page_count img b) (λ i h. (page_ok i h).some_roots)

    none-rooted : page_count img b ≡ 0 → band_roots img b ≡ 0
    unfolding band_roots roots_before
    none-rooted e = ap (λ (n : ℕ). total (map (held_roots img b) (up_to n))) e ∙ sum_none (held_roots img b)

    before_roots : (i : ℕ) → i ≤ page_count img b → roots_before img b i ≤ band_roots img b
    unfolding roots_before band_roots
    before_roots i h = let e : i + (page_count img b - i) ≡ page_count img b = omega arith in
        omega (arith, sum_grows (held_roots img b) i (page_count img b - i), ap (λ (n : ℕ). total (map (held_roots img b) (up_to n))) e)

    before_links : (i : ℕ) → i ≤ page_count img b → links_before img b i ≤ band_links img b
    unfolding links_before band_links
    before_links i h = let e : i + (page_count img b - i) ≡ page_count img b = omega arith in
        omega (arith, sum_grows (held_links img b) i (page_count img b - i), ap (λ (n : ℕ). total (map (held_links img b) (up_to n))) e)

    roots-next : (i : ℕ) → roots_before img b (suc i) ≡ roots_before img b i + held_roots img b i
    unfolding roots_before
    roots-next i = sum_next (held_roots img b) i

    links-next : (i : ℕ) → links_before img b (suc i) ≡ links_before img b i + held_links img b i
    unfolding links_before
    links-next i = sum_next (held_links img b) i

  -- ---- no number is large

  few_links : (n b : ℕ) → 1 ≤ b → b + n ≡ 8 → band_links img b ≤ 4096
  few_links zero b lo e = let k : 8 ≡ b = omega arith in subst (λ (b : ℕ). band_links img b ≤ 4096) k s.few
  few_links (suc n) b lo e = omega (arith, s.link b lo (omega arith), band-grows (suc b) (omega arith) (omega arith), few_links n (suc b) (omega arith) (omega arith))

  pub links_small : (b i : ℕ) → 1 ≤ b → b ≤ 8 → i ≤ page_count img b → links_before img b i ≤ 4096
  links_small b i lo hi h = omega (arith, before_links b lo hi i h, few_links (8 - b) b lo (omega arith))

  roots-small : (b i : ℕ) → 1 ≤ b → b ≤ 8 → i ≤ page_count img b → roots_before img b i ≤ 4096
  roots-small b i lo hi h = omega (arith, before_roots b lo hi i h, band-grows b lo hi, few_links (8 - b) b lo (omega arith))

  -- ---- the restored image's numbers

  g : Agree (restored img) img
  g = agree_sym (restored_agrees img)

  counted : (b : ℕ) → 1 ≤ b → b ≤ 8 → page_count (restored img) b ≡ page_count img b
  counted b lo hi = same_count g b lo hi

  keys : key_count (restored img) ≡ band_links img 8
  unfolding key_count header_number
  keys = header_back img size 0 (omega arith) ∙ cut (band_links img 8) (omega (arith, s.few))

  roots : (b : ℕ) → 1 ≤ b → b ≤ 8 → root_count (restored img) b ≡ band_roots img b
  unfolding root_count header_number band_roots
  roots zero lo hi = absurd (omega arith)
  roots (suc b) lo hi = header_back img size (suc b) (omega arith) ∙ cut (roots_before img (suc b) (page_count img (suc b))) (omega (arith, roots-small (suc b) (page_count img (suc b)) lo hi (omega arith)))

  module _ (b : ℕ) (lo : 1 ≤ b) (hi : b ≤ 8) where
    T-read : (i : ℕ) → i < page_count img b → page_t (restored img) b i ≡ roots_before img b i
    unfolding page_t
    T-read i h =
        ap (λ (n : ℕ). number_at (restored img) (64 * n)) (same_place g b i lo hi)
        ∙ T_back img size b i lo hi h
        ∙ cut (roots_before img b i) (omega (arith, roots-small b i lo hi (omega arith)))

    B-read : (i : ℕ) → i < page_count img b → page_b (restored img) b i ≡ links_before img b i
    unfolding page_b
    B-read i h =
        ap (λ (n : ℕ). number_at (restored img) (64 * n + 2)) (same_place g b i lo hi)
        ∙ b_back img size b i lo hi h
        ∙ cut (links_before img b i) (omega (arith, links_small b i lo hi (omega arith)))

    next_t_lem : (i : ℕ) → i < page_count img b → next_t (restored img) b i ≡ roots_before img b (suc i)
    unfolding next_t band_roots
    next_t_lem i h =
        elim (dec_lt (suc i) (page_count img b)) [
          | yes k ↦ cond_yes (ltb (i + 1) (page_count (restored img) b)) _ _ (lt-ltb (i + 1) (page_count (restored img) b) (omega (arith, counted b lo hi)))
              ∙ ap (page_t (restored img) b) (add-one i)
              ∙ T-read (suc i) k
          | no k ↦ let e : page_count img b ≡ suc i = omega arith in
              cond_no (ltb (i + 1) (page_count (restored img) b)) _ _ (le-ltb (i + 1) (page_count (restored img) b) (omega (arith, counted b lo hi)))
              ∙ roots b lo hi
              ∙ ap (roots_before img b) e
        ]

    module _ (i : ℕ) (h : i < page_count img b) where
      roots_are : page_roots (restored img) b i ≡ held_roots img b i
      unfolding page_roots
      roots_are = omega (arith, next_t_lem i h, T-read i h, roots-next b lo hi i)

      levels_are : page_levels (restored img) b i ≡ held_levels img b i
      unfolding page_levels held_levels
      levels_are = ap₂ (levels_in 4) roots_are (same_pairs g b i lo hi)

      nodes_are : page_nodes (restored img) b i ≡ held_nodes img b i
      unfolding page_nodes held_nodes
      nodes_are = ap₂ node_count roots_are levels_are

      links_are : out_link_count (restored img) b i ≡ held_links img b i
      unfolding out_link_count held_links
      links_are = ap (λ (v : List (List ℕ)). on_bits (get_or v 3 [])) levels_are

    heads : (i : ℕ) → i < page_count img b → HeadRight (restored img) b i
    heads zero h = (T-read 0 h ∙ none_before, B-read 0 h ∙ none-linked)
      where
        none_before : roots_before img b 0 ≡ 0
        none_before = unfold roots_before in sum_none (held_roots img b)

        none-linked : links_before img b 0 ≡ 0
        none-linked = unfold links_before in sum_none (held_links img b)
    heads (suc i) h = B-read (suc i) h ∙ links-next b lo hi i ∙ sym (ap₂ ◌+◌ (B-read i (omega arith)) (links_are i (omega arith)))

    needed : (i : ℕ) → i < page_count img b → PageNeeded (restored img) b i
    needed zero h = tt
    needed (suc i) h = rw (levels_are (suc i) h, nodes_are i (omega arith)) (ltb-true 240 _ (room (suc i) h))
      where
        room : (i : ℕ) → i < page_count img b → ltb 240 (node_count 1 (first_subtries 1 (held_levels img b i)) + nodes_before img b i) ≡ true
        room i h = unfold no_room in page-needed b lo hi i h

    restored-page : (i : ℕ) → i < page_count img b → PageOk (restored img) b i
    restored-page i h =
        let ok = page_ok b lo hi i h in
        record {
          counters = heads i h;
          some_roots = rw (roots_are i h) ok.some_roots;
          few_roots = rw (roots_are i h) ok.few_roots;
          within = rw (nodes_are i h) within;
          positive = rw (levels_are i h) positive;
          zeros = rw (nodes_are i h, same_pairs g b i lo hi) zeros;
          full = needed i h;
        }
      where
        within : held_nodes img b i ≤ 240
        within = unfold held_nodes held_levels in (page_ok b lo hi i h).within

        positive : All (λ l. every is_positive l ≡ true) (held_levels img b i)
        positive = unfold held_levels in (page_ok b lo hi i h).positive

        zeros : every is_zero (drop (held_nodes img b i) (page_pairs img b i)) ≡ true
        zeros = unfold held_nodes held_levels in (page_ok b lo hi i h).zeros

    links-sum : total (map (out_link_count (restored img) b) (up_to (page_count (restored img) b))) ≡ band_links img b
    unfolding band_links links_before
    links-sum =
        ap (λ (n : ℕ). total (map (out_link_count (restored img) b) (up_to n))) (counted b lo hi)
        ∙ ap total (map_same (out_link_count (restored img) b) (held_links img b) (up_to (page_count img b)) (all_up_to (λ i. out_link_count (restored img) b i ≡ held_links img b i) (page_count img b) links_are))

  -- ---- all of it

  some-rooted : band_roots img 1 ≡ 1 → (n : ℕ) → n ≤ 7 → 1 ≤ band_roots img (1 + n)
  some-rooted r zero h = omega arith
  some-rooted r (suc n) h =
      let e : 1 + suc n ≡ suc (1 + n) = omega arith in
      omega (arith, ap (band_roots img) e, s.link (1 + n) (omega arith) (omega arith), band-grows (1 + n) (omega arith) (omega arith), some-rooted r n (omega arith))

  counts-ok : SoundTop img → Counts (restored img)
  counts-ok (no_pages f) =
      no_keys (keys ∙ none-linked) (λ b lo hi. (counted b lo hi ∙ f b lo hi, roots b lo hi ∙ none-rooted b lo hi (f b lo hi)))
    where
      none-linked : band_links img 8 ≡ 0
      none-linked = unfold band_links links_before in ap (λ (n : ℕ). total (map (held_links img 8) (up_to n))) (f 8 (omega arith) (omega arith)) ∙ sum_none (held_links img 8)
  counts-ok (one_root r) =
      some_keys (omega (arith, keys, band-grows 8 (omega arith) (omega arith), some 8 (omega arith) (omega arith)))
      (counted 1 (omega arith) (omega arith) ∙ omega (arith, pages-rooted 1 (omega arith) (omega arith), paged 1 (omega arith) (omega arith)))
      (roots 1 (omega arith) (omega arith) ∙ r)
      (λ b lo hi. (rw (counted b (omega arith) hi) (paged b (omega arith) hi), rw (roots b (omega arith) hi) (some b (omega arith) hi)))
    where
      some : (b : ℕ) → 1 ≤ b → b ≤ 8 → 1 ≤ band_roots img b
      some b lo hi = let e : 1 + (b - 1) ≡ b = omega arith in omega (arith, ap (band_roots img) e, some-rooted r (b - 1) (omega arith))

      paged : (b : ℕ) → 1 ≤ b → b ≤ 8 → 1 ≤ page_count img b
      paged b lo hi = elim (ℕ_discrete (page_count img b) 0) [ yes z ↦ absurd (omega (arith, some b lo hi, none-rooted b lo hi z)) | no z ↦ omega arith ]

  due : (b : ℕ) → 1 ≤ b → b ≤ 8 → band_links img b ≡ out_links_due (restored img) b
  unfolding out_links_due
  due b lo hi =
      elim (dec_lt b 8) [
        | yes h ↦ s.link b lo (omega arith) ∙ sym (roots (suc b) (omega arith) h) ∙ sym (ap (root_count (restored img)) (add-one b)) ∙ sym (cond_yes (ltb b 8) _ _ (lt-ltb b 8 h))
        | no h ↦ let e : b ≡ 8 = omega arith in ap (band_links img) e ∙ sym keys ∙ sym (cond_no (ltb b 8) _ _ (le-ltb b 8 (omega arith)))
      ]

  all-checked : Checked (restored img)
  all-checked =
      record {
        header = header_of (restored img) (kept-yes (restored img) (same_header g ∙ s.header) (le-leb (key_count (restored img)) 4096 (omega (arith, keys, s.few))) (counts-ok s.top));
        page = λ b i lo hi h. restored-page b lo hi i (rw (counted b lo hi) at h);
        link = λ b lo hi. links-sum b lo hi ∙ due b lo hi;
      }

  sound-accepted : Accepted (restored img)
  sound-accepted = accepted_of_yes (restored img) (restored_bytes img bytes) (accepted (restored img) all-checked)

  pub sound_repairable : is_repairable img ≡ true
  sound_repairable = repairable_of bytes (record { accepted = sound-accepted; agree = restored_agrees img })

  -- 384 pages at most
  pub pages_few : total (map (page_count img) bands) ≤ 384
  pages_few = omega (arith, same_total g, (page_bound.of_image (restored img) sound-accepted).all_bands)
