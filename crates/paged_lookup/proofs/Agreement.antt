-- On an accepted image the eight-page lookup is the full lookup: page numbers, and for an absent key the number of smaller ones, too.
-- Assumes nothing.
use mathlib.Core.Path.{◌≡◌, refl, sym, ap, ap₂, ◌∙◌, subst}
use mathlib.Core.Bool.{cond}
use mathlib.Core.Option.{none}
use mathlib.Core.List.{List, [], ◌∷◌, ◌++◌, map, map-append}
use Prim.Native.Nat.{ℕ, zero, suc, ◌+◌, ◌-◌, ◌*◌, ◌≤◌, ◌<◌}
use native.Mathlib.Nat.{div-one}
use native.Mathlib.Omega.{arith}
use native.Mathlib.Decide.{ℕ_discrete}
use borrow.Author.Tests.{eq-eqb, ne_eqb}
use lib.Dec.{eqb}
use lib.ListN.{length, take}
use lib.Seq.{take_all}
use Rattle.format.specs.Seq.{numbers_from, rank_in}
use Rattle.format.specs.Key.{key_of}
use Rattle.format.specs.Trie.{descend, on_bits}
use Rattle.format.specs.Image.{bands, key_count, keys_of, page_number, page_with, prefixes_at, root_count}
use Rattle.format.specs.Question.{Outcome, Yes, and_then, first_no, header_questions, image_questions, is_zero, out_links_due, returns}
use Rattle.format.specs.Answer.{LookupAnswer, absent, listed, lookup, lookup_answer, page_of}
use Rattle.format.specs.Exact.{Accepted}
use Rattle.format.proofs.Lists.{all_left, numbers-split}
use Rattle.format.proofs.Keys.{key_of_small}
use Rattle.format.proofs.Questions.{none_of_yes, yes_of_none}
use Rattle.format.proofs.Jobs.{settle-yes}
use Rattle.format.proofs.Checked.{cond_no, cond_yes}
use Rattle.format.proofs.Accepted.{facts}
use Rattle.format.proofs.Descent.{length-below}
use Rattle.format.proofs.Levels.{level_count, level_valid, level_at, one_root, prefixes_keys, prefixes_next}
use Rattle.format.proofs.Walk.{listed_prefix}
use Rattle.format.proofs.Lookup.{place_absent, place_listed, place_none}
use Rattle.pages.specs.Page.{Ready}
use Rattle.pages.proofs.Pages.{bytes, checked}
use Rattle.pages.proofs.Counts.{keys_count, links_count}
use Rattle.paged_lookup.specs.Paged.{Way, out, off, answer, all_smaller, number, paged_answer, paged_lookup, step, walk, way_from}
use Rattle.paged_lookup.proofs.Ways.{Missing, Stands, stands_below, stands_next}
use Rattle.paged_lookup.proofs.Bands.{due_roots, page_on_path, through-is, way_stands}

module _ {img : List ℕ} (r : Ready img) (key : ℕ) where
  -- ---- an absent key

  missing-answer : (d n : ℕ) → d ≤ 32 → Missing img key d n → lookup_answer img key ≡ absent (rank_in (keys_of img) key)
  missing-answer d n h m = place_absent img key (λ k. m.stranger (listed_prefix img (bytes r) (checked r) r.some key d h k))

  -- the keys are the prefixes of 32 bits
  missing-rank : (n : ℕ) → Missing img key 32 n → rank_in (keys_of img) key ≡ n
  missing-rank n m = ap₂ rank_in (sym (prefixes_keys img)) (sym (div-one key)) ∙ m.smaller

  -- where all prefixes of d bits are smaller, all keys are
  missing-all : (k d : ℕ) → d + k ≡ 32 → Missing img key d (length (prefixes_at img d)) → rank_in (keys_of img) key ≡ key_count img
  unfolding step
  missing-all zero d e m =
      let last : d ≡ 32 = omega arith in
      let end : Missing img key 32 (length (prefixes_at img 32)) = subst (λ (x : ℕ). Missing img key x (length (prefixes_at img x))) last m in
      missing-rank _ end ∙ keys_count r
  missing-all (suc k) d e m =
      let h : d < 32 = omega arith in
      let count = level_count img (bytes r) (checked r) r.some d h in
      let whole : on_bits (take (length (prefixes_at img d)) (level_at img d)) ≡ length (prefixes_at img (suc d)) =
      ap on_bits (take_all (length (prefixes_at img d)) (level_at img d) (omega (arith, count)))
      ∙ sym (ap length (prefixes_next img (bytes r) (checked r) r.some d h) ∙ length-below (prefixes_at img d) (level_at img d) count (level_valid img (bytes r) (checked r) r.some d h)) in
      missing-all k (suc d) (omega arith) (subst (Missing img key (suc d)) whole (stands_next r key d (off (length (prefixes_at img d))) h m))

  -- ---- the walk

  more_pages : (k b : ℕ) (pages : List ℕ) (number : ℕ) → b ≡ 1 + k → pages ≡ map (page_of img key) (numbers_from 1 k) → number ≡ page_of img key b → pages ++ number ∷ [] ≡ map (page_of img key) (numbers_from 1 b)
  unfolding numbers_from
  more_pages k b pages number e p f =
      let more : map (page_of img key) (numbers_from 1 (k + 1)) ≡ map (page_of img key) (numbers_from 1 k) ++ page_of img key (1 + k) ∷ [] = ap (map (page_of img key)) (numbers-split 1 k 1) ∙ map-append (page_of img key) (numbers_from 1 k) ((1 + k) ∷ []) in
      let g : k + 1 ≡ b = omega arith in
      ap₂ (λ (l : List ℕ) (x : ℕ). l ++ x ∷ []) p (f ∙ ap (page_of img key) e) ∙ sym more ∙ ap (λ (x : ℕ). map (page_of img key) (numbers_from 1 x)) g

  -- the answer out of band 8
  answer-agrees : (pages : List ℕ) (way : Way) → Stands img key 32 way → pages ≡ map (page_of img key) bands → answer pages way ≡ lookup_answer img key
  unfolding answer
  answer-agrees pages (out n) s e = ap {B = LookupAnswer} (listed n) e ∙ sym (place_listed img (bytes r) (checked r) r.some key n s.within (s.prefix ∙ div-one key))
  answer-agrees pages (off n) s e = sym (missing-answer 32 n (omega arith) s ∙ ap {B = LookupAnswer} absent (missing-rank n s))

  -- with n bands to go
  walk-agrees : (n : ℕ) (pages : List ℕ) (way : Way) → n ≤ 8 → Stands img key (32 - 4 * n) way → (1 ≤ n → number way < root_count img (9 - n)) → pages ≡ map (page_of img key) (numbers_from 1 (8 - n))
      → walk img key n pages way ≡ returns (lookup_answer img key)
  unfolding walk bands and_then all_smaller number
  walk-agrees zero pages way h s w e = ap returns (answer-agrees pages way s e)
  walk-agrees (suc n) pages way h s w e =
      let b = 8 - n in
      let lo : 1 ≤ 8 - n = omega arith in
      let hi : 8 - n ≤ 8 = omega arith in
      let d : 32 - 4 * suc n ≡ 4 * (8 - n - 1) = omega arith in
      let here : Stands img key (4 * (8 - n - 1)) way = subst (λ (x : ℕ). Stands img key x way) d s in
      let c : 9 - suc n ≡ 8 - n = omega arith in
      let within : number way < root_count img (8 - n) = subst (λ (x : ℕ). number way < root_count img x) c (w (omega arith)) in
      let read = pages ++ page_number img (8 - n) (page_with img (8 - n) (number way)) ∷ [] in
      let f : 4 * (8 - n) ≡ 32 - 4 * n = omega arith in
      ap (λ o. and_then o (λ next. cond (all_smaller img (8 - n) next) (returns (absent (key_count img))) (walk img key n read next))) (through-is r key (8 - n) way lo hi here within)
      ∙ go (way_from img key (8 - n) way) (way_stands r key (8 - n) way lo hi here within)
      (λ next t k. walk-agrees n read next (omega arith) (subst (λ (x : ℕ). Stands img key x next) f t) (λ m. omega (arith, k, due_roots img (8 - n) (omega arith), ap (root_count img) (let g : 8 - n + 1 ≡ 9 - n = omega arith in g)))
      (more_pages (8 - suc n) (8 - n) pages _ (omega arith) e (page_on_path r key (8 - n) way lo hi here)))
    where
      go : (next : Way) → Stands img key (4 * (8 - n)) next
          → ((next : Way) → Stands img key (4 * (8 - n)) next → number next < out_links_due img (8 - n) → walk img key n (pages ++ page_number img (8 - n) (page_with img (8 - n) (number way)) ∷ []) next ≡ returns (lookup_answer img key))
          → cond (all_smaller img (8 - n) next) (returns (absent (key_count img))) (walk img key n (pages ++ page_number img (8 - n) (page_with img (8 - n) (number way)) ∷ []) next) ≡ returns (lookup_answer img key)
      go (out m) t rec = rec (out m) t (omega (arith, t.within, links_count r (8 - n) (omega arith) (omega arith)))
      go (off m) t rec =
          let due = links_count r (8 - n) (omega arith) (omega arith) in
          elim (ℕ_discrete m (out_links_due img (8 - n))) [
            | yes z ↦ cond_yes (eqb m (out_links_due img (8 - n))) _ _ (eq-eqb m (out_links_due img (8 - n)) z)
                ∙ ap {B = Outcome LookupAnswer} (λ (k : ℕ). returns (absent k)) (sym (missing-all (4 * n) (4 * (8 - n)) (omega arith) (subst (Missing img key (4 * (8 - n))) (z ∙ sym due) t)))
                ∙ ap returns (sym (missing-answer (4 * (8 - n)) m (omega arith) t))
            | no z ↦ cond_no (eqb m (out_links_due img (8 - n))) _ _ (ne_eqb m (out_links_due img (8 - n)) z) ∙ rec (off m) t (omega (arith, stands_below img key (4 * (8 - n)) (off m) t))
          ]

-- the root of band 1
first_root : (img : List ℕ) (key : ℕ) → key < 4294967296 → Stands img key 0 (out 0)
unfolding prefixes_at descend
first_root img key h = record { within = omega arith; prefix = omega arith }

-- 1 to 7 are among 1 to 13
pub header-yes : (img : List ℕ) → first_no (image_questions img) ≡ none → first_no (header_questions img) ≡ none
unfolding image_questions
header-yes img e = none_of_yes (header_questions img) (all_left Yes (header_questions img) _ (yes_of_none (image_questions img) e))

pub paged_agrees : (img : List ℕ) → Accepted img → (holder slot : ℕ) → paged_lookup img holder slot ≡ lookup img holder slot
unfolding paged_lookup lookup and_then
paged_agrees img i holder slot =
    let f = facts img i in
    ap (λ o. and_then o (paged_answer img)) (settle-yes (header_questions img) (key_of holder slot) (header-yes img f.all_yes))
    ∙ answer (key_of holder slot) (key_of_small holder slot)
    ∙ sym (settle-yes (image_questions img) (lookup_answer img (key_of holder slot)) f.all_yes)
  where
    starts : 1 ≤ key_count img → number (out 0) < root_count img 1
    starts k = unfold number in omega (arith, one_root img i.bytes (facts img i).questions k)

    answer : (key : ℕ) → key < 4294967296 → paged_answer img key ≡ returns (lookup_answer img key)
    answer key small = unfold paged_answer is_zero in
        elim (ℕ_discrete (key_count img) 0) [
          | yes z ↦ rw (eq-eqb (key_count img) 0 z, paged_answer) (ap returns (sym (place_none img key i.bytes (facts img i).questions z)))
          | no z ↦ rw (ne_eqb (key_count img) 0 z, paged_answer)
              (walk-agrees (record { accepted = i; some = omega arith }) key 8 [] (out 0) (omega arith) (first_root img key small) (λ h. starts (omega arith)) (unfold numbers_from in refl))
        ]
