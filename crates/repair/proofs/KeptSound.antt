-- Where some accepted image agrees in the kept bytes, these are sound.
-- Assumes nothing.
use mathlib.Core.Path.{◌≡◌, sym, ap, ◌∙◌}
use mathlib.Core.Bool.{true}
use mathlib.Core.List.{List, [], ◌∷◌, flat_map}
use Prim.Native.Nat.{ℕ, zero, suc, ◌+◌, ◌≤◌, ◌<◌}
use native.Mathlib.Numerals.{add-one}
use native.Mathlib.Omega.{arith}
use lib.Dec.{ltb}
use borrow.Author.Tests.{le-ltb, lt-ltb}
use Rattle.format.specs.Seq.{All}
use Rattle.format.specs.Page.{Byte, first_subtries, levels_in, node_count}
use Rattle.format.specs.Image.{bands, key_count, page_count, page_pairs, root_count}
use Rattle.format.specs.Question.{Yes, band_questions, header_questions, image_questions, no_room, node_questions, out_links_due, questions_from_9}
use Rattle.format.proofs.Lists.{all_append, all_left, and_both}
use Rattle.format.proofs.Questions.{yes_of_none}
use Rattle.format.proofs.NodeQuestions.{NodesOk, of_nodes}
use Rattle.format.proofs.Checked.{Checked, Counts, cond_no, cond_yes, no_keys, page_nodes_lem, some_keys}
use Rattle.format.proofs.Accepted.{facts}
use Rattle.repair.specs.Numbers.{band_links, held_levels, held_roots, row_questions}
use Rattle.repair.specs.Repair.{is_repairable}
use Rattle.repair.specs.Sound.{Sound, SoundPage, SoundTop, header_kept, no_pages, nodes_before, one_root}
use Rattle.repair.specs.Laws.{Repairs}
use Rattle.repair.proofs.Agreeing.{same_count, same_header, same_pairs}
use Rattle.repair.proofs.Given.{band_links_given, band_roots_given, levels_given, nodes_given, roots_given}
use Rattle.repair.proofs.RepairLaws.{of_repairable}

-- ---- the header

pub kept_of : (img : List ℕ) → All Yes (header_questions img) → header_kept img ≡ true
unfolding header_questions header_kept
kept_of img h = and_both (and_both (and_both (and_both (and_both h.0 h.1.0) h.1.1.0) h.1.1.1.1.0) h.1.1.1.1.1.0) h.1.1.1.1.1.1.0

module _ {img new : List ℕ} (r : Repairs img new) where
  c : Checked new
  c = (facts new r.accepted).questions

  header-kept : header_kept img ≡ true
  unfolding image_questions
  header-kept = same_header r.agree ∙ kept_of new (all_left Yes (header_questions new) (flat_map (band_questions new) bands) (yes_of_none (image_questions new) (facts new r.accepted).all_yes))

  top_sound : Counts new → SoundTop img
  top_sound (no_keys k f) = no_pages (λ b lo hi. same_count r.agree b lo hi ∙ (f b lo hi).0)
  top_sound (some_keys k p q f) = one_root (band_roots_given r.accepted r.agree 1 (omega arith) (omega arith) ∙ q)

  module _ (b : ℕ) (lo : 1 ≤ b) (hi : b ≤ 8) where
    there : (i : ℕ) → i < page_count img b → i < page_count new b
    there i h = omega (arith, same_count r.agree b lo hi)

    -- 12
    needed : (i : ℕ) → i < page_count img b → no_room (nodes_before img b i) (held_levels img b i) ≡ true
    unfolding no_room
    needed zero h = lt-ltb 240 (node_count 1 (first_subtries 1 (held_levels img b 0)) + 241) (omega arith)
    needed (suc i) h =
        rw (levels_given r.accepted r.agree b lo hi (suc i) h, nodes_given r.accepted r.agree b lo hi i (omega arith))
        (lt-ltb 240 _ (c.page b (suc i) lo hi (there (suc i) h)).full)

    page-sound : (i : ℕ) → i < page_count img b → SoundPage img b i
    unfolding row_questions questions_from_9 held_levels
    page-sound i h =
        let nodes : NodesOk (held_roots img b i) (page_pairs img b i) = rw (roots_given r.accepted r.agree b lo hi i h, same_pairs r.agree b i lo hi) (page_nodes_lem new b i (c.page b i lo hi (there i h))) in
        all_append Yes (node_questions (held_roots img b i) (page_pairs img b i)) ((12, no_room (nodes_before img b i) (levels_in 4 (held_roots img b i) (page_pairs img b i))) ∷ []) (of_nodes _ _ nodes) (needed i h, tt)

  pub kept_sound : Sound img
  unfolding out_links_due
  kept_sound =
      let keys : band_links img 8 ≡ key_count new = band_links_given r.accepted r.agree 8 (omega arith) (omega arith) ∙ cond_no (ltb 8 8) (root_count new 9) (key_count new) (le-ltb 8 8 (omega arith)) in
      record {
        header = header-kept;
        top = top_sound c.header.counts;
        page = λ b i lo hi h. page-sound b lo hi i h;
        link = λ b lo hi. band_links_given r.accepted r.agree b lo (omega arith)
            ∙ cond_yes (ltb b 8) (root_count new (b + 1)) (key_count new) (lt-ltb b 8 (omega arith))
            ∙ ap (root_count new) (add-one b)
            ∙ sym (band_roots_given r.accepted r.agree (suc b) (omega arith) (omega arith));
        few = rw keys c.header.few;
      }

pub repairable_sound : (img : List ℕ) → All Byte img → is_repairable img ≡ true → Sound img
repairable_sound img small e = kept_sound (of_repairable img small e)
