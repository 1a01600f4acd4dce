-- The starred sample plates, from the definitions, by computation.
-- Assumes nothing.
use mathlib.Core.Path.{refl}
use mathlib.Core.List.{flat_map, flatten}
use Rattle.format.specs.Seq.{cons_if, every, is_in, numbers_from, select, total, up_to}
use Rattle.format.specs.Key.{gather, holder_of, key_of, slot_of, spread}
use Rattle.format.specs.Trie.{add_to_first, below, bit_of, bits, descend, levels_of, levels_over, nodes_over, on_bits, parents}
use Rattle.format.specs.Page.{byte_of, first_subtries, later_subtries, levels_in, node_bytes, node_count, number_at, pairs_of, two_bytes}
use Rattle.format.specs.Header.{header, header_end, header_start, mark, version_for}
use Rattle.format.specs.Image.{band_level, band_levels, bands, image_levels, key_count, keys_of, lift_of, next_t, out_link_count, page_b, page_count, page_levels, page_nodes, page_number, page_pairs, page_roots, page_t, pages_before, prefixes_at, root_count, version_of}
use Rattle.format.specs.Question.{band_questions, counts_fit, mark_right, first_no, head_right, header_questions, image_questions, is_lift, is_positive, is_zero, lift_right, no_room, node_questions, out_links_due, outcome, page_needed, page_questions, questions_from_9, settle, version_known, zeros_right}
use Rattle.format.specs.Writer.{band_bytes, band_counts, bands_in, bands_of, cut, image_of, pack, page_bytes, pages_of, roots_in, subtrie_sizes, subtries_per_page}
use Rattle.format.specs.Answer.{check, contains, count, inside, is_within, member_keys, rectangle_question}
use Rattle.format.specs.Plates.{Packings, Plates, first_bytes, first_page, one_page_header, one_page_image}

pub plates : Plates
unfolding flat_map flatten numbers_from up_to total every cons_if select is_in spread key_of gather slot_of holder_of parents bit_of add_to_first nodes_over levels_over levels_of bits on_bits below descend first_subtries later_subtries node_count levels_in pairs_of byte_of node_bytes two_bytes number_at bands key_count page_count root_count pages_before page_number page_t page_b page_pairs next_t page_roots page_levels page_nodes out_link_count band_level band_levels image_levels prefixes_at keys_of first_no is_zero is_positive counts_fit mark mark_right version_of lift_of version_known zeros_right is_lift lift_right header_questions head_right node_questions questions_from_9 no_room page_needed page_questions out_links_due band_questions image_questions bands_in bands_of roots_in subtrie_sizes pack subtries_per_page cut pages_of page_bytes band_bytes band_counts version_for header_start header_end header image_of outcome settle check inside contains is_within member_keys rectangle_question count first_bytes one_page_header first_page one_page_image
plates =
    record {
      plate_1 = refl;
      plate_2 = refl;
      plate_3 = refl;
      plate_4 = refl;
      plate_5 = refl;
      plate_6 = refl;
      plate_7 = record { bytes = refl; accepted = refl; list = refl };
      plate_8 = record { bytes = refl; accepted = refl; list = refl };
      plate_8_length = refl;
      plate_8_lift = refl;
      plate_8_lift_accepted = refl;
      plate_9 = record { bytes = refl; accepted = refl; list = refl };
      plate_10 = record { bytes = refl; accepted = refl; list = refl };
      plate_11 = refl;
      plate_11_count = refl;
      plate_12 = record { bytes = refl; accepted = refl; list = refl };
    }

-- the packing rule at its edges, by computation
pub packings : Packings
unfolding pack subtries_per_page
packings = record { sixty_of_4 = refl; sixteen_of_15 = refl; one_node_over = refl; just_full = refl }
