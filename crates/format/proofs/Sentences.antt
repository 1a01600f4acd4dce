-- Sentences of the papers that are laws of the definitions: sizes of subtries, ascending members, where out-links lead, and version 1. Those on T
-- and B are in Counters.
-- Assumes nothing.
use mathlib.Core.List.{List}
use mathlib.Core.Path.{◌≡◌, sym, ap, ◌∙◌}
use mathlib.Core.Bool.{true}
use Prim.Native.Nat.{ℕ, suc, ◌+◌, ◌-◌, ◌*◌, ◌≤◌, ◌<◌}
use native.Mathlib.Omega.{arith}
use lib.Dec.{eqb}
use borrow.Author.Tests.{eq-eqb}
use lib.ListN.{length, get_or}
use Rattle.format.specs.declared.Rectangle.{Rectangle}
use Rattle.format.specs.Seq.{All, rank_in}
use Rattle.format.specs.Page.{Byte, first_subtries, node_count}
use Rattle.format.specs.Image.{key_count, keys_of, lift_of, page_count, page_roots, page_t, version_of, depth, prefixes_at}
use Rattle.format.specs.Question.{is_zero}
use Rattle.format.specs.Answer.{inside, member_keys}
use Rattle.format.specs.Scan.{lift_fits}
use Rattle.format.specs.Exact.{Accepted}
use Rattle.format.specs.Place.{Reached}
use Rattle.format.proofs.Lists.{or_first}
use Rattle.format.proofs.Trie.{Asc, Shape}
use Rattle.format.proofs.Subtries.{first_shape, length_first, node_bounds}
use Rattle.format.proofs.Members.{select_asc}
use Rattle.format.proofs.Checked.{Checked, no_lift}
use Rattle.format.proofs.Descent.{rank_at}
use Rattle.format.proofs.Walk.{Out, out_link, reached_root}
use Rattle.format.proofs.Levels.{prefixes_asc, prefixes_keys}
use Rattle.format.proofs.Accepted.{facts}

-- "a root and all below it in its band is a subtrie: 4 to 15 nodes"
pub subtrie_size : (r : ℕ) (band : List (List ℕ)) → length band ≡ 4 → Shape r band → 1 ≤ r → (4 ≤ node_count 1 (first_subtries 1 band)) × (node_count 1 (first_subtries 1 band) ≤ 15)
subtrie_size r band four s some =
    let n = node_bounds 1 (first_subtries 1 band) (length_first 1 band ∙ four) (first_shape 1 r band some s) in
    (omega arith, omega arith)

-- the keys of an accepted image ascend, and so do the members of a rectangle
pub keys_ascend : (img : List ℕ) → Accepted img → Asc (keys_of img)
keys_ascend img a = (facts img a).keys.asc

pub members_ascend : (img : List ℕ) → Accepted img → (rectangle : Rectangle) → Asc (member_keys img rectangle)
unfolding member_keys
members_ascend img a rectangle = select_asc (inside rectangle) (keys_of img) (keys_ascend img a)

module _ (img : List ℕ) (a : All Byte img) (c : Checked img) (some : 1 ≤ key_count img) where
  -- "out-link n of a band leads to root n of the band below": the way out of page i with prefix x goes on at root n, in its page j
  pub link_root : (b i q x j : ℕ) → 1 ≤ b → b ≤ 7 → Out img b i q x → j < page_count img (suc b) → page_t img (suc b) j ≤ out_link img b i q
      → out_link img b i q < page_t img (suc b) j + page_roots img (suc b) j → Reached img (suc b) j 0 (out_link img b i q - page_t img (suc b) j) (out_link img b i q) x
  link_root b i q x j lo hi o h k m =
      let d : depth (suc b) 0 ≡ 4 * b = omega arith in
      let r = reached_root img a c some (suc b) (omega arith) (omega arith) j (out_link img b i q) h k m in
      record {
        j = r.j;
        in_band = r.in_band;
        in_page = r.in_page;
        inner = r.inner;
        place = r.place;
        index = r.index;
        prefix = ap (λ (e : ℕ). get_or (prefixes_at img e) (out_link img b i q) 0) d ∙ o.prefix;
      }

  -- and out of band 8 to the key whose rank is n
  pub link_rank : (i q x : ℕ) → Out img 8 i q x → rank_in (keys_of img) x ≡ out_link img 8 i q
  link_rank i q x o =
      let k = prefixes_keys img in
      let asc : Asc (keys_of img) = rw k at (prefixes_asc img a c some 32) in
      let within : out_link img 8 i q < length (keys_of img) = rw k at o.within in
      let here : get_or (keys_of img) (out_link img 8 i q) 0 ≡ x = rw k at o.prefix in
      ap (rank_in (keys_of img)) (sym here) ∙ rank_at (keys_of img) (out_link img 8 i q) asc within

-- "version 1 images count as lift 0": they pass at any gate
pub any_gate : (lift : ℕ) (img : List ℕ) → version_of img ≡ 1 → lift_fits lift img ≡ true
unfolding lift_fits is_zero
any_gate lift img e = or_first (eqb (lift_of img) 0) (eqb (lift_of img) lift) (eq-eqb (lift_of img) 0 (no_lift img e))
