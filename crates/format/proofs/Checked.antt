-- Questions 1 to 13, with 35, as facts: an image gets a yes throughout exactly when it has them.
-- Assumes nothing.
use mathlib.Core.Path.{◌≡◌, refl, sym, ap, ◌∙◌}
use mathlib.Core.Bool.{Bool, true, false, ◌&&◌, ◌||◌, cond}
use mathlib.Core.Option.{none}
use mathlib.Core.List.{List, ◌++◌, map, flat_map}
use Prim.Native.Nat.{ℕ, zero, suc, ◌+◌, ◌*◌, ◌≤◌, ◌<◌}
use native.Mathlib.Omega.{arith}
use native.Mathlib.Decide.{ℕ_discrete}
use lib.Dec.{leb, eqb}
use borrow.Author.Tests.{eqb-true, leb-true, ltb-true, eq-eqb, ne_eqb, le-leb, lt-ltb}
use lib.ListN.{length, get_or, take, drop}
use Rattle.format.specs.Seq.{All, every, numbers_from, total, up_to}
use Rattle.format.specs.Page.{first_subtries, node_count, number_at}
use Rattle.format.specs.Header.{mark, version_for}
use Rattle.format.specs.Image.{bands, key_count, lift_of, out_link_count, page_b, page_count, page_levels, page_nodes, page_pairs, page_roots, page_t, root_count, version_of}
use Rattle.format.specs.Question.{Yes, band_questions, counts_fit, first_no, head_right, header_questions, image_questions, is_lift, is_positive, is_zero, lift_right, mark_right, no_room, node_questions, out_links_due, page_needed, page_questions, questions_from_9, version_known, zeros_right}
use Rattle.format.proofs.Lists.{and_left, and_right, and_both, or_first, or_second, or_rest, all_append, all_left, all_right, all_flat_map, flat_map_all, all_up_to, up_to_all, all_numbers, numbers_all, every_all, all_every}
use Rattle.format.proofs.Questions.{yes_of_none, none_of_yes}
use Rattle.format.proofs.Jobs.{lift_range, lift-yes}
use Rattle.format.proofs.Bytes.{all_zero_lem, zero_all}
use Rattle.format.proofs.HeaderBytes.{version_some}
use Rattle.format.proofs.NodeQuestions.{NodesOk, nodes_of_lem, of_nodes}

-- 1 to 13, with 35, all get a yes
abbrev pub AllYes : List ℕ → Type 0
AllYes img = first_no (image_questions img) ≡ none

-- ---- 1 to 7 and 35

-- 7
pub data Counts (img : List ℕ) : Type 0 where
  no_keys : key_count img ≡ 0 → ((b : ℕ) → 1 ≤ b → b ≤ 8 → (page_count img b ≡ 0) × (root_count img b ≡ 0)) → Counts img
  some_keys : 1 ≤ key_count img → page_count img 1 ≡ 1 → root_count img 1 ≡ 1 → ((b : ℕ) → 2 ≤ b → b ≤ 8 → (1 ≤ page_count img b) × (1 ≤ root_count img b)) → Counts img

pub record Header (img : List ℕ) : Type 0 where
  pub long : 64 ≤ length img
  pub marked : (i : ℕ) → i < 3 → get_or img i 0 ≡ get_or mark i 0
  pub version : version_of img ≡ version_for (number_at img 40)
  pub lift : number_at img 40 ≤ 999
  pub few : key_count img ≤ 4096
  pub five : get_or img 5 0 ≡ 0
  pub tail : All (λ z. z ≡ 0) (take 22 (drop 42 img))
  pub size : length img ≡ 64 * (1 + total (map (page_count img) bands))
  pub counts : Counts img

zeros_in : (img : List ℕ) (b : ℕ) → is_zero (page_count img b) && is_zero (root_count img b) ≡ true → (page_count img b ≡ 0) × (root_count img b ≡ 0)
unfolding is_zero
zeros_in img b e =
    (eqb-true (page_count img b) 0 (and_left (eqb (page_count img b) 0) (eqb (root_count img b) 0) e), eqb-true (root_count img b) 0 (and_right (eqb (page_count img b) 0) (eqb (root_count img b) 0) e))

some_in : (img : List ℕ) (b : ℕ) → is_positive (page_count img b) && is_positive (root_count img b) ≡ true → (1 ≤ page_count img b) × (1 ≤ root_count img b)
unfolding is_positive
some_in img b e =
    (leb-true 1 (page_count img b) (and_left (leb 1 (page_count img b)) (leb 1 (root_count img b)) e), leb-true 1 (root_count img b) (and_right (leb 1 (page_count img b)) (leb 1 (root_count img b)) e))

module _ {A : Type 0} where
  pub cond_yes : (t : Bool) (a b : A) → t ≡ true → cond t a b ≡ a
  cond_yes t a b e = rw e

  pub cond_no : (t : Bool) (a b : A) → t ≡ false → cond t a b ≡ b
  cond_no t a b e = rw e

abbrev all_zero : List ℕ → ℕ → Bool
all_zero img b = is_zero (page_count img b) && is_zero (root_count img b)

abbrev all_some : List ℕ → ℕ → Bool
all_some img b = is_positive (page_count img b) && is_positive (root_count img b)

abbrev ones : List ℕ → Bool
ones img = eqb (page_count img 1) 1 && eqb (root_count img 1) 1

counts_of_lem : (img : List ℕ) → counts_fit img ≡ true → Counts img
unfolding counts_fit is_zero bands
counts_of_lem img h =
    elim (ℕ_discrete (key_count img) 0) [
      | yes e ↦ let k : every (all_zero img) (numbers_from 1 8) ≡ true = sym (cond_yes (eqb (key_count img) 0) _ _ (eq-eqb (key_count img) 0 e)) ∙ h in
          no_keys e (λ b lo hi. zeros_in img b (numbers_all (λ b. all_zero img b ≡ true) 1 8 (every_all (all_zero img) (numbers_from 1 8) k) b lo (omega arith)))
      | no e ↦ let k : ones img && every (all_some img) (numbers_from 2 7) ≡ true = sym (cond_no (eqb (key_count img) 0) _ _ (ne_eqb (key_count img) 0 e)) ∙ h in
          let o : ones img ≡ true = and_left (ones img) (every (all_some img) (numbers_from 2 7)) k in
          let s : every (all_some img) (numbers_from 2 7) ≡ true = and_right (ones img) (every (all_some img) (numbers_from 2 7)) k in
          some_keys (omega arith) (eqb-true _ 1 (and_left (eqb (page_count img 1) 1) (eqb (root_count img 1) 1) o)) (eqb-true _ 1 (and_right (eqb (page_count img 1) 1) (eqb (root_count img 1) 1) o))
          (λ b lo hi. some_in img b (numbers_all (λ b. all_some img b ≡ true) 2 7 (every_all (all_some img) (numbers_from 2 7) s) b lo (omega arith)))
    ]

pub of_counts : (img : List ℕ) → Counts img → counts_fit img ≡ true
unfolding counts_fit is_zero is_positive bands
of_counts img (no_keys e f) =
    cond_yes (eqb (key_count img) 0) _ _ (eq-eqb (key_count img) 0 e)
    ∙ all_every (all_zero img) (numbers_from 1 8) (all_numbers (λ b. all_zero img b ≡ true) 1 8 (λ b lo hi. and_both (eq-eqb (page_count img b) 0 (f b lo (omega arith)).0) (eq-eqb (root_count img b) 0 (f b lo (omega arith)).1)))
of_counts img (some_keys h p r f) =
    cond_no (eqb (key_count img) 0) _ _ (ne_eqb (key_count img) 0 (λ e. omega arith))
    ∙ and_both (and_both (eq-eqb (page_count img 1) 1 p) (eq-eqb (root_count img 1) 1 r))
    (all_every (all_some img) (numbers_from 2 7) (all_numbers (λ b. all_some img b ≡ true) 2 7 (λ b lo hi. and_both (le-leb 1 (page_count img b) (f b lo (omega arith)).0) (le-leb 1 (root_count img b) (f b lo (omega arith)).1))))

-- 3, 35, and 5 of the lift's bytes: version 1 and 0, or version 2 and 1 to 999
abbrev VersionFits : ℕ → ℕ → ℕ → Type 0
VersionFits v n l = (eqb v 1 || eqb v 2 ≡ true) × (eqb v 2 || eqb n 0 ≡ true) × (eqb v 1 || is_lift l ≡ true)

version_of_lem : (v n l : ℕ) → l ≡ cond (eqb v 1) 0 n → VersionFits v n l → (v ≡ version_for n) × (n ≤ 999)
unfolding version_for
version_of_lem v n l e (three, five, asked) =
    elim (ℕ_discrete v 1) [
      | yes d ↦ let z : n ≡ 0 = eqb-true n 0 (or_rest (eqb v 2) (eqb n 0) five (ne_eqb v 2 (λ f. omega arith))) in (d ∙ sym (ap version_for z), omega arith)
      | no d ↦ let is : l ≡ n = e ∙ cond_no (eqb v 1) 0 n (ne_eqb v 1 d) in
          let (lo, hi) = lift_range l (or_rest (eqb v 1) (is_lift l) asked (ne_eqb v 1 d)) in
          (eqb-true v 2 (or_rest (eqb v 1) (eqb v 2) three (ne_eqb v 1 d)) ∙ sym (version_some n (omega arith)), omega arith)
    ]

of_version : (v n l : ℕ) → l ≡ cond (eqb v 1) 0 n → v ≡ version_for n → n ≤ 999 → VersionFits v n l
unfolding version_for
of_version v zero l e d h =
    let one = eq-eqb v 1 d in (or_first (eqb v 1) (eqb v 2) one, or_second (eqb v 2) (eqb 0 0) refl, or_first (eqb v 1) (is_lift l) one)
of_version v (suc n) l e d h =
    let two = eq-eqb v 2 d in
    let is : l ≡ suc n = e ∙ cond_no (eqb v 1) 0 (suc n) (ne_eqb v 1 (λ f. omega arith)) in
    (or_second (eqb v 1) (eqb v 2) two, or_first (eqb v 2) (eqb (suc n) 0) two, or_second (eqb v 1) (is_lift l) (lift-yes l (omega arith) (omega arith)))

-- version 1 counts as lift 0, the lift of any other is the number at byte 40, and where 1 to 7 get a yes it is so in either
pub no_lift : (img : List ℕ) → version_of img ≡ 1 → lift_of img ≡ 0
unfolding lift_of
no_lift img e = cond_yes (eqb (version_of img) 1) 0 (number_at img 40) (eq-eqb (version_of img) 1 e)

pub lift-number : (img : List ℕ) → (version_of img ≡ 1 → ⊥) → lift_of img ≡ number_at img 40
unfolding lift_of
lift-number img h = cond_no (eqb (version_of img) 1) 0 (number_at img 40) (ne_eqb (version_of img) 1 h)

pub lift_is : (img : List ℕ) → Header img → lift_of img ≡ number_at img 40
lift_is img h = go (number_at img 40) refl h.version
  where
    go : (n : ℕ) → number_at img 40 ≡ n → version_of img ≡ version_for n → lift_of img ≡ number_at img 40
    go zero z e = no_lift img (e ∙ (unfold version_for in refl)) ∙ sym z
    go (suc n) z e = lift-number img (λ d. let two : version_of img ≡ 2 = e ∙ (unfold version_for in refl) in omega arith)

-- 2
abbrev mark_at : List ℕ → ℕ → Bool
mark_at img i = eqb (get_or img i 0) (get_or mark i 0)

pub mark_right_lem : (img : List ℕ) → ((i : ℕ) → i < 3 → get_or img i 0 ≡ get_or mark i 0) → mark_right img ≡ true
unfolding mark_right
mark_right_lem img h = all_every (mark_at img) (up_to 3) (all_up_to (λ i. mark_at img i ≡ true) 3 (λ i l. eq-eqb (get_or img i 0) (get_or mark i 0) (h i l)))

pub header_of : (img : List ℕ) → All Yes (header_questions img) → Header img
unfolding header_questions mark_right version_known zeros_right lift_right is_zero
header_of img h =
    let free = eqb (version_of img) 2 || eqb (number_at img 40) 0 in
    let zeros = every is_zero (take 22 (drop 42 img)) in
    let z = h.1.1.1.1.0 in
    let z₀₁ = and_left (eqb (get_or img 5 0) 0 && free) zeros z in
    let v = version_of_lem (version_of img) (number_at img 40) (lift_of img) (unfold lift_of in refl) (h.1.1.0, and_right (eqb (get_or img 5 0) 0) free z₀₁, h.1.1.1.1.1.0) in
    record {
      long = leb-true 64 (length img) h.0;
      marked = λ i l. eqb-true (get_or img i 0) (get_or mark i 0) (up_to_all (λ i. mark_at img i ≡ true) 3 (every_all (mark_at img) (up_to 3) h.1.0) i l);
      version = v.0;
      lift = v.1;
      few = leb-true (key_count img) 4096 h.1.1.1.0;
      five = eqb-true (get_or img 5 0) 0 (and_left (eqb (get_or img 5 0) 0) free z₀₁);
      tail = all_zero_lem (take 22 (drop 42 img)) (and_right (eqb (get_or img 5 0) 0 && free) zeros z);
      size = eqb-true (length img) _ h.1.1.1.1.1.1.0;
      counts = counts_of_lem img h.1.1.1.1.1.1.1.0;
    }

of_header : (img : List ℕ) → Header img → All Yes (header_questions img)
unfolding header_questions mark_right version_known zeros_right lift_right is_zero
of_header img h =
    let v = of_version (version_of img) (number_at img 40) (lift_of img) (unfold lift_of in refl) h.version h.lift in (
      le-leb 64 (length img) h.long,
      (
        mark_right_lem img h.marked,
        (
          v.0,
          (
            le-leb (key_count img) 4096 h.few,
            (
              and_both (and_both (eq-eqb (get_or img 5 0) 0 h.five) v.1) (zero_all (take 22 (drop 42 img)) h.tail),
              (v.2, (eq-eqb (length img) _ h.size, (of_counts img h.counts, tt))),
            ),
          ),
        ),
      ),
    )

-- ---- 8 to 12

abbrev pub HeadRight : List ℕ → ℕ → ℕ → Type 0
HeadRight img b zero = (page_t img b 0 ≡ 0) × (page_b img b 0 ≡ 0)
HeadRight img b (suc i) = page_b img b (suc i) ≡ page_b img b i + out_link_count img b i

abbrev pub PageNeeded : List ℕ → ℕ → ℕ → Type 0
PageNeeded img b zero = Unit {0}
PageNeeded img b (suc i) = 240 < node_count 1 (first_subtries 1 (page_levels img b (suc i))) + page_nodes img b i

pub record PageOk (img : List ℕ) (b i : ℕ) : Type 0 where
  pub counters : HeadRight img b i
  pub some_roots : 1 ≤ page_roots img b i
  pub few_roots : page_roots img b i ≤ 60
  pub within : page_nodes img b i ≤ 240
  pub positive : All (λ l. every is_positive l ≡ true) (page_levels img b i)
  pub zeros : every is_zero (drop (page_nodes img b i) (page_pairs img b i)) ≡ true
  pub full : PageNeeded img b i

counters_of : (img : List ℕ) (b i : ℕ) → head_right img b i ≡ true → HeadRight img b i
unfolding head_right is_zero
counters_of img b zero h =
    (eqb-true (page_t img b 0) 0 (and_left (eqb (page_t img b 0) 0) (eqb (page_b img b 0) 0) h), eqb-true (page_b img b 0) 0 (and_right (eqb (page_t img b 0) 0) (eqb (page_b img b 0) 0) h))
counters_of img b (suc i) h = eqb-true _ _ h

of_counters : (img : List ℕ) (b i : ℕ) → HeadRight img b i → head_right img b i ≡ true
unfolding head_right is_zero
of_counters img b zero h = and_both (eq-eqb (page_t img b 0) 0 h.0) (eq-eqb (page_b img b 0) 0 h.1)
of_counters img b (suc i) h = eq-eqb _ _ h

full_of : (img : List ℕ) (b i : ℕ) → page_needed img b i ≡ true → PageNeeded img b i
unfolding page_needed no_room
full_of img b zero h = tt
full_of img b (suc i) h = ltb-true 240 _ h

of_full : (img : List ℕ) (b i : ℕ) → PageNeeded img b i → page_needed img b i ≡ true
unfolding page_needed no_room
of_full img b zero h = refl
of_full img b (suc i) h = lt-ltb 240 _ h

-- 9 to 11
pub page_nodes_lem : (img : List ℕ) (b i : ℕ) → PageOk img b i → NodesOk (page_roots img b i) (page_pairs img b i)
unfolding page_nodes page_levels
page_nodes_lem img b i h = record { some_roots = h.some_roots; few_roots = h.few_roots; within = h.within; positive = h.positive; zeros = h.zeros }

page_of_lem : (img : List ℕ) (b i : ℕ) → All Yes (page_questions img b i) → PageOk img b i
unfolding page_questions questions_from_9 page_nodes page_levels
page_of_lem img b i h =
    let qs = node_questions (page_roots img b i) (page_pairs img b i) in
    let n = nodes_of_lem (page_roots img b i) (page_pairs img b i) (all_left Yes qs _ h.1) in
    record {
      counters = counters_of img b i h.0;
      some_roots = n.some_roots;
      few_roots = n.few_roots;
      within = n.within;
      positive = n.positive;
      zeros = n.zeros;
      full = full_of img b i (all_right Yes qs _ h.1).0;
    }

of_page : (img : List ℕ) (b i : ℕ) → PageOk img b i → All Yes (page_questions img b i)
unfolding page_questions questions_from_9
of_page img b i h =
    let qs = node_questions (page_roots img b i) (page_pairs img b i) in
    (of_counters img b i h.counters, all_append Yes qs _ (of_nodes (page_roots img b i) (page_pairs img b i) (page_nodes_lem img b i h)) (of_full img b i h.full, tt))

-- ---- 13, and all

pub record Checked (img : List ℕ) : Type 0 where
  pub header : Header img
  pub page : (b i : ℕ) → 1 ≤ b → b ≤ 8 → i < page_count img b → PageOk img b i
  pub link : (b : ℕ) → 1 ≤ b → b ≤ 8 → total (map (out_link_count img b) (up_to (page_count img b))) ≡ out_links_due img b

pub checked : (img : List ℕ) → AllYes img → Checked img
unfolding image_questions band_questions bands
checked img a =
    let all : All Yes (header_questions img ++ flat_map (band_questions img) (numbers_from 1 8)) = yes_of_none (image_questions img) a in
    let each : (b : ℕ) → 1 ≤ b → b ≤ 8 → All Yes (band_questions img b) =
    λ b lo hi. numbers_all (λ b. All Yes (band_questions img b)) 1 8 (flat_map_all (band_questions img) Yes (numbers_from 1 8) (all_right Yes (header_questions img) _ all)) b lo (omega arith) in
    record {
      header = header_of img (all_left Yes (header_questions img) _ all);
      page = λ b i lo hi h. page_of_lem img b i (up_to_all (λ i. All Yes (page_questions img b i)) (page_count img b) (flat_map_all (page_questions img b) Yes (up_to (page_count img b)) (all_left Yes (flat_map (page_questions img b) (up_to (page_count img b))) _ (each b lo hi))) i h);
      link = λ b lo hi. eqb-true _ _ (all_right Yes (flat_map (page_questions img b) (up_to (page_count img b))) _ (each b lo hi)).0;
    }

pub accepted : (img : List ℕ) → Checked img → AllYes img
unfolding image_questions band_questions bands
accepted img c =
    none_of_yes (image_questions img)
    (all_append Yes (header_questions img) (flat_map (band_questions img) (numbers_from 1 8)) (of_header img c.header)
    (all_flat_map (band_questions img) Yes (numbers_from 1 8)
    (all_numbers (λ b. All Yes (band_questions img b)) 1 8
    (λ b lo hi. all_append Yes (flat_map (page_questions img b) (up_to (page_count img b))) _
    (all_flat_map (page_questions img b) Yes (up_to (page_count img b)) (all_up_to (λ i. All Yes (page_questions img b i)) (page_count img b) (λ i h. of_page img b i (c.page b i lo (omega arith) h))))
    (eq-eqb _ _ (c.link b lo (omega arith)), tt)))))
