-- The writer's questions and its image, in the terms of the two passes.
-- Assumes nothing.
use mathlib.Core.Path.{◌≡◌, refl, sym, ap, ap₂, ◌∙◌}
use mathlib.Core.Bool.{true, false}
use mathlib.Core.Option.{Option, none, some}
use mathlib.Core.List.{List, [], ◌∷◌, ◌++◌, append_assoc, append-nil, flat_map, map}
use Prim.Native.Nat.{ℕ, ◌+◌, ◌*◌, ◌≤◌, ◌<◌}
use native.Mathlib.Omega.{arith}
use borrow.Author.Tests.{le-leb, lt-leb}
use lib.ListN.{length, take, drop, length-append, take-append-drop}
use lib.Seq.{take_at, drop_at, drop-drop, drop-length, length-take-le}
use Rattle.format.specs.Seq.{total}
use Rattle.format.specs.Header.{header}
use Rattle.format.specs.Question.{Outcome, Question, Yes, refused, returns, outcome, settle, first_no, filled}
use Rattle.format.specs.Writer.{ascending, bands_of, band_counts, image_of, list_questions, room_question, write_keys, buffer_after_write_keys}
use Rattle.format.proofs.HeaderBytes.{length_counts, length-header}
use Rattle.format.proofs.Questions.{after_yes, asked_no, asked_yes}
use Rattle.format.proofs.Jobs.{list_writable}
use Rattle.format.proofs.Exact.{write-is}
use Rattle.std.specs.Prelude.{Result, Ok, Err}
use Rattle.format.specs.Refusal.{number_of}
use Rattle.format.specs.declared.refusal.Refusal.{Refusal}
use Rattle.format.specs.declared.refusal.Refusal.TheVariants.{Lift, More, Order, Room}
use Rattle.image_writer.specs.declared.Plan.{Plan}
use Rattle.writer.specs.Outcomes.{WrittenKeys}
use Rattle.writer.specs.List.{yes_to_35}
use Rattle.packing.specs.Run.{Prefixes}
use Rattle.image_writer.specs.Image.{numbers_of, counts_of, pages_in, pages_from, bytes_of_band, bytes_of_bands, Planned, ImageRoom}
use Rattle.image_writer.specs.Planning.{used_up, FirstPass}
use Rattle.image_writer.proofs.Planning.{page_count, bands_up_lem}
use Rattle.image_writer.proofs.Writing.{length_up, length_band}

-- ---- the image

-- a header of the plan's counts and the pages are the image
pub image_is : (lift : ℕ) (keys : List ℕ) → header lift (length keys) (counts_of keys) ++ bytes_of_bands keys ≡ image_of lift keys
unfolding image_of counts_of bytes_of_bands bytes_of_band flat_map
image_is lift keys = refl

header-length : (lift : ℕ) (keys : List ℕ) → length (header lift (length keys) (counts_of keys)) ≡ 64
unfolding counts_of
header-length lift keys =
    let eight : length (bands_of keys) ≡ 8 = ap length (bands_up_lem keys) ∙ length_up 8 keys in
    length-header lift (length keys) (flat_map band_counts (bands_of keys)) (omega (arith, length_counts (bands_of keys)))

pages_length : (keys : List ℕ) → length (bytes_of_bands keys) ≡ 64 * pages_in keys
unfolding bytes_of_bands pages_in
pages_length keys = go (bands_of keys)
  where
    go : (l : List (List (List ℕ))) → length (flat_map bytes_of_band l) ≡ 64 * total (map page_count l)
    go [] = unfold flat_map total in refl
    go (band ∷ l) = sum band l (go l)
      where
        sum : (band : List (List ℕ)) (l : List (List (List ℕ))) → length (flat_map bytes_of_band l) ≡ 64 * total (map page_count l) → length (flat_map bytes_of_band (band ∷ l)) ≡ 64 * total (map page_count (band ∷ l))
        sum band l h = unfold flat_map total in omega (arith, h, length-append (bytes_of_band band) (flat_map bytes_of_band l), length_band band)

pub image_length : (lift : ℕ) (keys : List ℕ) → length (image_of lift keys) ≡ 64 + 64 * pages_in keys
image_length lift keys = ap length (sym (image_is lift keys)) ∙ length-append (header lift (length keys) (counts_of keys)) (bytes_of_bands keys) ∙ ap₂ ◌+◌ (header-length lift keys) (pages_length keys)

-- header and pages in the buffer
pub image_filled : (lift : ℕ) (keys out out₁ out₂ : List ℕ) → out₁ ≡ header lift (length keys) (counts_of keys) ++ drop 64 out → out₂ ≡ pages_from out₁ 1 (bytes_of_bands keys) → out₂ ≡ image_of lift keys ++ drop (length (image_of lift keys)) out
unfolding pages_from
image_filled lift keys out out₁ out₂ e₁ e₂ =
    let h = header lift (length keys) (counts_of keys) in
    let size = header-length lift keys in
    let n : 64 + length (bytes_of_bands keys) ≡ length (image_of lift keys) = omega (arith, image_length lift keys, pages_length keys) in
    e₂
    ∙ ap (λ (l : List ℕ). take 64 l ++ (bytes_of_bands keys ++ drop (64 + length (bytes_of_bands keys)) l)) e₁
    ∙ ap₂ (λ (a b : List ℕ). a ++ (bytes_of_bands keys ++ b)) (take_at h (drop 64 out) 64 size)
    (sym (drop-drop (length (bytes_of_bands keys)) 64 (h ++ drop 64 out)) ∙ ap (drop (length (bytes_of_bands keys))) (drop_at h (drop 64 out) 64 size) ∙ drop-drop (length (bytes_of_bands keys)) 64 out ∙ ap (λ (k : ℕ). drop k out) n)
    ∙ sym (append_assoc h (bytes_of_bands keys) (drop (length (image_of lift keys)) out))
    ∙ ap (◌++ drop (length (image_of lift keys)) out) (image_is lift keys)

-- ---- the questions

module _ (asked : Question) (lift : ℕ) (keys buffer : List ℕ) where
  refused-by : (r : Refusal) → first_no (asked ∷ list_questions keys ++ room_question lift keys buffer ∷ []) ≡ some (number_of r) → WrittenKeys asked lift keys buffer (Err r) buffer
  unfolding write_keys buffer_after_write_keys settle
  refused-by r e =
      let o : write_keys asked lift keys buffer ≡ refused (number_of r) = ap (λ (m : Option ℕ). outcome m (length (image_of lift keys))) e ∙ (unfold outcome in refl) in
      record { returned = sym o; bytes = sym (ap (λ (m : Outcome ℕ). filled m (image_of lift keys) buffer) o ∙ (unfold filled in refl)) }

  -- 35 gets a no
  pub no_35 : asked.0 ≡ 35 → asked.1 ≡ false → WrittenKeys asked lift keys buffer (Err Lift) buffer
  no_35 is e = refused-by Lift (asked_no asked.0 asked.1 _ e ∙ ap (λ (n : ℕ). some n) is)

-- 35 gets a yes, however it is asked: the other questions decide
pub asked_35 : (asked asked' : Question) (lift : ℕ) (keys buffer : List ℕ) (answer : Result ℕ Refusal) (buffer' : List ℕ) → Yes asked → Yes asked' → WrittenKeys asked lift keys buffer answer buffer' → WrittenKeys asked' lift keys buffer answer buffer'
unfolding buffer_after_write_keys
asked_35 asked asked' lift keys buffer answer buffer' e e' w = record { returned = w.returned ∙ o; bytes = w.bytes ∙ ap (λ (m : Outcome ℕ). filled m (image_of lift keys) buffer) o }
  where
    o : write_keys asked lift keys buffer ≡ write_keys asked' lift keys buffer
    o = unfold write_keys settle in ap (λ (m : Option ℕ). outcome m (length (image_of lift keys))) (asked_yes asked.0 asked.1 _ e ∙ sym (asked_yes asked'.0 asked'.1 _ e'))

pub too_many : (lift : ℕ) (keys buffer : List ℕ) → 4096 < length keys → WrittenKeys yes_to_35 lift keys buffer (Err More) buffer
too_many lift keys buffer h = refused-by yes_to_35 lift keys buffer More no
  where
    no : first_no (yes_to_35 ∷ list_questions keys ++ room_question lift keys buffer ∷ []) ≡ some 14
    no = unfold list_questions first_no in rw (lt-leb (length keys) 4096 h) refl

pub not-ascending : (lift : ℕ) (keys buffer : List ℕ) → length keys ≤ 4096 → ascending keys ≡ false → WrittenKeys yes_to_35 lift keys buffer (Err Order) buffer
not-ascending lift keys buffer few e = refused-by yes_to_35 lift keys buffer Order no
  where
    no : first_no (yes_to_35 ∷ list_questions keys ++ room_question lift keys buffer ∷ []) ≡ some 15
    no = unfold list_questions first_no in rw (le-leb (length keys) 4096 few, e) refl

-- 14 and 15 got a yes
module _ (lift : ℕ) (keys buffer : List ℕ) (listed : Prefixes keys) where
  yes_all : first_no (list_questions keys) ≡ none
  yes_all = list_writable keys listed.few listed.ordered

  no_room : length buffer < 64 + 64 * pages_in keys → WrittenKeys yes_to_35 lift keys buffer (Err Room) buffer
  no_room h = refused-by yes_to_35 lift keys buffer Room (asked_yes 35 true _ refl ∙ after_yes (list_questions keys) (room_question lift keys buffer ∷ []) yes_all ∙ no)
    where
      no : first_no (room_question lift keys buffer ∷ []) ≡ some 17
      no = unfold room_question first_no in rw (lt-leb (length (image_of lift keys)) (length buffer) (omega (arith, image_length lift keys))) refl

  written : (out₁ out₂ : List ℕ) → 64 + 64 * pages_in keys ≤ length buffer → out₁ ≡ header lift (length keys) (counts_of keys) ++ drop 64 buffer → out₂ ≡ pages_from out₁ 1 (bytes_of_bands keys)
      → WrittenKeys yes_to_35 lift keys buffer (Ok (64 + 64 * pages_in keys)) out₂
  unfolding buffer_after_write_keys
  written out₁ out₂ h e₁ e₂ =
      let o : write_keys yes_to_35 lift keys buffer ≡ returns (length (image_of lift keys)) =
      write-is yes_to_35 lift keys buffer refl yes_all (unfold room_question in le-leb (length (image_of lift keys)) (length buffer) (omega (arith, image_length lift keys))) in
      record {
        returned = sym (o ∙ ap returns (image_length lift keys));
        bytes = image_filled lift keys buffer out₁ out₂ e₁ e₂ ∙ sym (ap (λ (m : Outcome ℕ). filled m (image_of lift keys) buffer) o ∙ (unfold filled in refl));
      }

-- ---- by a plan

module _ (keys buffer : List ℕ) (plan : Plan) (g : Prefixes keys × Planned keys plan) where
  pub plan_no_room : length buffer < 64 + 64 * plan.pages → WrittenKeys yes_to_35 plan.lift keys buffer (Err Room) buffer
  plan_no_room h = no_room plan.lift keys buffer g.0 (rw (← g.1.pages_are) h)

  module _ (room : 64 + 64 * plan.pages ≤ length buffer) (out₁ : List ℕ) where
    pub plan_room : length out₁ ≡ length buffer → ImageRoom keys out₁ plan
    plan_room same = record { listed = g.0; planned = g.1; room = omega arith }

    pub plan_written : (out₂ : List ℕ) → out₁ ≡ header plan.lift (length keys) (numbers_of plan.bands) ++ drop 64 buffer → out₂ ≡ pages_from out₁ 1 (bytes_of_bands keys)
        → WrittenKeys yes_to_35 plan.lift keys buffer (Ok (64 + 64 * plan.pages)) out₂
    plan_written out₂ e₁ e₂ =
        rw g.1.pages_are (written plan.lift keys buffer g.0 out₁ out₂ (rw g.1.pages_are at room) (e₁ ∙ ap (λ (c : List ℕ). header plan.lift (length keys) c ++ drop 64 buffer) g.1.counts_are) e₂)

-- ---- the keys in their places

-- the keys, put in as many places
module _ (lift : ℕ) (keys places loaded : List ℕ) (same : length places ≡ length keys) (few : length keys ≤ 4096) (is : loaded ≡ keys ++ drop (length keys) places) where
  loaded_is : loaded ≡ keys
  loaded_is = is ∙ ap (λ (n : ℕ). keys ++ drop n places) (sym same) ∙ ap (keys ++◌) (drop-length places) ∙ append-nil keys

  pub loaded_few : length loaded ≤ 4096
  loaded_few = rw loaded_is few

  -- the plan found question 15 at no
  pub loaded_refused : (buffer : List ℕ) (r : Refusal) → r ≡ Order → ascending loaded ≡ false → WrittenKeys yes_to_35 lift keys buffer (Err r) buffer
  loaded_refused buffer r e falls = rw e (not-ascending lift keys buffer few (rw loaded_is at falls))

  module _ (after again : List ℕ) (plan : Plan) (used : ℕ) (planned : (ascending loaded ≡ true) × FirstPass lift loaded after plan) (is-used : used ≡ used_up plan) (back : again ≡ take used keys ++ drop (length (take used keys)) after) where
    pub used-few : used ≤ length keys
    used-few = omega (arith, planned.1.used_few, ap length loaded_is)

    -- those that were used up are there again
    again_is : again ≡ keys
    again_is =
        let p : FirstPass lift keys after plan = rw loaded_is at planned.1 in
        let l : length (take used keys) ≡ used_up plan = length-take-le used keys used-few ∙ is-used in
        back ∙ ap₂ (λ (n k : ℕ). take n keys ++ drop k after) is-used l ∙ ap (take (used_up plan) keys ++◌) p.memory.kept ∙ take-append-drop (used_up plan) keys

    pub again_room : Prefixes again × Planned again plan
    again_room = rw (again_is, ← loaded_is) (record { few = loaded_few; ordered = planned.0 }, planned.1.planned)

    pub again_written : (buffer : List ℕ) (answer : Result ℕ Refusal) (buffer' : List ℕ) → WrittenKeys yes_to_35 plan.lift again buffer answer buffer' → WrittenKeys yes_to_35 lift keys buffer answer buffer'
    again_written buffer answer buffer' w = rw (again_is, planned.1.lift_is) at w
