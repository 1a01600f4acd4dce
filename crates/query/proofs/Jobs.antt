-- The jobs' outcomes from the checker's answer and from what the walks find.
-- Assumes nothing.
use mathlib.Core.Bool.{true, false}
use mathlib.Core.List.{List, [], ◌∷◌, ◌++◌, map}
use mathlib.Core.Path.{◌≡◌, refl, sym, ap, ap₂, ◌∙◌}
use Prim.Native.Nat.{ℕ, ◌≤◌, ◌<◌}
use native.Mathlib.Omega.{arith}
use borrow.Author.Tests.{le-leb, lt-leb, lt-ltb, le-ltb}
use lib.Dec.{leb, ltb}
use lib.ListN.{length, get_or, get_or-map}
use Rattle.format.specs.declared.Rectangle.{Rectangle}
use Rattle.format.specs.Key.{holder_of, key_of, slot_of, unwoven}
use Rattle.format.specs.Image.{key_count, keys_of, list_of}
use Rattle.format.specs.Question.{Question, Outcome, refused, returns, filled, first_no, image_questions, outcome, settle}
use Rattle.format.specs.Exact.{Accepted}
use Rattle.format.specs.Answer.{LookupAnswer, buffer_after_listing, check, count, find, listing, lookup, lookup_answer, member_keys, places_question, rectangle_question}
use Rattle.format.proofs.Jobs.{settle_no}
use Rattle.checker.proofs.After.{refused_no, refused_job, returned_count, accepted_job}
use Rattle.paged_lookup.specs.Paged.{paged_lookup}
use Rattle.paged_lookup.proofs.EightPages.{eight_pages}
use Rattle.walk.specs.Walk.{Listed as QListed}
use Rattle.walk.proofs.Places.{written_all}

-- one question, and two
one_yes : {A : Type 0} (q : Question) (a : A) → q.1 ≡ true → settle (q ∷ []) a ≡ returns a
unfolding settle first_no outcome
one_yes q a e = rw e

one_no : {A : Type 0} (q : Question) (qs : List Question) (a : A) → q.1 ≡ false → settle (q ∷ qs) a ≡ refused q.0
unfolding settle first_no outcome
one_no q qs a e = rw e

next_question : {A : Type 0} (q : Question) (qs : List Question) (a : A) → q.1 ≡ true → settle (q ∷ qs) a ≡ settle qs a
unfolding settle first_no
next_question q qs a e = rw e

-- ---- lookup

pub lookup_refused : (img : List ℕ) (n holder slot : ℕ) → refused n ≡ check img → refused n ≡ lookup img holder slot
unfolding lookup
lookup_refused img n holder slot e = sym (settle_no (image_questions img) (lookup_answer img (key_of holder slot)) n (refused_no img n e))

-- in an accepted image the eight-page lookup is the full one
pub lookup_agrees : (img : List ℕ) (holder slot : ℕ) (o : Outcome LookupAnswer) → Accepted img → o ≡ paged_lookup img holder slot → o ≡ lookup img holder slot
lookup_agrees img holder slot o a f = f ∙ eight_pages.agrees img a holder slot

-- ---- rectangles

pub order_no : (rectangle : Rectangle) → rectangle.holders.high < rectangle.holders.low → false ≡ (rectangle_question rectangle).1
unfolding rectangle_question
order_no rectangle h = rw (lt-leb rectangle.holders.low rectangle.holders.high h)

pub order_is : (rectangle : Rectangle) → rectangle.holders.low ≤ rectangle.holders.high → leb rectangle.slots.low rectangle.slots.high ≡ (rectangle_question rectangle).1
unfolding rectangle_question
order_is rectangle h = rw (le-leb rectangle.holders.low rectangle.holders.high h)

module _ (img : List ℕ) (n : ℕ) (rectangle : Rectangle) where
  pub count_refused : refused n ≡ check img → refused n ≡ count img rectangle
  unfolding count
  count_refused e = refused_job img n e (rectangle_question rectangle ∷ []) (length (member_keys img rectangle))

  module _ (e : returns n ≡ check img) where
    pub count_order : (rectangle_question rectangle).1 ≡ false → refused 18 ≡ count img rectangle
    unfolding count rectangle_question
    count_order h = sym (accepted_job img n e (rectangle_question rectangle ∷ []) (length (member_keys img rectangle)) ∙ one_no (rectangle_question rectangle) [] (length (member_keys img rectangle)) h)

    pub count-done : (rectangle_question rectangle).1 ≡ true → {m : ℕ} → m ≡ length (member_keys img rectangle) → returns m ≡ count img rectangle
    unfolding count
    count-done h f = ap returns f ∙ sym (accepted_job img n e (rectangle_question rectangle ∷ []) (length (member_keys img rectangle)) ∙ one_yes (rectangle_question rectangle) (length (member_keys img rectangle)) h)

-- ---- a listing, with the buffer at exit

-- the outcome, and the buffer after it
abbrev pub ListingIs : List ℕ → Rectangle → List ℕ → Outcome ℕ → List ℕ → Type 0
ListingIs img rectangle buffer o after = (o ≡ listing img rectangle buffer) × (after ≡ buffer_after_listing img rectangle buffer)

no_listing : (img : List ℕ) (rectangle : Rectangle) (buffer : List ℕ) (n : ℕ) → refused n ≡ listing img rectangle buffer → ListingIs img rectangle buffer (refused n) buffer
unfolding buffer_after_listing filled
no_listing img rectangle buffer n e = (e, ap (λ o. filled o (member_keys img rectangle) buffer) e)

module _ (img : List ℕ) (n : ℕ) (rectangle : Rectangle) (buffer : List ℕ) where
  pub list_refused : refused n ≡ check img → ListingIs img rectangle buffer (refused n) buffer
  unfolding listing
  list_refused e = no_listing img rectangle buffer n (refused_job img n e (rectangle_question rectangle ∷ places_question img rectangle buffer ∷ []) (length (member_keys img rectangle)))

  module _ (e : returns n ≡ check img) where
    asked : settle (image_questions img ++ rectangle_question rectangle ∷ places_question img rectangle buffer ∷ []) (length (member_keys img rectangle))
        ≡ settle (rectangle_question rectangle ∷ places_question img rectangle buffer ∷ []) (length (member_keys img rectangle))
    asked = accepted_job img n e (rectangle_question rectangle ∷ places_question img rectangle buffer ∷ []) (length (member_keys img rectangle))

    pub list_order : (rectangle_question rectangle).1 ≡ false → ListingIs img rectangle buffer (refused 18) buffer
    unfolding listing rectangle_question
    list_order h = no_listing img rectangle buffer 18 (sym (asked ∙ one_no (rectangle_question rectangle) (places_question img rectangle buffer ∷ []) (length (member_keys img rectangle)) h))

    module _ (h : (rectangle_question rectangle).1 ≡ true) where
      asked-places : listing img rectangle buffer ≡ settle (places_question img rectangle buffer ∷ []) (length (member_keys img rectangle))
      unfolding listing
      asked-places = asked ∙ next_question (rectangle_question rectangle) (places_question img rectangle buffer ∷ []) (length (member_keys img rectangle)) h

      pub list_short : length buffer < length (member_keys img rectangle) → ListingIs img rectangle buffer (refused 19) buffer
      unfolding places_question
      list_short s = no_listing img rectangle buffer 19 (sym (asked-places ∙ one_no (places_question img rectangle buffer) [] (length (member_keys img rectangle)) (lt-leb (length (member_keys img rectangle)) (length buffer) s)))

      pub list_done : length (member_keys img rectangle) ≤ length buffer → {m : ℕ} {after : List ℕ} → QListed (member_keys img rectangle) buffer 0 after m → ListingIs img rectangle buffer (returns m) after
      unfolding places_question buffer_after_listing filled
      list_done s {m} {after} l =
          let count_is : m ≡ length (member_keys img rectangle) = omega (arith, l.count) in
          let outcome-is : listing img rectangle buffer ≡ returns (length (member_keys img rectangle)) =
          asked-places ∙ one_yes (places_question img rectangle buffer) (length (member_keys img rectangle)) (le-leb (length (member_keys img rectangle)) (length buffer) s) in (
            ap returns count_is ∙ sym outcome-is,
            l.holds ∙ written_all (member_keys img rectangle) buffer s ∙ sym (ap (λ o. filled o (member_keys img rectangle) buffer) outcome-is),
          )

-- ---- finding by rank

none_there : ◌≡◌ {A = ℕ × ℕ} (holder_of 0, slot_of 0) (0, 0)
unfolding holder_of slot_of Rattle.format.specs.Key.gather
none_there = refl

abbrev pub found : ℕ → ℕ → Outcome (ℕ × ℕ)
found holder slot = returns (holder, slot)

module _ (img : List ℕ) (n rank : ℕ) where
  pub find_refused : refused n ≡ check img → refused n ≡ find img rank
  unfolding find
  find_refused e = refused_job img n e ((20, ltb rank (key_count img)) ∷ []) (get_or (list_of img) rank (0, 0))

  module _ (e : returns n ≡ check img) where
    pub find_past : n ≤ rank → refused 20 ≡ find img rank
    unfolding find
    find_past h = sym (accepted_job img n e ((20, ltb rank (key_count img)) ∷ []) (get_or (list_of img) rank (0, 0)) ∙ one_no (20, ltb rank (key_count img)) [] (get_or (list_of img) rank (0, 0)) (le-ltb rank (key_count img) (omega (arith, returned_count img n e))))

    pub find-done : rank < n → {key holder slot : ℕ} → key ≡ get_or (keys_of img) rank 0 → holder ≡ holder_of key → slot ≡ slot_of key → found holder slot ≡ find img rank
    unfolding find list_of unwoven
    find-done h {key} {holder} {slot} k eh es =
        let there : get_or (map {B = ℕ × ℕ} (λ key. (holder_of key, slot_of key)) (keys_of img)) rank (holder_of 0, slot_of 0) ≡ (holder_of (get_or (keys_of img) rank 0), slot_of (get_or (keys_of img) rank 0)) =
        get_or-map {B = ℕ × ℕ} (λ key. (holder_of key, slot_of key)) (keys_of img) rank 0 in
        let same : found holder slot ≡ returns (holder_of (get_or (keys_of img) rank 0), slot_of (get_or (keys_of img) rank 0)) =
        ap₂ found (eh ∙ ap holder_of k) (es ∙ ap slot_of k) in
        same ∙ sym (accepted_job img n e ((20, ltb rank (key_count img)) ∷ []) (get_or (list_of img) rank (0, 0)) ∙ one_yes (20, ltb rank (key_count img)) (get_or (list_of img) rank (0, 0)) (lt-ltb rank (key_count img) (omega (arith, returned_count img n e))) ∙ ap returns (ap (get_or (map {B = ℕ × ℕ} (λ key. (holder_of key, slot_of key)) (keys_of img)) rank) (sym none_there) ∙ there))
