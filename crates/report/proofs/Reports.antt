-- The whole output: a refusal, or the first line and the lines of all keys.
-- Assumes nothing.
use mathlib.Core.Path.{◌≡◌, refl, sym, ap, ap₂, ◌∙◌}
use mathlib.Core.Option.{Option, none, some}
use mathlib.Core.List.{List, [], ◌∷◌, ◌++◌, append_assoc}
use Prim.Native.Nat.{ℕ, ◌≤◌, ◌<◌}
use native.Mathlib.Nat.{zero-add}
use native.Mathlib.Omega.{arith}
use lib.Dec.{leb}
use borrow.Author.Tests.{le-leb, lt-leb}
use lib.ListN.{length, take, drop, length-append}
use lib.Seq.{sets, sets-eq}
use Rattle.format.specs.Seq.{All}
use Rattle.format.specs.Page.{Byte}
use Rattle.format.specs.Image.{key_count, keys_of}
use Rattle.format.specs.Question.{Outcome, first_no, image_questions, outcome, refused, returns, settle}
use Rattle.format.specs.Answer.{buffer_after_listing, check, listing, member_keys, places_question, rectangle_question}
use Rattle.format.specs.Text.{admissions_word, printed, refused_word, rows}
use Rattle.format.specs.Text as text
use Rattle.format.specs.declared.Rectangle.{Rectangle}
use Rattle.format.specs.Exact.{Accepted, InOrder, LongEnough, whole_square}
use Rattle.format.proofs.Checked.{cond_yes, cond_no}
use Rattle.format.proofs.Questions.{after_no}
use Rattle.format.proofs.Accepted.{accepted_of_yes, facts}
use Rattle.format.proofs.Exact.{listing-is, listing_keys, whole_members}
use Rattle.report.specs.Row.{field_of, Put}
use Rattle.report.specs.Outcomes.{Reported}

-- ---- parts at the start

pub put_word : (l m word : List ℕ) → m ≡ sets l 0 word → Put l 0 word (length word) m (length word)
put_word l m word e = record { stored = e; place = omega arith; few = omega arith }

-- what was written at the start, and what the buffer held after it
pub put_all : (image l xs : List ℕ) (k : ℕ) (m : List ℕ) (r : ℕ) → xs ≡ printed image → k ≤ length l → Put l 0 xs k m r → Reported image l m r
put_all image l xs k m r e room p =
    let size : r ≡ length xs = omega (arith, p.place) in
    let all : m ≡ printed image ++ drop r l =
    p.stored ∙ sets-eq xs l 0 (omega (arith, p.few)) ∙ ap₂ (λ (zs : List ℕ) (i : ℕ). zs ++ drop i l) e (zero-add (length xs) ∙ sym size) in
    record { returned = size ∙ ap length e; bytes = all; within = omega (arith, ap length all, length-append (printed image) (drop r l), ap length e) }

-- ---- format's text

refusal_text : (img : List ℕ) (n : ℕ) → refused_word ++ field_of n 10 ≡ text.report img (refused n)
unfolding text.report field_of
refusal_text img n = sym (append_assoc refused_word (text.decimal n) (10 ∷ []))

listing_text : (img : List ℕ) (n : ℕ) → admissions_word ++ field_of n 10 ++ rows 0 (keys_of img) ≡ text.report img (returns n)
unfolding text.report field_of
listing_text img n = simp append_assoc

-- longer input than 65,536 bytes
pub printed_long : (img : List ℕ) → 65536 < length img → refused_word ++ field_of 6 10 ≡ printed img
unfolding printed
printed_long img h = refusal_text img 6 ∙ sym (cond_no (leb (length img) 65536) _ _ (lt-leb (length img) 65536 h))

module _ (img : List ℕ) (a : All Byte img) (short : length img ≤ 65536) (buffer : List ℕ) (room : length buffer ≡ 4096) where
  printed-short : (o : Outcome ℕ) → check img ≡ o → text.report img o ≡ printed img
  unfolding printed
  printed-short o e = sym (cond_yes (leb (length img) 65536) _ _ (le-leb (length img) 65536 short) ∙ ap (text.report img) e)

  in_order : InOrder whole_square
  unfolding rectangle_question
  in_order = refl

  long-enough : Accepted img → LongEnough img whole_square buffer
  unfolding places_question
  long-enough acc =
      let f = facts img acc in
      le-leb (length (member_keys img whole_square)) (length buffer) (omega (arith, ap length (whole_members img), f.keys.count_is, f.few))

  listed-all : first_no (image_questions img) ≡ none → listing img whole_square buffer ≡ returns (length (member_keys img whole_square))
  listed-all d = let acc = accepted_of_yes img a d in listing-is img (facts img acc) whole_square in_order buffer (long-enough acc)

  image-no : (m : ℕ) → first_no (image_questions img) ≡ some m → (listing img whole_square buffer ≡ refused m) × (check img ≡ refused m)
  unfolding listing check settle
  image-no m d = (
    ap (λ (o : Option ℕ). outcome o (length (member_keys img whole_square))) (after_no (image_questions img) _ m d) ∙ (unfold outcome in refl),
    ap (λ (o : Option ℕ). outcome o (key_count img)) d ∙ (unfold outcome in refl),
  )

  -- a refused listing of the whole square is a refused image
  pub printed_refused : (n : ℕ) → listing img whole_square buffer ≡ refused n → refused_word ++ field_of n 10 ≡ printed img
  printed_refused n e = refusal_text img n ∙ printed-short (refused n) (go (first_no (image_questions img)) refl)
    where
      go : (o : Option ℕ) → first_no (image_questions img) ≡ o → check img ≡ refused n
      go none d = absurd (let q : ◌≡◌ {A = Outcome ℕ} (refused n) (returns (length (member_keys img whole_square))) = sym e ∙ listed-all d in let z : ◌≡◌ {A = ℕ} 0 1 = cc in omega arith)
      go (some m) d =
          let q : ◌≡◌ {A = Outcome ℕ} (refused m) (refused n) = sym (image-no m d).0 ∙ e in
          (image-no m d).1 ∙ q

  -- and one that returns has all keys
  pub printed_listed : (n : ℕ) → listing img whole_square buffer ≡ returns n
      → (n ≤ 4096) × (admissions_word ++ field_of n 10 ++ rows 0 (take n (buffer_after_listing img whole_square buffer)) ≡ printed img)
  printed_listed n e = go (first_no (image_questions img)) refl
    where
      go : (o : Option ℕ) → first_no (image_questions img) ≡ o → (n ≤ 4096) × (admissions_word ++ field_of n 10 ++ rows 0 (take n (buffer_after_listing img whole_square buffer)) ≡ printed img)
      go none d =
          let acc = accepted_of_yes img a d in
          let f = facts img acc in
          let q : ◌≡◌ {A = Outcome ℕ} (returns n) (returns (length (member_keys img whole_square))) = sym e ∙ listed-all d in
          let size : n ≡ length (member_keys img whole_square) = cc in
          let count : n ≡ key_count img = size ∙ ap length (whole_members img) ∙ f.keys.count_is in
          let keys : take n (buffer_after_listing img whole_square buffer) ≡ keys_of img =
          ap (λ (m : ℕ). take m (buffer_after_listing img whole_square buffer)) size ∙ listing_keys img f whole_square in_order buffer (long-enough acc) ∙ whole_members img in (
            omega (arith, f.few),
            ap (λ (l : List ℕ). admissions_word ++ field_of n 10 ++ rows 0 l) keys ∙ listing_text img n ∙ printed-short (returns n) (acc.returned ∙ ap {B = Outcome ℕ} returns (sym count)),
          )
      go (some m) d = absurd (let q : ◌≡◌ {A = Outcome ℕ} (refused m) (returns n) = sym (image-no m d).0 ∙ e in let z : ◌≡◌ {A = ℕ} 0 1 = cc in omega arith)

-- what listing promises of the whole square
pub told : (img buffer after : List ℕ) (rectangle : Rectangle) (o p : Outcome ℕ) → rectangle ≡ whole_square → o ≡ p
    → (o ≡ listing img rectangle buffer) × (after ≡ buffer_after_listing img rectangle buffer) → (listing img whole_square buffer ≡ p) × (after ≡ buffer_after_listing img whole_square buffer)
told img buffer after rectangle o p e f d = (
  ap (λ (r : Rectangle). listing img r buffer) (sym e) ∙ sym d.0 ∙ f,
  d.1 ∙ ap (λ (r : Rectangle). buffer_after_listing img r buffer) e,
)
