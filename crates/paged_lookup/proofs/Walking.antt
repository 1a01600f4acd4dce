-- The walk from band to band as the code goes, and the answer at its end.
-- Assumes nothing.
use mathlib.Core.Path.{◌≡◌, refl, sym, ap, ap₂, ◌∙◌}
use mathlib.Core.Bool.{Bool, true, false}
use mathlib.Core.Option.{some}
use Rattle.std.specs.Prelude.{Ok}
use mathlib.Core.List.{List, [], ◌∷◌, ◌++◌, append-nil}
use Prim.Native.Nat.{ℕ, suc, ◌+◌, ◌-◌, ◌*◌, ◌≤◌, ◌<◌}
use native.Mathlib.Numerals.{add-one}
use native.Mathlib.Omega.{arith}
use native.Mathlib.Decide.{dec_lt}
use lib.Dec.{leb, ltb}
use borrow.Author.Tests.{ne_eqb, eq-eqb, lt-ltb, le-ltb}
use lib.ListN.{length, replicate, set, length-append}
use Rattle.format.specs.declared.OutLink.{OutLink}
use Rattle.format.specs.Seq.{All, numbers_from, total}
use Rattle.format.specs.Key.{key_of}
use Rattle.format.specs.Page.{Byte, number_at}
use Rattle.format.specs.Image.{key_count, page_count, page_number, page_t, page_with, pages_before, root_count}
use Rattle.format.specs.Question.{Outcome, and_then, first_no, header_questions, is_zero, out_links_due, outcome, refused, returns, settle}
use Rattle.format.specs.Answer.{LookupAnswer, absent, listed}
use Rattle.format.proofs.Questions.{yes_of_none}
use Rattle.format.proofs.Jobs.{settle-yes}
use Rattle.format.proofs.Checked.{Counts, Header, cond_no, cond_yes, header_of, no_keys, some_keys}
use Rattle.format.proofs.Bytes.{number_small}
use Rattle.format.proofs.Back.{pages_before-suc}
use Rattle.format.proofs.LastBelow.{last_le}
use Rattle.checker.specs.Paged.{BandAt}
use Rattle.paged_lookup.specs.declared.page.Way.TheVariants.{Out, Off}
use Rattle.paged_lookup.specs.declared.band.Step.{Step}
use Rattle.paged_lookup.specs.Paged.{Way, out, off, all_smaller, answer, number, paged_answer, paged_lookup, through, walk}
use Rattle.paged_lookup.specs.Way.{HeaderYes, StepRight, way_at, way_of}
use Rattle.paged_lookup.proofs.Ways.{Below}
use Rattle.paged_lookup.proofs.Bands.{due_roots, left, not_all, number_is, still_on}

-- ---- one band of the walk

module _ (img : List ℕ) (key n : ℕ) (pages : List ℕ) (way : Way) where
  walk_refused : {k : ℕ} → through img key (8 - n) way ≡ refused k → walk img key (suc n) pages way ≡ refused k
  unfolding walk and_then
  walk_refused e = rw (e, walk, and_then)

  walk_ends : {next : Way} → through img key (8 - n) way ≡ returns next → all_smaller img (8 - n) next ≡ true → walk img key (suc n) pages way ≡ returns (absent (key_count img))
  unfolding walk and_then
  walk_ends e t = rw (e, walk, and_then, t)

  walk_next : {next : Way} → through img key (8 - n) way ≡ returns next → all_smaller img (8 - n) next ≡ false
      → walk img key (suc n) pages way ≡ walk img key n (pages ++ page_number img (8 - n) (page_with img (8 - n) (number way)) ∷ []) next
  unfolding walk and_then
  walk_next e t = rw (e, walk, and_then, t)

due_small : (img : List ℕ) (b : ℕ) → All Byte img → out_links_due img b < 65536
unfolding out_links_due root_count key_count
due_small img b a =
    elim (dec_lt b 8) [
      | yes h ↦ rw (cond_yes (ltb b 8) (number_at img (6 + 4 * (b + 1))) (number_at img 6) (lt-ltb b 8 h)) (number_small img (6 + 4 * (b + 1)) a)
      | no h ↦ rw (cond_no (ltb b 8) (number_at img (6 + 4 * (b + 1))) (number_at img 6) (le-ltb b 8 (omega arith))) (number_small img 6 a)
    ]

-- ---- the walk

-- band b is left by an out-link, or by a figure, below those due
pub record LeftBy (img : List ℕ) (b : ℕ) (step : Step) (link : OutLink) (on : Bool) : Type 0 where
  pub way_is : way_of step.way ≡ way_at on link.0
  pub below : link.0 < out_links_due img b

fill_next : (xs : List ℕ) (m v : ℕ) → set (xs ++ replicate (suc m) 0) (length xs) v ≡ (xs ++ v ∷ []) ++ replicate m 0
fill_next [] m v = refl
fill_next (x ∷ xs) m v = λ i. x ∷ fill_next xs m v i

-- some bands are passed: the out-link out of them, or the figure, the first page of the next band, and the pages so far
pub record Walking (img : List ℕ) (key : ℕ) (pages : List ℕ) (link : ℕ) (on : Bool) (first passed : ℕ) : Type 0 where
  pub small : All Byte img
  pub header : Header img
  pub to : passed ≤ 8
  pub first_is : first ≡ 1 + pages_before img (passed + 1)
  pub few : first ≤ 1 + 65536 * passed
  pub link_in : passed < 8 → link < root_count img (passed + 1)
  pub link_small : link < 65536
  pub seen : List ℕ
  pub seen_are : length seen ≡ passed
  pub pages_are : pages ≡ seen ++ replicate (8 - passed) 0
  pub same : paged_answer img key ≡ walk img key (8 - passed) seen (way_at on link)

pub header-yes_of : (img : List ℕ) → HeaderYes img → Header img
header-yes_of img y = header_of img (yes_of_none (header_questions img) y)

pub no_keys_answer : (img : List ℕ) (key : ℕ) → key_count img ≡ 0 → returns (absent 0) ≡ paged_answer img key
unfolding paged_answer is_zero
no_keys_answer img key z = rw (eq-eqb (key_count img) 0 z, paged_answer)

pub walking_start : {img : List ℕ} (key : ℕ) → All Byte img → HeaderYes img → (key_count img ≡ 0 → ⊥) → Walking img key (0 ∷ 0 ∷ 0 ∷ 0 ∷ 0 ∷ 0 ∷ 0 ∷ 0 ∷ []) 0 true 1 0
unfolding paged_answer is_zero pages_before numbers_from total
walking_start {img} key a y nz =
    let h = header-yes_of img y in
    record {
      small = a;
      header = h;
      to = omega arith;
      first_is = refl;
      few = omega arith;
      link_in = λ k. go h.counts;
      link_small = omega arith;
      seen = [];
      seen_are = refl;
      pages_are = refl;
      same = rw (ne_eqb (key_count img) 0 nz, paged_answer);
    }
  where
    go : Counts img → 0 < root_count img 1
    go (no_keys z f) = absurd (nz z)
    go (some_keys k p r f) = omega arith

module _ {img : List ℕ} {key : ℕ} {pages : List ℕ} {link : ℕ} {on : Bool} {first passed : ℕ} (s : Walking img key pages link on first passed) where
  pub walking_band : passed < 8 → BandAt img (passed + 1) first
  walking_band h = record { sized = record { long = s.header.long; size = s.header.size }; lo = omega arith; hi = omega arith; first_is = s.first_is }

  module _ (h : passed < 8) {root : ℕ} (er : root ≡ link) where
    band_is : passed + 1 ≡ 8 - (7 - passed)
    band_is = omega arith

    through_here : (o : Outcome Way) → o ≡ through img key (passed + 1) (way_at on root) → through img key (8 - (7 - passed)) (way_at on link) ≡ o
    through_here o e = ap₂ (λ (b r : ℕ). through img key b (way_at on r)) (sym band_is) (sym er) ∙ sym e

    answer-is : paged_answer img key ≡ walk img key (suc (7 - passed)) s.seen (way_at on link)
    answer-is = let rest : 8 - passed ≡ suc (7 - passed) = omega arith in s.same ∙ ap (λ (n : ℕ). walk img key n s.seen (way_at on link)) rest

    pub walking_refused : (n : ℕ) → refused n ≡ through img key (passed + 1) (way_at on root) → refused n ≡ paged_answer img key
    walking_refused n e = sym (answer-is ∙ walk_refused img key (7 - passed) s.seen (way_at on link) (through_here _ e))

    module _ {step : Step} (q : StepRight img key (passed + 1) on root (Ok step)) where
      through_is : through img key (8 - (7 - passed)) (way_at on link) ≡ returns (way_of step.way)
      through_is = through_here _ q.outcome

      -- a figure that is equal to those due
      pub walking_ends : {figure : OutLink} → step.way ≡ Off figure → figure.0 ≡ out_links_due img (passed + 1) → {keys : ℕ} → keys ≡ key_count img → returns (absent keys) ≡ paged_answer img key
      unfolding all_smaller
      walking_ends {figure} e f k =
          sym (answer-is
          ∙ walk_ends img key (7 - passed) s.seen (way_at on link) (through_is ∙ ap (λ w. returns (way_of w)) e) (eq-eqb figure.0 (out_links_due img (8 - (7 - passed))) (f ∙ ap (out_links_due img) band_is))
          ∙ ap {B = Outcome LookupAnswer} (λ (n : ℕ). returns (absent n)) (sym k))

      through-left : through img key (passed + 1) (way_at on link) ≡ returns (way_of step.way)
      through-left = ap (λ (r : ℕ). through img key (passed + 1) (way_at on r)) (sym er) ∙ sym q.outcome

      left_below : (way : Way) → way_of step.way ≡ way → Below (out_links_due img (passed + 1)) way
      unfolding through
      left_below way e = (left img (passed + 1) way _ (through-left ∙ ap returns e)).1

      pub left_on : {next : OutLink} → step.way ≡ Out next → LeftBy img (passed + 1) step next on
      left_on {next} e =
          let o : way_of step.way ≡ out next.0 = ap way_of e in
          record { way_is = o ∙ ap (λ t. way_at t next.0) (sym (still_on img key (passed + 1) on link next.0 (through-left ∙ ap returns o))); below = left_below (out next.0) o }

      pub left_off : {figure : OutLink} → step.way ≡ Off figure → (figure.0 ≡ out_links_due img (passed + 1) → ⊥) → LeftBy img (passed + 1) step figure false
      left_off {figure} e f = let o : way_of step.way ≡ off figure.0 = ap way_of e in record { way_is = o; below = omega (arith, left_below (off figure.0) o, f) }

      module _ {onward : Bool} {next : OutLink} (w : LeftBy img (passed + 1) step next onward) where
        page_here : step.page ≡ page_number img (8 - (7 - passed)) (page_with img (8 - (7 - passed)) (number (way_at on link)))
        page_here = q.page_is ∙ ap₂ (λ (b r : ℕ). page_number img b (page_with img b r)) band_is (er ∙ sym (number_is on link))

        pub walking_page : step.page < 4294967296
        unfolding page_number page_with page_count
        walking_page =
            omega (
              arith,
              q.page_is,
              s.first_is,
              s.few,
              last_le (page_count img (passed + 1)) (λ i. leb (page_t img (passed + 1) i) root),
              number_small img (4 + 4 * (passed + 1)) s.small,
            )

        pub walking_next : {count : ℕ} → count ≡ page_count img (passed + 1) → count < 65536
            → Walking img key (set pages passed step.page) next.0 onward (first + count) (passed + 1)
        walking_next {count} ec lt =
            let rest : 8 - passed ≡ suc (8 - (passed + 1)) = omega arith in
            let seven : 7 - passed ≡ 8 - (passed + 1) = omega arith in
            let more : all_smaller img (8 - (7 - passed)) (way_at onward next.0) ≡ false = rw (← band_is) (not_all img (passed + 1) onward next.0 w.below) in
            record {
              small = s.small;
              header = s.header;
              to = omega arith;
              first_is = omega (arith, s.first_is, pages_before-suc img (passed + 1) (omega arith), ap (pages_before img) (add-one (passed + 1)));
              few = omega (arith, s.few);
              link_in = λ k. omega (arith, w.below, due_roots img (passed + 1) k);
              link_small = omega (arith, w.below, due_small img (passed + 1) s.small);
              seen = s.seen ++ step.page ∷ [];
              seen_are = length-append s.seen (step.page ∷ []) ∙ omega (arith, s.seen_are);
              pages_are = ap₂ (λ (l : List ℕ) (i : ℕ). set l i step.page) (s.pages_are ∙ ap (λ (n : ℕ). s.seen ++ replicate n 0) rest) (sym s.seen_are) ∙ fill_next s.seen (8 - (passed + 1)) step.page;
              same = answer-is ∙ walk_next img key (7 - passed) s.seen (way_at on link) (through_is ∙ ap returns w.way_is) more ∙ ap₂ (λ (n p : ℕ). walk img key n (s.seen ++ p ∷ []) (way_at onward next.0)) seven (sym page_here);
            }

  end_is : 8 ≤ passed → paged_answer img key ≡ returns (answer s.seen (way_at on link))
  unfolding walk
  end_is h = let none : 8 - passed ≡ 0 = omega arith in s.same ∙ ap (λ (n : ℕ). walk img key n s.seen (way_at on link)) none

  pub walking_listed : 8 ≤ passed → on ≡ true → returns (listed link pages) ≡ paged_answer img key
  unfolding answer
  walking_listed h t =
      let e : passed ≡ 8 = omega (arith, s.to) in
      let none : 8 - passed ≡ 0 = omega arith in
      let are : s.seen ≡ pages = sym (s.pages_are ∙ ap (λ (n : ℕ). s.seen ++ replicate n 0) none ∙ append-nil s.seen) in
      sym (end_is h ∙ ap₂ (λ (l : List ℕ) (t : Bool). returns (answer l (way_at t link))) are t)

  pub walking_absent : 8 ≤ passed → on ≡ false → returns (absent link) ≡ paged_answer img key
  unfolding answer
  walking_absent h t = sym (end_is h ∙ ap (λ (t : Bool). returns (answer s.seen (way_at t link))) t)

-- ---- the job

-- one of 1 to 7 gets a no
pub lookup_refused : (img : List ℕ) (holder slot : ℕ) (n : ℕ) → some n ≡ first_no (header_questions img) → refused n ≡ paged_lookup img holder slot
unfolding paged_lookup and_then settle outcome
lookup_refused img holder slot n e = ap (λ o. and_then (outcome o (key_of holder slot)) (paged_answer img)) e

-- they get a yes
pub lookup-done : (img : List ℕ) (holder slot : ℕ) → HeaderYes img → {key : ℕ} → key ≡ key_of holder slot → (o : Outcome LookupAnswer) → o ≡ paged_answer img key → o ≡ paged_lookup img holder slot
unfolding paged_lookup and_then
lookup-done img holder slot yes_7 ek o a =
    a ∙ ap (paged_answer img) ek ∙ sym (ap (λ o. and_then o (paged_answer img)) (settle-yes (header_questions img) (key_of holder slot) yes_7))
