-- The numbers that the jobs return are small, and what each answer is as C gets it.
-- Assumes nothing.
use mathlib.Core.Path.{◌≡◌, refl, sym, ap}
use mathlib.Core.Bool.{not}
use mathlib.Core.List.{List, [], ◌∷◌, ◌++◌, map, flat_map}
use Prim.Native.Nat.{ℕ, ◌+◌, ◌-◌, ◌*◌, ◌/◌, ◌≤◌, ◌<◌}
use native.Mathlib.Omega.{arith}
use lib.Dec.{eqb}
use lib.ListN.{length, get_or, length-append, length-map}
use Rattle.format.specs.declared.Rectangle.{Rectangle}
use Rattle.format.specs.Seq.{All, numbers_from, up_to}
use Rattle.format.specs.Page.{Byte, number_at}
use Rattle.format.specs.Image.{key_count, keys_of, lift_of}
use Rattle.format.specs.Question.{Outcome, Question, Yes, image_questions, returns, settle}
use Rattle.format.specs.Answer.{check, count, inside, lift, listing, member_keys}
use Rattle.format.proofs.Lists.{all_left, length-numbers, length_up_to}
use Rattle.format.proofs.Members.{select_short}
use Rattle.format.proofs.Questions.{none_of_yes, yes_of_none}
use Rattle.format.proofs.Jobs.{yes_of_returns}
use Rattle.format.proofs.Checked.{checked, lift_is}
use Rattle.format.proofs.Back.{listed}
use Rattle.std.specs.Prelude.{IfOk, Result, Ok, Err}
use Rattle.std.proofs.lemmas.Result.{IfOk-weaker}
use Rattle.format.specs.Refusal.{outcome_of}
use Rattle.format.specs.declared.refusal.Refusal.{Refusal}
use Rattle.repair.specs.Numbers.{restored}
use Rattle.repair.specs.Repair.{differing, number_places, page_places, repair, repair_questions}

-- a job that asks 1 to 13 first and returns the number of some of the keys
members_few : (img : List ℕ) → All Byte img → (qs : List Question) (rectangle : Rectangle) (n : ℕ) → settle (image_questions img ++ qs) (length (member_keys img rectangle)) ≡ returns n → n ≤ 4096
unfolding member_keys
members_few img a qs rectangle n e =
    let (none-no, same) = yes_of_returns (image_questions img ++ qs) (length (member_keys img rectangle)) n e in
    let c = checked img (none_of_yes (image_questions img) (all_left Yes (image_questions img) qs (yes_of_none (image_questions img ++ qs) none-no))) in
    omega (arith, select_short (inside rectangle) (keys_of img), (listed img a c).keys.count_is, c.header.few)

pub count_few : (img : List ℕ) → All Byte img → (rectangle : Rectangle) (n : ℕ) → count img rectangle ≡ returns n → n ≤ 4096
unfolding count
count_few img a rectangle n e = members_few img a _ rectangle n e

pub list_few : (img : List ℕ) → All Byte img → (rectangle : Rectangle) (buffer : List ℕ) (n : ℕ) → listing img rectangle buffer ≡ returns n → n ≤ 4096
unfolding listing
list_few img a rectangle buffer n e = members_few img a _ rectangle n e

-- the checker's key count and its lift
check_few : (img : List ℕ) (n : ℕ) → check img ≡ returns n → n ≤ 4096
unfolding check
check_few img n e = let (none-no, same) = yes_of_returns (image_questions img) (key_count img) n e in omega (arith, (checked img none-no).header.few)

lift_few : (img : List ℕ) (n : ℕ) → lift img ≡ returns n → n ≤ 4096
unfolding lift
lift_few img n e =
    let (none-no, same) = yes_of_returns (image_questions img) (lift_of img) n e in
    let h = (checked img none-no).header in
    omega (arith, lift_is img h, h.lift)

-- an answer whose number, where it has one, fits
abbrev pub Fits : Result ℕ Refusal → Type 0
Fits answered = IfOk answered (λ n. n < 9223372036854775808)

-- an answer whose number, where it has one, is at most a bound
abbrev pub Within : ℕ → Result ℕ Refusal → Type 0
Within m answered = IfOk answered (λ n. n ≤ m)

pub within_of : (o : Outcome ℕ) (m : ℕ) → ((n : ℕ) → o ≡ returns n → n ≤ m) → (r : Result ℕ Refusal) → outcome_of r ≡ o → Within m r
within_of o m f (Ok n) e = f n (sym e)
within_of o m f (Err refusal) e = tt

-- a bound below 2 ^ 63 makes it fit
pub fits : (m : ℕ) → m < 9223372036854775808 → (r : Result ℕ Refusal) → Within m r → Fits r
fits m h r w = IfOk-weaker r (λ n. n ≤ m) (λ n. n < 9223372036854775808) (λ n few. omega arith) w

pub fits_of : (o : Outcome ℕ) (m : ℕ) → m < 9223372036854775808 → ((n : ℕ) → o ≡ returns n → n ≤ m) → (r : Result ℕ Refusal) → outcome_of r ≡ o → Fits r
fits_of o m h f r e = fits m h r (within_of o m f r e)

pub check_within : (img : List ℕ) (r : Result ℕ Refusal) → outcome_of r ≡ check img → Within 4096 r
check_within img r e = within_of (check img) 4096 (check_few img) r e

pub check_fits : (img : List ℕ) (r : Result ℕ Refusal) → outcome_of r ≡ check img → Fits r
check_fits img r e = fits 4096 (omega arith) r (check_within img r e)

pub lift_within : (img : List ℕ) (r : Result ℕ Refusal) → outcome_of r ≡ lift img → Within 4096 r
lift_within img r e = within_of (lift img) 4096 (lift_few img) r e

pub lift_fits : (img : List ℕ) (r : Result ℕ Refusal) → outcome_of r ≡ lift img → Fits r
lift_fits img r e = fits 4096 (omega arith) r (lift_within img r e)

pub count_fits : (img : List ℕ) → All Byte img → (rectangle : Rectangle) (r : Result ℕ Refusal) → outcome_of r ≡ count img rectangle → Fits r
count_fits img a rectangle r e = fits_of (count img rectangle) 4096 (omega arith) (count_few img a rectangle) r e

pub list_fits : (img : List ℕ) → All Byte img → (rectangle : Rectangle) (buffer : List ℕ) (r : Result ℕ Refusal) → outcome_of r ≡ listing img rectangle buffer → Fits r
list_fits img a rectangle buffer r e = fits_of (listing img rectangle buffer) 4096 (omega arith) (list_few img a rectangle buffer) r e

-- a repair alters at most nine numbers of the header, and two of each page
page_places_lem : (pages : List ℕ) → length (flat_map page_places pages) ≡ 2 * length pages
unfolding flat_map page_places
page_places_lem [] = refl
page_places_lem (p ∷ ps) = omega (arith, page_places_lem ps)

pub altered_few : (img buffer : List ℕ) (n : ℕ) → repair img buffer ≡ returns n → n ≤ 9 + 2 * (length img / 64)
unfolding repair differing number_places
altered_few img buffer n e =
    let pages = numbers_from 1 (length img / 64 - 1) in
    omega (
      arith,
      (yes_of_returns (repair_questions img buffer) (differing img (restored img)) n e).1,
      select_short (λ at. not (eqb (number_at img at) (number_at (restored img) at))) (number_places img),
      length-append (map (λ k. 6 + 4 * k) (up_to 9)) (flat_map page_places pages),
      length-map (up_to 9) (λ k. 6 + 4 * k),
      length_up_to 9,
      page_places_lem pages,
      length-numbers 1 (length img / 64 - 1),
    )

pub repair_fits : (img buffer : List ℕ) → length img < 9223372036854775808 → (r : Result ℕ Refusal) → outcome_of r ≡ repair img buffer → Fits r
repair_fits img buffer h r e = fits_of (repair img buffer) (9 + 2 * (length img / 64)) (omega arith) (altered_few img buffer) r e

-- nine places
pub nine : (rank : ℕ) (pages : List ℕ) → length pages ≡ 8
    → rank ∷ get_or pages 0 0 ∷ get_or pages 1 0 ∷ get_or pages 2 0 ∷ get_or pages 3 0 ∷ get_or pages 4 0 ∷ get_or pages 5 0 ∷ get_or pages 6 0 ∷ get_or pages 7 0 ∷ [] ≡ rank ∷ pages
nine rank pages e = ap (rank ∷◌) (eight pages e)
  where
    eight : (l : List ℕ) → length l ≡ 8 → get_or l 0 0 ∷ get_or l 1 0 ∷ get_or l 2 0 ∷ get_or l 3 0 ∷ get_or l 4 0 ∷ get_or l 5 0 ∷ get_or l 6 0 ∷ get_or l 7 0 ∷ [] ≡ l
    eight [] d = absurd (omega arith)
    eight (a ∷ []) d = absurd (omega arith)
    eight (a ∷ b ∷ []) d = absurd (omega arith)
    eight (a ∷ b ∷ c ∷ []) d = absurd (omega arith)
    eight (a ∷ b ∷ c ∷ p ∷ []) d = absurd (omega arith)
    eight (a ∷ b ∷ c ∷ p ∷ q ∷ []) d = absurd (omega arith)
    eight (a ∷ b ∷ c ∷ p ∷ q ∷ r ∷ []) d = absurd (omega arith)
    eight (a ∷ b ∷ c ∷ p ∷ q ∷ r ∷ s ∷ []) d = absurd (omega arith)
    eight (a ∷ b ∷ c ∷ p ∷ q ∷ r ∷ s ∷ t ∷ []) d = refl
    eight (a ∷ b ∷ c ∷ p ∷ q ∷ r ∷ s ∷ t ∷ u ∷ l) d = absurd (omega arith)
