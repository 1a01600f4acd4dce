-- An accepted image with one bit turned over: it is refused, unless the bit is of a version 2 image's lift. The statement is specs/Flip.antt; it is
-- beyond the papers.
-- Assumes nothing.
use mathlib.Core.Path.{◌≡◌, refl, sym, ap, ap₂, ◌∙◌}
use mathlib.Core.Bool.{Bool, true, false, ◌||◌}
use mathlib.Core.Logic.{◌⊎◌, inl, inr, ⊎_elim}
use mathlib.Core.Option.{Option, some}
use mathlib.Core.List.{List, ◌++◌, append_assoc, flat_map}
use Prim.Native.Nat.{ℕ, ◌≤◌, ◌<◌}
use native.Mathlib.Omega.{arith}
use native.Mathlib.Decide.{ℕ_discrete}
use lib.Dec.{eqb}
use borrow.Author.Tests.{eq-eqb, eqb-true, eqb-false, ne_eqb, le-leb}
use lib.ListN.{length, get_or, take, drop, set, replicate, length-append, length-set, take-append-drop}
use lib.Seq.{drop_at, drop-drop, drop-set-lt, get_or-set_other, take_at, take-set-le}
use Rattle.format.specs.Seq.{All, every, numbers_from}
use Rattle.format.specs.Key.{unwoven}
use Rattle.format.specs.Page.{Byte, number_at, two_bytes}
use Rattle.format.specs.Image.{bands, key_count, keys_of, lift_of, list_of, version_of}
use Rattle.format.specs.Question.{first_no, header_questions, image_questions, is_lift, is_zero, lift_right, outcome, refused, returns, settle, version_known, zeros_right}
use Rattle.format.specs.Header.{header, header_end, header_start, version_for}
use Rattle.format.specs.Writer.{band_bytes, band_counts, bands_of, image_of, pages_of}
use Rattle.format.specs.Answer.{check}
use Rattle.format.specs.Exact.{Accepted, AcceptedWith, LiftNumber}
use Rattle.format.specs.Flip.{FlipRefused, OtherLift, flip_bit, flipped, is_lift_byte}
use Rattle.format.proofs.Lists.{and_left, and_right, and_both, and_no, or_first, or_second, or_rest}
use Rattle.format.proofs.Questions.{after_no, after_yes, asked_no, none_of_yes}
use Rattle.format.proofs.Jobs.{lift_range}
use Rattle.format.proofs.Bytes.{two_bytes_back, zero_all}
use Rattle.format.proofs.HeaderBytes.{length_counts, length_start, length_two, start_same, version_some}
use Rattle.format.proofs.Checked.{lift_is, lift-number, mark_right_lem, no_lift}
use Rattle.format.proofs.Accepted.{accepted_of_yes, facts, returned_same}
use Rattle.format.proofs.Forth.{bands_of-row, imaged}
use Rattle.format.proofs.Exact.{kind_of}
use Rattle.format.proofs.Flips.{flipped_bytes, number_other, part_before, single_flip}

-- ---- any other bit

-- only a byte of the lift changes it
same_lift : (img : List ℕ) (i y : ℕ) → is_lift_byte img i ≡ false → Accepted img → Accepted (set img i y) → lift_of (set img i y) ≡ lift_of img
unfolding is_lift_byte version_of
same_lift img i y e ia ib =
    elim (ℕ_discrete i 40) [
      | yes d ↦ version-1 (or_first (eqb i 40) (eqb i 41) (eq-eqb i 40 d)) (λ f. omega arith) (λ f. omega arith)
      | no d ↦ elim (ℕ_discrete i 41) [
        | yes d' ↦ version-1 (or_second (eqb i 40) (eqb i 41) (eq-eqb i 41 d')) (λ f. omega arith) (λ f. omega arith)
        | no d' ↦ lift_is (set img i y) (facts (set img i y) ib).questions.header
            ∙ number_other img i y 40 (λ f. omega arith) (λ f. omega arith)
            ∙ sym (lift_is img (facts img ia).questions.header)
      ]
    ]
  where
    version-1 : (eqb i 40 || eqb i 41) ≡ true → (3 ≡ i → ⊥) → (4 ≡ i → ⊥) → lift_of (set img i y) ≡ lift_of img
    version-1 t f g =
        ⊎_elim (λ (v : (version_of img ≡ 1) × (lift_of img ≡ 0)). no_lift (set img i y) (number_other img i y 3 f g ∙ v.0) ∙ sym v.1)
        (λ (v : (version_of img ≡ 2) × LiftNumber (lift_of img)). absurd (eqb-false (version_of img) 2 (and_no (eqb (version_of img) 2) (eqb i 40 || eqb i 41) e t) v.0)) (kind_of img (facts img ia))

-- the checker refuses it
elsewhere : (img : List ℕ) (i k : ℕ) → i < length img → k < 8 → Accepted img → is_lift_byte img i ≡ false → (n : ℕ) → check (flipped img i k) ≡ returns n → ⊥
unfolding flipped
elsewhere img i k h small ia other n e =
    let ib : Accepted (flipped img i k) = record { bytes = flipped_bytes img i k small ia.bytes; returned = returned_same (flipped img i k) n e } in
    single_flip img i k h small ia ib (same_lift img i _ other ia ib)

-- ---- a bit of the lift

-- an image before its lift, and after it
abbrev before : ℕ → List ℕ → List ℕ
before lift keys = header_start lift ++ (two_bytes (length keys) ++ flat_map two_bytes (flat_map band_counts (bands_of keys)))

abbrev after : List ℕ → List ℕ
after keys = replicate 22 0 ++ flat_map (λ band. band_bytes 0 0 (pages_of band)) (bands_of keys)

image_parts : (lift : ℕ) (keys : List ℕ) → image_of lift keys ≡ before lift keys ++ (two_bytes lift ++ after keys)
unfolding image_of header header_end
image_parts lift keys = simp append_assoc

length_before : (lift : ℕ) (keys : List ℕ) → length (before lift keys) ≡ 40
unfolding two_bytes
length_before lift keys =
    let counts = flat_map band_counts (bands_of keys) in
    let eight : length (bands_of keys) ≡ 8 = ap length (bands_of-row keys) ∙ (unfold bands numbers_from in refl) in
    length-append (header_start lift) (two_bytes (length keys) ++ flat_map two_bytes counts) ∙ omega (arith, length_start lift, length_two counts, length_counts (bands_of keys))

-- with other bytes in place of the lift's two it is the image of the same keys for another lift
module _ (lift n : ℕ) (keys l : List ℕ) (same : version_for lift ≡ version_for n) (first : take 40 l ≡ take 40 (image_of lift keys)) (two : take 2 (drop 40 l) ≡ two_bytes n) (rest : drop 42 l ≡ drop 42 (image_of lift keys)) where
  other-lift : l ≡ image_of n keys
  other-lift =
      let size = length_before lift keys in
      let e₄₀ : take 40 l ≡ before lift keys = first ∙ ap (take 40) (image_parts lift keys) ∙ take_at (before lift keys) (two_bytes lift ++ after keys) 40 size in
      let d₄₀ : drop 40 (image_of lift keys) ≡ two_bytes lift ++ after keys = ap (drop 40) (image_parts lift keys) ∙ drop_at (before lift keys) (two_bytes lift ++ after keys) 40 size in
      let e₄₂ : drop 42 l ≡ after keys = rest ∙ sym (drop-drop 2 40 (image_of lift keys)) ∙ ap (drop 2) d₄₀ ∙ (unfold two_bytes in refl) in
      let same_first : before lift keys ≡ before n keys = ap (◌++ (two_bytes (length keys) ++ flat_map two_bytes (flat_map band_counts (bands_of keys)))) (start_same lift n same) in
      let end : drop 40 l ≡ two_bytes n ++ after keys = sym (take-append-drop 2 (drop 40 l)) ∙ ap₂ ◌++◌ two (drop-drop 2 40 l ∙ e₄₂) in
      sym (take-append-drop 40 l) ∙ ap₂ ◌++◌ (e₄₀ ∙ same_first) end ∙ sym (image_parts n keys)

module _ (img : List ℕ) (i y : ℕ) (ia : Accepted img) (e : is_lift_byte img i ≡ true) (bytes : All Byte (set img i y)) where
  b : List ℕ
  b = set img i y

  place : (40 ≤ i) × (i ≤ 41)
  unfolding is_lift_byte
  place =
      elim (ℕ_discrete i 40) [
        | yes d ↦ (omega arith, omega arith)
        | no d ↦ let f = eqb-true i 41 (or_rest (eqb i 40) (eqb i 41) (and_right (eqb (version_of img) 2) (eqb i 40 || eqb i 41) e) (ne_eqb i 40 d)) in (omega arith, omega arith)
      ]

  version-a : version_of img ≡ 2
  unfolding is_lift_byte
  version-a = eqb-true (version_of img) 2 (and_left (eqb (version_of img) 2) (eqb i 40 || eqb i 41) e)

  version-b : version_of b ≡ 2
  unfolding b version_of
  version-b = number_other img i y 3 (λ f. omega (arith, place)) (λ f. omega (arith, place)) ∙ version-a

  lift-b : lift_of b ≡ number_at b 40
  lift-b = lift-number b (λ f. omega (arith, version-b))

  -- 1 to 5 get a yes as before, and 35 a no
  number-refused : is_lift (number_at b 40) ≡ false → check b ≡ refused 35
  unfolding check settle image_questions
  number-refused t = ap (λ (o : Option ℕ). outcome o (key_count b)) (after_no (header_questions b) _ 35 asked) ∙ (unfold outcome in refl)
    where
      byte : (j : ℕ) → j < 40 → get_or b j 0 ≡ get_or img j 0
      byte j h = unfold b in get_or-set_other img i j y 0 (λ f. omega (arith, place))

      keys : key_count b ≡ key_count img
      keys = unfold b key_count in number_other img i y 6 (λ f. omega (arith, place)) (λ f. omega (arith, place))

      zeros : take 22 (drop 42 b) ≡ take 22 (drop 42 img)
      zeros = unfold b in part_before img i y 42 22 (omega (arith, place))

      asked : first_no (header_questions b) ≡ some 35
      asked =
          unfold header_questions version_known zeros_right lift_right is_zero in
          let h = (facts img ia).questions.header in
          after_yes (take 5 (header_questions b)) (drop 5 (header_questions b))
          (none_of_yes (take 5 (header_questions b)) (
            le-leb 64 (length b) (unfold b in rw (length-set img i y) h.long),
            (
              mark_right_lem b (λ j l. byte j (omega arith) ∙ h.marked j l),
              (
                or_second (eqb (version_of b) 1) (eqb (version_of b) 2) (eq-eqb (version_of b) 2 version-b),
                (
                  le-leb (key_count b) 4096 (rw keys h.few),
                  (and_both (and_both (eq-eqb _ 0 (byte 5 (omega arith) ∙ h.five)) (or_first (eqb (version_of b) 2) (eqb (number_at b 40) 0) (eq-eqb (version_of b) 2 version-b))) (ap (every is_zero) zeros ∙ zero_all (take 22 (drop 42 img)) h.tail), tt),
                ),
              ),
            ),
          ))
          ∙ asked_no 35 _ _ (ap₂ ◌||◌ (ne_eqb (version_of b) 1 (λ f. omega (arith, version-b))) (ap is_lift lift-b ∙ t))

  -- or the image is the one of the same keys for the other lift
  number-accepted : is_lift (number_at b 40) ≡ true → AcceptedWith (list_of img) b
  unfolding list_of b
  number-accepted t =
      let f = facts img ia in
      let n = number_at (set img i y) 40 in
      let number : (1 ≤ n) × (n ≤ 999) = lift_range n t in
      let m = imaged n (keys_of img) number.1 f.keys.asc f.keys.fits (omega (arith, f.few, f.keys.count_is)) in
      let is : set img i y ≡ image_of n (keys_of img) =
      other-lift (lift_of img) n (keys_of img) (set img i y) (sym f.version ∙ version-a ∙ sym (version_some n number.0)) (take-set-le 40 img i y place.0 ∙ ap (take 40) (sym f.back))
      (sym (two_bytes_back (set img i y) 40 (omega (arith, length-set img i y, f.questions.header.long)) bytes)) (drop-set-lt 42 img i y (omega (arith, place)) ∙ ap (drop 42) (sym f.back)) in
      record {
        accepted = rw is (accepted_of_yes _ m.bytes m.is_accepted);
        its_list = ap unwoven (ap keys_of is ∙ m.list);
      }

-- a flipped bit of it gives 35, or an accepted image of the same list for another lift
of_lift : (img : List ℕ) (i k : ℕ) → k < 8 → Accepted img → is_lift_byte img i ≡ true → (check (flipped img i k) ≡ refused 35) ⊎ OtherLift img (flipped img i k)
unfolding flipped b
of_lift img i k small ia e = go (is_lift (number_at (set img i y) 40)) refl
  where
    y : ℕ
    y = flip_bit k (get_or img i 0)

    bytes : All Byte (set img i y)
    bytes = flipped_bytes img i k small ia.bytes

    inner : i < length img
    inner = omega (arith, place img i y ia e bytes, (facts img ia).questions.header.long)

    go : (t : Bool) → is_lift (number_at (set img i y) 40) ≡ t → (check (set img i y) ≡ refused 35) ⊎ OtherLift img (set img i y)
    go false t = inl (number-refused img i y ia e bytes t)
    go true t = let is = number-accepted img i y ia e bytes t in inr (record { image = is; other = single_flip img i k inner small ia is.accepted })

pub flip_refused : FlipRefused
flip_refused = record { elsewhere = elsewhere; of_lift = of_lift }
