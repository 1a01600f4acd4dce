-- Demand 3: there is one image per list, version and lift. The statement is specs/Exact.antt.
-- Assumes nothing.
use mathlib.Core.Path.{◌≡◌, refl, sym, ap, ap₂, ◌∙◌, subst}
use mathlib.Core.Logic.{inl, inr}
use mathlib.Core.Bool.{true}
use mathlib.Core.Option.{Option, none}
use mathlib.Core.List.{List, [], ◌∷◌, ◌++◌, Memᴰ}
use Prim.Native.Nat.{ℕ, zero, suc, ◌≤◌}
use native.Mathlib.Omega.{arith}
use lib.ListN.{length, take, drop}
use lib.Seq.{take-append_seam}
use Rattle.format.specs.declared.Rectangle.{Rectangle}
use Rattle.format.specs.Seq.{All, select}
use Rattle.format.specs.Key.{Admissible, holder_of, key_of, slot_of, unwoven, woven}
use Rattle.format.specs.Image.{keys_of, lift_of, list_of, version_of}
use Rattle.format.specs.Header.{version_for}
use Rattle.format.specs.Question.{Outcome, Question, Yes, filled, first_no, image_questions, outcome, returns, settle}
use Rattle.format.specs.Writer.{buffer_after_write, buffer_after_write_keys, image_of, lift_question, list_questions, room_question, write, write_keys}
use Rattle.format.specs.Answer.{buffer_after_listing, contains, inside, listing, member_keys, places_question, rectangle_question}
use Rattle.format.specs.Exact.{Accepted, AcceptedWith, AgreeOn, Exact, FilledIn, InOrder, KnownKind, LiftNumber, ListedAlike, LongEnough, OneOfEach, WriterAccepts, whole_square}
use Rattle.format.proofs.Lists.{all_append, and_both}
use Rattle.format.proofs.Questions.{yes_of_none, none_of_yes, after_yes}
use Rattle.format.proofs.Jobs.{lift_range, lift-yes, of_writable}
use Rattle.format.proofs.Trie.{Fits}
use Rattle.format.proofs.Keys.{holder_of_key_of, slot_of_key_of, key_of_back, holder_of_small, slot_of_small}
use Rattle.format.proofs.Members.{all_mem, Within, asc_same, of_ascending, fits_mem, select_asc, mem-select, select-mem, select_all, woven_back, unwoven_back, woven_fits, unwoven_small, mem-unwoven, unwoven-mem}
use Rattle.format.proofs.Cells.{within_range}
use Rattle.format.proofs.HeaderBytes.{version_some}
use Rattle.format.proofs.Checked.{no_lift}
use Rattle.format.proofs.Forth.{imaged}
use Rattle.format.proofs.Accepted.{Facts, accepted_of_yes, facts}

returns_same : (m n : ℕ) → ◌≡◌ {A = Outcome ℕ} (returns m) (returns n) → m ≡ n
returns_same m n e = cc

-- ---- listings

module _ (img : List ℕ) (f : Facts img) (rectangle : Rectangle) (order : InOrder rectangle) (buffer : List ℕ) (room : LongEnough img rectangle buffer) where
  pub listing-is : listing img rectangle buffer ≡ returns (length (member_keys img rectangle))
  unfolding listing settle
  listing-is =
      ap (λ (o : Option ℕ). outcome o (length (member_keys img rectangle)))
      (after_yes (image_questions img) _ f.all_yes ∙ none_of_yes (rectangle_question rectangle ∷ places_question img rectangle buffer ∷ []) (order, (room, tt)))
      ∙ (unfold outcome in refl)

  pub listing_keys : take (length (member_keys img rectangle)) (buffer_after_listing img rectangle buffer) ≡ member_keys img rectangle
  unfolding buffer_after_listing
  listing_keys =
      ap (λ (o : Outcome ℕ). take (length (member_keys img rectangle)) (filled o (member_keys img rectangle) buffer)) listing-is
      ∙ (unfold filled in take-append_seam (member_keys img rectangle) (drop (length (member_keys img rectangle)) buffer))

module _ (a b : List ℕ) (fa : Facts a) (fb : Facts b) (rectangle : Rectangle) (order : InOrder rectangle) (buffer buffer' : List ℕ) (room : LongEnough a rectangle buffer) (room' : LongEnough b rectangle buffer') where
  alike-members : ListedAlike a b rectangle buffer buffer' → member_keys a rectangle ≡ member_keys b rectangle
  alike-members l =
      let n : length (member_keys a rectangle) ≡ l.count = returns_same _ _ (sym (listing-is a fa rectangle order buffer room) ∙ l.returned) in
      let n' : length (member_keys b rectangle) ≡ l.count = returns_same _ _ (sym (listing-is b fb rectangle order buffer' room') ∙ l.returned') in
      sym (listing_keys a fa rectangle order buffer room)
      ∙ ap (λ (k : ℕ). take k (buffer_after_listing a rectangle buffer)) n
      ∙ l.same
      ∙ ap (λ (k : ℕ). take k (buffer_after_listing b rectangle buffer')) (sym n')
      ∙ listing_keys b fb rectangle order buffer' room'

  members_alike : member_keys a rectangle ≡ member_keys b rectangle → ListedAlike a b rectangle buffer buffer'
  members_alike e =
      let n : length (member_keys b rectangle) ≡ length (member_keys a rectangle) = ap length (sym e) in
      record {
        count = length (member_keys a rectangle);
        returned = listing-is a fa rectangle order buffer room;
        returned' = listing-is b fb rectangle order buffer' room' ∙ ap {B = Outcome ℕ} returns n;
        same =
            listing_keys a fa rectangle order buffer room
            ∙ e
            ∙ sym (listing_keys b fb rectangle order buffer' room')
            ∙ ap (λ (k : ℕ). take k (buffer_after_listing b rectangle buffer')) n;
      }

-- ---- members and admissions

module _ (a b : List ℕ) (fa : Fits 32 (keys_of a)) (fb : Fits 32 (keys_of b)) (rectangle : Rectangle) where
  -- an admission inside, carried from one list to the other
  carried : member_keys a rectangle ≡ member_keys b rectangle → (holder slot : ℕ) → contains rectangle holder slot ≡ true
      → Memᴰ {A = ℕ × ℕ} (holder, slot) (list_of a) → Memᴰ {A = ℕ × ℕ} (holder, slot) (list_of b)
  unfolding member_keys list_of inside
  carried e holder slot t m =
      let small : Admissible (holder, slot) = all_mem Admissible (holder, slot) (list_of a) (unwoven_small (keys_of a)) m in
      let eh : holder_of (key_of holder slot) ≡ holder = holder_of_key_of holder slot small.0 in
      let es : slot_of (key_of holder slot) ≡ slot = slot_of_key_of holder slot small.1 in
      let yes-inside : inside rectangle (key_of holder slot) ≡ true = (λ i. contains rectangle (eh i) (es i)) ∙ t in
      let in-a : Memᴰ (key_of holder slot) (select (inside rectangle) (keys_of a)) = mem-select (inside rectangle) (key_of holder slot) (keys_of a) (unwoven-mem (holder, slot) (keys_of a) fa m) yes-inside in
      let in_b : Memᴰ (key_of holder slot) (keys_of b) = (select-mem (inside rectangle) (key_of holder slot) (keys_of b) (subst (λ (l : List ℕ). Memᴰ (key_of holder slot) l) e in-a)).0 in
      mathlib.Core.List.Memᴰ.cast (λ i. (sym eh i, sym es i)) (mem-unwoven (key_of holder slot) (keys_of b) in_b)

  members-within : ((holder slot : ℕ) → contains rectangle holder slot ≡ true → Memᴰ {A = ℕ × ℕ} (holder, slot) (list_of a) → Memᴰ {A = ℕ × ℕ} (holder, slot) (list_of b))
      → Within (member_keys a rectangle) (member_keys b rectangle)
  unfolding member_keys list_of inside
  members-within f k m =
      let (in-a, yes-inside) = select-mem (inside rectangle) k (keys_of a) m in
      let in_b = unwoven-mem (holder_of k, slot_of k) (keys_of b) fb (f (holder_of k) (slot_of k) yes-inside (mem-unwoven k (keys_of a) in-a)) in
      mem-select (inside rectangle) k (keys_of b) (mathlib.Core.List.Memᴰ.cast (sym (key_of_back k (fits_mem 32 k (keys_of a) fa in-a))) in_b) yes-inside

members_same : (a b : List ℕ) → Facts a → Facts b → (rectangle : Rectangle) → ((holder slot : ℕ) → contains rectangle holder slot ≡ true → AgreeOn a b (holder, slot))
    → member_keys a rectangle ≡ member_keys b rectangle
unfolding member_keys
members_same a b fa fb rectangle f =
    asc_same (member_keys a rectangle) (member_keys b rectangle) (select_asc (inside rectangle) (keys_of a) fa.keys.asc) (select_asc (inside rectangle) (keys_of b) fb.keys.asc)
    (members-within a b fa.keys.fits fb.keys.fits rectangle (λ holder slot t. (f holder slot t).0))
    (members-within b a fb.keys.fits fa.keys.fits rectangle (λ holder slot t. (f holder slot t).1))

-- every key is inside the whole square
pub whole_members : (img : List ℕ) → member_keys img whole_square ≡ keys_of img
unfolding member_keys inside contains
whole_members img =
    select_all (inside whole_square) (keys_of img)
    (λ k. and_both (within_range whole_square.holders (holder_of k) (omega arith) (omega (arith, holder_of_small k)))
    (within_range whole_square.slots (slot_of k) (omega arith) (omega (arith, slot_of_small k))))

-- ---- the writer

-- writing where the question of the lift, 14, 15 and 17 get a yes
module _ (asked : Question) (lift : ℕ) (keys buffer : List ℕ) (first : Yes asked) (e : first_no (list_questions keys) ≡ none) (room : Yes (room_question lift keys buffer)) where
  pub write-is : write_keys asked lift keys buffer ≡ returns (length (image_of lift keys))
  unfolding write_keys settle
  write-is =
      ap (λ (o : Option ℕ). outcome o (length (image_of lift keys))) (none_of_yes (asked ∷ list_questions keys ++ room_question lift keys buffer ∷ []) (first, all_append Yes (list_questions keys) _ (yes_of_none (list_questions keys) e) (room, tt)))
      ∙ (unfold outcome in refl)

  written-bytes : take (length (image_of lift keys)) (buffer_after_write_keys asked lift keys buffer) ≡ image_of lift keys
  unfolding buffer_after_write_keys
  written-bytes =
      ap (λ (o : Outcome ℕ). take (length (image_of lift keys)) (filled o (image_of lift keys) buffer)) write-is
      ∙ (unfold filled in take-append_seam (image_of lift keys) (drop (length (image_of lift keys)) buffer))

-- the image of a list that the writer accepts, for each lift from 0 to 999
record ImageFor (lift : ℕ) (list : List (ℕ × ℕ)) (img : List ℕ) : Type 0 where
  image : AcceptedWith list img
  version_is : version_of img ≡ version_for lift
  lift_is : lift_of img ≡ lift

image_for : (lift : ℕ) (list : List (ℕ × ℕ)) → lift ≤ 999 → All Admissible list → WriterAccepts list → ImageFor lift list (image_of lift (woven list))
unfolding list_of
image_for lift list small ad w =
    let q = of_writable (woven list) w in
    let i = imaged lift (woven list) small (of_ascending (woven list) q.1) (woven_fits list) q.0 in
    record {
      image = record { accepted = accepted_of_yes _ i.bytes i.is_accepted; its_list = ap unwoven i.list ∙ unwoven_back list ad };
      version_is = i.version;
      lift_is = i.its_lift;
    }

filled_in : (lift : ℕ) → LiftNumber lift → (list : List (ℕ × ℕ)) → All Admissible list → WriterAccepts list → (buffer : List ℕ) → Yes (room_question lift (woven list) buffer) → FilledIn lift list buffer
unfolding write buffer_after_write
filled_in lift number list ad w buffer room =
    let l = lift_range lift (unfold lift_question in number) in
    let i = image_for lift list l.1 ad w in
    let e = written-bytes (lift_question lift) lift (woven list) buffer number w room in
    record {
      size = length (image_of lift (woven list));
      returned = write-is (lift_question lift) lift (woven list) buffer number w room;
      image = rw e i.image;
      its_version = ap version_of e ∙ i.version_is ∙ version_some lift l.0;
      its_lift = ap lift_of e ∙ i.lift_is;
    }

-- an accepted image by its lift and its list
image_of_lem : (img : List ℕ) → Accepted img → image_of (lift_of img) (woven (list_of img)) ≡ img
unfolding list_of
image_of_lem img i = let f = facts img i in ap (image_of (lift_of img)) (woven_back (keys_of img) f.keys.fits) ∙ f.back

-- and so any two with the same list and lift
only : (lift : ℕ) (list : List (ℕ × ℕ)) (img : List ℕ) → AcceptedWith list img → lift_of img ≡ lift → img ≡ image_of lift (woven list)
only lift list img i e = sym (image_of_lem img i.accepted) ∙ ap₂ (λ (n : ℕ) (l : List (ℕ × ℕ)). image_of n (woven l)) e i.its_list

one_of_each : (list : List (ℕ × ℕ)) → All Admissible list → WriterAccepts list → OneOfEach list
one_of_each list ad w =
    record {
      for_lift = λ lift number.
          let i = image_for lift list (lift_range lift (unfold lift_question in number)).1 ad w in
          record { the = image_of lift (woven list); exists = (i.image, i.lift_is); unique = λ img k. only lift list img k.0 k.1 };
      in_version_1 =
          let i = image_for 0 list (omega arith) ad w in
          record { the = image_of 0 (woven list); exists = (i.image, i.version_is ∙ (unfold version_for in refl)); unique = λ img k. only 0 list img k.0 (no_lift img k.1) };
    }

-- what an accepted image's version and lift can be
pub kind_of : (img : List ℕ) → Facts img → KnownKind img
kind_of img f = go (lift_of img) refl f.version f.lift
  where
    go : (n : ℕ) → lift_of img ≡ n → version_of img ≡ version_for n → n ≤ 999 → KnownKind img
    go zero e v h = inl (v ∙ (unfold version_for in refl), e)
    go (suc n) e v h = inr (v ∙ (unfold version_for in refl), rw e (unfold lift_question in lift-yes (suc n) (omega arith) h))

-- ---- demand 3

pub exact : Exact
unfolding list_of
exact =
    record {
      inside = λ a b ia ib rectangle order buffer buffer' room room'.
          let fa = facts a ia in
          let fb = facts b ib in (
            λ l holder slot t. let e = alike-members a b fa fb rectangle order buffer buffer' room room' l in
                (carried a b fa.keys.fits fb.keys.fits rectangle e holder slot t, carried b a fb.keys.fits fa.keys.fits rectangle (sym e) holder slot t),
            λ f. members_alike a b fa fb rectangle order buffer buffer' room room' (members_same a b fa fb rectangle f),
          );
      whole = λ a b ia ib buffer buffer' room room'.
          let fa = facts a ia in
          let fb = facts b ib in
          let order : InOrder whole_square = unfold rectangle_question in refl in (
            λ s. sym fa.back ∙ ap₂ image_of s.2 (sym (whole_members a) ∙ alike-members a b fa fb whole_square order buffer buffer' room room' s.0 ∙ whole_members b) ∙ fb.back,
            λ e. (members_alike a b fa fb whole_square order buffer buffer' room room' (ap (λ (i : List ℕ). member_keys i whole_square) e), ap version_of e, ap lift_of e),
          );
      written = filled_in;
      given = image_of_lem;
      one = one_of_each;
      nothing_else = λ img i. let f = facts img i in (unwoven_small (keys_of img), rw (woven_back (keys_of img) f.keys.fits) f.writable, kind_of img f);
    }
