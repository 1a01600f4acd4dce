-- The repair gives the only accepted image that agrees in the kept bytes, and 37 exactly when there is none. The statement is specs/Laws.antt.
-- Assumes nothing.
use mathlib.Core.Path.{◌≡◌, refl, sym, ap, ◌∙◌, subst}
use mathlib.Core.Bool.{Bool, true, false, not}
use mathlib.Core.List.{List, [], ◌∷◌, ◌++◌, map, flat_map}
use mathlib.Core.Logic.{◌⊎◌, inl, inr}
use Prim.Native.Nat.{ℕ, zero, suc, ◌+◌, ◌-◌, ◌*◌, ◌/◌, ◌≤◌, ◌<◌}
use native.Mathlib.Omega.{arith}
use native.Mathlib.Decide.{dec_lt, ℕ_discrete}
use lib.Dec.{eqb}
use borrow.Author.Tests.{eq-eqb, eqb-true, le-leb, lt-leb}
use lib.ListN.{length, get_or, get_or-eq_default}
use Rattle.format.specs.Seq.{All, cons_if, numbers_from, select, up_to}
use Rattle.format.specs.Page.{Byte, number_at}
use Rattle.format.specs.Question.{Outcome, filled, first_no, image_questions, outcome, refused, returns, settle}
use Rattle.format.specs.Exact.{Accepted}
use Rattle.format.proofs.Lists.{all_left, all_right, flat_map_all, map_all, numbers_all, up_to_all}
use Rattle.format.proofs.Questions.{none_of_yes, yes_of_none}
use Rattle.format.proofs.Members.{select-none}
use Rattle.format.proofs.Accepted.{accepted_of_yes, facts}
use Rattle.repair.specs.Kept.{Agree, kept}
use Rattle.repair.specs.Numbers.{restored}
use Rattle.repair.specs.Repair.{buffer_after_repair, differing, is_repairable, number_places, page_places, repair, repair_questions}
use Rattle.repair.specs.Laws.{Gives, KeptDiffers, Refuses, RepairLaws, Repairs}
use Rattle.repair.proofs.Agreeing.{agree_sym, agree_trans}
use Rattle.repair.proofs.Reading.{restored_agrees, restored_bytes}
use Rattle.repair.proofs.RootsHeld.{all_yes_lem, false-true, yes_all}
use Rattle.repair.proofs.Numbered.{SameNumbers, same_bytes}
use Rattle.repair.proofs.Given.{restored-is}

-- ---- 37, and images that agree

itself : (img : List ℕ) → Accepted img → Repairs img img
itself img i = record { accepted = i; agree = record { size = refl; same = λ p k. refl } }

pub repairable_of : {img new : List ℕ} → All Byte img → Repairs img new → is_repairable img ≡ true
unfolding is_repairable
repairable_of {img} {new} small r = rw (restored-is r.accepted r.agree small) (all_yes_lem (image_questions new) (yes_of_none (image_questions new) (facts new r.accepted).all_yes))

pub of_repairable : (img : List ℕ) → All Byte img → is_repairable img ≡ true → Repairs img (restored img)
unfolding is_repairable
of_repairable img small e =
    record {
      accepted = accepted_of_yes (restored img) (restored_bytes img small) (none_of_yes (image_questions (restored img)) (yes_all (image_questions (restored img)) e));
      agree = restored_agrees img;
    }

-- ---- the outcomes

pub short_is : (img buffer : List ℕ) → length buffer < length img → Refuses img buffer 17
unfolding repair buffer_after_repair repair_questions settle first_no outcome filled
short_is img buffer h = record { returned = rw (lt-leb (length img) (length buffer) h); left = rw (lt-leb (length img) (length buffer) h) }

pub refused_is : (img buffer : List ℕ) → length img ≤ length buffer → is_repairable img ≡ false → Refuses img buffer 37
unfolding repair buffer_after_repair repair_questions settle first_no outcome filled
refused_is img buffer h e = record { returned = rw (le-leb (length img) (length buffer) h, e); left = rw (le-leb (length img) (length buffer) h, e) }

pub restored-given : (img buffer : List ℕ) → length img ≤ length buffer → is_repairable img ≡ true → Gives img buffer (restored img) (differing img (restored img))
unfolding repair buffer_after_repair repair_questions settle first_no outcome filled
restored-given img buffer h e = record { returned = rw (le-leb (length img) (length buffer) h, e); left = rw (le-leb (length img) (length buffer) h, e) }

given_is : (img new buffer : List ℕ) → All Byte img → length img ≤ length buffer → Repairs img new → Gives img buffer new (differing img new)
given_is img new buffer small h r =
    subst (λ (n : List ℕ). Gives img buffer n (differing img n)) (restored-is r.accepted r.agree small) (restored-given img buffer h (repairable_of small r))

-- ---- some kept byte differs, or none does

abbrev SameTo : List ℕ → List ℕ → ℕ → Type 0
SameTo a b n = (i : ℕ) → i < n → kept i ≡ true → get_or a i 0 ≡ get_or b i 0

kept_to : (a b : List ℕ) (n : ℕ) → SameTo a b n ⊎ KeptDiffers a b
kept_to a b zero = inl (λ i h k. absurd (omega arith))
kept_to a b (suc n) = go (kept_to a b n)
  where
    here : (kept n ≡ true → get_or a n 0 ≡ get_or b n 0) → SameTo a b n → SameTo a b (suc n)
    here e f i h k = elim (ℕ_discrete n i) [ yes d ↦ subst (λ (i : ℕ). kept i ≡ true → get_or a i 0 ≡ get_or b i 0) d e k | no d ↦ f i (omega arith) k ]

    at : (t : Bool) → kept n ≡ t → SameTo a b n → SameTo a b (suc n) ⊎ KeptDiffers a b
    at true e f = elim (ℕ_discrete (get_or a n 0) (get_or b n 0)) [ yes d ↦ inl (here (λ k. d) f) | no d ↦ inr (record { place = n; is_kept = e; differs = d }) ]
    at false e f = inl (here (λ k. absurd (false-true (sym e ∙ k))) f)

    go : SameTo a b n ⊎ KeptDiffers a b → SameTo a b (suc n) ⊎ KeptDiffers a b
    go (inl f) = at (kept n) refl f
    go (inr d) = inr d

agrees_to : (a b : List ℕ) → length a ≡ length b → SameTo a b (length a) → Agree a b
agrees_to a b e f =
    record {
      size = e;
      same = λ i k. elim (dec_lt i (length a)) [ yes h ↦ f i h k | no h ↦ get_or-eq_default a 0 (omega arith) ∙ sym (get_or-eq_default b 0 (omega arith)) ];
    }

module _ (img buffer : List ℕ) (small : All Byte img) (room : length img ≤ length buffer) where
  none_is : ((new : List ℕ) → Accepted new → length new ≡ length img → KeptDiffers img new) → Refuses img buffer 37
  none_is f = go (is_repairable img) refl
    where
      go : (t : Bool) → is_repairable img ≡ t → Refuses img buffer 37
      go true e =
          let r = of_repairable img small e in
          let d = f (restored img) r.accepted (sym r.agree.size) in
          absurd (d.differs (r.agree.same d.place d.is_kept))
      go false e = refused_is img buffer room e

  none_of : Refuses img buffer 37 → (new : List ℕ) → Accepted new → length new ≡ length img → KeptDiffers img new
  none_of no37 new i e = go (kept_to img new (length img))
    where
      go : SameTo img new (length img) ⊎ KeptDiffers img new → KeptDiffers img new
      go (inl f) =
          let gives = given_is img new buffer small room (record { accepted = i; agree = agrees_to img new (sym e) f }) in
          let d : ◌≡◌ {A = Outcome ℕ} (refused 37) (returns (differing img new)) = sym no37.returned ∙ gives.returned in
          absurd (let z : ◌≡◌ {A = ℕ} 0 1 = cc in omega arith)
      go (inr d) = d

-- ---- numbers that do not differ

differing-none : (img : List ℕ) → differing img img ≡ 0
unfolding differing
differing-none img = ap length (select-none (λ at. not (eqb (number_at img at) (number_at img at))) (number_places img) (each (number_places img)))
  where
    each : (l : List ℕ) → All (λ at. not (eqb (number_at img at) (number_at img at)) ≡ false) l
    each [] = tt
    each (at ∷ l) = (rw (eq-eqb (number_at img at) (number_at img at) refl), each l)

none_selected : (f : ℕ → Bool) (l : List ℕ) → length (select f l) ≡ 0 → All (λ x. f x ≡ false) l
unfolding select cons_if
none_selected f [] e = tt
none_selected f (x ∷ l) e = go (f x) refl (none_selected f l) e
  where
    go : (t : Bool) → f x ≡ t → (length (select f l) ≡ 0 → All (λ x. f x ≡ false) l) → length (cons_if t x (select f l)) ≡ 0 → (f x ≡ false) × All (λ x. f x ≡ false) l
    go true d r k = absurd (omega arith)
    go false d r k = (d, r k)

module _ (a b : List ℕ) (none : differing a b ≡ 0) where
  abbrev Equal : ℕ → Type 0
  Equal at = not (eqb (number_at a at) (number_at b at)) ≡ false

  equal : (at : ℕ) → Equal at → number_at a at ≡ number_at b at
  equal at e = go (eqb (number_at a at) (number_at b at)) refl e
    where
      go : (t : Bool) → eqb (number_at a at) (number_at b at) ≡ t → not t ≡ false → number_at a at ≡ number_at b at
      go true d k = eqb-true _ _ d
      go false d k = absurd (false-true (sym k))

  places : All Equal (map (λ k. 6 + 4 * k) (up_to 9) ++ flat_map page_places (numbers_from 1 (length a / 64 - 1)))
  unfolding differing number_places
  places = none_selected (λ at. not (eqb (number_at a at) (number_at b at))) (map (λ k. 6 + 4 * k) (up_to 9) ++ flat_map page_places (numbers_from 1 (length a / 64 - 1))) none

  of_page : (p : ℕ) → 1 ≤ p → p < length a / 64 → Equal (64 * p) × Equal (64 * p + 2)
  of_page p lo hi =
      two (numbers_all (λ p. All Equal (page_places p)) 1 (length a / 64 - 1) (flat_map_all page_places Equal (numbers_from 1 (length a / 64 - 1)) (all_right Equal (map (λ k. 6 + 4 * k) (up_to 9)) _ places)) p lo (omega arith))
    where
      two : All Equal (page_places p) → Equal (64 * p) × Equal (64 * p + 2)
      two h = unfold page_places in (h.0, h.1.0)

  same_numbers : length a ≡ 64 * (length a / 64) → SameNumbers a b
  same_numbers whole =
      record {
        counts = λ k h. equal (6 + 4 * k) (up_to_all (λ k. Equal (6 + 4 * k)) 9 (map_all (λ k. 6 + 4 * k) Equal (up_to 9) (all_left Equal (map (λ k. 6 + 4 * k) (up_to 9)) _ places)) k h);
        t_same = λ p lo h. equal (64 * p) (of_page p lo (omega arith)).0;
        b_same = λ p lo h. equal (64 * p + 2) (of_page p lo (omega arith)).1;
      }

whole_is : (img bad : List ℕ) → All Byte bad → Accepted img → Agree bad img → differing bad img ≡ 0 → bad ≡ img
whole_is img bad small i g none =
    let whole : length bad ≡ 64 * (length bad / 64) = omega (arith, g.size, (facts img i).questions.header.size) in
    same_bytes small i.bytes g (same_numbers bad img none whole)

-- ---- the statement

pub repair_laws : RepairLaws
repair_laws =
    record {
      one = λ img a b r q. sym (restored-is r.accepted (itself a r.accepted).agree r.accepted.bytes) ∙ restored-is q.accepted (agree_trans (agree_sym r.agree) q.agree) r.accepted.bytes;
      short = short_is;
      none = λ img buffer small h. (none_is img buffer small h, none_of img buffer small h);
      some = given_is;
      sound = λ img buffer h i. subst (Gives img buffer img) (differing-none img) (given_is img img buffer i.bytes h (itself img i));
      damaged = λ img bad buffer small h i g. given_is bad img buffer small h (record { accepted = i; agree = g });
      whole = whole_is;
    }
