-- What holds of an accepted image: from "the checker returns its key count" to facts that proofs use.
-- Assumes nothing.
use mathlib.Core.Path.{◌≡◌, refl, sym, ap, ◌∙◌}
use mathlib.Core.Option.{Option, none, some}
use mathlib.Core.List.{List}
use Prim.Native.Nat.{ℕ, ◌≤◌}
use Rattle.format.specs.Seq.{All}
use Rattle.format.specs.Page.{Byte}
use Rattle.format.specs.Image.{key_count, keys_of, lift_of, version_of}
use Rattle.format.specs.Header.{version_for}
use Rattle.format.specs.Question.{first_no, image_questions, outcome, returns, settle}
use Rattle.format.specs.Writer.{image_of, list_questions}
use Rattle.format.specs.Answer.{check}
use Rattle.format.specs.Exact.{Accepted}
use Rattle.format.proofs.Jobs.{list_writable}
use Rattle.format.proofs.Shapes.{Keys}
use Rattle.format.proofs.Members.{ascending_of}
use Rattle.format.proofs.Checked.{AllYes, Checked, checked, lift_is}
use Rattle.format.proofs.Back.{listed, image_back}

-- the checker returns the key count exactly when 1 to 13, with 35, all get a yes
pub yes_of_returned : (img : List ℕ) → check img ≡ returns (key_count img) → AllYes img
unfolding check settle outcome
yes_of_returned img e = go (first_no (image_questions img)) refl e
  where
    go : (o : Option ℕ) → first_no (image_questions img) ≡ o → outcome o (key_count img) ≡ returns (key_count img) → first_no (image_questions img) ≡ none
    go none d k = d
    go (some n) d k = cc

-- it returns nothing else
pub returned_same : (img : List ℕ) (n : ℕ) → check img ≡ returns n → check img ≡ returns (key_count img)
unfolding check settle outcome
returned_same img n e = go (first_no (image_questions img)) refl e
  where
    go : (o : Option ℕ) → first_no (image_questions img) ≡ o → outcome o (key_count img) ≡ returns n → outcome (first_no (image_questions img)) (key_count img) ≡ returns (key_count img)
    go none d k = rw d
    go (some m) d k = cc

pub accepted_of_yes : (img : List ℕ) → All Byte img → AllYes img → Accepted img
unfolding check settle outcome
accepted_of_yes img a e = record { bytes = a; returned = rw e }

pub record Facts (img : List ℕ) : Type 0 where
  pub all_yes : AllYes img
  pub questions : Checked img
  -- as many keys as the key count, strictly ascending, each below 2 ^ 32
  pub keys : Keys 32 (key_count img) (keys_of img)
  pub few : key_count img ≤ 4096
  -- the image is the one that the writer gives for its lift and its keys
  pub back : image_of (lift_of img) (keys_of img) ≡ img
  -- the lift is 0 in version 1, and 1 to 999 in version 2
  pub version : version_of img ≡ version_for (lift_of img)
  pub lift : lift_of img ≤ 999
  -- 14 and 15 get a yes from its keys
  pub writable : first_no (list_questions (keys_of img)) ≡ none

pub facts : (img : List ℕ) → Accepted img → Facts img
facts img i =
    let a = yes_of_returned img i.returned in
    let c = checked img a in
    let k = (listed img i.bytes c).keys in
    record {
      all_yes = a;
      questions = c;
      keys = k;
      few = c.header.few;
      back = image_back img i.bytes c;
      version = c.header.version ∙ ap version_for (sym (lift_is img c.header));
      lift = rw (lift_is img c.header) c.header.lift;
      writable = list_writable (keys_of img) (rw k.count_is c.header.few) (ascending_of (keys_of img) k.asc);
    }
