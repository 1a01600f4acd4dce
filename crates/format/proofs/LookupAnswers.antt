-- What lookup's answer tells of the image and of the key: for jobs that start from it.
-- Assumes nothing.
use mathlib.Core.Path.{◌≡◌, refl}
use mathlib.Core.Bool.{Bool, true, false, cond}
use mathlib.Core.Option.{none}
use mathlib.Core.List.{List, map}
use Prim.Native.Nat.{ℕ, ◌≤◌, ◌<◌}
use native.Mathlib.Omega.{arith}
use lib.ListN.{length}
use Rattle.format.specs.Seq.{All, is_in, rank_in}
use Rattle.format.specs.Key.{key_of}
use Rattle.format.specs.Page.{Byte}
use Rattle.format.specs.Image.{bands, key_count, keys_of}
use Rattle.format.specs.Question.{first_no, image_questions, returns}
use Rattle.format.specs.Answer.{LookupAnswer, absent, listed, lookup, lookup_answer, page_of}
use Rattle.format.specs.Exact.{Accepted}
use Rattle.format.proofs.Jobs.{yes_of_returns}
use Rattle.format.proofs.Checked.{checked}
use Rattle.format.proofs.Accepted.{accepted_of_yes}
use Rattle.format.proofs.Histories.{listed_rank}

module _ (img : List ℕ) (holder slot : ℕ) where
  abbrev pub key : ℕ
  key = key_of holder slot

  abbrev pub rank_of : ℕ
  rank_of = rank_in (keys_of img) key

  -- the image is accepted
  module _ (answer : LookupAnswer) (e : lookup img holder slot ≡ returns answer) where
    pub image_yes : first_no (image_questions img) ≡ none
    unfolding lookup
    image_yes = (yes_of_returns (image_questions img) (lookup_answer img key) answer e).0

    answer-is : cond (is_in key (keys_of img)) (listed rank_of (map (page_of img key) bands)) (absent rank_of) ≡ answer
    unfolding lookup lookup_answer
    answer-is = (yes_of_returns (image_questions img) (lookup_answer img key) answer e).1

    pub header_long : 64 ≤ length img
    header_long = (checked img image_yes).header.long

    pub image_accepted : All Byte img → Accepted img
    image_accepted a = accepted_of_yes img a image_yes

  -- absent: not in the list, and so many keys are smaller
  pub of_absent : (smaller : ℕ) → lookup img holder slot ≡ returns (absent smaller) → (is_in key (keys_of img) ≡ false) × (rank_of ≡ smaller)
  of_absent smaller e = go (is_in key (keys_of img)) (answer-is (absent smaller) e)
    where
      go : (t : Bool) → cond t (listed rank_of (map (page_of img key) bands)) (absent rank_of) ≡ absent smaller → (t ≡ false) × (rank_of ≡ smaller)
      go true d = absurd (let z : ◌≡◌ {A = ℕ} 0 1 = cc in omega arith)
      go false d = (refl, cc)

  -- listed: in the list, at its rank
  module _ (rank : ℕ) (pages : List ℕ) (e : lookup img holder slot ≡ returns (listed rank pages)) where
    pub of_listed : (is_in key (keys_of img) ≡ true) × (rank_of ≡ rank)
    of_listed = go (is_in key (keys_of img)) (answer-is (listed rank pages) e)
      where
        go : (t : Bool) → cond t (listed rank_of (map (page_of img key) bands)) (absent rank_of) ≡ listed rank pages → (t ≡ true) × (rank_of ≡ rank)
        go true d = (refl, cc)
        go false d = absurd (let z : ◌≡◌ {A = ℕ} 0 1 = cc in omega arith)

    pub rank_small : All Byte img → rank < key_count img
    rank_small a = omega (arith, listed_rank img a (image_yes (listed rank pages) e) key of_listed.0, of_listed.1)
