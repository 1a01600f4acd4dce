-- The whole, with which the walks start: all keys that pass a test are below it, and so are all members of a rectangle.
-- Assumes nothing.
use mathlib.Core.Bool.{Bool}
use mathlib.Core.List.{List, [], ◌∷◌}
use mathlib.Core.Path.{◌≡◌, refl, sym, ap, subst, ◌∙◌}
use Prim.Native.Nat.{ℕ, ◌+◌, ◌*◌, ◌^◌, ◌≤◌, ◌<◌}
use native.Mathlib.Omega.{arith}
use lib.ListN.{length}
use Rattle.format.specs.declared.Rectangle.{Rectangle}
use Rattle.format.specs.Seq.{All, cons_if, select}
use Rattle.format.specs.Image.{key_count, keys_of, prefixes_at}
use Rattle.format.specs.Answer.{inside, member_keys}
use Rattle.format.specs.Exact.{Accepted}
use Rattle.format.specs.Cell.{Covers}
use Rattle.format.proofs.Accepted.{facts}
use Rattle.format.proofs.Back.{no_keys_listed}
use Rattle.format.proofs.Members.{select_short}
use Rattle.format.proofs.Trie.{Fits}
use Rattle.walk.specs.declared.block.Place.{Place}
use Rattle.walk.specs.declared.block.Place.TheVariants.{Inside}
use Rattle.walk.specs.Block.{PlaceRight}
use Rattle.pages.specs.Page.{Ready}
use Rattle.walk.specs.Walk.{Opening, any_key, members_between}
use Rattle.walk.proofs.Between.{all_between}
use Rattle.walk.proofs.Steps.{members_every}

select-every : (l : List ℕ) → select any_key l ≡ l
unfolding select cons_if
select-every [] = refl
select-every (k ∷ l) = ap (k ∷◌) (select-every l)

within : (l : List ℕ) → Fits 32 l → All (λ k. (0 ≤ k) × (k < 4294967296)) l
within [] f = tt
within (k ∷ l) f = ((omega arith, f.0), within l f.1)

pub image_long : {img : List ℕ} → Accepted img → 64 ≤ length img
image_long {img} a = (facts img a).questions.header.long

pub ready_of : {img : List ℕ} → Accepted img → (key_count img ≡ 0 → ⊥) → Ready img
ready_of a f = record { accepted = a; some = omega (arith, f) }

-- all keys that pass a test are below the whole: every key has 32 bits
pub passing_whole : {img : List ℕ} → Accepted img → (f : ℕ → Bool) → members_between img f (0 * 2 ^ 32) ((0 + 1) * 2 ^ 32) ≡ select f (keys_of img)
unfolding members_between
passing_whole {img} a f = ap (select f) (all_between (keys_of img) 0 4294967296 (within (keys_of img) (facts img a).keys.fits))

module _ {img : List ℕ} (a : Accepted img) (rectangle : Rectangle) where
  pub members_at_most : length (member_keys img rectangle) ≤ key_count img
  unfolding member_keys
  members_at_most = omega (arith, select_short (inside rectangle) (keys_of img), (facts img a).keys.count_is)

  pub members_few : length (member_keys img rectangle) ≤ 4096
  members_few = omega (arith, members_at_most, (facts img a).few)

  -- an image without keys
  pub no_members : key_count img ≡ 0 → member_keys img rectangle ≡ []
  unfolding member_keys select
  no_members z = ap (select (inside rectangle)) (no_keys_listed img a.bytes (facts img a).questions z)

  -- so are all members
  pub members_whole : members_between img (inside rectangle) (0 * 2 ^ 32) ((0 + 1) * 2 ^ 32) ≡ member_keys img rectangle
  unfolding member_keys
  members_whole = passing_whole a (inside rectangle)

  -- the whole square
  module _ (p : Covers rectangle 32 0) where
    pub members_all : member_keys img rectangle ≡ members_between img any_key (0 * 2 ^ 32) ((0 + 1) * 2 ^ 32)
    members_all = sym members_whole ∙ members_every img rectangle 32 0 p

    pub count_all : length (member_keys img rectangle) ≡ key_count img
    count_all = ap length (members_all ∙ passing_whole a any_key ∙ select-every (keys_of img)) ∙ (facts img a).keys.count_is

-- the block of all keys
pub whole_covers : (rectangle : Rectangle) {x : ℕ} {p : Place} → PlaceRight rectangle 32 x p → p ≡ Inside → x ≡ 0 → Covers rectangle 32 0
whole_covers rectangle r e z = subst (Covers rectangle 32) z (rw e at r)

-- the way into band 1
pub opening_start : {img : List ℕ} → Ready img → Opening img 1 0 0
unfolding prefixes_at Rattle.format.specs.Trie.descend
opening_start r = record { ready = r; from = omega arith; to = omega arith; short = omega arith; at = record { within = omega arith; prefix = refl } }
