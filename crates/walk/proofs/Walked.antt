-- The loop over the out-links of a subtrie: what is listed before an ending, and after.
-- Assumes nothing.
use mathlib.Core.Bool.{Bool}
use mathlib.Core.List.{List, ◌++◌, append-nil}
use mathlib.Core.Path.{◌≡◌, refl, sym, ap, subst, ◌∙◌}
use Prim.Native.Nat.{ℕ, zero, suc, ◌+◌, ◌-◌, ◌*◌, ◌^◌, ◌≤◌, ◌<◌}
use native.Mathlib.Nat.{add-zero, mul-le-mul_right}
use native.Mathlib.Omega.{arith}
use lib.ListN.{length, length-append}
use Rattle.subtries.specs.declared.spot.Spot.{Spot}
use Rattle.subtries.specs.Spot.{Spots}
use Rattle.subtries.specs.Subtrie.{set_bit}
use Rattle.walk.specs.Walk.{FirstOn, Opening, Walking, Listed, members_between}
use Rattle.walk.proofs.Places.{listed_none, listed_both}
use Rattle.walk.proofs.Between.{members_split, members_none}
use Rattle.walk.proofs.Endings.{Left, left_start, left_off, left_none, left_next, left_small, first_from, first_bit_on}
use Rattle.walk.proofs.Steps.{keys_asc, listed_same, none_here, set_fits, walking_off, walking_on, opening_on, link_small, key_fits}

-- the members below the endings from v on, before u
abbrev pub under : List ℕ → (ℕ → Bool) → ℕ → ℕ → ℕ → ℕ → List ℕ
under img f b x v u = members_between img f ((16 * x + v) * 2 ^ (36 - 4 * (b + 1))) ((16 * x + u) * 2 ^ (36 - 4 * (b + 1)))

-- the members below the endings before v are listed
pub record Walked (img : List ℕ) (f : ℕ → Bool) (b set x done : ℕ) (keys₀ : List ℕ) (n next v : ℕ) (keys : List ℕ) (spots : List Spot) : Type 0 where
  pub walking : Walking img b set next x v
  pub to : v ≤ 16
  pub right : Spots img spots
  pub room : done + length (under img f b x 0 16) ≤ 4096
  pub listed : Listed (under img f b x 0 v) keys₀ done keys n
  pub same : length keys ≡ length keys₀

module _ {img : List ℕ} {f : ℕ → Bool} {b set x done : ℕ} {keys₀ : List ℕ} {n next v : ℕ} {keys : List ℕ} {spots : List Spot}
    (s : Walked img f b set x done keys₀ n next v keys spots) where
  split : (u : ℕ) → v ≤ u → under img f b x 0 u ≡ under img f b x 0 v ++ under img f b x v u
  split u h =
      members_split img f ((16 * x + 0) * 2 ^ (36 - 4 * (b + 1))) ((16 * x + v) * 2 ^ (36 - 4 * (b + 1))) ((16 * x + u) * 2 ^ (36 - 4 * (b + 1))) (keys_asc s.walking.ready)
      (mul-le-mul_right (2 ^ (36 - 4 * (b + 1))) (let q : 16 * x + 0 ≤ 16 * x + v = omega arith in q)) (mul-le-mul_right (2 ^ (36 - 4 * (b + 1))) (let q : 16 * x + v ≤ 16 * x + u = omega arith in q))

  -- one ending more
  more-members : under img f b x 0 (v + 1) ≡ under img f b x 0 v ++ members_between img f ((16 * x + v) * 2 ^ (36 - 4 * (b + 1))) ((16 * x + v + 1) * 2 ^ (36 - 4 * (b + 1)))
  more-members =
      let e : 16 * x + (v + 1) ≡ 16 * x + v + 1 = omega arith in
      split (v + 1) (omega arith) ∙ ap (λ (k : ℕ). under img f b x 0 v ++ members_between img f ((16 * x + v) * 2 ^ (36 - 4 * (b + 1))) (k * 2 ^ (36 - 4 * (b + 1)))) e

  pub walked_off : (h : v < 16) → set_bit set 16 v ≡ 0 → Walked img f b set x done keys₀ n next (v + 1) keys spots
  walked_off h off =
      record {
        walking = walking_off s.walking h off;
        to = omega arith;
        right = s.right;
        room = s.room;
        listed = listed_same (more-members ∙ ap (under img f b x 0 v ++◌) (none_here s.walking h off f) ∙ append-nil _) s.listed;
        same = s.same;
      }

  -- the next out-link's number is small
  pub walked_link : next < 65536
  walked_link = link_small s.walking

  module _ (h : v < 16) (on : set_bit set 16 v ≡ 1) where
    pub walked_opening : Opening img (b + 1) next (16 * x + v)
    walked_opening = opening_on s.walking h on

    pub walked_room : n + length (members_between img f ((16 * x + v) * 2 ^ (36 - 4 * (b + 1))) ((16 * x + v + 1) * 2 ^ (36 - 4 * (b + 1)))) ≤ 4096
    walked_room =
        let l = members_between img f ((16 * x + v) * 2 ^ (36 - 4 * (b + 1))) ((16 * x + v + 1) * 2 ^ (36 - 4 * (b + 1))) in
        let r : under img f b x 0 16 ≡ under img f b x 0 (v + 1) ++ under img f b x (v + 1) 16 = rest in
        omega (arith, s.room, s.listed.count, ap length r, length-append (under img f b x 0 (v + 1)) (under img f b x (v + 1) 16), ap length more-members, length-append (under img f b x 0 v) l)
      where
        rest : under img f b x 0 16 ≡ under img f b x 0 (v + 1) ++ under img f b x (v + 1) 16
        rest =
            members_split img f ((16 * x + 0) * 2 ^ (36 - 4 * (b + 1))) ((16 * x + (v + 1)) * 2 ^ (36 - 4 * (b + 1))) ((16 * x + 16) * 2 ^ (36 - 4 * (b + 1))) (keys_asc s.walking.ready)
            (mul-le-mul_right (2 ^ (36 - 4 * (b + 1))) (let q : 16 * x + 0 ≤ 16 * x + (v + 1) = omega arith in q)) (mul-le-mul_right (2 ^ (36 - 4 * (b + 1))) (let q : 16 * x + (v + 1) ≤ 16 * x + 16 = omega arith in q))

    pub walked_on : {m : ℕ} {keys' : List ℕ} {spots' : List Spot} → Listed (members_between img f ((16 * x + v) * 2 ^ (36 - 4 * (b + 1))) ((16 * x + v + 1) * 2 ^ (36 - 4 * (b + 1)))) keys n keys' m → Spots img spots' → length keys' ≡ length keys
        → Walked img f b set x done keys₀ m (next + 1) (v + 1) keys' spots'
    walked_on l p e =
        record {
          walking = walking_on s.walking h on;
          to = omega arith;
          right = p;
          room = s.room;
          listed = listed_both more-members s.listed l;
          same = e ∙ s.same;
        }

  pub walked_key : v < 16 → 16 * x + v < 4294967296
  walked_key h = key_fits s.walking h

-- endings without an out-link
walked_offs : {img : List ℕ} {f : ℕ → Bool} {b set x done : ℕ} {keys₀ : List ℕ} {n next v : ℕ} {keys : List ℕ} {spots : List Spot} (s : Walked img f b set x done keys₀ n next v keys spots) (k : ℕ) → v + k ≤ 16
    → ((u : ℕ) → v ≤ u → u < v + k → set_bit set 16 u ≡ 0) → Walked img f b set x done keys₀ n next (v + k) keys spots
walked_offs {img} {f} {b} {set} {x} {done} {keys₀} {n} {next} {v} {keys} {spots} s zero h off = subst (λ (u : ℕ). Walked img f b set x done keys₀ n next u keys spots) (sym (add-zero v)) s
walked_offs {img} {f} {b} {set} {x} {done} {keys₀} {n} {next} {v} {keys} {spots} s (suc k) h off =
    let e : v + k + 1 ≡ v + suc k = omega arith in
    subst (λ (u : ℕ). Walked img f b set x done keys₀ n next u keys spots) e
    (walked_off (walked_offs s k (omega arith) (λ u from to. off u from (omega arith))) (omega arith) (off (v + k) (omega arith) (omega arith)))

-- the loop: what is left of the set are the endings not yet listed
pub record Walk (img : List ℕ) (f : ℕ → Bool) (b set x done : ℕ) (keys₀ : List ℕ) (n next rest : ℕ) (keys : List ℕ) (spots : List Spot) : Type 0 where
  pub v : ℕ
  pub walked : Walked img f b set x done keys₀ n next v keys spots
  pub left : Left set v rest

pub walk_start : {img : List ℕ} {f : ℕ → Bool} {b set x done link : ℕ} {keys : List ℕ} {spots : List Spot} → Walking img b set link x 0 → Spots img spots
    → done + length (under img f b x 0 16) ≤ 4096 → Walk img f b set x done keys done link set keys spots
walk_start {img} {f} {b} {set} {x} s p r =
    record {
      v = 0;
      walked = record {
        walking = s;
        to = omega arith;
        right = p;
        room = r;
        listed = listed_none (members_none img f ((16 * x + 0) * 2 ^ (36 - 4 * (b + 1))) ((16 * x + 0) * 2 ^ (36 - 4 * (b + 1))) (λ k m lo hi. omega arith));
        same = refl;
      };
      left = left_start set (set_fits s);
    }

module _ {img : List ℕ} {f : ℕ → Bool} {b set x done : ℕ} {keys₀ : List ℕ} {n next rest : ℕ} {keys : List ℕ} {spots : List Spot} (s : Walk img f b set x done keys₀ n next rest keys spots) where
  pub walk-rest : rest < 65536
  walk-rest = left_small s.left

  -- up to the next on bit
  pub walk_first : {e : ℕ} → FirstOn rest e → Walked img f b set x done keys₀ n next e keys spots
  walk_first {e} o =
      let from : s.v ≤ e = first_from s.left o in
      let k : s.v + (e - s.v) ≡ e = omega arith in
      subst (λ (u : ℕ). Walked img f b set x done keys₀ n next u keys spots) k
      (walked_offs s.walked (e - s.v) (omega (arith, o.small)) (λ u lo hi. left_off s.left e (omega (arith, o.small)) o.first u lo (omega arith)))

  pub walk_on : {e : ℕ} → FirstOn rest e → set_bit set 16 e ≡ 1
  walk_on o = first_bit_on s.left o

  pub walk_next : {e : ℕ} {m next' : ℕ} {keys' : List ℕ} {spots' : List Spot} → FirstOn rest e → Walked img f b set x done keys₀ m next' (e + 1) keys' spots' → Walk img f b set x done keys₀ m next' (rest - 2 ^ (15 - e)) keys' spots'
  walk_next {e} o w = record { v = e + 1; walked = w; left = left_next s.left o }

  -- none is left
  pub walk_end : rest ≡ 0 → Listed (under img f b x 0 16) keys₀ done keys n
  walk_end z =
      let k : s.v + (16 - s.v) ≡ 16 = omega (arith, s.walked.to) in
      let w = walked_offs s.walked (16 - s.v) (omega (arith, s.walked.to)) (λ u lo hi. left_none s.left z u lo (omega arith)) in
      subst (λ (u : ℕ). Listed (under img f b x 0 u) keys₀ done keys n) k w.listed
