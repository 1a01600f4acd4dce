-- A subtrie has an out-link, and where it has one alone, all that is below its root is below that.
-- Assumes nothing.
use mathlib.Core.Bool.{Bool, true}
use mathlib.Core.List.Memᴰ
use mathlib.Core.List.{List, [], ◌∷◌, ◌++◌, append-nil}
use mathlib.Core.Path.{◌≡◌, refl, sym, ap, ap₂, subst, ◌∙◌}
use Prim.Native.Nat.{ℕ, zero, suc, ◌+◌, ◌-◌, ◌*◌, ◌/◌, ◌%◌, ◌^◌, ◌≤◌, ◌<◌}
use native.Mathlib.Nat.{add-zero, div-eq_of_lt, mul-le-mul_right}
use native.Mathlib.Decide.{ℕ_discrete}
use native.Mathlib.Omega.{arith}
use lib.ListN.{length, get_or, set}
use Rattle.format.specs.Seq.{is_in}
use Rattle.format.specs.Trie.{child_at}
use Rattle.format.specs.Image.{prefixes_at}
use Rattle.format.proofs.Descent.{is_in-mem, mem_at, node_at_lem}
use Rattle.format.proofs.Levels.{level_at, level_count, level_valid, next_prefix, next_within}
use Rattle.pages.specs.Page.{Ready}
use Rattle.subtries.specs.declared.spot.Spot.{Spot}
use Rattle.subtries.specs.Spot.{Spots}
use Rattle.subtries.specs.Subtrie.{as_bit, set_bit, SubtrieRead}
use Rattle.pages.specs.Prefix.{AtPrefix}
use Rattle.walk.specs.Walk.{FirstOn, Opening, Walking, Listed, any_key, members_between}
use Rattle.subtries.proofs.Starts.{first_bit}
use Rattle.pages.proofs.Pages.{bytes, checked}
use Rattle.walk.proofs.Places.{listed_one}
use Rattle.walk.proofs.Between.{members_split, members_none}
use Rattle.walk.proofs.Endings.{power_positive, Left, left_start, left_next, left_off, left_none, first_bit_on}
use Rattle.subtries.proofs.Sets.{set-bit}
use Rattle.walk.proofs.Steps.{key_fits, keys_asc, listed_same, members_key, members_same, none_here, set_fits, walking_start, walking_off, walking_on, opening_on}
use Rattle.walk.proofs.Walked.{under}

-- a prefix of d bits that goes on from x, of which it is one of w
record Longer (img : List ℕ) (d w x : ℕ) : Type 0 where
  n : ℕ
  y : ℕ
  at : AtPrefix img d n y
  from : w * x ≤ y
  to : y < w * x + w

module _ {img : List ℕ} (r : Ready img) where
  -- a bit more
  longer : (d w x : ℕ) → d < 32 → Longer img d w x → Longer img (suc d) (2 * w) x
  longer d w x h l =
      let v : ℕ = get_or (level_at img d) l.n 0 in
      let e = level_count img (bytes r) (checked r) r.some d h in
      let k = node_at_lem (level_at img d) l.n (level_valid img (bytes r) (checked r) r.some d h) (omega (arith, l.at.within)) in
      let f = first_bit (get_or (level_at img d) l.n 0) k.0 k.1 in
      record {
        n = child_at (level_at img d) l.n f.t;
        y = 2 * l.y + f.t;
        at = record {
          within = next_within img (bytes r) (checked r) r.some d l.n f.t h l.at.within f.small f.on;
          prefix = next_prefix img (bytes r) (checked r) r.some d l.n f.t h l.at.within f.small f.on ∙ ap (λ (z : ℕ). 2 * z + f.t) l.at.prefix;
        };
        from = twice w x l.y f.t l.from;
        to = twice-to w x l.y f.t l.to f.small;
      }
    where
      twice : (w x y t : ℕ) → w * x ≤ y → 2 * w * x ≤ 2 * y + t
      twice w x y t h = omega arith

      twice-to : (w x y t : ℕ) → y < w * x + w → t ≤ 1 → 2 * y + t < 2 * w * x + 2 * w
      twice-to w x y t h k = omega arith

-- ---- an out-link

module _ {img : List ℕ} {b link x set next : ℕ} (o : Opening img b link x) (s : Walking img b set next x 0) where
  some-longer : Longer img (4 * b) 16 x
  some-longer =
      let r = o.ready in
      let d : ℕ = 4 * (b - 1) in
      let l₀ : Longer img (4 * (b - 1)) 1 x = record { n = link; y = x; at = o.at; from = omega arith; to = omega arith } in
      let l₁ = longer r (4 * (b - 1)) 1 x (omega (arith, s.from, s.to)) l₀ in
      let l₂ = longer r (suc (4 * (b - 1))) 2 x (omega (arith, s.from, s.to)) l₁ in
      let l₃ = longer r (suc (suc (4 * (b - 1)))) 4 x (omega (arith, s.from, s.to)) l₂ in
      let l₄ = longer r (suc (suc (suc (4 * (b - 1))))) 8 x (omega (arith, s.from, s.to)) l₃ in
      let e : suc (suc (suc (suc (4 * (b - 1))))) ≡ 4 * b = omega (arith, s.from) in
      subst (λ (k : ℕ). Longer img k 16 x) e l₄

  pub set-some : 0 < set
  unfolding as_bit
  set-some =
      let l = some-longer in
      let v : ℕ = l.y - 16 * x in
      let h : l.y - 16 * x < 16 = omega (arith, l.from, l.to) in
      let e : 16 * x + (l.y - 16 * x) ≡ get_or (prefixes_at img (4 * b)) l.n 0 = omega (arith, l.from, l.at.prefix) in
      let m = is_in-mem (16 * x + (l.y - 16 * x)) (prefixes_at img (4 * b)) (Memᴰ.cast e (mem_at (prefixes_at img (4 * b)) l.n l.at.within)) in
      let on : set_bit set 16 (l.y - 16 * x) ≡ 1 = on_is (l.y - 16 * x) h m in
      elim (ℕ_discrete set 0) [
        | yes z ↦ absurd (omega (arith, on, ap (λ (n : ℕ). set_bit n 16 (l.y - 16 * x)) z, nothing (15 - (l.y - 16 * x))))
        | no z ↦ omega arith
      ]
    where
      nothing : (k : ℕ) → 0 / 2 ^ k % 2 ≡ 0
      nothing k = ap (◌% 2) (div-eq_of_lt (power_positive k))

      on_is : (v : ℕ) → v < 16 → is_in (16 * x + v) (prefixes_at img (4 * b)) ≡ true → set_bit set 16 v ≡ 1
      on_is v h m = ap (λ (n : ℕ). set_bit n 16 v) s.set_is ∙ set-bit (λ u. is_in (16 * x + u) (prefixes_at img (4 * b))) 16 v h ∙ ap as_bit m

-- ---- one out-link alone

walking_offs : {img : List ℕ} {b set link x v : ℕ} (s : Walking img b set link x v) (k : ℕ) → v + k ≤ 16 → ((u : ℕ) → v ≤ u → u < v + k → set_bit set 16 u ≡ 0) → Walking img b set link x (v + k)
walking_offs {img} {b} {set} {link} {x} {v} s zero h off = subst (Walking img b set link x) (sym (add-zero v)) s
walking_offs {img} {b} {set} {link} {x} {v} s (suc k) h off =
    let e : v + k + 1 ≡ v + suc k = omega arith in
    subst (Walking img b set link x) e (walking_off (walking_offs s k (omega arith) (λ u from to. off u from (omega arith))) (omega arith) (off (v + k) (omega arith) (omega arith)))

module _ (img : List ℕ) (f : ℕ → Bool) (b x : ℕ) where
  -- what is below some endings is below the first of them, then below the others
  pub under_split : Ready img → (v m u : ℕ) → v ≤ m → m ≤ u → under img f b x v u ≡ under img f b x v m ++ under img f b x m u
  under_split r v m u h k =
      members_split img f ((16 * x + v) * 2 ^ (36 - 4 * (b + 1))) ((16 * x + m) * 2 ^ (36 - 4 * (b + 1))) ((16 * x + u) * 2 ^ (36 - 4 * (b + 1))) (keys_asc r)
      (mul-le-mul_right (2 ^ (36 - 4 * (b + 1))) (let q : 16 * x + v ≤ 16 * x + m = omega arith in q)) (mul-le-mul_right (2 ^ (36 - 4 * (b + 1))) (let q : 16 * x + m ≤ 16 * x + u = omega arith in q))

  under_none : (v : ℕ) → under img f b x v v ≡ []
  under_none v = members_none img f ((16 * x + v) * 2 ^ (36 - 4 * (b + 1))) ((16 * x + v) * 2 ^ (36 - 4 * (b + 1))) (λ k m lo hi. omega arith)

  under-offs : {set link v : ℕ} (s : Walking img b set link x v) (k : ℕ) → v + k ≤ 16 → ((u : ℕ) → v ≤ u → u < v + k → set_bit set 16 u ≡ 0) → under img f b x v (v + k) ≡ []
  under-offs {set} {link} {v} s zero h off = ap (under img f b x v) (add-zero v) ∙ under_none v
  under-offs {set} {link} {v} s (suc k) h off =
      let w = walking_offs s k (omega arith) (λ u from to. off u from (omega arith)) in
      let e : 16 * x + (v + suc k) ≡ 16 * x + (v + k) + 1 = omega arith in
      under_split s.ready v (v + k) (v + suc k) (omega arith) (omega arith)
      ∙ ap₂ ◌++◌ (under-offs s k (omega arith) (λ u from to. off u from (omega arith)))
      (ap (λ (j : ℕ). members_between img f ((16 * x + (v + k)) * 2 ^ (36 - 4 * (b + 1))) (j * 2 ^ (36 - 4 * (b + 1)))) e ∙ none_here w (omega arith) (off (v + k) (omega arith) (omega arith)) f)

module _ {img : List ℕ} {b set link x e : ℕ} (s : Walking img b set link x 0) (o : FirstOn set e) where
  start : Left set 0 set
  start = left_start set (set_fits s)

  walking-first : Walking img b set link x e
  walking-first =
      let k : 0 + e ≡ e = omega arith in
      subst (Walking img b set link x) k (walking_offs s e (omega (arith, o.small)) (λ u from to. left_off start e (omega (arith, o.small)) o.first u from (omega arith)))

  pub opening_single : Opening img (b + 1) link (16 * x + e)
  opening_single = opening_on walking-first o.small (first_bit_on start o)

  pub single_fits : 16 * x + e < 4294967296
  single_fits = key_fits walking-first o.small

  pub members_single : set - 2 ^ (15 - e) ≡ 0 → (f : ℕ → Bool) → under img f b x 0 16 ≡ members_between img f ((16 * x + e) * 2 ^ (36 - 4 * (b + 1))) ((16 * x + e + 1) * 2 ^ (36 - 4 * (b + 1)))
  members_single z f =
      let k : 0 + e ≡ e = omega arith in
      let j : e + 1 + (15 - e) ≡ 16 = omega (arith, o.small) in
      let n : 16 * x + (e + 1) ≡ 16 * x + e + 1 = omega arith in
      let before : under img f b x 0 e ≡ [] = subst (λ (u : ℕ). under img f b x 0 u ≡ []) k (under-offs img f b x s e (omega (arith, o.small)) (λ u from to. left_off start e (omega (arith, o.small)) o.first u from (omega arith))) in
      let after : under img f b x (e + 1) 16 ≡ [] =
      subst (λ (u : ℕ). under img f b x (e + 1) u ≡ []) j
      (under-offs img f b x (walking_on walking-first o.small (first_bit_on start o)) (15 - e) (omega (arith, o.small)) (λ u from to. left_none (left_next start o) z u from (omega (arith, o.small)))) in
      under_split img f b x s.ready 0 e 16 (omega arith) (omega (arith, o.small))
      ∙ ap₂ ◌++◌ before (under_split img f b x s.ready e (e + 1) 16 (omega arith) (omega (arith, o.small)) ∙ ap (under img f b x e (e + 1) ++◌) after ∙ append-nil _)
      ∙ ap (λ (u : ℕ). members_between img f ((16 * x + e) * 2 ^ (36 - 4 * (b + 1))) (u * 2 ^ (36 - 4 * (b + 1)))) n

-- ---- subtries with one out-link alone, one below the other

-- all keys below prefix x of band b are those below `key` of band `number`; nothing is listed yet
pub record Chain (img : List ℕ) (b x done : ℕ) (keys₀ : List ℕ) (number next key : ℕ) (keys : List ℕ) (spots : List Spot) : Type 0 where
  pub opening : Opening img number next key
  pub from : b ≤ number
  pub right : Spots img spots
  pub untouched : keys ≡ keys₀
  pub members : members_between img any_key (x * 2 ^ (36 - 4 * b)) ((x + 1) * 2 ^ (36 - 4 * b)) ≡ members_between img any_key (key * 2 ^ (36 - 4 * number)) ((key + 1) * 2 ^ (36 - 4 * number))
  pub room : done + length (members_between img any_key (x * 2 ^ (36 - 4 * b)) ((x + 1) * 2 ^ (36 - 4 * b))) ≤ 4096

pub chain_start : {img : List ℕ} {b x done link : ℕ} {keys : List ℕ} {spots : List Spot} → Opening img b link x → Spots img spots
    → done + length (members_between img any_key (x * 2 ^ (36 - 4 * b)) ((x + 1) * 2 ^ (36 - 4 * b))) ≤ 4096 → Chain img b x done keys b link x keys spots
chain_start o p r = record { opening = o; from = omega arith; right = p; untouched = refl; members = refl; room = r }

module _ {img : List ℕ} {b x done : ℕ} {keys₀ : List ℕ} {number next key : ℕ} {keys : List ℕ} {spots : List Spot} (c : Chain img b x done keys₀ number next key keys spots) where
  -- after band 8: a key
  pub chain_end : 8 < number → members_between img any_key (x * 2 ^ (36 - 4 * b)) ((x + 1) * 2 ^ (36 - 4 * b)) ≡ key ∷ []
  chain_end h = let e : number ≡ 9 = omega (arith, c.opening.to) in c.members ∙ members_key c.opening e any_key refl

  pub chain_put : 8 < number → Listed (members_between img any_key (x * 2 ^ (36 - 4 * b)) ((x + 1) * 2 ^ (36 - 4 * b))) keys₀ done (set keys done key) (done + 1)
  chain_put h = rw c.untouched (listed_one key (chain_end h))

  module _ (h : number ≤ 8) {root on link : ℕ} (e : root ≡ next) (s : SubtrieRead img number (get_or (prefixes_at img (4 * (number - 1))) root 0) on link) where
    pub chain_walking : Walking img number on link key 0
    chain_walking = walking_start c.opening h e s

    pub chain_some : 0 < on
    chain_some = set-some c.opening chain_walking

    pub chain_fits : on < 65536
    chain_fits = set_fits chain_walking

    -- what is below the subtrie
    pub chain_under : members_between img any_key (x * 2 ^ (36 - 4 * b)) ((x + 1) * 2 ^ (36 - 4 * b)) ≡ under img any_key number key 0 16
    chain_under = c.members ∙ members_same c.opening h any_key

    pub chain_listed : {after : List ℕ} {r : ℕ} → Listed (under img any_key number key 0 16) keys done after r → Listed (members_between img any_key (x * 2 ^ (36 - 4 * b)) ((x + 1) * 2 ^ (36 - 4 * b))) keys₀ done after r
    chain_listed {after} {r} l = listed_same chain_under (subst (λ (k : List ℕ). Listed (under img any_key number key 0 16) k done after r) c.untouched l)

    pub chain_key : {e : ℕ} → FirstOn on e → 16 * key + e < 4294967296
    chain_key o = single_fits chain_walking o

    pub chain_next : {e rest : ℕ} {spots' : List Spot} → FirstOn on e → rest ≡ on - 2 ^ (15 - e) → rest ≡ 0 → Spots img spots' → Chain img b x done keys₀ (number + 1) link (16 * key + e) keys spots'
    chain_next o r z p =
        record {
          opening = opening_single chain_walking o;
          from = omega (arith, c.from);
          right = p;
          untouched = c.untouched;
          members = chain_under ∙ members_single chain_walking o (sym r ∙ z) any_key;
          room = c.room;
        }
