-- The steps of the walks: an out-link that is cut, that is a key, or that opens a band; the out-links of a subtrie one after the other.
-- Assumes nothing.
use mathlib.Core.Bool.{Bool, true}
use mathlib.Core.List.Memᴰ
use mathlib.Core.List.{List, [], ◌∷◌, Memᴰ}
use mathlib.Core.Path.{◌≡◌, sym, ap, ap₂, subst, ◌∙◌}
use Prim.Native.Nat.{ℕ, suc, ◌+◌, ◌-◌, ◌*◌, ◌/◌, ◌^◌, ◌≤◌, ◌<◌}
use native.Mathlib.Nat.{add-mul, add-zero, div-eq_of_lt, mul-add-div_right, mul_assoc, mul_comm, mul-one, pow-le-pow_right}
use native.Mathlib.Numerals.{add-one}
use native.Mathlib.Omega.{arith}
use lib.ListN.{length, get_or}
use lib.Pow.{pow-add}
use Rattle.format.specs.declared.Rectangle.{Rectangle}
use Rattle.format.specs.Seq.{is_in, rank_in, select}
use Rattle.format.specs.Image.{keys_of, root_count, prefixes_at}
use Rattle.format.specs.Answer.{inside}
use Rattle.format.specs.Cell.{Apart as CellApart, Covers}
use Rattle.format.proofs.Accepted.{facts}
use Rattle.format.proofs.Trie.{Asc}
use Rattle.format.proofs.Cells.{apart_outside, covers_inside}
use Rattle.format.proofs.Descent.{at_rank_lem, is_in-mem, mem_at}
use Rattle.format.proofs.Levels.{prefixes_asc, prefixes_keys}
use Rattle.format.proofs.Walk.{listed_prefix, roots_count}
use Rattle.walk.specs.declared.block.Place.{Place}
use Rattle.walk.specs.declared.block.Place.TheVariants.{Apart, Inside}
use Rattle.walk.specs.Block.{PlaceRight}
use Rattle.pages.specs.Page.{Ready}
use Rattle.subtries.specs.Subtrie.{as_bit, level_set, set_bit, SubtrieRead}
use Rattle.walk.specs.Walk.{Opening, Walking, Listed, any_key, members_between}
use Rattle.pages.proofs.Pages.{bytes, checked}
use Rattle.pages.proofs.Counts.{rank_few}
use Rattle.subtries.proofs.Ranks.{Tested, member, stranger, tested, rank_next}
use Rattle.subtries.proofs.Sets.{set-bit}
use Rattle.walk.proofs.Endings.{power_positive}
use Rattle.walk.proofs.Between.{members_none, members_outside, members_one, members_agree, one_between}

pub keys_asc : {img : List ℕ} → Ready img → Asc (keys_of img)
keys_asc {img} r = (facts img r.accepted).keys.asc

-- the keys from x * 2 ^ w on, below the next such number, are those that start with x
pub in_block : (w x k : ℕ) → x * 2 ^ w ≤ k → k < (x + 1) * 2 ^ w → k / 2 ^ w ≡ x
in_block w x k lo hi =
    let r : ℕ = k - x * 2 ^ w in
    let e : k ≡ x * 2 ^ w + r = omega arith in
    let small : r < 2 ^ w = omega (arith, add-mul x 1 (2 ^ w)) in
    ap (◌/ 2 ^ w) e ∙ mul-add-div_right (power_positive w) x r ∙ ap (x +◌) (div-eq_of_lt small) ∙ add-zero x

-- a band is a factor of 16
sixteen : (b y : ℕ) → b ≤ 8 → y * 2 ^ (36 - 4 * b) ≡ 16 * y * 2 ^ (36 - 4 * (b + 1))
sixteen b y h =
    let w : ℕ = 36 - 4 * (b + 1) in
    let e : 36 - 4 * b ≡ 4 + w = omega arith in
    ap (λ (n : ℕ). y * 2 ^ n) e ∙ ap (y *◌) (pow-add 2 4 w) ∙ sym (mul_assoc y 16 (2 ^ w)) ∙ ap (◌* 2 ^ w) (mul_comm y 16)

-- ---- what is listed, and the room for it

pub room_same : (zs ys : List ℕ) (d m : ℕ) → zs ≡ ys → d + length zs ≤ m → d + length ys ≤ m
room_same zs ys d m e h = rw (← e) h

pub room_one : (zs : List ℕ) (d m k : ℕ) → zs ≡ k ∷ [] → d + length zs ≤ m → d < m
room_one zs d m k e h = omega (arith, ap length e)

pub listed_same : {zs ys buffer after : List ℕ} {d r : ℕ} → zs ≡ ys → Listed ys buffer d after r → Listed zs buffer d after r
listed_same e l = rw e l

-- ---- an out-link

module _ (img : List ℕ) (rectangle : Rectangle) (w x : ℕ) where
  -- cut
  pub members_cut : CellApart rectangle w x → members_between img (inside rectangle) (x * 2 ^ w) ((x + 1) * 2 ^ w) ≡ []
  members_cut p = members_outside img (inside rectangle) (x * 2 ^ w) ((x + 1) * 2 ^ w) (λ k lo hi. apart_outside rectangle w x k p (in_block w x k lo hi))

  -- every key is inside
  pub members_every : Covers rectangle w x → members_between img (inside rectangle) (x * 2 ^ w) ((x + 1) * 2 ^ w) ≡ members_between img any_key (x * 2 ^ w) ((x + 1) * 2 ^ w)
  members_every p = members_agree img (inside rectangle) any_key (x * 2 ^ w) ((x + 1) * 2 ^ w) (λ k lo hi. covers_inside rectangle w x k p (in_block w x k lo hi))

module _ {img : List ℕ} {b link x : ℕ} (o : Opening img b link x) where
  module _ (z : b ≡ 9) where
    -- out of band 8 an out-link's number is the key's rank: it is below the number of keys
    pub key_within : link < length (keys_of img)
    key_within =
        let r = o.ready in
        let d : 4 * (b - 1) ≡ 32 = omega arith in
        omega (arith, o.at.within, ap (λ (n : ℕ). length (prefixes_at img n)) d, ap length (prefixes_keys img))

    -- and the key stands there
    pub key_here : get_or (keys_of img) link 0 ≡ x
    key_here =
        let r = o.ready in
        let d : 4 * (b - 1) ≡ 32 = omega arith in
        ap (λ (l : List ℕ). get_or l link 0) (sym (prefixes_keys img)) ∙ ap (λ (n : ℕ). get_or (prefixes_at img n) link 0) (sym d) ∙ o.at.prefix

    -- so it is listed
    key-there : Memᴰ x (keys_of img)
    key-there = Memᴰ.cast (sym key_here) (mem_at (keys_of img) link key_within)

    lowest-is : x * 2 ^ (36 - 4 * b) ≡ x
    lowest-is = let w : 36 - 4 * b ≡ 0 = omega arith in ap (λ (n : ℕ). x * 2 ^ n) w ∙ mul-one x

    next_is : (x + 1) * 2 ^ (36 - 4 * b) ≡ suc x
    next_is = let w : 36 - 4 * b ≡ 0 = omega arith in ap (λ (n : ℕ). (x + 1) * 2 ^ n) w ∙ mul-one (x + 1) ∙ add-one x

    pub members_nine : (f : ℕ → Bool) → members_between img f (x * 2 ^ (36 - 4 * b)) ((x + 1) * 2 ^ (36 - 4 * b)) ≡ select f (x ∷ [])
    unfolding members_between
    members_nine f = ap₂ (members_between img f) lowest-is next_is ∙ ap (select f) (one_between (keys_of img) x (keys_asc o.ready) key-there)

    -- no band is left: a key
    pub members_key : (f : ℕ → Bool) → f x ≡ true → members_between img f (x * 2 ^ (36 - 4 * b)) ((x + 1) * 2 ^ (36 - 4 * b)) ≡ x ∷ []
    members_key f t = ap₂ (members_between img f) lowest-is next_is ∙ members_one img f x (keys_asc o.ready) key-there t

  -- the block of the prefix
  pub block_bits : 2 * (18 - 2 * b) ≡ 36 - 4 * b
  block_bits = omega (arith, o.to)

  pub block_half : 18 - 2 * b ≤ 16
  block_half = omega (arith, o.from)

  pub place_apart : (rectangle : Rectangle) {p : Place} → PlaceRight rectangle (2 * (18 - 2 * b)) x p → p ≡ Apart → CellApart rectangle (36 - 4 * b) x
  place_apart rectangle r e = subst (λ (w : ℕ). CellApart rectangle w x) block_bits (rw e at r)

  pub place_covers : (rectangle : Rectangle) {p : Place} → PlaceRight rectangle (2 * (18 - 2 * b)) x p → p ≡ Inside → Covers rectangle (36 - 4 * b) x
  place_covers rectangle r e = subst (λ (w : ℕ). Covers rectangle w x) block_bits (rw e at r)

  pub block_short : x < 2 ^ (32 - 2 * (18 - 2 * b))
  block_short = let e : 32 - 2 * (18 - 2 * b) ≡ 4 * (b - 1) = omega (arith, o.from, o.to) in rw e o.short

  -- a band is opened
  module _ (h : b ≤ 8) where
    pub root_there : {root : ℕ} → root ≡ link → root < root_count img b
    root_there {root} e =
        let r = o.ready in
        let d : 4 * (b - 1) ≡ 4 * (b - 1) + 0 = omega arith in
        omega (arith, o.at.within, ap (λ (k : ℕ). length (prefixes_at img k)) d, roots_count img (bytes r) (checked r) r.some b o.from h)

    pub walking_start : {root set next : ℕ} → root ≡ link → SubtrieRead img b (get_or (prefixes_at img (4 * (b - 1))) root 0) set next → Walking img b set next x 0
    walking_start {root} {set} {next} e s =
        let y : get_or (prefixes_at img (4 * (b - 1))) root 0 ≡ x = ap (λ (n : ℕ). get_or (prefixes_at img (4 * (b - 1))) n 0) e ∙ o.at.prefix in
        record {
          ready = o.ready;
          from = o.from;
          to = h;
          short = o.short;
          set_is = s.set_is ∙ ap (λ (z : ℕ). level_set img (4 * b) (16 * z) 16) y;
          link_is = s.link_is ∙ ap (λ (z : ℕ). rank_in (prefixes_at img (4 * b)) (16 * z)) y ∙ ap (rank_in (prefixes_at img (4 * b))) (sym (add-zero (16 * x)));
        }

    pub members_same : (f : ℕ → Bool) → members_between img f (x * 2 ^ (36 - 4 * b)) ((x + 1) * 2 ^ (36 - 4 * b)) ≡ members_between img f ((16 * x + 0) * 2 ^ (36 - 4 * (b + 1))) ((16 * x + 16) * 2 ^ (36 - 4 * (b + 1)))
    members_same f =
        let w : ℕ = 36 - 4 * (b + 1) in
        let lo : x * 2 ^ (36 - 4 * b) ≡ (16 * x + 0) * 2 ^ w = sixteen b x h ∙ ap (◌* 2 ^ w) (sym (add-zero (16 * x))) in
        let e : 16 * (x + 1) ≡ 16 * x + 16 = omega arith in
        ap₂ (members_between img f) lo (sixteen b (x + 1) h ∙ ap (◌* 2 ^ w) e)

-- ---- the out-links of a subtrie

module _ {img : List ℕ} {b set link x v : ℕ} (s : Walking img b set link x v) where
  pub prefix_fits : x < 268435456
  prefix_fits = omega (arith, s.short, pow-le-pow_right {n = 2} (omega arith) {i = 4 * (b - 1)} {j = 28} (omega (arith, s.to)))

  pub set_fits : set < 65536
  set_fits = omega (arith, s.set_is, Rattle.subtries.proofs.Sets.set_small (λ u. is_in (16 * x + u) (prefixes_at img (4 * b))) 16)

  -- a band has few out-links
  pub link_small : link < 65536
  link_small = omega (arith, s.link_is, rank_few s.ready b s.from s.to (16 * x + v))

  module _ (h : v < 16) where
    bit_is : set_bit set 16 v ≡ as_bit (is_in (16 * x + v) (prefixes_at img (4 * b)))
    bit_is = ap (λ (n : ℕ). set_bit n 16 v) s.set_is ∙ set-bit (λ u. is_in (16 * x + u) (prefixes_at img (4 * b))) 16 v h

    pub key_small : 16 * x + v < 2 ^ (4 * (b + 1 - 1))
    key_small =
        let e : 4 * (b + 1 - 1) ≡ 4 * (b - 1) + 4 = omega (arith, s.from) in
        omega (arith, s.short, ap (2 ^◌) e ∙ pow-add 2 (4 * (b - 1)) 4)

    pub key_fits : 16 * x + v < 4294967296
    key_fits = omega (arith, key_small, pow-le-pow_right {n = 2} (omega arith) {i = 4 * (b + 1 - 1)} {j = 32} (omega (arith, s.to)))

    rank_step : rank_in (prefixes_at img (4 * b)) (16 * x + (v + 1)) ≡ link + as_bit (is_in (16 * x + v) (prefixes_at img (4 * b)))
    rank_step =
        let e : 16 * x + (v + 1) ≡ suc (16 * x + v) = omega arith in
        ap (rank_in (prefixes_at img (4 * b))) e ∙ rank_next (prefixes_at img (4 * b)) (16 * x + v) (prefixes_asc img (bytes s.ready) (checked s.ready) s.ready.some (4 * b)) ∙ ap (◌+ as_bit (is_in (16 * x + v) (prefixes_at img (4 * b)))) (sym s.link_is)

    walking_next : (n : ℕ) → rank_in (prefixes_at img (4 * b)) (16 * x + (v + 1)) ≡ n → Walking img b set n x (v + 1)
    walking_next n e = record { ready = s.ready; from = s.from; to = s.to; short = s.short; set_is = s.set_is; link_is = sym e }

    -- an off bit
    module _ (off : set_bit set 16 v ≡ 0) where
      stranger-here : Memᴰ (16 * x + v) (prefixes_at img (4 * b)) → ⊥
      unfolding as_bit
      stranger-here m = omega (arith, bit_is, ap as_bit (is_in-mem (16 * x + v) (prefixes_at img (4 * b)) m))

      pub walking_off : Walking img b set link x (v + 1)
      walking_off = walking_next link (rank_step ∙ ap (link +◌) (sym bit_is ∙ off) ∙ add-zero link)

      pub none_here : (f : ℕ → Bool) → members_between img f ((16 * x + v) * 2 ^ (36 - 4 * (b + 1))) ((16 * x + v + 1) * 2 ^ (36 - 4 * (b + 1))) ≡ []
      none_here f =
          members_none img f ((16 * x + v) * 2 ^ (36 - 4 * (b + 1))) ((16 * x + v + 1) * 2 ^ (36 - 4 * (b + 1)))
          (λ k m lo hi. let d : 32 - 4 * b ≡ 36 - 4 * (b + 1) = omega arith in
          stranger-here (Memᴰ.cast (sym (ap (λ (n : ℕ). k / 2 ^ n) d ∙ in_block (36 - 4 * (b + 1)) (16 * x + v) k lo hi))
          (listed_prefix img (bytes s.ready) (checked s.ready) s.ready.some k (4 * b) (omega (arith, s.to)) m)))

    -- an on bit
    module _ (on : set_bit set 16 v ≡ 1) where
      bit-one : as_bit (is_in (16 * x + v) (prefixes_at img (4 * b))) ≡ 1
      bit-one = omega (arith, bit_is)

      member-here : Memᴰ (16 * x + v) (prefixes_at img (4 * b))
      member-here = go (is_in (16 * x + v) (prefixes_at img (4 * b))) (tested (16 * x + v) (prefixes_at img (4 * b))) bit-one
        where
          go : (q : Bool) → Tested (16 * x + v) (prefixes_at img (4 * b)) q → as_bit q ≡ 1 → Memᴰ (16 * x + v) (prefixes_at img (4 * b))
          go true (member m) e = m
          go Bool.false (stranger f) e = absurd (unfold as_bit in omega arith)

      pub opening_on : Opening img (b + 1) link (16 * x + v)
      opening_on =
          let a = at_rank_lem (prefixes_at img (4 * b)) (16 * x + v) (prefixes_asc img (bytes s.ready) (checked s.ready) s.ready.some (4 * b)) member-here in
          let d : 4 * (b + 1 - 1) ≡ 4 * b = omega arith in
          record {
            ready = s.ready;
            from = omega arith;
            to = omega (arith, s.to);
            short = key_small;
            at = record {
              within = omega (arith, a.within, s.link_is, ap (λ (n : ℕ). length (prefixes_at img n)) d);
              prefix = ap (λ (n : ℕ). get_or (prefixes_at img n) link 0) d ∙ ap (λ (n : ℕ). get_or (prefixes_at img (4 * b)) n 0) s.link_is ∙ a.here;
            };
          }

      pub walking_on : Walking img b set (link + 1) x (v + 1)
      walking_on = walking_next (link + 1) (rank_step ∙ ap (link +◌) bit-one)
