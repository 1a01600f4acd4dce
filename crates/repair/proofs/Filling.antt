-- The restored image's numbers put into a copy of the image, one after the other: the copy is then the restored image.
-- Assumes nothing.
use mathlib.Core.Path.{◌≡◌, refl, sym, ap, ap₂, ◌∙◌, subst}
use mathlib.Core.Bool.{not}
use mathlib.Core.List.{List, [], ◌∷◌, ◌++◌, map, flat_map, append_assoc, map-append, map-map}
use Prim.Native.Nat.{ℕ, zero, suc, ◌+◌, ◌-◌, ◌*◌, ◌/◌, ◌%◌, ◌≤◌, ◌<◌}
use native.Mathlib.Nat.{zero-add}
use native.Mathlib.Omega.{arith}
use lib.Dec.{eqb}
use borrow.Author.Tests.{eq-eqb, ne_eqb}
use lib.ListN.{length, take, drop, length-append}
use lib.Seq.{sets-eq}
use Rattle.format.specs.Seq.{All, cons_if, numbers_from, select, up_to}
use Rattle.format.specs.Page.{Byte, number_at, two_bytes}
use Rattle.format.proofs.Lists.{all_append, all_flat_map, all_left, all_map, all_numbers, all_right, all_up_to, flat_map_all, map_all, numbers_all, numbers-split, up_to_all}
use Rattle.format.proofs.Members.{select-append}
use Rattle.format.proofs.Bytes.{number_small}
use Rattle.repair.specs.Numbers.{put_number, put_numbers, restored}
use Rattle.repair.specs.Repair.{differing, number_places, page_places}
use Rattle.repair.specs.Inner.{CountsNoted, FillReady, Filled, HeadsNoted, Whole, altered, fresh}
use Rattle.repair.proofs.Agreeing.{agree_sym, agree_trans}
use Rattle.repair.proofs.Puts.{Between, Loose, Stands, between-append, between-flat_map, between_lower, between-map, length_puts, puts_agree, puts_append, puts_bytes, puts_front, puts_stand, stands_number}
use Rattle.repair.proofs.Reading.{b_loose, t_loose, header_loose, restored_agrees, restored_bytes}
use Rattle.repair.proofs.Numbered.{same_bytes}
use Rattle.repair.proofs.Given.{cut}

-- ---- one number

module _ (img : List ℕ) (at : ℕ) where
  pub altered_same : number_at img at ≡ number_at (restored img) at → 0 ≡ altered img (at ∷ [])
  unfolding select cons_if
  altered_same e = sym (rw (eq-eqb (number_at img at) (number_at (restored img) at) e))

  pub altered_other : (number_at img at ≡ number_at (restored img) at → ⊥) → 1 ≡ altered img (at ∷ [])
  unfolding select cons_if
  altered_other e = sym (rw (ne_eqb (number_at img at) (number_at (restored img) at) e))

  pub put_filled : (out after : List ℕ) (x r : ℕ) → at + 2 ≤ length out → after ≡ take at out ++ (two_bytes x ++ drop (at + 2) out) → x < 65536 → x ≡ number_at (restored img) at → r ≡ altered img (at ∷ []) → r ≤ 1
      → Filled img (at ∷ []) out after r
  unfolding put_numbers put_number
  put_filled out after x r h e small is c few =
      record {
        put = e
            ∙ sym (sets-eq (two_bytes (number_at (restored img) at % 65536)) out at (two-long (number_at (restored img) at % 65536) h)
            ∙ append_assoc (take at out) (two_bytes (number_at (restored img) at % 65536)) _
            ∙ ap₂ (λ (n m : ℕ). take at out ++ (two_bytes n ++ drop (at + m) out)) (cut (number_at (restored img) at) (omega arith) ∙ sym is) (length_two (number_at (restored img) at % 65536)));
        counted = c;
        few = few;
      }
    where
      length_two : (n : ℕ) → length (two_bytes n) ≡ 2
      length_two n = unfold two_bytes in refl

      two-long : (n : ℕ) → at + 2 ≤ length out → at + length (two_bytes n) ≤ length out
      two-long n h = omega (arith, length_two n)

-- ---- some numbers

pub filled_none : (img out : List ℕ) → Filled img [] out out 0
unfolding put_numbers select
filled_none img out = record { put = refl; counted = refl; few = omega arith }

module _ {img : List ℕ} where
  pub filled_then : {ps qs a b c : List ℕ} {m n : ℕ} → Filled img ps a b m → Filled img qs b c n → Filled img (ps ++ qs) a c (m + n)
  filled_then {ps} {qs} {a} {b} {c} {m} {n} f g =
      record {
        put = g.put
            ∙ ap (λ (l : List ℕ). put_numbers l (fresh img qs)) f.put
            ∙ sym (ap (put_numbers a) (map-append (λ at. (at, number_at (restored img) at)) ps qs) ∙ puts_append a (fresh img ps) (fresh img qs));
        counted = ap₂ ◌+◌ f.counted g.counted
            ∙ sym (ap length (select-append (λ at. not (eqb (number_at img at) (number_at (restored img) at))) ps qs)
            ∙ length-append (select (λ at. not (eqb (number_at img at) (number_at (restored img) at))) ps) (select (λ at. not (eqb (number_at img at) (number_at (restored img) at))) qs));
        few = omega (arith, f.few, g.few, length-append ps qs);
      }

  pub filled-length : {ps a b : List ℕ} {m : ℕ} → Filled img ps a b m → length b ≡ length a
  filled-length {ps} {a} f = ap length f.put ∙ length_puts a (fresh img ps)

-- ---- the loops

pub record HeaderLoop (img counts out₀ out : List ℕ) (k r : ℕ) : Type 0 where
  pub ready : FillReady img out₀
  pub noted : CountsNoted img counts
  pub within : k ≤ 9
  pub filled : Filled img (map (λ k. 6 + 4 * k) (up_to k)) out₀ out r
  pub few : r ≤ k

pub header_start_lem : {img counts out : List ℕ} → FillReady img out → CountsNoted img counts → HeaderLoop img counts out out 0 0
unfolding up_to numbers_from
header_start_lem {img} {counts} {out} h n = record { ready = h; noted = n; within = omega arith; filled = filled_none img out; few = omega arith }

-- one place more
more_places : (k : ℕ) → map (λ k. 6 + 4 * k) (up_to (k + 1)) ≡ map (λ k. 6 + 4 * k) (up_to k) ++ (6 + 4 * k) ∷ []
unfolding up_to numbers_from
more_places k = ap (map (λ k. 6 + 4 * k)) (numbers-split 0 k 1) ∙ map-append (λ k. 6 + 4 * k) (numbers_from 0 k) ((0 + k) ∷ []) ∙ ap (λ (j : ℕ). map (λ k. 6 + 4 * k) (numbers_from 0 k) ++ (6 + 4 * j) ∷ []) (zero-add k)

module _ {img counts out₀ out : List ℕ} {k r : ℕ} (u : HeaderLoop img counts out₀ out k r) where
  pub header_room : length img ≤ length out
  header_room = omega (arith, filled-length u.filled, u.ready.room)

  pub header_next : k < 9 → {after : List ℕ} {n : ℕ} → Filled img ((6 + 4 * k) ∷ []) out after n → HeaderLoop img counts out₀ after (k + 1) (r + n)
  header_next h {after} {n} f =
      record {
        ready = u.ready;
        noted = u.noted;
        within = omega arith;
        filled = subst (λ (ps : List ℕ). Filled img ps out₀ after (r + n)) (sym (more_places k)) (filled_then u.filled f);
        few = omega (arith, u.few, f.few);
      }

  pub header_end_lem : 9 ≤ k → Filled img (map (λ k. 6 + 4 * k) (up_to 9)) out₀ out r
  header_end_lem h = let e : k ≡ 9 = omega (arith, u.within) in subst (λ (k : ℕ). Filled img (map (λ k. 6 + 4 * k) (up_to k)) out₀ out r) e u.filled

pub record PagesLoop (img ts bs out₀ out : List ℕ) (end p r : ℕ) : Type 0 where
  pub ready : FillReady img out₀
  pub noted : HeadsNoted img (length img / 64) ts bs
  pub end_is : end ≡ length img / 64
  pub some : 1 ≤ p
  pub within : p ≤ end
  pub filled : Filled img (flat_map page_places (numbers_from 1 (p - 1))) out₀ out r
  pub few : r ≤ 2 * p

pub pages_start : {img ts bs out : List ℕ} {end : ℕ} → FillReady img out → HeadsNoted img (length img / 64) ts bs → end ≡ length img / 64 → PagesLoop img ts bs out out end 1 0
unfolding numbers_from flat_map
pages_start {img} {ts} {bs} {out} h n e =
    record { ready = h; noted = n; end_is = e; some = omega arith; within = omega (arith, h.whole.long, h.whole.whole); filled = filled_none img out; few = omega arith }

flat_append : {A B : Type 0} (f : A → List B) (l m : List A) → flat_map f (l ++ m) ≡ flat_map f l ++ flat_map f m
unfolding flat_map
flat_append f [] m = refl
flat_append f (x ∷ l) m = ap (f x ++◌) (flat_append f l m) ∙ sym (append_assoc (f x) (flat_map f l) (flat_map f m))

more_pages : (p : ℕ) → 1 ≤ p → flat_map page_places (numbers_from 1 (p + 1 - 1)) ≡ flat_map page_places (numbers_from 1 (p - 1)) ++ (64 * p ∷ []) ++ (64 * p + 2) ∷ []
unfolding numbers_from flat_map page_places
more_pages p h =
    let n : p + 1 - 1 ≡ p - 1 + 1 = omega arith in
    let at : 1 + (p - 1) ≡ p = omega arith in
    ap (λ (m : ℕ). flat_map page_places (numbers_from 1 m)) n
    ∙ ap (flat_map page_places) (numbers-split 1 (p - 1) 1)
    ∙ flat_append page_places (numbers_from 1 (p - 1)) ((1 + (p - 1)) ∷ [])
    ∙ ap (λ (q : ℕ). flat_map page_places (numbers_from 1 (p - 1)) ++ 64 * q ∷ (64 * q + 2) ∷ []) at
    ∙ sym (append_assoc (flat_map page_places (numbers_from 1 (p - 1))) (64 * p ∷ []) ((64 * p + 2) ∷ []))

module _ {img ts bs out₀ out : List ℕ} {end p r : ℕ} (u : PagesLoop img ts bs out₀ out end p r) where
  pub pages_room : length img ≤ length out
  pages_room = omega (arith, filled-length u.filled, u.ready.room)

  module _ (h : p < end) where
    pub page_here : 64 * p + 64 ≤ length img
    page_here = omega (arith, u.end_is, u.ready.whole.whole)

    pub place_few : p ≤ 384
    place_few = omega (arith, u.end_is, u.ready.whole.few)

    pub pages_next : {mid after : List ℕ} {m n : ℕ} → Filled img (64 * p ∷ []) out mid m → Filled img ((64 * p + 2) ∷ []) mid after n → PagesLoop img ts bs out₀ after end (p + 1) (r + m + n)
    pages_next {mid} {after} {m} {n} f g =
        record {
          ready = u.ready;
          noted = u.noted;
          end_is = u.end_is;
          some = omega arith;
          within = omega arith;
          filled = subst (λ (ps : List ℕ). Filled img ps out₀ after (r + m + n)) (sym (more_pages p u.some)) (filled_then (filled_then u.filled f) g);
          few = omega (arith, u.few, f.few, g.few);
        }

  pub pages_end : end ≤ p → Filled img (flat_map page_places (numbers_from 1 (length img / 64 - 1))) out₀ out r
  pages_end h = let e : p ≡ length img / 64 = omega (arith, u.within, u.end_is) in subst (λ (p : ℕ). Filled img (flat_map page_places (numbers_from 1 (p - 1))) out₀ out r) e u.filled

-- ---- all numbers

map_flat : (g : ℕ → ℕ × ℕ) (l : List ℕ) → map g (flat_map page_places l) ≡ flat_map (λ p. map g (page_places p)) l
unfolding flat_map
map_flat g [] = refl
map_flat g (p ∷ l) = map-append g (page_places p) (flat_map page_places l) ∙ ap (map g (page_places p) ++◌) (map_flat g l)

module _ (img : List ℕ) (small : All Byte img) (w : Whole img) where
  abbrev count : ℕ
  count = length img / 64 - 1

  abbrev g : ℕ → ℕ × ℕ
  g at = (at, number_at (restored img) at)

  abbrev header_places : List ℕ
  header_places = map (λ k. 6 + 4 * k) (up_to 9)

  abbrev head_places : List ℕ
  head_places = flat_map page_places (numbers_from 1 count)

  -- a fact of every place
  all-places : (P : ℕ → Type 0) → ((k : ℕ) → k < 9 → P (6 + 4 * k)) → ((p : ℕ) → 1 ≤ p → P (64 * p) × P (64 * p + 2)) → All P (header_places ++ head_places)
  unfolding page_places
  all-places P f h =
      all_append P header_places head_places (all_map (λ k. 6 + 4 * k) P (up_to 9) (all_up_to (λ k. P (6 + 4 * k)) 9 f))
      (all_flat_map page_places P (numbers_from 1 count) (all_numbers (λ p. All P (page_places p)) 1 count (λ p lo hi. let b = h p lo in (b.0, (b.1, tt)))))

  places-loose : All Loose (map g (header_places ++ head_places))
  places-loose =
      all_map g Loose (header_places ++ head_places)
      (all-places (λ at. Loose (g at)) (λ k h. header_loose k (number_at (restored img) (6 + 4 * k)) h) (λ p lo. (t_loose p (number_at (restored img) (64 * p)) lo, b_loose p (number_at (restored img) (64 * p + 2)) lo)))

  header-between : Between 6 42 (map g header_places)
  unfolding up_to
  header-between =
      subst (Between 6 42) (sym (map-map g (λ k. 6 + 4 * k) (numbers_from 0 9))) (between-map (λ k. 6 + 4 * k) (λ k. g (6 + 4 * k)) 0 9 (λ k from to. (omega arith, omega arith)))

  page-between : (p : ℕ) → Between (64 * p) (64 * suc p) (map g (page_places p))
  unfolding page_places
  page-between p = (omega arith, (omega arith, omega arith))

  heads-between : Between 64 (length img) (map g head_places)
  heads-between =
      let e : 64 * (1 + count) ≡ length img = omega (arith, w.whole, w.long) in
      subst (Between 64 (length img)) (sym (map_flat g (numbers_from 1 count)))
      (subst (λ (hi : ℕ). Between 64 hi (flat_map (λ p. map g (page_places p)) (numbers_from 1 count))) e
      (between-flat_map (λ p. 64 * p) (λ p. map g (page_places p)) 1 count (λ p from to. page-between p)))

  places-between : Between 6 (length img) (map g (header_places ++ head_places))
  places-between =
      subst (Between 6 (length img)) (sym (map-append g header_places head_places))
      (between-append 6 42 (length img) (map g header_places) (map g head_places) header-between (between_lower 42 64 (length img) (map g head_places) (omega arith) heads-between))

  abbrev filled_in : List ℕ
  filled_in = put_numbers img (map g (header_places ++ head_places))

  place-right : (at : ℕ) → Stands filled_in (g at) → number_at filled_in at ≡ number_at (restored img) at
  place-right at s = stands_number s ∙ cut (number_at (restored img) at) (number_small (restored img) at (restored_bytes img small))

  all-right-there : All (λ at. number_at filled_in at ≡ number_at (restored img) at) (header_places ++ head_places)
  all-right-there = go (header_places ++ head_places) (map_all g (Stands filled_in) (header_places ++ head_places) (puts_stand img 6 (length img) (map g (header_places ++ head_places)) places-between (omega arith)))
    where
      go : (l : List ℕ) → All (λ at. Stands filled_in (g at)) l → All (λ at. number_at filled_in at ≡ number_at (restored img) at) l
      go [] h = tt
      go (at ∷ l) h = (place-right at h.0, go l h.1)

  filled-restored : filled_in ≡ restored img
  unfolding page_places
  filled-restored =
      let P : ℕ → Type 0 = λ at. number_at filled_in at ≡ number_at (restored img) at in
      let size : length filled_in ≡ length img = length_puts img (map g (header_places ++ head_places)) in
      let head : (p : ℕ) → 1 ≤ p → 64 * p < length filled_in → All P (page_places p) =
      λ p lo hi. numbers_all (λ p. All P (page_places p)) 1 count (flat_map_all page_places P (numbers_from 1 count) (all_right P header_places head_places all-right-there)) p lo (omega (arith, w.whole)) in
      same_bytes (puts_bytes img (map g (header_places ++ head_places)) small) (restored_bytes img small)
      (agree_trans (agree_sym (puts_agree img (map g (header_places ++ head_places)) places-loose)) (restored_agrees img))
      (record {
        counts = λ k h. up_to_all (λ k. P (6 + 4 * k)) 9 (map_all (λ k. 6 + 4 * k) P (up_to 9) (all_left P header_places head_places all-right-there)) k h;
        t_same = λ p lo hi. (head p lo hi).0;
        b_same = λ p lo hi. (head p lo hi).1.0;
      })

  -- the copy is then the restored image, and what lay past it stays
  pub fill_done : (out copy mid after : List ℕ) (m n : ℕ) → copy ≡ img ++ drop (length img) out → Filled img header_places copy mid m → Filled img head_places mid after n
      → (after ≡ restored img ++ drop (length (restored img)) out) × (m + n ≡ differing img (restored img))
  unfolding differing number_places
  fill_done out copy mid after m n e f h =
      let both = filled_then f h in (
        both.put
            ∙ ap (λ (l : List ℕ). put_numbers l (map g (header_places ++ head_places))) e
            ∙ puts_front img (drop (length img) out) 6 (length img) (map g (header_places ++ head_places)) places-between (omega arith)
            ∙ ap₂ (λ (l : List ℕ) (n : ℕ). l ++ drop n out) filled-restored (restored_agrees img).size,
        both.counted,
      )

-- what the code needs to know of sizes
pub copied_ready : {img out copy : List ℕ} → FillReady img out → copy ≡ img ++ drop (length img) out → FillReady img copy
copied_ready {img} {out} {copy} h e = record { whole = h.whole; room = omega (arith, ap length e, length-append img (drop (length img) out)) }

pub filled_ready : {img ps out after : List ℕ} {r : ℕ} → FillReady img out → Filled img ps out after r → FillReady img after
filled_ready h f = record { whole = h.whole; room = omega (arith, filled-length f, h.room) }

pub nine_places : length (map (λ k. 6 + 4 * k) (up_to 9)) ≡ 9
unfolding up_to numbers_from
nine_places = refl

two_each : (s n : ℕ) → length (flat_map page_places (numbers_from s n)) ≤ 2 * (n + 1)
unfolding numbers_from flat_map page_places
two_each s zero = omega arith
two_each s (suc n) = omega (arith, two_each (suc s) n)

pub places_few : (img : List ℕ) → length (flat_map page_places (numbers_from 1 (length img / 64 - 1))) ≤ 2 * (length img / 64) + 2
places_few img = omega (arith, two_each 1 (length img / 64 - 1))
