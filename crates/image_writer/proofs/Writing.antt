-- The second pass over the bands, from the last to the first: the pages.
-- Assumes nothing.
use mathlib.Core.Path.{◌≡◌, refl, sym, ap, ap₂, ◌∙◌}
use mathlib.Core.List.{List, [], ◌∷◌, ◌++◌, append_assoc, append-nil, map, flat_map}
use Prim.Native.Nat.{ℕ, zero, suc, ◌+◌, ◌*◌, ◌-◌, ◌≤◌, ◌<◌}
use native.Mathlib.Omega.{arith}
use lib.ListN.{length, get_or, take, drop, length-append, length-drop, take-append-drop}
use lib.Seq.{take_all, take-append-le, take-take, drop_at, length-take-le, get_or_at}
use Rattle.format.specs.Seq.{total}
use Rattle.format.specs.Writer.{band_counts, bands_of, pages_of, roots_in}
use Rattle.format.proofs.HeaderBytes.{length_counts}
use Rattle.format.proofs.WrittenPages.{length-band_bytes}
use Rattle.image_writer.specs.declared.Plan.{Plan}
use Rattle.packing.specs.Run.{Prefixes, band_above, roots_above}
use Rattle.image_writer.specs.Image.{numbers_of, counts_of, pages_in, BandRoom, BandDone, ImageRoom, BandsDone, bytes_of_band, bytes_of_bands, pages_from}
use Rattle.image_writer.proofs.Planning.{bands_up, bands_up_lem, roots_prefixes, page_count, pages_append, first_ones, back_length}

-- the pages before `first` are left: those of the bands above the first n of keys, b of them; `last` is the number after the last page
pub record Writing (keys₀ out₀ counts : List ℕ) (last : ℕ) (keys out : List ℕ) (first n b : ℕ) : Type 0 where
  pub counts_are : counts ≡ counts_of keys₀
  pub room : 64 * last ≤ length out₀
  pub listed : Prefixes (take n keys)
  pub within : n ≤ length keys
  pub bands_few : b ≤ 8
  pub same_keys : length keys ≡ length keys₀
  pub same_out : length out ≡ length out₀
  pub done : List (List (List ℕ))
  pub bands_are : bands_of keys₀ ≡ bands_up b (take n keys) ++ done
  pub first_is : first ≡ 1 + total (map page_count (bands_up b (take n keys)))
  pub size : 64 * first + length (flat_map bytes_of_band done) ≡ 64 * last
  pub out_is : out ≡ take (64 * first) out₀ ++ (flat_map bytes_of_band done ++ drop (64 * last) out₀)

pub writing_start : (keys out : List ℕ) (plan : Plan) → ImageRoom keys out plan → Writing keys out (numbers_of plan.bands) (1 + plan.pages) keys out (1 + plan.pages) (length keys) 8
unfolding flat_map pages_in
writing_start keys out plan g =
    let all : take (length keys) keys ≡ keys = take_all (length keys) keys (omega arith) in
    record {
      counts_are = g.planned.counts_are;
      room = g.room;
      listed = rw all g.listed;
      within = omega arith;
      bands_few = omega arith;
      same_keys = refl;
      same_out = refl;
      done = [];
      bands_are = bands_up_lem keys ∙ ap (bands_up 8) (sym all) ∙ sym (append-nil (bands_up 8 (take (length keys) keys)));
      first_is = ap (1 +◌) (g.planned.pages_are ∙ ap (λ (l : List (List (List ℕ))). total (map page_count l)) (bands_up_lem keys ∙ ap (bands_up 8) (sym all)));
      size = omega arith;
      out_is = sym (take-append-drop (64 * (1 + plan.pages)) out);
    }

pub length_up : (b : ℕ) (q : List ℕ) → length (bands_up b q) ≡ b
length_up zero q = refl
length_up (suc b) q = omega (arith, length-append (bands_up b (roots_above q)) (band_above q ∷ []), length_up b (roots_above q))

flat_append : (f : List (List ℕ) → List ℕ) (a b : List (List (List ℕ))) → flat_map f (a ++ b) ≡ flat_map f a ++ flat_map f b
unfolding flat_map
flat_append f [] b = refl
flat_append f (x ∷ a) b = ap (f x ++◌) (flat_append f a b) ∙ sym (append_assoc (f x) (flat_map f a) (flat_map f b))

pub length_band : (band : List (List ℕ)) → length (bytes_of_band band) ≡ 64 * page_count band
unfolding bytes_of_band
length_band band = length-band_bytes 0 0 (pages_of band)

module _ (keys₀ out₀ counts : List ℕ) (last : ℕ) (keys out : List ℕ) (first n b : ℕ) (s : Writing keys₀ out₀ counts last keys out first n b) (some : 0 < b) where
  b_is_lem : b ≡ suc (b - 1)
  b_is_lem = omega arith

  up : bands_up b (take n keys) ≡ bands_up (b - 1) (roots_above (take n keys)) ++ band_above (take n keys) ∷ []
  up = ap (λ (k : ℕ). bands_up k (take n keys)) b_is_lem

  -- the count that the plan has of the band
  pub count_is : get_or counts (2 * (b - 1)) 0 ≡ page_count (band_above (take n keys))
  unfolding counts_of flat_map band_counts
  count_is =
      let bs = bands_up (b - 1) (roots_above (take n keys)) in
      let all : bands_of keys₀ ≡ bs ++ band_above (take n keys) ∷ s.done = s.bands_are ∙ ap (◌++ s.done) up ∙ append_assoc bs (band_above (take n keys) ∷ []) s.done in
      ap (λ (l : List ℕ). get_or l (2 * (b - 1)) 0) (s.counts_are ∙ ap (flat_map band_counts) all ∙ flat_append band_counts bs (band_above (take n keys) ∷ s.done))
      ∙ get_or_at (flat_map band_counts bs) (page_count (band_above (take n keys))) (roots_in (band_above (take n keys)) ∷ flat_map band_counts s.done) 0 (2 * (b - 1)) (length_counts bs ∙ ap (2 *◌) (length_up (b - 1) (roots_above (take n keys))))

  pages-sum : first ≡ 1 + total (map page_count (bands_up (b - 1) (roots_above (take n keys)))) + page_count (band_above (take n keys))
  unfolding total
  pages-sum = omega (arith, s.first_is, ap (λ (l : List (List (List ℕ))). total (map page_count l)) up, pages_append (bands_up (b - 1) (roots_above (take n keys))) (band_above (take n keys) ∷ []))

  pub count_within : get_or counts (2 * (b - 1)) 0 ≤ first
  count_within = omega (arith, count_is, pages-sum)

  abbrev before : ℕ
  before = first - get_or counts (2 * (b - 1)) 0

  before_is : before + page_count (band_above (take n keys)) ≡ first
  before_is = omega (arith, count_is, count_within)

  pub band_room : BandRoom (take n keys) out (first - get_or counts (2 * (b - 1)) 0)
  band_room = record { listed = s.listed; room = omega (arith, before_is, s.size, s.room, s.same_out) }

  module _ (after out' : List ℕ) (roots : ℕ) (d : BandDone (take n keys) out (first - get_or counts (2 * (b - 1)) 0) after out' roots) where
    q-length : length (take n keys) ≡ n
    q-length = length-take-le n keys s.within

    first-roots : take roots (after ++ drop n keys) ≡ roots_above (take n keys)
    first-roots = first_ones keys n roots after s.within d.memory (omega (arith, d.roots_few, q-length)) d.lifted

    kept-keys : length (after ++ drop n keys) ≡ length keys
    kept-keys = back_length keys n roots after s.within d.memory (omega (arith, d.roots_few, q-length)) d.lifted

    -- the bytes of the band and those of the bands after it
    bytes-length : 64 * before + length (bytes_of_band (band_above (take n keys))) ≡ 64 * first
    bytes-length = omega (arith, before_is, length_band (band_above (take n keys)))

    front_length : length (take (64 * first) out₀) ≡ 64 * first
    front_length = length-take-le (64 * first) out₀ (omega (arith, s.size, s.room))

    out-back : drop (64 * before + length (bytes_of_band (band_above (take n keys)))) out ≡ flat_map bytes_of_band s.done ++ drop (64 * last) out₀
    out-back = ap₂ drop bytes-length s.out_is ∙ drop_at (take (64 * first) out₀) (flat_map bytes_of_band s.done ++ drop (64 * last) out₀) (64 * first) front_length

    out-front : take (64 * before) out ≡ take (64 * before) out₀
    out-front = ap (take (64 * before)) s.out_is ∙ take-append-le (64 * before) (take (64 * first) out₀) (flat_map bytes_of_band s.done ++ drop (64 * last) out₀) (omega (arith, front_length, before_is)) ∙ take-take (64 * before) (64 * first) out₀ (omega (arith, before_is))

    new-out : out' ≡ take (64 * before) out₀ ++ (flat_map bytes_of_band (band_above (take n keys) ∷ s.done) ++ drop (64 * last) out₀)
    unfolding pages_from flat_map
    new-out =
        d.bytes
        ∙ ap₂ (λ (x y : List ℕ). x ++ (bytes_of_band (band_above (take n keys)) ++ y)) out-front out-back
        ∙ ap (take (64 * before) out₀ ++◌) (sym (append_assoc (bytes_of_band (band_above (take n keys))) (flat_map bytes_of_band s.done) (drop (64 * last) out₀)))

    new_size : 64 * before + length (flat_map bytes_of_band (band_above (take n keys) ∷ s.done)) ≡ 64 * last
    unfolding flat_map
    new_size = omega (arith, length-append (bytes_of_band (band_above (take n keys))) (flat_map bytes_of_band s.done), bytes-length, s.size)

    pub writing_next : Writing keys₀ out₀ counts last (after ++ drop n keys) out' (first - get_or counts (2 * (b - 1)) 0) roots (b - 1)
    writing_next =
        record {
          counts_are = s.counts_are;
          room = s.room;
          listed = rw first-roots (roots_prefixes (take n keys) s.listed);
          within = omega (arith, kept-keys, d.roots_few, q-length, s.within);
          bands_few = omega (arith, s.bands_few);
          same_keys = kept-keys ∙ s.same_keys;
          same_out = omega (arith, ap length new-out, length-append (take (64 * before) out₀) (flat_map bytes_of_band (band_above (take n keys) ∷ s.done) ++ drop (64 * last) out₀), length-append (flat_map bytes_of_band (band_above (take n keys) ∷ s.done)) (drop (64 * last) out₀), length-take-le (64 * before) out₀ (omega (arith, before_is, s.size, s.room)), length-drop (64 * last) out₀, new_size, s.room);
          done = band_above (take n keys) ∷ s.done;
          bands_are = s.bands_are ∙ ap (◌++ s.done) up ∙ append_assoc (bands_up (b - 1) (roots_above (take n keys))) (band_above (take n keys) ∷ []) s.done ∙ ap (λ (l : List ℕ). bands_up (b - 1) l ++ band_above (take n keys) ∷ s.done) (sym first-roots);
          first_is = sum ∙ ap (λ (l : List ℕ). 1 + total (map page_count (bands_up (b - 1) l))) (sym first-roots);
          size = new_size;
          out_is = new-out;
        }
      where
        sum : before ≡ 1 + total (map page_count (bands_up (b - 1) (roots_above (take n keys))))
        sum = omega (arith, before_is, pages-sum)

pub writing_end : (keys₀ out₀ counts : List ℕ) (last : ℕ) (keys out : List ℕ) (first n b : ℕ) → Writing keys₀ out₀ counts last keys out first n b → b ≤ 0 → BandsDone keys₀ out₀ keys out
unfolding bytes_of_bands pages_from total
writing_end keys₀ out₀ counts last keys out first n b s none =
    let z : b ≡ 0 = omega arith in
    let d : bands_of keys₀ ≡ s.done = s.bands_are ∙ ap (λ (k : ℕ). bands_up k (take n keys) ++ s.done) z in
    let o : first ≡ 1 = s.first_is ∙ ap (λ (k : ℕ). 1 + total (map page_count (bands_up k (take n keys)))) z in
    let e : 64 * last ≡ 64 * 1 + length (flat_map bytes_of_band (bands_of keys₀)) = sym s.size ∙ ap₂ (λ (k : ℕ) (l : List (List (List ℕ))). 64 * k + length (flat_map bytes_of_band l)) o (sym d) in
    record {
      bytes = s.out_is
          ∙ ap₂ (λ (k : ℕ) (l : List (List (List ℕ))). take (64 * k) out₀ ++ (flat_map bytes_of_band l ++ drop (64 * last) out₀)) o (sym d)
          ∙ ap (λ (k : ℕ). take 64 out₀ ++ (flat_map bytes_of_band (bands_of keys₀) ++ drop k out₀)) e;
      memory = s.same_keys;
    }
