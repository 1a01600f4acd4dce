-- The first pass over the bands, from the last to the first: the plan.
-- Assumes nothing.
use mathlib.Core.Path.{◌≡◌, refl, sym, ap, ap₂, ◌∙◌}
use mathlib.Core.List.{List, [], ◌∷◌, ◌++◌, append_assoc, append-nil, map, flat_map}
use Prim.Native.Nat.{ℕ, zero, suc, ◌+◌, ◌*◌, ◌-◌, ◌≤◌, ◌<◌}
use native.Mathlib.Omega.{arith}
use native.Mathlib.Decide.{ℕ_discrete}
use lib.ListN.{length, get_or, take, drop, set, replicate, length-append, length-drop, length-set, take-append-drop, length-replicate}
use lib.Seq.{take_all, take-append-le, drop-append-le, drop-drop, length-take-le, get_or-set_same, get_or-set_other}
use Rattle.format.specs.Seq.{total, numbers_from}
use Rattle.format.specs.Trie.{parents, levels_over}
use Rattle.format.specs.Image.{bands}
use Rattle.format.specs.Writer.{band_counts, bands_of, pages_of, roots_in}
use Rattle.format.proofs.Trie.{Fits}
use Rattle.format.proofs.Members.{of_ascending, ascending_of}
use Rattle.format.proofs.Bounds.{page_bound, pages_summed}
use Rattle.format.proofs.RunHeads.{heads}
use Rattle.format.proofs.Runs.{band_over, bands_of_keys}
use Rattle.packing.specs.declared.BandCounts.{BandCounts}
use Rattle.packing.specs.Run.{Prefixes, BandCounted, band_above, roots_above}
use Rattle.image_writer.specs.Image.{numbers_of, counts_of, pages_in}
use Rattle.image_writer.specs.Planning.{used_up, FirstPass}
use Rattle.packing.proofs.Runs.{rest_run}
use Rattle.packing.proofs.Bands.{roots_is, heads_few, heads_listed}

-- ---- the bands above prefixes of 4 b bits

abbrev pub bands_up : ℕ → List ℕ → List (List (List ℕ))
bands_up zero q = []
bands_up (suc b) q = bands_up b (roots_above q) ++ band_above q ∷ []

pub bands_up_lem : (keys : List ℕ) → bands_of keys ≡ bands_up 8 keys
unfolding bands numbers_from band_over heads band_above roots_above levels_over
bands_up_lem keys = bands_of_keys keys

-- the prefixes of the roots are such prefixes again
pub roots_prefixes : (q : List ℕ) → Prefixes q → Prefixes (roots_above q)
roots_prefixes [] p = unfold roots_above parents in p
roots_prefixes (x ∷ q) p =
    let l = heads_listed 4 _ _ (x ∷ q) (rest_run (x ∷ q) 0 (of_ascending (x ∷ q) p.ordered) (omega arith)) in
    rw (roots_is (x ∷ q)) (record { few = omega (arith, heads_few 4 (x ∷ q), p.few); ordered = ascending_of (heads 4 (x ∷ q)) l.asc })

-- ---- the first pass

abbrev pub page_count : List (List ℕ) → ℕ
page_count band = length (pages_of band)

-- the pages of bands in a row
pub pages_append : (a b : List (List (List ℕ))) → total (map page_count (a ++ b)) ≡ total (map page_count a) + total (map page_count b)
unfolding total
pages_append [] b = omega arith
pages_append (x ∷ a) b = omega (arith, pages_append a b)

-- once the last band is counted, the keys after its roots are as they were, and the first n are among those before
pub record Kept (keys₀ keys counts : List ℕ) (n b : ℕ) : Type 0 where
  pub whole : b ≡ 8 → keys ≡ keys₀
  pub few : b < 8 → n ≤ get_or counts 15 0
  pub some : b < 8 → get_or counts 15 0 ≤ length keys₀
  pub rest : b < 8 → drop (get_or counts 15 0) keys ≡ drop (get_or counts 15 0) keys₀

-- the pages of an image by format's bound
pages_bounded : (keys : List ℕ) → Prefixes keys → Fits 32 keys → pages_in keys ≤ 384
unfolding pages_in
pages_bounded keys p fits = omega (arith, pages_summed keys, (page_bound.of_list 0 keys fits p.few p.ordered).all_bands)

-- the bands above the first n of keys, b of them, are left
pub record Planning (keys₀ keys counts : List ℕ) (pages n b : ℕ) : Type 0 where
  pub listed : Prefixes (take n keys)
  pub within : n ≤ length keys
  pub same : length keys ≡ length keys₀
  pub done : List (List (List ℕ))
  pub bands_are : bands_of keys₀ ≡ bands_up b (take n keys) ++ done
  pub counts_are : counts ≡ replicate (2 * b) 0 ++ flat_map band_counts done
  pub pages_are : pages ≡ total (map page_count done)
  pub pages_few : pages_in keys₀ ≤ 384
  pub bands_few : b ≤ 8
  pub kept : Kept keys₀ keys counts n b

pub planning_start : (keys : List ℕ) → Prefixes keys → Fits 32 keys → Planning keys keys (replicate 16 0) 0 (length keys) 8
unfolding flat_map total
planning_start keys p fits =
    let all : take (length keys) keys ≡ keys = take_all (length keys) keys (omega arith) in
    record {
      listed = rw all p;
      within = omega arith;
      same = refl;
      done = [];
      bands_are = bands_up_lem keys ∙ ap (bands_up 8) (sym all) ∙ sym (append-nil (bands_up 8 (take (length keys) keys)));
      counts_are = refl;
      pages_are = refl;
      pages_few = pages_bounded keys p fits;
      bands_few = omega arith;
      kept = record { whole = λ e. refl; few = λ h. absurd (omega arith); some = λ h. absurd (omega arith); rest = λ h. absurd (omega arith) };
    }

-- two counts in place of two zeros
counts_stored : (b p r : ℕ) (l : List ℕ) → set (set (replicate (2 * suc b) 0 ++ l) (2 * b) p) (2 * b + 1) r ≡ replicate (2 * b) 0 ++ p ∷ r ∷ l
counts_stored b p r l =
    let e : 2 * suc b ≡ suc (suc (2 * b)) = omega arith in
    ap (λ (n : ℕ). set (set (replicate n 0 ++ l) (2 * b) p) (2 * b + 1) r) e ∙ go (2 * b) (2 * b + 1) (omega arith)
  where
    go : (n m : ℕ) → m ≡ suc n → set (set (replicate (suc (suc n)) 0 ++ l) n p) m r ≡ replicate n 0 ++ p ∷ r ∷ l
    go zero zero e = absurd (omega arith)
    go zero (suc zero) e = refl
    go zero (suc (suc m)) e = absurd (omega arith)
    go (suc n) zero e = absurd (omega arith)
    go (suc n) (suc m) e = ap (0 ∷◌) (go n m (omega arith))

module _ (keys : List ℕ) (n roots : ℕ) (after : List ℕ) (within : n ≤ length keys) (same : length after ≡ length (take n keys)) (few : roots ≤ n) (lifted : take roots after ≡ roots_above (take n keys)) where
  part_length : length after ≡ n
  part_length = same ∙ length-take-le n keys within

  -- the prefixes of the roots stand first
  pub first_ones : take roots (after ++ drop n keys) ≡ roots_above (take n keys)
  first_ones = take-append-le roots after (drop n keys) (omega (arith, part_length)) ∙ lifted

  pub back_length : length (after ++ drop n keys) ≡ length keys
  back_length = omega (arith, length-append after (drop n keys), part_length, length-drop n keys)

-- the band's roots take the first places, and no others
module _ (keys₀ keys counts : List ℕ) (n b' p roots : ℕ) (after : List ℕ) (k : Kept keys₀ keys counts n (suc b')) (room : 2 * suc b' ≤ length counts) (b-few : b' < 8) (within : n ≤ length keys) (same : length keys ≡ length keys₀) (few : roots ≤ n) (all : length after ≡ n) (still : drop roots after ≡ drop roots (take n keys)) where
  rest-still : drop roots (after ++ drop n keys) ≡ drop roots keys
  rest-still =
      drop-append-le roots after (drop n keys) (omega arith)
      ∙ ap (◌++ drop n keys) still
      ∙ sym (drop-append-le roots (take n keys) (drop n keys) (omega (arith, length-take-le n keys within)))
      ∙ ap (drop roots) (take-append-drop n keys)

  after-roots : (u : ℕ) → roots ≤ u → drop u (after ++ drop n keys) ≡ drop u keys
  after-roots u h =
      let e : roots + (u - roots) ≡ u = omega arith in
      ap (λ (j : ℕ). drop j (after ++ drop n keys)) (sym e)
      ∙ sym (drop-drop (u - roots) roots (after ++ drop n keys))
      ∙ ap (drop (u - roots)) rest-still
      ∙ drop-drop (u - roots) roots keys
      ∙ ap (λ (j : ℕ). drop j keys) e

  abbrev counts' : List ℕ
  counts' = set (set counts (2 * b') p) (2 * b' + 1) roots

  kept_next : Kept keys₀ (after ++ drop n keys) counts' roots b'
  kept_next =
      elim (ℕ_discrete b' 7) [
        | yes e ↦
            let u : get_or counts' 15 0 ≡ roots = last e in
            record {
              whole = λ h. absurd (omega arith);
              few = λ h. omega (arith, u);
              some = λ h. omega (arith, u);
              rest = λ h. rw u (rest-still ∙ ap (drop roots) (k.whole (omega arith)));
            }
        | no e ↦
            let u : get_or counts' 15 0 ≡ get_or counts 15 0 = other e in
            let f : n ≤ get_or counts 15 0 = k.few (omega arith) in
            let l : get_or counts 15 0 ≤ length keys₀ = k.some (omega arith) in
            record {
              whole = λ h. absurd (omega arith);
              few = λ h. omega (arith, u, f);
              some = λ h. omega (arith, u, l);
              rest = λ h. rw u (after-roots (get_or counts 15 0) (omega (arith, f)) ∙ k.rest (omega arith));
            }
      ]
    where
      last : b' ≡ 7 → get_or counts' 15 0 ≡ roots
      last e = rw e (get_or-set_same (set counts 14 p) 15 roots 0 (omega (arith, length-set counts 14 p)))

      other : (b' ≡ 7 → ⊥) → get_or counts' 15 0 ≡ get_or counts 15 0
      other e = get_or-set_other (set counts (2 * b') p) (2 * b' + 1) 15 roots 0 (λ h. e (omega arith)) ∙ get_or-set_other counts (2 * b') 15 p 0 (λ h. absurd (omega arith))

module _ (keys₀ keys counts : List ℕ) (pages n b : ℕ) (s : Planning keys₀ keys counts pages n b) where
  pub part_prefixes : Prefixes (take n keys)
  part_prefixes = s.listed

  -- with the pages of the next band there are no more than the image has
  pub planning_few : (r : BandCounts) (after : List ℕ) → 0 < b → BandCounted (take n keys) r after → pages + r.pages ≤ 384
  unfolding pages_in total
  planning_few r after some c =
      let e : b ≡ suc (b - 1) = omega arith in
      let up = bands_up (b - 1) (roots_above (take n keys)) in
      let sum = ap (λ (l : List (List (List ℕ))). total (map page_count l)) (s.bands_are ∙ ap (λ (k : ℕ). bands_up k (take n keys) ++ s.done) e) in
      omega (
        arith,
        sum,
        pages_append (up ++ band_above (take n keys) ∷ []) s.done,
        pages_append up (band_above (take n keys) ∷ []),
        s.pages_are,
        s.pages_few,
        c.pages_are,
      )

  pub planning_next : (r : BandCounts) (after : List ℕ) → 0 < b → BandCounted (take n keys) r after → length after ≡ length (take n keys)
      → Planning keys₀ (after ++ drop n keys) (set (set counts (2 * (b - 1)) r.pages) (2 * (b - 1) + 1) r.roots) (pages + r.pages) r.roots (b - 1)
  planning_next r after some c same = go (b - 1) (omega arith)
    where
      q-length : length (take n keys) ≡ n
      q-length = length-take-le n keys s.within

      first-roots : take r.roots (after ++ drop n keys) ≡ roots_above (take n keys)
      first-roots = first_ones keys n r.roots after s.within same (omega (arith, c.roots_few, q-length)) c.lifted

      pages-is : r.pages ≡ page_count (band_above (take n keys))
      pages-is = c.pages_are

      roots-is' : r.roots ≡ roots_in (band_above (take n keys))
      roots-is' = c.roots_are

      room : 2 * b ≤ length counts
      room = omega (arith, ap length s.counts_are, length-append (replicate (2 * b) 0) (flat_map band_counts s.done), length-replicate {A = ℕ} (2 * b) 0)

      go : (b' : ℕ) → b ≡ suc b' → Planning keys₀ (after ++ drop n keys) (set (set counts (2 * b') r.pages) (2 * b' + 1) r.roots) (pages + r.pages) r.roots b'
      go b' e =
          record {
            listed = rw first-roots (roots_prefixes (take n keys) s.listed);
            within = omega (arith, back_length keys n r.roots after s.within same (omega (arith, c.roots_few, q-length)) c.lifted, c.roots_few, q-length, s.within);
            same = back_length keys n r.roots after s.within same (omega (arith, c.roots_few, q-length)) c.lifted ∙ s.same;
            done = band_above (take n keys) ∷ s.done;
            bands_are = s.bands_are ∙ ap (λ (k : ℕ). bands_up k (take n keys) ++ s.done) e ∙ append_assoc (bands_up b' (roots_above (take n keys))) (band_above (take n keys) ∷ []) s.done ∙ ap (λ (l : List ℕ). bands_up b' l ++ band_above (take n keys) ∷ s.done) (sym first-roots);
            counts_are = ap (λ (l : List ℕ). set (set l (2 * b') r.pages) (2 * b' + 1) r.roots) (s.counts_are ∙ ap (λ (k : ℕ). replicate (2 * k) 0 ++ flat_map band_counts s.done) e)
                ∙ counts_stored b' r.pages r.roots (flat_map band_counts s.done)
                ∙ ap₂ (λ (i j : ℕ). replicate (2 * b') 0 ++ i ∷ j ∷ flat_map band_counts s.done) pages-is roots-is'
                ∙ more b';
            pages_are = sum;
            pages_few = s.pages_few;
            bands_few = omega (arith, s.bands_few);
            kept = kept_next keys₀ keys counts n b' r.pages r.roots after (rw e at s.kept) (rw e at room) (omega (arith, s.bands_few)) s.within s.same (omega (arith, c.roots_few, q-length)) (same ∙ q-length) c.kept;
          }
        where
          more : (b' : ℕ) → replicate (2 * b') 0 ++ length (pages_of (band_above (take n keys))) ∷ roots_in (band_above (take n keys)) ∷ flat_map band_counts s.done ≡ replicate (2 * b') 0 ++ flat_map band_counts (band_above (take n keys) ∷ s.done)
          more b' = unfold flat_map band_counts in refl

          sum : pages + r.pages ≡ total (map page_count (band_above (take n keys) ∷ s.done))
          sum = unfold total in omega (arith, s.pages_are, pages-is)

pub planning_end : (lift : ℕ) (keys₀ keys : List ℕ) (bands : List BandCounts) (pages n b : ℕ) → Planning keys₀ keys (numbers_of bands) pages n b → b ≤ 0 → FirstPass lift keys₀ keys (record { lift = lift; bands = bands; pages = pages })
unfolding counts_of pages_in used_up
planning_end lift keys₀ keys bands pages n b s none =
    let z : b ≡ 0 = omega arith in
    let d : bands_of keys₀ ≡ s.done = s.bands_are ∙ ap (λ (k : ℕ). bands_up k (take n keys) ++ s.done) z in
    let sum : pages ≡ total (map page_count (bands_of keys₀)) = s.pages_are ∙ ap (λ (l : List (List (List ℕ))). total (map page_count l)) (sym d) in
    record {
      planned = record {
        counts_are = s.counts_are ∙ ap (λ (k : ℕ). replicate (2 * k) 0 ++ flat_map band_counts s.done) z ∙ ap (flat_map band_counts) (sym d);
        pages_are = sum;
        few = omega (arith, sum, s.pages_few);
      };
      lift_is = refl;
      used_few = s.kept.some (omega arith);
      memory = record { free = s.same; kept = s.kept.rest (omega arith) };
    }
