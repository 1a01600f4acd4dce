-- The pages of a band filled in one after the other, each above the next run of prefixes.
-- Assumes nothing.
use mathlib.Core.Path.{◌≡◌, refl, sym, ap, ap₂, ◌∙◌}
use mathlib.Core.List.{List, [], ◌∷◌, ◌++◌, append_assoc, append-nil}
use Prim.Native.Nat.{ℕ, ◌+◌, ◌*◌, ◌-◌, ◌/◌, ◌≤◌, ◌<◌}
use native.Mathlib.Omega.{arith}
use native.Mathlib.Decide.{dec_lt}
use lib.ListN.{length, get_or, take, drop, length-append, length-drop, take-append-drop}
use lib.Seq.{take_all, take_at, drop_at, drop-append-add, drop-drop, drop-length, get_or-drop, length-take-le}
use Rattle.format.specs.Trie.{parents}
use Rattle.format.specs.Writer.{pages_of, roots_in, band_bytes, page_bytes}
use Rattle.format.proofs.Trie.{Asc}
use Rattle.format.proofs.Bytes.{length-page_bytes}
use Rattle.format.proofs.Members.{of_ascending, ascending_of}
use Rattle.format.proofs.RunHeads.{heads}
use Rattle.page_writer.specs.declared.Head.{Head}
use Rattle.packing.specs.declared.PageRun.{PageRun}
use Rattle.packing.specs.Run.{Prefixes, PageIs, band_above}
use Rattle.page_writer.specs.Page.{PageRoom, PageDone}
use Rattle.image_writer.specs.Image.{BandRoom, BandDone, bytes_of_band, pages_from}
use Rattle.image_writer.proofs.Parts.{put, length_put, take_put, drop_put, rest_put}
use Rattle.packing.proofs.Runs.{Run, run_of, part, part_join, part_all, asc_drop}
use Rattle.packing.proofs.Bands.{roots_are, roots_is, roots_join, links_are, no_pages, heads_few}

-- the pages of the first `from` prefixes q are done; keys are what has become of q, and out of out₀
pub record Pages (q out₀ : List ℕ) (first : ℕ) (keys out : List ℕ) (head : Head) (number from : ℕ) : Type 0 where
  pub listed : Prefixes q
  pub room : 64 * (first + length (pages_of (band_above q))) ≤ length out₀
  pub within : from ≤ length q
  pub done : List ℕ
  pub all : done ++ band_bytes head.t.0 head.b.0 (pages_of (band_above (drop from q))) ≡ bytes_of_band (band_above q)
  pub done_size : 64 * first + length done ≡ 64 * number
  pub out_is : out ≡ take (64 * first) out₀ ++ (done ++ drop (64 * number) out₀)
  pub same_out : length out ≡ length out₀
  pub pages_left : number + length (pages_of (band_above (drop from q))) ≡ first + length (pages_of (band_above q))
  pub same_keys : length keys ≡ length q
  pub unread : drop from keys ≡ drop from q
  pub t_is : head.t.0 ≡ length (heads 4 (part 0 from q))
  pub t_few : head.t.0 ≤ from
  pub b_few : head.b.0 ≤ from
  pub lifted : take head.t.0 keys ≡ heads 4 (part 0 from q)
  pub apart : 0 < from → from < length q → get_or q (from - 1) 0 / 16 ≡ get_or q from 0 / 16 → ⊥

heads_none : heads 4 [] ≡ []
unfolding heads parents
heads_none = refl

pub pages_start : (q out : List ℕ) (first : ℕ) → BandRoom q out first → Pages q out first q out (record { t = record { 0 = 0 }; b = record { 0 = 0 } }) first 0
unfolding bytes_of_band
pages_start q out first g =
    record {
      listed = g.listed;
      room = g.room;
      within = omega arith;
      done = [];
      all = refl;
      done_size = omega arith;
      out_is = sym (take-append-drop (64 * first) out);
      same_out = refl;
      pages_left = refl;
      same_keys = refl;
      unread = refl;
      t_is = sym (ap length heads_none);
      t_few = omega arith;
      b_few = omega arith;
      lifted = sym heads_none;
      apart = λ h. absurd (omega arith);
    }

module _ (q out₀ : List ℕ) (first : ℕ) (keys out : List ℕ) (head : Head) (number from : ℕ) (s : Pages q out₀ first keys out head number from) (more : from < length keys) where
  rest-is : take (length keys - from) (drop from keys) ≡ drop from q
  rest-is = take_all (length keys - from) (drop from keys) (omega (arith, length-drop from keys)) ∙ s.unread

  asc : Asc q
  asc = of_ascending q s.listed.ordered

  pub run_room : Prefixes (take (length keys - from) (drop from keys)) × (0 < length (take (length keys - from) (drop from keys)))
  run_room =
      rw rest-is (
        record { few = omega (arith, length-drop from q, s.listed.few); ordered = ascending_of (drop from q) (asc_drop from q asc) },
        omega (arith, length-drop from q, s.same_keys),
      )

  module _ (run : PageRun) (p' : PageIs (take (length keys - from) (drop from keys)) run) where
    p : PageIs (drop from q) run
    p = rw rest-is at p'

    pub end_within : from + run.end ≤ length q
    end_within = omega (arith, p.within, length-drop from q, s.within)

    pub end_after : from < from + run.end
    end_after = omega (arith, p.some)

    here : Run (get_or q from 0) (get_or q (from + run.end - 1) 0) (part from (from + run.end) q)
    here = run_of q from (from + run.end) asc end_after end_within

    -- the run of prefixes in its three forms
    run-q : part from (from + run.end) q ≡ take run.end (drop from q)
    run-q = let e : from + run.end - from ≡ run.end = omega arith in ap (λ (n : ℕ). take n (drop from q)) e

    run-keys : take (from + run.end - from) (drop from keys) ≡ part from (from + run.end) q
    run-keys = ap (take (from + run.end - from)) s.unread

    run_length : length (part from (from + run.end) q) ≡ run.end
    run_length = ap length run-q ∙ length-take-le run.end (drop from q) p.within

    -- there is a page left
    pub number_within : 64 * number + 64 ≤ length out
    number_within = omega (arith, s.pages_left, ap length p.page, s.room, s.same_out)

    pub page_room : PageRoom (take (length out - 64 * number) (drop (64 * number) out)) (take (from + run.end - from) (drop from keys)) run.nodes head
    page_room =
        rw run-keys (record {
          some = omega (arith, run_length, p.some);
          ordered = ascending_of (part from (from + run.end) q) (rw here.is here.above);
          room = omega (arith, number_within, length-drop (64 * number) out, ap length (take_all (length out - 64 * number) (drop (64 * number) out) (omega (arith, length-drop (64 * number) out))));
          counted = rw run-q p.nodes_are;
          fits = p.fits;
          t_fits = omega (arith, s.t_few, run_length, end_within, s.listed.few);
          b_fits = omega (arith, s.b_few, run_length, end_within, s.listed.few);
        })

    module _ (page' keys' : List ℕ) (head' : Head) (d' : PageDone (take (length out - 64 * number) (drop (64 * number) out)) (take (from + run.end - from) (drop from keys)) head page' keys' head') where
      abbrev K : List ℕ
      K = put from (from + run.end - from) keys keys'

      d : PageDone (take (length out - 64 * number) (drop (64 * number) out)) (part from (from + run.end) q) head page' keys' head'
      d = rw run-keys at d'

      abbrev n : ℕ
      n = head'.t.0 - head.t.0

      T-more : head'.t.0 ≡ head.t.0 + length (heads 4 (part from (from + run.end) q))
      T-more = d.t_next ∙ ap (head.t.0 +◌) (roots_are _ _ (part from (from + run.end) q) here)

      n-is : n ≡ length (heads 4 (part from (from + run.end) q))
      n-is = omega (arith, T-more)

      pub t_grows : head.t.0 ≤ head'.t.0
      t_grows = omega (arith, T-more)

      n-few : n ≤ run.end
      n-few = omega (arith, n-is, heads_few 4 (part from (from + run.end) q), run_length)

      keys_length : length keys' ≡ run.end
      keys_length = d.memory.free ∙ run_length

      span : from + run.end - from ≡ run.end
      span = omega arith

      room-there : from + (from + run.end - from) ≤ length keys
      room-there = omega (arith, end_within, s.same_keys)

      keys-fit : length keys' ≡ from + run.end - from
      keys-fit = omega (arith, keys_length)

      K-length : length K ≡ length q
      K-length = length_put from (from + run.end - from) keys keys' room-there keys-fit ∙ s.same_keys

      pub move_room : (head.t.0 + (head'.t.0 - head.t.0) ≤ from + run.end) × (from + run.end ≤ length (put from (from + run.end - from) keys keys'))
      move_room = (omega (arith, n-few, s.t_few), omega (arith, K-length, end_within))

      -- what the moved prefixes are
      moved-are : take n (drop (from + run.end - n) K) ≡ heads 4 (part from (from + run.end) q)
      moved-are =
          let j : from + run.end - n ≡ from + (run.end - n) = omega (arith, n-few) in
          let m : length (part from (from + run.end) q) - roots_in (band_above (part from (from + run.end) q)) ≡ run.end - n = omega (arith, run_length, n-is, roots_are _ _ (part from (from + run.end) q) here) in
          let l : drop (run.end - n) keys' ≡ heads 4 (part from (from + run.end) q) = ap (λ (k : ℕ). drop k keys') (sym m) ∙ d.lifted ∙ roots_is (part from (from + run.end) q) in
          ap (λ (k : ℕ). take n (drop k (put from (from + run.end - from) keys keys'))) j
          ∙ ap (take n) (drop_put from (from + run.end - from) keys keys' room-there keys-fit (run.end - n) (omega (arith, span)) ∙ ap (◌++ drop (from + run.end - from) (drop from keys)) l)
          ∙ take_at (heads 4 (part from (from + run.end) q)) (drop (from + run.end - from) (drop from keys)) n (sym n-is)

      -- the roots of all prefixes up to the run's end
      all-roots : heads 4 (part 0 (from + run.end) q) ≡ heads 4 (part 0 from q) ++ heads 4 (part from (from + run.end) q)
      all-roots =
          ap (heads 4) (part_join q 0 from (from + run.end) (omega arith) (omega arith))
          ∙ elim (dec_lt 0 from) [
            | yes h ↦ roots_join _ _ _ _ (part 0 from q) (part from (from + run.end) q) (run_of q 0 from asc h s.within) here (s.apart h (omega (arith, s.same_keys)))
            | no h ↦ let e : part 0 from q ≡ [] = let z : from - 0 ≡ 0 = omega arith in ap (λ (k : ℕ). take k q) z in
                ap (λ (l : List ℕ). heads 4 (l ++ part from (from + run.end) q)) e ∙ sym (ap (◌++ heads 4 (part from (from + run.end) q)) (ap (heads 4) e ∙ heads_none))
          ]

      module _ (keys'' : List ℕ) (moved : keys'' ≡ take head.t.0 K ++ (take n (drop (from + run.end - n) K) ++ drop (head.t.0 + n) K)) where
        T-length : length (take head.t.0 K) ≡ head.t.0
        T-length = length-take-le head.t.0 K (omega (arith, K-length, s.t_few, s.within))

        moved_length : length (take head.t.0 K ++ take n (drop (from + run.end - n) K)) ≡ head'.t.0
        moved_length = omega (arith, length-append (take head.t.0 K) (take n (drop (from + run.end - n) K)), T-length, ap length moved-are, n-is, t_grows)

        joined : keys'' ≡ (take head.t.0 K ++ take n (drop (from + run.end - n) K)) ++ drop head'.t.0 K
        joined =
            let e : head.t.0 + n ≡ head'.t.0 = omega (arith, t_grows) in
            moved ∙ sym (append_assoc (take head.t.0 K) (take n (drop (from + run.end - n) K)) (drop (head.t.0 + n) K)) ∙ ap (λ (k : ℕ). (take head.t.0 K ++ take n (drop (from + run.end - n) K)) ++ drop k K) e

        new-lifted : take head'.t.0 keys'' ≡ heads 4 (part 0 (from + run.end) q)
        new-lifted =
            ap (take head'.t.0) joined
            ∙ take_at (take head.t.0 K ++ take n (drop (from + run.end - n) K)) (drop head'.t.0 K) head'.t.0 moved_length
            ∙ ap₂ ◌++◌ (take_put from (from + run.end - from) keys keys' room-there keys-fit head.t.0 s.t_few ∙ s.lifted) moved-are
            ∙ sym all-roots

        T-few' : head'.t.0 ≤ from + run.end
        T-few' = omega (arith, n-few, s.t_few, t_grows)

        new-unread : drop (from + run.end) keys'' ≡ drop (from + run.end) q
        new-unread =
            let j : head'.t.0 + (from + run.end - head'.t.0) ≡ from + run.end = omega (arith, T-few') in
            let a : from + (from + run.end - from) ≡ from + run.end = omega arith in
            let r : drop (from + run.end) K ≡ drop (from + run.end) keys = ap (λ (k : ℕ). drop k K) (sym a) ∙ rest_put from (from + run.end - from) keys keys' room-there keys-fit ∙ ap (λ (k : ℕ). drop k keys) a in
            ap₂ drop (sym j) joined
            ∙ ap (λ (k : ℕ). drop (k + (from + run.end - head'.t.0)) ((take head.t.0 K ++ take n (drop (from + run.end - n) K)) ++ drop head'.t.0 K)) (sym moved_length)
            ∙ drop-append-add (take head.t.0 K ++ take n (drop (from + run.end - n) K)) (drop head'.t.0 K) (from + run.end - head'.t.0)
            ∙ drop-drop (from + run.end - head'.t.0) head'.t.0 K
            ∙ ap (λ (k : ℕ). drop k K) j
            ∙ r
            ∙ sym (drop-drop run.end from keys)
            ∙ ap (drop run.end) s.unread
            ∙ drop-drop run.end from q

        new-length : length keys'' ≡ length q
        new-length = omega (arith, ap length joined, length-append (take head.t.0 K ++ take n (drop (from + run.end - n) K)) (drop head'.t.0 K), moved_length, length-drop head'.t.0 K, K-length, T-few', end_within)

        -- the buffer
        at_length : length (take (64 * first) out₀ ++ s.done) ≡ 64 * number
        at_length = omega (arith, length-append (take (64 * first) out₀) s.done, length-take-le (64 * first) out₀ (omega (arith, s.room)), s.done_size)

        out-joined : out ≡ (take (64 * first) out₀ ++ s.done) ++ drop (64 * number) out₀
        out-joined = s.out_is ∙ sym (append_assoc (take (64 * first) out₀) s.done (drop (64 * number) out₀))

        out-rest : drop (64 * number) out ≡ drop (64 * number) out₀
        out-rest = ap (drop (64 * number)) out-joined ∙ drop_at (take (64 * first) out₀ ++ s.done) (drop (64 * number) out₀) (64 * number) at_length

        new-page : List ℕ
        new-page = page_bytes head.t.0 head.b.0 (band_above (part from (from + run.end) q))

        page_is : page' ≡ new-page ++ drop (64 * number + 64) out₀
        unfolding new-page
        page_is =
            d.bytes
            ∙ ap (λ (l : List ℕ). new-page ++ drop 64 l) (take_all (length out - 64 * number) (drop (64 * number) out) (omega (arith, length-drop (64 * number) out)) ∙ out-rest)
            ∙ ap (new-page ++◌) (drop-drop 64 (64 * number) out₀)

        new-out : put (64 * number) (length out - 64 * number) out page' ≡ take (64 * first) out₀ ++ ((s.done ++ new-page) ++ drop (64 * (number + 1)) out₀)
        new-out =
            let none : drop (length out - 64 * number) (drop (64 * number) out) ≡ [] = ap (λ (k : ℕ). drop k (drop (64 * number) out)) (sym (length-drop (64 * number) out)) ∙ drop-length (drop (64 * number) out) in
            let front : take (64 * number) out ≡ take (64 * first) out₀ ++ s.done = ap (take (64 * number)) out-joined ∙ take_at (take (64 * first) out₀ ++ s.done) (drop (64 * number) out₀) (64 * number) at_length in
            let e : 64 * number + 64 ≡ 64 * (number + 1) = omega arith in
            ap₂ (λ (a b : List ℕ). a ++ (page' ++ b)) front none
            ∙ ap ((take (64 * first) out₀ ++ s.done) ++◌) (append-nil page' ∙ page_is ∙ ap (λ (k : ℕ). new-page ++ drop k out₀) e)
            ∙ append_assoc (take (64 * first) out₀) s.done (new-page ++ drop (64 * (number + 1)) out₀)
            ∙ ap (take (64 * first) out₀ ++◌) (sym (append_assoc s.done new-page (drop (64 * (number + 1)) out₀)))

        new_size : 64 * first + length (s.done ++ new-page) ≡ 64 * (number + 1)
        unfolding new-page
        new_size = omega (arith, length-append s.done new-page, length-page_bytes head.t.0 head.b.0 (band_above (part from (from + run.end) q)), s.done_size)

        new-all : (s.done ++ new-page) ++ band_bytes head'.t.0 head'.b.0 (pages_of (band_above (drop (from + run.end) q))) ≡ bytes_of_band (band_above q)
        unfolding band_bytes new-page
        new-all =
            let rest : pages_of (band_above (drop from q)) ≡ band_above (part from (from + run.end) q) ∷ pages_of (band_above (drop (from + run.end) q)) =
            p.page ∙ ap₂ (λ (a b : List ℕ). band_above a ∷ pages_of (band_above b)) (sym run-q) (drop-drop run.end from q) in
            append_assoc s.done new-page (band_bytes head'.t.0 head'.b.0 (pages_of (band_above (drop (from + run.end) q))))
            ∙ ap (s.done ++◌) (ap₂ (λ (t b : ℕ). new-page ++ band_bytes t b (pages_of (band_above (drop (from + run.end) q)))) d.t_next d.b_next ∙ sym (ap (band_bytes head.t.0 head.b.0) rest))
            ∙ s.all

        B-more : head'.b.0 ≡ head.b.0 + run.end
        B-more = d.b_next ∙ ap (head.b.0 +◌) (links_are _ _ (part from (from + run.end) q) here ∙ run_length)

        new-left : number + 1 + length (pages_of (band_above (drop (from + run.end) q))) ≡ first + length (pages_of (band_above q))
        new-left = omega (arith, s.pages_left, ap length p.page, ap (λ (l : List ℕ). length (pages_of (band_above l))) (drop-drop run.end from q))

        pub pages_next : Pages q out₀ first keys'' (put (64 * number) (length out - 64 * number) out page') head' (number + 1) (from + run.end)
        pages_next =
            record {
              listed = s.listed;
              room = s.room;
              within = end_within;
              done = s.done ++ new-page;
              all = new-all;
              done_size = new_size;
              out_is = new-out;
              same_out = omega (arith, ap length new-out, length-append (take (64 * first) out₀) ((s.done ++ new-page) ++ drop (64 * (number + 1)) out₀), length-append (s.done ++ new-page) (drop (64 * (number + 1)) out₀), length-take-le (64 * first) out₀ (omega (arith, s.room)), length-drop (64 * (number + 1)) out₀, new_size, number_within, s.same_out);
              pages_left = new-left;
              same_keys = new-length;
              unread = new-unread;
              t_is = omega (arith, T-more, s.t_is, ap length all-roots, length-append (heads 4 (part 0 from q)) (heads 4 (part from (from + run.end) q)));
              t_few = T-few';
              b_few = omega (arith, B-more, s.b_few);
              lifted = new-lifted;
              apart = λ h k e. p.apart (omega (arith, length-drop from q)) (ap (◌/ 16) (before ∙ sym (ap (λ (j : ℕ). get_or q j 0) step)) ∙ e ∙ ap (◌/ 16) (sym after));
            }
          where
            step : from + run.end - 1 ≡ from + (run.end - 1)
            step = omega (arith, p.some)

            before : get_or (drop from q) (run.end - 1) 0 ≡ get_or q (from + (run.end - 1)) 0
            before = get_or-drop from q (run.end - 1) 0

            after : get_or (drop from q) run.end 0 ≡ get_or q (from + run.end) 0
            after = get_or-drop from q run.end 0

pub pages_end : (q out₀ : List ℕ) (first : ℕ) (keys out : List ℕ) (head : Head) (number from : ℕ) → Pages q out₀ first keys out head number from → length keys ≤ from → BandDone q out₀ first keys out head.t.0
unfolding pages_from band_bytes
pages_end q out₀ first keys out head number from s end =
    let e : from ≡ length q = omega (arith, s.same_keys, s.within) in
    let no_keys : drop from q ≡ [] = ap (λ (j : ℕ). drop j q) e ∙ drop-length q in
    let none : pages_of (band_above (drop from q)) ≡ [] = ap (λ (l : List ℕ). pages_of (band_above l)) no_keys ∙ no_pages in
    let done : s.done ≡ bytes_of_band (band_above q) = sym (append-nil s.done) ∙ ap (s.done ++◌) (sym (ap (band_bytes head.t.0 head.b.0) none)) ∙ s.all in
    let size : 64 * number ≡ 64 * first + length (bytes_of_band (band_above q)) = sym s.done_size ∙ ap (λ (l : List ℕ). 64 * first + length l) done in
    record {
      bytes = s.out_is ∙ ap₂ (λ (a : List ℕ) (k : ℕ). take (64 * first) out₀ ++ (a ++ drop k out₀)) done size;
      roots_few = omega (arith, s.t_few, s.within);
      memory = s.same_keys;
      lifted = s.lifted ∙ ap (heads 4) (part_all q 0 from (omega (arith, s.same_keys))) ∙ sym (roots_is q);
    }
