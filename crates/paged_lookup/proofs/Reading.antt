-- What the eight-page lookup reads: bytes that agree in length, header, T's and the pages of its way have the same outcome.
-- Assumes nothing.
use mathlib.Core.Path.{◌≡◌, refl, sym, ap, ap₂, ◌∙◌, subst}
use mathlib.Core.Bool.{Bool, true, false, not, cond}
use mathlib.Core.Option.{Option, none, some}
use mathlib.Core.List.{List, [], ◌∷◌, ◌++◌}
use Prim.Native.Nat.{ℕ, zero, suc, ◌+◌, ◌-◌, ◌*◌, ◌≤◌, ◌<◌}
use native.Mathlib.Omega.{arith}
use native.Mathlib.Decide.{ℕ_discrete, dec_lt}
use lib.Dec.{eqb, leb, ltb}
use borrow.Author.Tests.{eq-eqb, ne_eqb, le-ltb}
use lib.ListN.{take, drop}
use Rattle.format.specs.Seq.{every, last_below, numbers_from, up_to}
use Rattle.format.specs.Key.{key_of}
use Rattle.format.specs.Page.{levels_in, number_at, pairs_at}
use Rattle.format.specs.Image.{key_count, next_t, page_b, page_count, page_levels, page_number, page_pairs, page_roots, page_t, page_with, root_count}
use Rattle.format.specs.Question.{Outcome, and_then, first_no, header_questions, is_zero, node_questions, outcome, refused, returns, settle}
use Rattle.format.specs.Answer.{LookupAnswer, absent}
use Rattle.format.proofs.LastBelow.{last_same, last_within}
use Rattle.format.proofs.Lists.{all_up_to, every_same}
use Rattle.format.proofs.Checked.{cond_no, cond_yes}
use Rattle.paged_lookup.specs.Paged.{Way, out, off, follow, has_page, is_below, all_smaller, leaving, number, paged_answer, paged_lookup, renumbered, root_questions, through, walk, way_from}
use Rattle.paged_lookup.specs.EightPages.{Agree, Reads, bytes_of_page}
use Rattle.paged_lookup.proofs.SameBytes.{number_same, pairs_same}
use Rattle.paged_lookup.proofs.SameHeader.{keys_same, pages_same, roots_same, due_same, page_number_same, header_same}
use Rattle.paged_lookup.proofs.Bands.{no_27}

-- ---- a band

module _ {x y : List ℕ} {page : ℕ → ℕ} (a : Agree x y page) (key b : ℕ) (lo : 1 ≤ b) (hi : b ≤ 8) where
  count_is : page_count y b ≡ page_count x b
  count_is = pages_same x y a.header_is b hi

  -- T is asked of the band's pages alone
  has_same : (root : ℕ) → has_page y b root ≡ has_page x b root
  unfolding has_page
  has_same root =
      ap (λ (n : ℕ). not (every (λ i. ltb root (page_t y b i)) (up_to n))) count_is
      ∙ ap not (every_same (λ i. ltb root (page_t y b i)) (λ i. ltb root (page_t x b i)) (up_to (page_count x b))
      (all_up_to (λ i. ltb root (page_t y b i) ≡ ltb root (page_t x b i)) (page_count x b) (λ i h. ap (ltb root) (a.t_is b i lo hi h))))

  with-same : (root : ℕ) → page_with y b root ≡ page_with x b root
  unfolding page_with
  with-same root =
      ap (λ (n : ℕ). last_below n (λ i. leb (page_t y b i) root)) count_is
      ∙ last_same (λ i. leb (page_t y b i) root) (λ i. leb (page_t x b i) root) (page_count x b) (λ i h. ap (λ (t : ℕ). leb t root) (a.t_is b i lo hi h))

  module _ (i : ℕ) (in_band : i < page_count x b) where
    roots_are : page_roots y b i ≡ page_roots x b i
    unfolding page_roots next_t
    roots_are = ap₂ ◌-◌ next (a.t_is b i lo hi in_band)
      where
        next : cond (ltb (i + 1) (page_count y b)) (page_t y b (i + 1)) (root_count y b) ≡ cond (ltb (i + 1) (page_count x b)) (page_t x b (i + 1)) (root_count x b)
        next =
            ap₂ (λ (n r : ℕ). cond (ltb (i + 1) n) (page_t y b (i + 1)) r) count_is (roots_same x y a.header_is b hi)
            ∙ elim (dec_lt (i + 1) (page_count x b)) [
              | yes h ↦ ap (λ (t : ℕ). cond (ltb (i + 1) (page_count x b)) t (root_count x b)) (a.t_is b (i + 1) lo hi h)
              | no h ↦ cond_no (ltb (i + 1) (page_count x b)) _ _ (le-ltb (i + 1) (page_count x b) (omega arith)) ∙ sym (cond_no (ltb (i + 1) (page_count x b)) _ _ (le-ltb (i + 1) (page_count x b) (omega arith)))
            ]

    module _ (e : bytes_of_page y b i ≡ bytes_of_page x b i) where
      place : 64 * page_number y b i ≡ 64 * page_number x b i
      place = ap (64 *◌) (page_number_same x y a.header_is b i hi)

      bytes-are : take 64 (drop (64 * page_number x b i) y) ≡ take 64 (drop (64 * page_number x b i) x)
      unfolding bytes_of_page
      bytes-are = ap (λ (n : ℕ). take 64 (drop n y)) (sym place) ∙ e

      b_is : page_b y b i ≡ page_b x b i
      unfolding page_b
      b_is = ap (λ (n : ℕ). number_at y (n + 2)) place ∙ number_same x y (64 * page_number x b i) bytes-are (64 * page_number x b i + 2) (omega arith) (omega arith)

      pairs_are : page_pairs y b i ≡ page_pairs x b i
      unfolding page_pairs
      pairs_are = ap (pairs_at y) place ∙ pairs_same x y (64 * page_number x b i) bytes-are

  -- 28
  leaving-same : (way : Way) → leaving y b way ≡ leaving x b way
  unfolding leaving
  leaving-same way = ap (λ (d : ℕ). settle ((28, is_below d way) ∷ []) way) (due_same x y a.header_is b lo hi)

  onward-same : (o : Outcome Way) → and_then o (leaving y b) ≡ and_then o (leaving x b)
  unfolding and_then
  onward-same (refused n) = refl
  onward-same (returns way) = leaving-same way

  -- 27 to 11 and the way in a page with so many roots and such pairs, T and B
  abbrev in_page : Way → Bool → ℕ → List ℕ → ℕ → ℕ → Outcome Way
  in_page way has roots pairs t n = settle ((27, has) ∷ node_questions roots pairs) (renumbered (n +◌) (follow key (4 * (b - 1)) (levels_in 4 roots pairs) (renumbered (◌- t) way)))

  -- the questions and the way from a root, where its page agrees
  through_same : (way : Way) → bytes_of_page y b (page_with x b (number way)) ≡ bytes_of_page x b (page_with x b (number way)) → through y key b way ≡ through x key b way
  through_same way e =
      elim (ℕ_discrete (page_count x b) 0) [
        | yes z ↦ let none : has_page x b (number way) ≡ false = no_pages z in no_27 y key b way (has_same (number way) ∙ none) ∙ sym (no_27 x key b way none)
        | no z ↦ same (last_within (page_count x b) (λ i. leb (page_t x b i) (number way)) (omega arith))
      ]
    where
      no_pages : page_count x b ≡ 0 → has_page x b (number way) ≡ false
      no_pages z = unfold has_page up_to numbers_from every in ap (λ (n : ℕ). not (every (λ i. ltb (number way) (page_t x b i)) (up_to n))) z

      same : last_below (page_count x b) (λ i. leb (page_t x b i) (number way)) < page_count x b → through y key b way ≡ through x key b way
      same within = unfold through root_questions way_from page_levels in
          let j = page_with x b (number way) in
          let h : j < page_count x b = unfold page_with in within in
          onward-same (in_page way (has_page y b (number way)) (page_roots y b (page_with y b (number way))) (page_pairs y b (page_with y b (number way))) (page_t y b (page_with y b (number way))) (page_b y b (page_with y b (number way))))
          ∙ ap (λ (i : ℕ). and_then (in_page way (has_page y b (number way)) (page_roots y b i) (page_pairs y b i) (page_t y b i) (page_b y b i)) (leaving x b)) (with-same (number way))
          ∙ ap₂ (λ (t : Bool) (n : ℕ). and_then (in_page way t (page_roots y b j) (page_pairs y b j) (page_t y b j) n) (leaving x b)) (has_same (number way)) (b_is j h e)
          ∙ ap₂ (λ (m : ℕ) (l : List ℕ). and_then (in_page way (has_page x b (number way)) m l (page_t y b j) (page_b x b j)) (leaving x b)) (roots_are j h) (pairs_are j h e)
          ∙ ap (λ (t : ℕ). and_then (in_page way (has_page x b (number way)) (page_roots x b j) (page_pairs x b j) t (page_b x b j)) (leaving x b)) (a.t_is b j lo hi h)

  all-smaller-same : (way : Way) → all_smaller y b way ≡ all_smaller x b way
  unfolding all_smaller
  all-smaller-same (out n) = refl
  all-smaller-same (off n) = ap (eqb n) (due_same x y a.header_is b lo hi)

-- ---- the walk

-- what comes of the way out of a band, 0 where there is none
onward : Outcome Way → (Way → ℕ) → ℕ
onward (refused n) f = 0
onward (returns next) f = f next

-- the page of band b, by its index, that the walk with n bands to go takes; 0 where it does not come to the band
taken : List ℕ → ℕ → ℕ → Way → ℕ → ℕ
taken img key zero way b = 0
taken img key (suc n) way b = cond (eqb b (8 - n)) (page_with img b (number way)) (onward (through img key (8 - n) way) (λ next. taken img key n next b))

taken_in : (img : List ℕ) (key n : ℕ) (way : Way) (b : ℕ) → 1 ≤ page_count img b → taken img key n way b < page_count img b
unfolding taken onward
taken_in img key zero way b h = h
taken_in img key (suc n) way b h = go (eqb b (8 - n)) (through img key (8 - n) way) (λ next. taken_in img key n next b h)
  where
    within : page_with img b (number way) < page_count img b
    within = unfold page_with in last_within (page_count img b) (λ i. leb (page_t img b i) (number way)) h

    go : (t : Bool) (o : Outcome Way) → ((next : Way) → taken img key n next b < page_count img b) → cond t (page_with img b (number way)) (onward o (λ next. taken img key n next b)) < page_count img b
    go true o f = within
    go false (refused k) f = h
    go false (returns next) f = f next

module _ {x y : List ℕ} {page : ℕ → ℕ} (a : Agree x y page) (key : ℕ) where
  -- what follows a band, with n bands to go
  after : List ℕ → ℕ → List ℕ → Way → Outcome LookupAnswer
  after img n read next = cond (all_smaller img (8 - n) next) (returns (absent (key_count img))) (walk img key n read next)

  walk_same : (n : ℕ) (pages : List ℕ) (way : Way) → n ≤ 8 → ((b : ℕ) → 9 - n ≤ b → b ≤ 8 → page b ≡ taken x key n way b) → walk y key n pages way ≡ walk x key n pages way
  unfolding walk and_then taken onward after
  walk_same zero pages way h f = refl
  walk_same (suc n) pages way h f =
      let b = 8 - n in
      let i = page_with x b (number way) in
      let here : page b ≡ i = f b (omega arith) (omega arith) ∙ cond_yes (eqb b (8 - n)) _ _ (eq-eqb b (8 - n) refl) in
      let e : bytes_of_page y b i ≡ bytes_of_page x b i = subst (λ (i : ℕ). bytes_of_page y b i ≡ bytes_of_page x b i) here (a.page_is b (omega arith) (omega arith)) in
      let p : page_number y b (page_with y b (number way)) ≡ page_number x b i = page_number_same x y a.header_is b _ (omega arith) ∙ ap (page_number x b) (with-same a key b (omega arith) (omega arith) (number way)) in
      ap₂ (λ (o : Outcome Way) (q : ℕ). and_then o (after y n (pages ++ q ∷ []))) (through_same a key b (omega arith) (omega arith) way e) p
      ∙ go (through x key b way) refl (λ next s. walk_same n (pages ++ page_number x b i ∷ []) next (omega arith) (later next s))
    where
      later : (next : Way) → through x key (8 - n) way ≡ returns next → (b : ℕ) → 9 - n ≤ b → b ≤ 8 → page b ≡ taken x key n next b
      later next s b lo hi =
          f b (omega arith) hi
          ∙ cond_no (eqb b (8 - n)) _ _ (ne_eqb b (8 - n) (λ z. omega arith))
          ∙ ap (λ o. onward o (λ m. taken x key n m b)) s

      go : (o : Outcome Way) → through x key (8 - n) way ≡ o
          → ((next : Way) → through x key (8 - n) way ≡ returns next → walk y key n (pages ++ page_number x (8 - n) (page_with x (8 - n) (number way)) ∷ []) next ≡ walk x key n (pages ++ page_number x (8 - n) (page_with x (8 - n) (number way)) ∷ []) next)
          → and_then o (after y n (pages ++ page_number x (8 - n) (page_with x (8 - n) (number way)) ∷ [])) ≡ and_then o (after x n (pages ++ page_number x (8 - n) (page_with x (8 - n) (number way)) ∷ []))
      go (refused k) s rec = refl
      go (returns next) s rec =
          ap₂ (λ (t : Bool) (k : ℕ). cond t (returns (absent k)) (walk y key n (pages ++ page_number x (8 - n) (page_with x (8 - n) (number way)) ∷ []) next)) (all-smaller-same a key (8 - n) (omega arith) (omega arith) next) (keys_same x y a.header_is)
          ∙ ap (cond (all_smaller x (8 - n) next) (returns (absent (key_count x)))) (rec next s)

  answer-same : ((b : ℕ) → 1 ≤ b → b ≤ 8 → page b ≡ taken x key 8 (out 0) b) → paged_answer y key ≡ paged_answer x key
  unfolding paged_answer
  answer-same f =
      ap₂ (λ (k : ℕ) (w : Outcome LookupAnswer). cond (is_zero k) (returns (absent 0)) w) (keys_same x y a.header_is) (walk_same 8 [] (out 0) (omega arith) (λ b lo hi. f b (omega arith) hi))

-- the same questions, and then the same
then_same : (o : Option ℕ) (f g : ℕ → Outcome LookupAnswer) (key : ℕ) → f key ≡ g key → and_then (outcome o key) f ≡ and_then (outcome o key) g
unfolding and_then outcome
then_same none f g key e = e
then_same (some n) f g key e = refl

pub reads_little : (x : List ℕ) (holder slot : ℕ) → Reads x holder slot
unfolding paged_lookup settle
reads_little x holder slot =
    let key = key_of holder slot in
    record {
      page = taken x key 8 (out 0);
      in_band = λ b h. taken_in x key 8 (out 0) b h;
      enough = λ y a. ap (λ qs. and_then (outcome (first_no qs) key) (paged_answer y)) (header_same x y a.header_is a.length_is)
          ∙ then_same (first_no (header_questions x)) (paged_answer y) (paged_answer x) key (answer-same a key (λ b lo hi. refl));
    }
