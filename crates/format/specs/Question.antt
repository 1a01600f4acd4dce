-- The numbered questions. A job asks its questions in order, and its outcome is the number of the first that gets a no, or what the job returns.
-- Assumes nothing.
use Rattle.std.specs.Prelude.{◌≡◌, ℕ, zero, suc, ◌+◌, ◌*◌, Bool, true, ◌&&◌, ◌||◌, cond, leb, ltb, eqb, length, get_or, take, drop}
use Rattle.std.proofs.Math.Option.{Option, none, some}
use mathlib.Core.List.{List, [], ◌∷◌, ◌++◌, map, flat_map}
use Rattle.format.specs.Seq.{numbers_from, up_to, total, every}
use Rattle.format.specs.Page.{first_subtries, levels_in, node_count, number_at}
use Rattle.format.specs.Header.{mark}
use Rattle.format.specs.Image.{bands, version_of, lift_of, key_count, page_count, root_count, page_t, page_b, page_pairs, page_roots, page_levels, page_nodes, out_link_count}

-- ---- questions and outcomes

-- a question's number, and whether the answer is yes
abbrev pub Question : Type 0
Question = ℕ × Bool

abbrev pub Yes : Question → Type 0
Yes q = q.1 ≡ true

-- the number of the first question that gets a no
unfoldable pub first_no : List Question → Option ℕ
first_no [] = none
first_no (q ∷ qs) = cond q.1 (first_no qs) (some q.0)

-- a refusal's number, or what the job returns
pub data Outcome {ℓ} (A : Type ℓ) : Type ℓ where
  refused : ℕ → Outcome A
  returns : A → Outcome A

unfoldable pub outcome {ℓ} : {A : Type ℓ} → Option ℕ → A → Outcome A
outcome none a = returns a
outcome (some n) a = refused n

-- the outcome of a job that asks qs and, where all get a yes, returns a
unfoldable pub settle {ℓ} : {A : Type ℓ} → List Question → A → Outcome A
settle qs a = outcome (first_no qs) a

-- the outcome of a job that goes on from what another returns
unfoldable pub and_then : {A B : Type 0} → Outcome A → (A → Outcome B) → Outcome B
and_then (refused n) next = refused n
and_then (returns a) next = next a

-- what a job leaves in a lent buffer: after a refusal what it held, else xs in its first places and what it held in the others
unfoldable pub filled {ℓ} : {A : Type ℓ} → Outcome A → List ℕ → List ℕ → List ℕ
filled (refused n) xs buffer = buffer
filled (returns a) xs buffer = xs ++ drop (length xs) buffer

-- ---- 1 to 7 and 35, of the header

unfoldable pub is_zero : ℕ → Bool
is_zero n = eqb n 0

unfoldable pub is_positive : ℕ → Bool
is_positive n = leb 1 n

-- whether n is one of 1 to m
abbrev pub one_to : ℕ → ℕ → Bool
one_to m n = leb 1 n && leb n m

-- 2: the first three bytes are the mark
unfoldable pub mark_right : List ℕ → Bool
mark_right img = every (λ i. eqb (get_or img i 0) (get_or mark i 0)) (up_to 3)

-- 3: the version is 1 or 2
unfoldable pub version_known : List ℕ → Bool
version_known img = eqb (version_of img) 1 || eqb (version_of img) 2

-- 5: byte 5 and bytes 40 to 63 are zero; in version 2 bytes 40 and 41, the lift's, are left out
unfoldable pub zeros_right : List ℕ → Bool
zeros_right img = is_zero (get_or img 5 0) && (eqb (version_of img) 2 || is_zero (number_at img 40)) && every is_zero (take 22 (drop 42 img))

-- a lift number: 1 to 999
unfoldable pub is_lift : ℕ → Bool
is_lift n = one_to 999 n

-- 35: the lift of version 2 is a lift number
unfoldable pub lift_right : List ℕ → Bool
lift_right img = eqb (version_of img) 1 || is_lift (lift_of img)

-- 7: with key count 0 all band counts are 0; else band 1 has one page and one root, and every other band count is at least 1
unfoldable pub counts_fit : List ℕ → Bool
counts_fit img =
    cond (is_zero (key_count img))
    (every (λ b. is_zero (page_count img b) && is_zero (root_count img b)) bands)
    (eqb (page_count img 1) 1 && eqb (root_count img 1) 1 && every (λ b. is_positive (page_count img b) && is_positive (root_count img b)) (numbers_from 2 7))

-- 1 to 7, with 35 right after 5: where 1 to 7 or 1 to 13 are named, 35 is among them
unfoldable pub header_questions : List ℕ → List Question
header_questions img =
    (1, leb 64 (length img))
    ∷ (2, mark_right img)
    ∷ (3, version_known img)
    ∷ (4, leb (key_count img) 4096)
    ∷ (5, zeros_right img)
    ∷ (35, lift_right img)
    ∷ (6, eqb (length img) (64 * (1 + total (map (page_count img) bands))))
    ∷ (7, counts_fit img)
    ∷ []

-- ---- 8 to 12, of page i of band b

-- 8: in a band's first page T and B are 0; in a later one B is the previous page's B plus its fourth-level on bits
unfoldable pub head_right : List ℕ → ℕ → ℕ → Bool
head_right img b zero = is_zero (page_t img b 0) && is_zero (page_b img b 0)
head_right img b (suc i) = eqb (page_b img b (suc i)) (page_b img b i + out_link_count img b i)

-- 9 to 11, of a page's 240 pairs with r roots
unfoldable pub node_questions : ℕ → List ℕ → List Question
node_questions r pairs =
    (9, one_to 60 r)
    ∷ (10, leb (node_count r (levels_in 4 r pairs)) 240 && every (every is_positive) (levels_in 4 r pairs))
    ∷ (11, every is_zero (drop (node_count r (levels_in 4 r pairs)) pairs))
    ∷ []

-- 9 to 12, of the same; whether the page is needed is handed in
unfoldable pub questions_from_9 : ℕ → List ℕ → Bool → List Question
questions_from_9 r pairs needed = node_questions r pairs ++ (12, needed) ∷ []

-- the first subtrie of a page's levels has no room on a page that already has so many nodes
unfoldable pub no_room : ℕ → List (List ℕ) → Bool
no_room nodes levels = ltb 240 (node_count 1 (first_subtries 1 levels) + nodes)

-- 12: a later page's first subtrie had no room on the previous page
unfoldable pub page_needed : List ℕ → ℕ → ℕ → Bool
page_needed img b zero = true
page_needed img b (suc i) = no_room (page_nodes img b i) (page_levels img b (suc i))

unfoldable pub page_questions : List ℕ → ℕ → ℕ → List Question
page_questions img b i = (8, head_right img b i) ∷ questions_from_9 (page_roots img b i) (page_pairs img b i) (page_needed img b i)

-- ---- 13, of band b, and all

-- how many out-links band b must have: the roots of the band below, or out of band 8 the keys
unfoldable pub out_links_due : List ℕ → ℕ → ℕ
out_links_due img b = cond (ltb b 8) (root_count img (b + 1)) (key_count img)

-- the questions of a band's pages, then 13
unfoldable pub band_questions : List ℕ → ℕ → List Question
band_questions img b =
    flat_map (page_questions img b) (up_to (page_count img b))
    ++ (13, eqb (total (map (out_link_count img b) (up_to (page_count img b)))) (out_links_due img b)) ∷ []

-- 1 to 13 (with 35), pages in image order
unfoldable pub image_questions : List ℕ → List Question
image_questions img = header_questions img ++ flat_map (band_questions img) bands
