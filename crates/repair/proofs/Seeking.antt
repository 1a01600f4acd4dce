-- The search for a page's roots between bounds.
-- Assumes nothing.
use mathlib.Core.Path.{◌≡◌, sym, ap, ◌∙◌}
use mathlib.Core.List.{List}
use Prim.Native.Nat.{ℕ, ◌+◌, ◌-◌, ◌*◌, ◌/◌, ◌≤◌, ◌<◌}
use native.Mathlib.Nat.{mul-le-mul}
use native.Mathlib.Omega.{arith}
use native.Mathlib.Decide.{dec_le}
use lib.ListN.{length}
use Rattle.format.specs.Seq.{All}
use Rattle.format.specs.Question.{Yes, node_questions}
use Rattle.format.proofs.Counting.{end_at, fourth_at, marks_mono, nodes_counted, third_at}
use Rattle.format.proofs.NodeQuestions.{nodes_of_lem}
use Rattle.nodes.specs.Words.{Gathered, ones_before, pairs_in}
use Rattle.nodes.proofs.Pairs.{length_pairs_in}
use Rattle.checker.specs.Paged.{fourth_in, third_in}
use Rattle.checker.proofs.Shapes.{Third, fourth, levels, marks_few}
use Rattle.repair.specs.declared.roots.Levels.{Levels}
use Rattle.repair.specs.Inner.{FoundRoots, LevelsOf, NodesEnd, OnlyRoots}
use Rattle.repair.proofs.RootsHeld.{fewer, more, same, zeros_from}

-- a product that fits
pub product_small : (n r : ℕ) → n ≤ 240 → r ≤ 60 → n * r ≤ 14400
product_small n r h k = omega (arith, mul-le-mul h k)

-- ---- where the levels start

module _ {word counts : List ℕ} {r : ℕ} (gathered : Gathered word counts) (lo : 1 ≤ r) (hi : r ≤ 60) where
  t : Third word counts r (ones_before word counts r) (ones_before word counts (third_in word counts r))
  t = levels gathered lo hi

  pub fourth_few : fourth_in word counts r ≤ 420
  fourth_few = omega (arith, t.is, t.before.few, marks_few t.before.known (r + ones_before word counts r))

  module _ (third four : ℕ) (e₃ : third ≡ third_in word counts r) (e₄ : four ≡ fourth_in word counts r) where
    -- the fourth starts past the page
    pub levels_past : 240 < four → LevelsOf word counts r (record { third = third; fourth = four; end = four + four / 4 })
    levels_past h =
        let ps : List ℕ = pairs_in word in
        let first : r ≤ third_at ps r = omega arith in
        let second : third_at ps r ≤ fourth_at ps r = omega (arith, marks_mono ps r (third_at ps r) first) in
        record {
          third_is = e₃;
          fourth_is = e₄;
          end_is = λ k. absurd (omega arith);
          past = λ k. omega (arith, nodes_counted ps r, marks_mono ps (third_at ps r) (fourth_at ps r) second, t.place);
          some = omega arith;
          few = omega (arith, fourth_few);
        }

    -- the page ends at r + c
    pub levels_within : four ≤ 240 → (c : ℕ) → c ≡ ones_before word counts four → LevelsOf word counts r (record { third = third; fourth = four; end = r + c })
    levels_within h c e =
        let f = fourth t (omega arith) c (e ∙ ap (ones_before word counts) e₄) in
        record {
          third_is = e₃;
          fourth_is = e₄;
          end_is = λ k. f.nodes_are;
          past = λ k. omega (arith, f.nodes_are);
          some = omega arith;
          few = omega (arith, f.is, marks_few t.before.known (r + ones_before word counts (third_in word counts r)));
        }

-- ---- the search

-- the page's roots, where it has any, are from low to high; a page of `known` roots ends at `end`
pub record Seek (word counts : List ℕ) (low high known end : ℕ) : Type 0 where
  pub gathered : Gathered word counts
  pub some : 1 ≤ low
  pub few : high ≤ 60
  pub order : low ≤ high + 1
  pub known_few : known ≤ 60
  pub end_few : end ≤ 540
  pub from : (q : ℕ) → All Yes (node_questions q (pairs_in word)) → low ≤ q
  pub to : (q : ℕ) → All Yes (node_questions q (pairs_in word)) → q ≤ high

pub seek_start : {word counts : List ℕ} {of per : ℕ} → Gathered word counts → of ≤ 60 → per ≤ 241 → Seek word counts 1 60 of per
seek_start {word} g h k =
    record {
      gathered = g;
      some = omega arith;
      few = omega arith;
      order = omega arith;
      known_few = h;
      end_few = omega arith;
      from = λ q y. (nodes_of_lem q (pairs_in word) y).some_roots;
      to = λ q y. (nodes_of_lem q (pairs_in word) y).few_roots;
    }

module _ {word counts : List ℕ} {low high known end : ℕ} (s : Seek word counts low high known end) where
  pub seek_none : high < low → OnlyRoots (pairs_in word) 0
  seek_none h = record { few = omega arith; only = λ q y. absurd (omega (arith, s.from q y, s.to q y)) }

  module _ (r : ℕ) (lo : low ≤ r) (hi : r ≤ high) (l : Levels) (at : LevelsOf word counts r l) (n : ℕ) (ends : NodesEnd (pairs_in word) n) where
    size : length (pairs_in word) ≡ 240
    size = length_pairs_in word

    end-at : l.end ≤ 240 → l.end ≡ end_at (pairs_in word) r
    end-at h = at.end_is h ∙ nodes_counted (pairs_in word) r

    -- it ends where the nodes do
    pub seek_found : l.end ≡ n → FoundRoots word counts (record { roots = r; third = l.third; fourth = l.fourth; end = l.end })
    seek_found e =
        let fits : l.end ≤ 240 = omega (arith, ends.few) in
        record {
          only = record { few = omega (arith, s.few); only = λ q y. same (pairs_in word) size q r (nodes_of_lem q (pairs_in word) y) n ends (sym (end-at fits) ∙ e) };
          some = omega (arith, s.some);
          third_is = at.third_is;
          fourth_is = at.fourth_is;
          end_is = at.end_is fits;
          fits = fits;
          zeros = zeros_from (pairs_in word) l.end size (λ j from to. ends.zeros j (omega arith) to);
        }

    -- before that
    pub seek_more : l.end < n → Seek word counts (r + 1) high r l.end
    seek_more h =
        record {
          gathered = s.gathered;
          some = omega arith;
          few = s.few;
          order = omega arith;
          known_few = omega (arith, s.few);
          end_few = at.few;
          from = λ q y. omega (arith, more (pairs_in word) size q r (nodes_of_lem q (pairs_in word) y) n ends (omega (arith, end-at (omega (arith, ends.few)))));
          to = s.to;
        }

    -- after it, or past the page
    pub seek_fewer : n < l.end → Seek word counts low (r - 1) r l.end
    seek_fewer h =
        record {
          gathered = s.gathered;
          some = s.some;
          few = omega (arith, s.few);
          order = omega arith;
          known_few = omega (arith, s.few);
          end_few = at.few;
          from = s.from;
          to = λ q y. let b = fewer (pairs_in word) size q r (nodes_of_lem q (pairs_in word) y) n ends after in omega arith;
        }
      where
        after : n < end_at (pairs_in word) r
        after = elim (dec_le l.end 240) [ yes k ↦ omega (arith, end-at k) | no k ↦ omega (arith, ends.few, at.past (omega arith), nodes_counted (pairs_in word) r) ]
