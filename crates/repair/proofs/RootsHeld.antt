-- A page's roots are told by its pairs: with at most one number of them 9 to 11 get a yes, and where it lies from a number that was tried.
-- Assumes nothing.
use mathlib.Core.Path.{◌≡◌, refl, ap, ◌∙◌}
use mathlib.Core.Bool.{Bool, true, false}
use mathlib.Core.List.{List, []}
use Prim.Native.Nat.{ℕ, ◌+◌, ◌-◌, ◌≤◌, ◌<◌}
use native.Mathlib.Omega.{arith}
use native.Mathlib.Decide.{dec_lt}
use lib.ListN.{length, get_or, drop, get_or-eq_default}
use lib.Seq.{get_or-drop}
use Rattle.format.specs.Seq.{All, every}
use Rattle.format.specs.Trie.{on_bits}
use Rattle.format.specs.Page.{levels_in, node_count}
use Rattle.format.specs.Question.{Question, Yes, is_zero, node_questions}
use Rattle.format.proofs.Lists.{all_every, all_of, every_all}
use Rattle.format.proofs.Bytes.{zero_all}
use Rattle.format.proofs.Counting.{end_at}
use Rattle.format.proofs.LastBelow.{last_below_lem, last_found}
use Rattle.format.proofs.NodeQuestions.{NodesOk, nodes_of_lem, of_nodes}
use Rattle.format.proofs.PageFacts.{PageFacts, end_rises, nodes_facts, same_roots}
use Rattle.repair.specs.Numbers.{all_yes, roots_held}
use Rattle.repair.specs.Inner.{NodesEnd}

-- ---- all questions

pub yes_all : (qs : List Question) → all_yes qs ≡ true → All Yes qs
unfolding all_yes
yes_all qs e = every_all (λ (q : Question). q.1) qs e

pub all_yes_lem : (qs : List Question) → All Yes qs → all_yes qs ≡ true
unfolding all_yes
all_yes_lem qs h = all_every (λ (q : Question). q.1) qs h

pub false-true : false ≡ true → ⊥
false-true e = let z : ◌≡◌ {A = ℕ} 0 1 = cc in omega arith

-- ---- pairs that are 00 from a place on

pub zeros_from : (ps : List ℕ) (e : ℕ) → length ps ≡ 240 → ((j : ℕ) → e ≤ j → j < 240 → get_or ps j 0 ≡ 0) → every is_zero (drop e ps) ≡ true
zeros_from ps e size h =
    zero_all (drop e ps) (all_of (λ z. z ≡ 0) (drop e ps) 0
    (λ i. get_or-drop e ps i 0 ∙ elim (dec_lt (e + i) 240) [ yes k ↦ h (e + i) (omega arith) k | no k ↦ get_or-eq_default ps 0 (omega arith) ]))

module _ (ps : List ℕ) (size : length ps ≡ 240) where
  -- ---- the roots held

  pub roots_only : (q r : ℕ) → NodesOk q ps → NodesOk r ps → q ≡ r
  roots_only q r h k = same_roots ps q r _ _ _ _ (nodes_facts ps q size h) (nodes_facts ps r size k)

  pub held_is : (r : ℕ) → NodesOk r ps → roots_held ps ≡ r
  unfolding roots_held
  held_is r ok =
      last_below_lem 61 (λ r. all_yes (node_questions r ps)) r (omega (arith, ok.few_roots)) (all_yes_lem (node_questions r ps) (of_nodes r ps ok)) (λ j lo hi. go j lo (all_yes (node_questions j ps)) refl)
    where
      go : (j : ℕ) → r < j → (t : Bool) → all_yes (node_questions j ps) ≡ t → all_yes (node_questions j ps) ≡ false
      go j lo true e = absurd (omega (arith, roots_only j r (nodes_of_lem j ps (yes_all (node_questions j ps) e)) ok))
      go j lo false e = e

  -- ---- where they lie from r roots

  module _ (q r : ℕ) (ok : NodesOk q ps) where
    f : PageFacts ps q (node_count q (levels_in 4 q ps)) (on_bits (get_or (levels_in 4 q ps) 3 []))
    f = nodes_facts ps q size ok

    end-mono : (a b : ℕ) → a ≤ b → end_at ps a ≤ end_at ps b
    end-mono a b h = elim (dec_lt a b) [ yes k ↦ omega (arith, end_rises ps a b k) | no k ↦ let e : a ≡ b = omega arith in omega (arith, ap (end_at ps) e) ]

    module _ (n : ℕ) (ends : NodesEnd ps n) where
      -- they end where the nodes do
      end_is : end_at ps q ≡ n
      end_is =
          elim (dec_lt (end_at ps q) n) [
            | yes h ↦ absurd (omega (arith, ends.node (omega arith), f.unused (n - 1) (omega (arith, f.count))))
            | no h ↦ elim (dec_lt n (end_at ps q)) [
              | yes k ↦ absurd (omega (arith, ends.zeros n (omega arith) (omega (arith, f.count, f.within)), f.used n (omega (arith, f.count))))
              | no k ↦ omega arith
            ]
          ]

      -- r roots end before that, after it, or there
      pub more : end_at ps r < n → r < q
      more h = elim (dec_lt r q) [ yes k ↦ k | no k ↦ absurd (omega (arith, end-mono q r (omega arith), end_is)) ]

      pub fewer : n < end_at ps r → q < r
      fewer h = elim (dec_lt q r) [ yes k ↦ k | no k ↦ absurd (omega (arith, end-mono r q (omega arith), end_is)) ]

      pub same : end_at ps r ≡ n → q ≡ r
      same e =
          elim (dec_lt q r) [
            | yes k ↦ absurd (omega (arith, end_rises ps q r k, end_is))
            | no k ↦ elim (dec_lt r q) [ yes m ↦ absurd (omega (arith, end_rises ps r q m, end_is)) | no m ↦ omega arith ]
          ]

-- where there are any, 9 to 11 get a yes with them
pub held_ok : (ps : List ℕ) → 1 ≤ roots_held ps → NodesOk (roots_held ps) ps
unfolding roots_held
held_ok ps h = nodes_of_lem _ ps (yes_all (node_questions (roots_held ps) ps) (last_found 61 (λ r. all_yes (node_questions r ps)) h))
