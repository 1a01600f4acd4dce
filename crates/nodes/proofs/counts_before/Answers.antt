-- `nodes::counts_before` meets its contract: each count is the one before it and the set bits of a word. Assumes nothing.
use mathlib.Core.Path.{◌≡◌, refl, sym, ap, ap₂, ◌∙◌}
use mathlib.Core.List.{List, [], ◌∷◌}
use Prim.Native.Nat.{ℕ, zero, suc, ◌+◌, ◌-◌, ◌<◌}
use native.Mathlib.Omega.{arith}
use lib.Count.{ones}
use lib.ListN.{length, get_or, set, length-set}
use borrow.Author.Count.{below_more}
use lib.Seq.{ext_get_or, get_or-set_same, get_or-set_other}
use Rattle.nodes.specs.Words.{counts_before}
use Rattle.nodes.proofs.counts_before.Goals as goal

length_counts : (a : ℕ) (ws : List ℕ) → length (counts_before a ws) ≡ length ws
unfolding counts_before
length_counts a [] = refl
length_counts a (w ∷ ws) = ap suc (length_counts (a + ones w) ws)

-- each count is the one before it and the set bits of the word between
counts_next : (a : ℕ) (ws : List ℕ) (k : ℕ) → suc k < length ws → get_or (counts_before a ws) (suc k) 0 ≡ get_or (counts_before a ws) k 0 + ones (get_or ws k 0)
unfolding counts_before
counts_next a [] k h = absurd (omega arith)
counts_next a (w ∷ []) k h = absurd (omega arith)
counts_next a (w ∷ v ∷ ws) zero h = refl
counts_next a (w ∷ v ∷ ws) (suc k) h = counts_next (a + ones w) (v ∷ ws) k (omega arith)

count_first : (ws : List ℕ) → 0 ≡ get_or (counts_before 0 ws) 0 0
unfolding counts_before
count_first [] = refl
count_first (w ∷ ws) = refl

-- nothing is counted yet
zeros : (k : ℕ) → k < 1 → get_or {A = ℕ} (0 ∷ 0 ∷ 0 ∷ 0 ∷ 0 ∷ 0 ∷ 0 ∷ 0 ∷ 0 ∷ []) k 0 ≡ 0
zeros zero h = refl
zeros (suc k) h = absurd (omega arith)

pub overflow_add-before : goal.overflow_add-before
overflow_add-before c = record { fits = omega (arith, c.loop-j.invariant.few (c.loop-j.j - 1) (omega arith)) }

pub loop-j-init : goal.loop-j-init
loop-j-init c = record {
  long = refl;
  right = λ k h. let z : k ≡ 0 = omega arith in zeros k h ∙ count_first c.args.word.now ∙ ap (λ (i : ℕ). get_or (counts_before 0 c.args.word.now) i 0) (sym z);
  few = λ k h. omega (arith, zeros k h);
}

pub loop-j-preserved : goal.loop-j-preserved
loop-j-preserved c =
    let i = c.loop-j.invariant in
    let j : ℕ = c.loop-j.j in
    let last : suc (j - 1) ≡ j = omega arith in
    let sum : ℕ = get_or c.loop-j.before (j - 1) 0 + c.ones_of.result in
    let here : get_or (set c.loop-j.before j sum) j 0 ≡ sum = get_or-set_same c.loop-j.before j sum 0 (omega (arith, i.long)) in
    let counted : sum ≡ get_or (counts_before 0 c.args.word.now) j 0 =
    ap₂ ◌+◌ (i.right (j - 1) (omega arith)) c.ones_of.ensures.0
    ∙ sym (counts_next 0 c.args.word.now (j - 1) (omega (arith, c.told-word)))
    ∙ ap (λ (k : ℕ). get_or (counts_before 0 c.args.word.now) k 0) last in
    let others = λ (k : ℕ) (h : k < j). get_or-set_other c.loop-j.before j k sum 0 (λ e. omega arith) in
    record {
      long = length-set c.loop-j.before j sum ∙ i.long;
      right = below_more _ _ (λ k h. others k h ∙ i.right k h) (here ∙ counted);
      few = below_more _ _ (λ k h. omega (arith, others k h, i.few k h)) (omega (arith, here, i.few (j - 1) (omega arith), c.ones_of.ensures.1));
    }

pub returns : goal.returns
returns c =
    let i = c.loop-j.invariant in
    ext_get_or 0 c.loop-j.before (counts_before 0 c.args.word.now) (i.long ∙ sym (length_counts 0 c.args.word.now ∙ c.told-word)) (λ k h. i.right k (omega (arith, i.long)))
