-- `nodes::gather` meets its contract. Assumes nothing.
use mathlib.Core.Path.{◌≡◌, ap, ◌∙◌}
use mathlib.Core.List.{[], ◌∷◌}
use native.Mathlib.Omega.{arith}
use Rattle.nodes.specs.Words.{words_in, counts_before}
use Rattle.nodes.proofs.gather.Goals as goal

pub overflow_add-at-8 : goal.overflow_add-at-8
overflow_add-at-8 c = omega arith

pub word-requires-7 : goal.word-requires-7
word-requires-7 c = omega arith

pub returns : goal.returns
unfolding words_in
returns c =
    let words : _ ≡ words_in c.args.bytes.now c.args.at =
    λ i.
    c.half.ensures.0 i ∷ c.word.ensures i ∷ c.word-2.ensures i ∷ c.word-3.ensures i ∷ c.word-4.ensures i ∷ c.word-5.ensures i ∷ c.word-6.ensures i ∷ c.word-7.ensures i ∷ 0 ∷ [] in
    λ i. record { word = words i; before = (c.counts_before-before.ensures ∙ ap (counts_before 0) words) i }
