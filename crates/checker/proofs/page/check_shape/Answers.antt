-- `checker::page::check_shape` meets its contract: 9 to 11 from the page's words, then 12. Assumes nothing.
use mathlib.Core.Path.{◌≡◌, sym, ap, subst, ◌∙◌}
use mathlib.Core.Bool.{Bool}
use mathlib.Core.List.{List}
use Prim.Native.Nat.{ℕ, ◌+◌, ◌≤◌}
use lib.ListN.{length}
use Rattle.std.specs.Prelude.{Result}
use Rattle.std.proofs.lemmas.Result.{err_from_is_err_and}
use Rattle.format.specs.Seq.{All}
use Rattle.format.specs.Page.{Byte, levels_in, pairs_at}
use Rattle.format.specs.Question.{no_room, node_questions}
use Rattle.format.specs.declared.refusal.Refusal.{Refusal}
use Rattle.format.proofs.Questions.{yes_of_none}
use Rattle.nodes.specs.declared.Words.{Words}
use Rattle.nodes.specs.Words.{Gathered, pairs_in, words_of}
use Rattle.nodes.proofs.Numbers.{bytes_of}
use Rattle.nodes.proofs.Pairs.{gathered_from, pairs_are}
use Rattle.checker.specs.declared.page.Shape.{Shape}
use Rattle.checker.specs.Paged.{Asked, questions_after}
use Rattle.checker.proofs.Twelve.{refused_before, needed, not_needed}
use Rattle.checker.proofs.page.check_shape.Goals as goal

-- the page's bytes and place, and its words where they have been gathered
module _ (img : List ℕ) (fine : All Byte img) (at : ℕ) (inside : at + 64 ≤ length img) (words : Words) (words_are : words ≡ words_of img at) where
  gathered : Gathered words.word words.before
  gathered = gathered_from img fine at inside words_are

  pairs : pairs_in words.word ≡ pairs_at img at
  pairs = pairs_are img fine at inside words words_are

  -- what 9 to 11 find
  found : (roots : ℕ) (s : Result Shape Refusal) → Asked (node_questions roots (pairs_in words.word)) (pairs_in words.word) roots s → Asked (node_questions roots (pairs_at img at)) (pairs_at img at) roots s
  found roots s asked = subst (λ (ps : List ℕ). Asked (node_questions roots ps) ps roots s) pairs asked

  -- and 12
  room : (roots previous : ℕ) (t : Bool) → t ≡ no_room previous (levels_in 4 roots (pairs_in words.word)) → t ≡ no_room previous (levels_in 4 roots (pairs_at img at))
  room roots previous t e = e ∙ ap (λ (ps : List ℕ). no_room previous (levels_in 4 roots ps)) pairs

pub third_level-third-requires : goal.third_level-third-requires
third_level-third-requires c =
    let p = c.requires in
    (gathered _ (bytes_of _ (λ i. (c.type_inv.image i).fits)) _ p.0 _ c.gather-words.ensures, p.1, p.2)

pub check_nodes-requires : goal.check_nodes-requires
check_nodes-requires c =
    let p = c.requires in
    (gathered _ (bytes_of _ (λ i. (c.type_inv.image i).fits)) _ p.0 _ c.gather-words.ensures, p.1, p.2, c.fourth_level-fourth.ensures)

pub returns-in_err-shape : goal.returns-in_err-shape
unfolding questions_after
returns-in_err-shape c =
    let p = err_from_is_err_and c.from_residual.result c.from_residual.ensures.1 in
    let f = found _ (bytes_of _ (λ i. (c.type_inv.image i).fits)) _ c.requires.0 _ c.gather-words.ensures _ _ c.in_err-shape.ensures in
    rw (p.1, p.2) record { first_no_is = refused_before _ _ _ _ f.first_no_is; counted = tt; bounded = tt }

pub page_needed-requires : goal.page_needed-requires
page_needed-requires c =
    let p = c.requires in
    (gathered _ (bytes_of _ (λ i. (c.type_inv.image i).fits)) _ p.0 _ c.gather-words.ensures, yes_of_none _ (sym c.in_ok-shape.ensures.first_no_is), c.third_level-third.ensures.0, c.fourth_level-fourth.ensures, p.3)

pub returns-then-not-page_needed : goal.returns-then-not-page_needed
unfolding questions_after
returns-then-not-page_needed c =
    let bytes = bytes_of _ (λ i. (c.type_inv.image i).fits) in
    let f = found _ bytes _ c.requires.0 _ c.gather-words.ensures _ _ c.in_ok-shape.ensures in
    let r = room _ bytes _ c.requires.0 _ c.gather-words.ensures _ _ _ c.page_needed.ensures in
    record { first_no_is = not_needed _ _ _ f.first_no_is _ r c.if-not-page_needed.true; counted = tt; bounded = tt }

pub returns : goal.returns
unfolding questions_after
returns c =
    let bytes = bytes_of _ (λ i. (c.type_inv.image i).fits) in
    let f = found _ bytes _ c.requires.0 _ c.gather-words.ensures _ _ c.in_ok-shape.ensures in
    let r = room _ bytes _ c.requires.0 _ c.gather-words.ensures _ _ _ c.page_needed.ensures in
    record { first_no_is = needed _ _ _ f.first_no_is _ r c.if-not-page_needed.false; counted = f.counted; bounded = f.bounded }
