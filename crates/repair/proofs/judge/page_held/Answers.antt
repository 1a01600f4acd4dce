-- `repair::judge::page_held` meets its contract: the page's words have its pairs. Assumes nothing.
use mathlib.Core.Path.{◌≡◌, sym, ap, subst, ◌∙◌}
use mathlib.Core.Bool.{Bool, true, false}
use mathlib.Core.List.{List}
use Prim.Native.Nat.{ℕ, ◌+◌, ◌-◌, ◌≤◌}
use native.Mathlib.Omega.{arith}
use lib.ListN.{length, get_or, take}
use Rattle.format.specs.Seq.{All, every}
use Rattle.format.specs.Trie.{on_bits}
use Rattle.format.specs.Page.{Byte, levels_in, pairs_at}
use Rattle.format.specs.Question.{Yes, is_positive, no_room, node_questions}
use Rattle.nodes.specs.declared.Words.{Words}
use Rattle.nodes.specs.Words.{Gathered, none_empty, pairs_in, words_of}
use Rattle.nodes.proofs.Numbers.{bytes_of}
use Rattle.nodes.proofs.Pairs.{all_counted_in, gathered_from, length_pairs_in, none_empty_in, pairs_are}
use Rattle.repair.specs.declared.roots.Found.{Found}
use Rattle.repair.specs.Inner.{FoundRoots, OnlyRoots, PageHeld, roots_after}
use Rattle.repair.proofs.Judging.{empty_found, found_yes, held_found, links_left, none_found, room_found}
use Rattle.repair.proofs.judge.page_held.Goals as goal

-- the page's bytes and place, its words where they have been gathered, and the nodes of the page before
module _ (img : List ℕ) (fine : All Byte img) (at : ℕ) (inside : at + 64 ≤ length img) (words : Words) (words_are : words ≡ words_of img at) (previous : ℕ) where
  gathered : Gathered words.word words.before
  gathered = gathered_from img fine at inside words_are

  pairs : pairs_in words.word ≡ pairs_at img at
  pairs = pairs_are img fine at inside words words_are

  here : roots_after (pairs_in words.word) previous ≡ 0 → roots_after (pairs_at img at) previous ≡ 0
  here e = sym (ap (λ (ps : List ℕ). roots_after ps previous) pairs) ∙ e

  none : OnlyRoots (pairs_in words.word) 0 → roots_after (pairs_at img at) previous ≡ 0
  none o = here (none_found (pairs_in words.word) (length_pairs_in words.word) previous 0 o (omega arith))

  -- a number of roots was found, and its page's nodes
  module _ (f : Found) (found : FoundRoots words.word words.before f) (t : Bool) (t_is : t ≡ none_empty words.word f.end) where
    used : t ≡ every is_positive (take f.end (pairs_in words.word))
    used = t_is ∙ none_empty_in gathered f.end found.fits

    empty : t ≡ false → roots_after (pairs_at img at) previous ≡ 0
    empty e = here (empty_found (pairs_in words.word) (length_pairs_in words.word) previous f.roots found.only found.some f.end found.end_is found.fits found.zeros (sym used ∙ e))

    -- none of these is 00
    module _ (e : t ≡ true) where
      yes : All Yes (node_questions f.roots (pairs_in words.word))
      yes = found_yes (pairs_in words.word) (length_pairs_in words.word) previous f.roots found.only found.some f.end found.end_is found.fits found.zeros (sym used ∙ e)

      room : (n : Bool) → n ≡ no_room previous (levels_in 4 f.roots (pairs_in words.word)) → n ≡ false → roots_after (pairs_at img at) previous ≡ 0
      room n n_is h =
          here (room_found (pairs_in words.word) (length_pairs_in words.word) previous f.roots found.only found.some f.end found.end_is found.fits found.zeros (sym used ∙ e) (sym n_is ∙ h))

      -- the on bits that are left
      module _ (all : ℕ) (all_is : all ≡ get_or words.before 8 0) where
        bits : all ≡ on_bits (pairs_in words.word)
        bits = all_is ∙ all_counted_in gathered

        left : (f.roots ≤ f.end) × (f.end - f.roots ≤ all)
        left = links_left (pairs_in words.word) (length_pairs_in words.word) previous f.roots found.only found.some f.end found.end_is found.fits found.zeros (sym used ∙ e) all bits

        held : (n : Bool) → n ≡ no_room previous (levels_in 4 f.roots (pairs_in words.word)) → n ≡ true → all ≤ 65535
            → PageHeld (pairs_at img at) previous (record { roots = f.roots; nodes = f.end; links = all - (f.end - f.roots) })
        held n n_is h few =
            subst (λ (qs : List ℕ). PageHeld qs previous (record { roots = f.roots; nodes = f.end; links = all - (f.end - f.roots) })) pairs
            (held_found (pairs_in words.word) (length_pairs_in words.word) previous f.roots found.only found.some f.end found.end_is found.fits found.zeros (sym used ∙ e) (sym n_is ∙ h) all bits few)

pub only_roots-requires : goal.only_roots-requires
only_roots-requires c = (gathered _ (bytes_of _ (λ i. (c.type_inv.image i).fits)) _ c.requires.0 _ c.gather-words.ensures c.args.previous, c.requires.2, c.requires.1)

pub returns-in_err-found : goal.returns-in_err-found
returns-in_err-found c = rw c.from_residual.ensures (none _ (bytes_of _ (λ i. (c.type_inv.image i).fits)) _ c.requires.0 _ c.gather-words.ensures _ c.in_err-found.ensures)

pub returns-then-not-none_empty : goal.returns-then-not-none_empty
returns-then-not-none_empty c =
    empty _ (bytes_of _ (λ i. (c.type_inv.image i).fits)) _ c.requires.0 _ c.gather-words.ensures _ _ c.in_ok-found.ensures _ c.none_empty.ensures c.if-not-none_empty.true

pub page_needed-requires : goal.page_needed-requires
page_needed-requires c =
    let fine = bytes_of _ (λ i. (c.type_inv.image i).fits) in
    let p = c.requires in
    let f = c.in_ok-found.ensures in
    (gathered _ fine _ p.0 _ c.gather-words.ensures c.args.previous, yes _ fine _ p.0 _ c.gather-words.ensures c.args.previous _ f _ c.none_empty.ensures c.if-not-none_empty.false, f.third_is, f.fourth_is, p.1)

pub returns-then-not-page_needed : goal.returns-then-not-page_needed
returns-then-not-page_needed c =
    room _ (bytes_of _ (λ i. (c.type_inv.image i).fits)) _ c.requires.0 _ c.gather-words.ensures _ _ c.in_ok-found.ensures _ c.none_empty.ensures c.if-not-none_empty.false _ c.page_needed.ensures c.if-not-page_needed.true

pub overflow_sub-links : goal.overflow_sub-links
overflow_sub-links c =
    (left _ (bytes_of _ (λ i. (c.type_inv.image i).fits)) _ c.requires.0 _ c.gather-words.ensures c.args.previous _ c.in_ok-found.ensures _ c.none_empty.ensures c.if-not-none_empty.false _ c.on_bits.ensures.0).0

pub overflow_sub-links-2 : goal.overflow_sub-links-2
overflow_sub-links-2 c =
    (left _ (bytes_of _ (λ i. (c.type_inv.image i).fits)) _ c.requires.0 _ c.gather-words.ensures c.args.previous _ c.in_ok-found.ensures _ c.none_empty.ensures c.if-not-none_empty.false _ c.on_bits.ensures.0).1

pub returns : goal.returns
returns c =
    held _ (bytes_of _ (λ i. (c.type_inv.image i).fits)) _ c.requires.0 _ c.gather-words.ensures c.args.previous _ c.in_ok-found.ensures _ c.none_empty.ensures c.if-not-none_empty.false _ c.on_bits.ensures.0 _ c.page_needed.ensures
    c.if-not-page_needed.false (omega (arith, c.on_bits.ensures.1))
