-- Which of the header's questions is the first that gets a no, from the answers to those before it. Assumes nothing.
use mathlib.Core.Path.{◌≡◌, sym}
use mathlib.Core.Bool.{true, false}
use mathlib.Core.Option.{none, some}
use mathlib.Core.List.{List, [], ◌∷◌, map}
use Prim.Native.Nat.{ℕ, ◌+◌, ◌*◌, ◌≤◌, ◌<◌}
use borrow.Author.Tests.{eq-eqb, le-leb, lt-leb, ne_eqb}
use lib.ListN.{length}
use Rattle.format.specs.Seq.{total}
use Rattle.format.specs.Image.{bands, key_count, page_count}
use Rattle.format.specs.Question.{counts_fit, first_no, header_questions, lift_right, mark_right, version_known, zeros_right}

module _ (img : List ℕ) where
  pub no_1 : length img < 64 → some 1 ≡ first_no (header_questions img)
  unfolding header_questions first_no
  no_1 h = rw (lt-leb 64 _ h)

  module _ (long : 64 ≤ length img) where
    pub no_2 : false ≡ mark_right img → some 2 ≡ first_no (header_questions img)
    unfolding header_questions first_no
    no_2 h = rw (le-leb 64 _ long, sym h)

    module _ (mark : true ≡ mark_right img) where
      pub no_3 : false ≡ version_known img → some 3 ≡ first_no (header_questions img)
      unfolding header_questions first_no
      no_3 h = rw (le-leb 64 _ long, sym mark, sym h)

      module _ (version : true ≡ version_known img) (k : ℕ) (k_is : k ≡ key_count img) where
        pub no_4 : 4096 < k → some 4 ≡ first_no (header_questions img)
        unfolding header_questions first_no
        no_4 h = rw (le-leb 64 _ long, sym mark, sym version, sym k_is, lt-leb k 4096 h)

        module _ (few : k ≤ 4096) where
          pub no_5 : false ≡ zeros_right img → some 5 ≡ first_no (header_questions img)
          unfolding header_questions first_no
          no_5 h = rw (le-leb 64 _ long, sym mark, sym version, sym k_is, le-leb k 4096 few, sym h)

          module _ (zeros : true ≡ zeros_right img) where
            pub no_35 : false ≡ lift_right img → some 35 ≡ first_no (header_questions img)
            unfolding header_questions first_no
            no_35 h = rw (le-leb 64 _ long, sym mark, sym version, sym k_is, le-leb k 4096 few, sym zeros, sym h)

            module _ (lift : true ≡ lift_right img) (pages : ℕ) (pages_are : pages ≡ total (map (page_count img) bands)) where
              pub no_6 : (length img ≡ 64 * (1 + pages) → ⊥) → some 6 ≡ first_no (header_questions img)
              unfolding header_questions first_no
              no_6 h = rw (le-leb 64 _ long, sym mark, sym version, sym k_is, le-leb k 4096 few, sym zeros, sym lift, sym pages_are, ne_eqb _ _ h)

              module _ (size : length img ≡ 64 * (1 + pages)) where
                left : first_no (header_questions img) ≡ first_no ((7, counts_fit img) ∷ [])
                unfolding header_questions first_no
                left = rw (le-leb 64 _ long, sym mark, sym version, sym k_is, le-leb k 4096 few, sym zeros, sym lift, sym pages_are, eq-eqb _ _ size)

                pub no_7 : false ≡ counts_fit img → some 7 ≡ first_no (header_questions img)
                unfolding first_no
                no_7 h = rw (left, sym h)

                pub yes_all : true ≡ counts_fit img → none ≡ first_no (header_questions img)
                unfolding first_no
                yes_all h = rw (left, sym h)
