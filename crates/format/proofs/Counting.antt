-- Counting in a row of pairs: a page's node count, its out-links and its first subtrie, from on bits before places. Of any bytes, accepted or not.
-- Assumes nothing.
use mathlib.Core.Bool.{Bool, true, false, ◌&&◌}
use mathlib.Core.List.{List, [], ◌∷◌, ◌++◌, flatten}
use mathlib.Core.Path.{◌≡◌, refl, sym, ap, ap₂, ◌∙◌}
use Prim.Native.Nat.{ℕ, zero, suc, ◌+◌, ◌-◌, ◌≤◌}
use native.Mathlib.Omega.{arith}
use lib.ListN.{get_or, take, drop}
use lib.Seq.{take-add, drop-drop, take-take}
use Rattle.format.specs.Seq.{every}
use Rattle.format.specs.Trie.{on_bits}
use Rattle.format.specs.Page.{first_subtries, levels_in, node_count}
use Rattle.format.specs.Image.{page_levels, page_nodes, page_pairs, page_roots}
use Rattle.format.proofs.Subtries.{on_bits-append}

-- the on bits of the first n pairs
unfoldable pub marks : List ℕ → ℕ → ℕ
marks ps n = on_bits (take n ps)

pub marks_add : (ps : List ℕ) (n m : ℕ) → marks ps (n + m) ≡ marks ps n + on_bits (take m (drop n ps))
unfolding marks
marks_add ps n m = ap on_bits (take-add n m ps) ∙ on_bits-append (take n ps) (take m (drop n ps))

pub marks_mono : (ps : List ℕ) (n m : ℕ) → n ≤ m → marks ps n ≤ marks ps m
marks_mono ps n m h = let e : n + (m - n) ≡ m = omega arith in omega (arith, ap (marks ps) e, marks_add ps n (m - n))

-- where the third and the fourth level of a page of r roots start, and where the fourth ends
abbrev pub third_at : List ℕ → ℕ → ℕ
third_at ps r = r + marks ps r

abbrev pub fourth_at : List ℕ → ℕ → ℕ
fourth_at ps r = r + marks ps (third_at ps r)

abbrev pub end_at : List ℕ → ℕ → ℕ
end_at ps r = r + marks ps (fourth_at ps r)

module _ (ps : List ℕ) (r : ℕ) where
  -- the on bits of the four levels
  a : ℕ
  a = on_bits (take r ps)

  b : ℕ
  b = on_bits (take a (drop r ps))

  c : ℕ
  c = on_bits (take b (drop a (drop r ps)))

  d : ℕ
  d = on_bits (take c (drop b (drop a (drop r ps))))

  first_marks : marks ps r ≡ a
  unfolding marks a
  first_marks = refl

  two-marks : marks ps (r + a) ≡ a + b
  unfolding b
  two-marks = marks_add ps r a ∙ ap (◌+ b) first_marks

  three-marks : marks ps (r + a + b) ≡ a + b + c
  unfolding c
  three-marks = marks_add ps (r + a) b ∙ ap₂ (λ (m : ℕ) (l : List ℕ). m + on_bits (take b l)) two-marks (sym (drop-drop a r ps))

  four-marks : marks ps (r + a + b + c) ≡ a + b + c + d
  unfolding d
  four-marks =
      marks_add ps (r + a + b) c
      ∙ ap₂ (λ (m : ℕ) (l : List ℕ). m + on_bits (take c l)) three-marks (sym (ap (drop b) (drop-drop a r ps) ∙ drop-drop b (r + a) ps))

  third_is : third_at ps r ≡ r + a
  third_is = ap (r +◌) first_marks

  fourth_is : fourth_at ps r ≡ r + a + b
  fourth_is = ap (λ (m : ℕ). r + marks ps m) third_is ∙ omega (arith, two-marks)

  end_is : end_at ps r ≡ r + a + b + c
  end_is = ap (λ (m : ℕ). r + marks ps m) fourth_is ∙ omega (arith, three-marks)

  nodes_are : node_count r (levels_in 4 r ps) ≡ r + a + b + c
  unfolding node_count levels_in a b c
  nodes_are = omega arith

  links_are : on_bits (get_or (levels_in 4 r ps) 3 []) ≡ d
  unfolding levels_in a b c d
  links_are = refl

  -- the nodes that are called for
  pub nodes_counted : node_count r (levels_in 4 r ps) ≡ end_at ps r
  nodes_counted = nodes_are ∙ sym end_is

  -- the on bits of the fourth level
  pub links_counted : marks ps (fourth_at ps r) + on_bits (get_or (levels_in 4 r ps) 3 []) ≡ marks ps (end_at ps r)
  links_counted = omega (arith, ap (marks ps) fourth_is, ap (marks ps) end_is, three-marks, four-marks, links_are)

  -- the first subtrie
  module _ (some : 1 ≤ r) where
    fa : ℕ
    fa = on_bits (take 1 (take r ps))

    fb : ℕ
    fb = on_bits (take fa (take a (drop r ps)))

    fc : ℕ
    fc = on_bits (take fb (take b (drop a (drop r ps))))

    fa-is : fa ≡ marks ps 1
    unfolding fa marks
    fa-is = ap on_bits (take-take 1 r ps some)

    fa-le : fa ≤ a
    unfolding a
    fa-le = omega (arith, fa-is, marks_mono ps 1 r some, first_marks)

    fb-is : fb ≡ on_bits (take fa (drop r ps))
    unfolding fb
    fb-is = ap on_bits (take-take fa a (drop r ps) fa-le)

    fb-le : fb ≤ b
    unfolding b
    fb-le = omega (arith, fb-is, marks_mono (drop r ps) fa a fa-le, marks_of fa, marks_of a)
      where
        marks_of : (n : ℕ) → marks (drop r ps) n ≡ on_bits (take n (drop r ps))
        marks_of n = unfold marks in refl

    fc-is : fc ≡ on_bits (take fb (drop a (drop r ps)))
    unfolding fc
    fc-is = ap on_bits (take-take fb b (drop a (drop r ps)) fb-le)

    subtrie-is : node_count 1 (first_subtries 1 (levels_in 4 r ps)) ≡ 1 + fa + fb + fc
    unfolding node_count first_subtries levels_in a b fa fb fc
    subtrie-is = omega arith

    -- with f₁ the on bits of the first pair, f₂ those of the f₁ pairs from the second level's start, f₃ those of the f₂ pairs from the third's
    pub subtrie_counted : (f₁ f₂ f₃ : ℕ) → marks ps 1 ≡ f₁ → marks ps r + f₂ ≡ marks ps (r + f₁) → marks ps (third_at ps r) + f₃ ≡ marks ps (third_at ps r + f₂)
        → node_count 1 (first_subtries 1 (levels_in 4 r ps)) ≡ 1 + f₁ + f₂ + f₃
    subtrie_counted f₁ f₂ f₃ e₁ e₂ e₃ =
        let g₁ : fa ≡ f₁ = fa-is ∙ e₁ in
        let g₂ : fb ≡ f₂ = omega (arith, fb-is, marks_add ps r fa, ap (λ (n : ℕ). marks ps (r + n)) g₁) in
        let h : marks ps (r + a + fb) ≡ marks ps (r + a) + on_bits (take fb (drop a (drop r ps))) = marks_add ps (r + a) fb ∙ ap (λ (l : List ℕ). marks ps (r + a) + on_bits (take fb l)) (sym (drop-drop a r ps)) in
        let g₃ : fc ≡ f₃ = omega (arith, fc-is, h, ap (marks ps) third_is, ap₂ (λ (m n : ℕ). marks ps (m + n)) third_is (sym g₂)) in
        omega (arith, subtrie-is)

-- ---- nodes that are not 00

pub flatten_levels : (n r : ℕ) (ps : List ℕ) → flatten (levels_in n r ps) ≡ take (node_count r (levels_in n r ps)) ps
unfolding flatten levels_in node_count
flatten_levels zero r ps = refl
flatten_levels (suc n) r ps =
    ap (take r ps ++◌) (flatten_levels n (on_bits (take r ps)) (drop r ps)) ∙ sym (take-add r (node_count (on_bits (take r ps)) (levels_in n (on_bits (take r ps)) (drop r ps))) ps)

every_append : (f : ℕ → Bool) (l m : List ℕ) → every f (l ++ m) ≡ (every f l && every f m)
unfolding every
every_append f [] m = refl
every_append f (x ∷ l) m = ap (f x &&◌) (every_append f l m) ∙ and_assoc (f x) (every f l) (every f m)
  where
    and_assoc : (a b c : Bool) → (a && (b && c)) ≡ ((a && b) && c)
    and_assoc true b c = refl
    and_assoc false b c = refl

pub every-flatten : (f : ℕ → Bool) (ls : List (List ℕ)) → every (every f) ls ≡ every f (flatten ls)
unfolding every flatten
every-flatten f [] = refl
every-flatten f (l ∷ ls) = ap (every f l &&◌) (every-flatten f ls) ∙ sym (every_append f l (flatten ls))

-- ---- of a page of an image

module _ (img : List ℕ) (b i : ℕ) where
  pub page_nodes_counted : page_nodes img b i ≡ end_at (page_pairs img b i) (page_roots img b i)
  unfolding page_nodes page_levels
  page_nodes_counted = nodes_counted (page_pairs img b i) (page_roots img b i)
