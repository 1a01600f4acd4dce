-- A part of a list put back in its place.
-- Assumes nothing.
use mathlib.Core.Path.{◌≡◌, sym, ap, ◌∙◌}
use mathlib.Core.List.{List, ◌++◌}
use Prim.Native.Nat.{ℕ, ◌+◌, ◌≤◌}
use native.Mathlib.Omega.{arith}
use lib.ListN.{length, take, drop, length-append, length-drop}
use lib.Seq.{length-take-le, take-append-le, take-take, drop-append-add, drop-append-le, drop-drop, drop-length}

-- ys in place of k elements from the a-th on
abbrev pub put : ℕ → ℕ → List ℕ → List ℕ → List ℕ
put a k xs ys = take a xs ++ (ys ++ drop k (drop a xs))

module _ (a k : ℕ) (xs ys : List ℕ) (room : a + k ≤ length xs) (same : length ys ≡ k) where
  start-length : length (take a xs) ≡ a
  start-length = length-take-le a xs (omega arith)

  pub length_put : length (put a k xs ys) ≡ length xs
  length_put = omega (arith, length-append (take a xs) (ys ++ drop k (drop a xs)), length-append ys (drop k (drop a xs)), start-length, length-drop k (drop a xs), length-drop a xs)

  pub take_put : (t : ℕ) → t ≤ a → take t (put a k xs ys) ≡ take t xs
  take_put t h = take-append-le t (take a xs) (ys ++ drop k (drop a xs)) (omega (arith, start-length)) ∙ take-take t a xs h

  pub drop_put : (j : ℕ) → j ≤ k → drop (a + j) (put a k xs ys) ≡ drop j ys ++ drop k (drop a xs)
  drop_put j h =
      ap (λ (n : ℕ). drop (n + j) (put a k xs ys)) (sym start-length)
      ∙ drop-append-add (take a xs) (ys ++ drop k (drop a xs)) j
      ∙ drop-append-le j ys (drop k (drop a xs)) (omega arith)

  pub rest_put : drop (a + k) (put a k xs ys) ≡ drop (a + k) xs
  rest_put = drop_put k (omega arith) ∙ ap (◌++ drop k (drop a xs)) (ap (λ (n : ℕ). drop n ys) (sym same) ∙ drop-length ys) ∙ drop-drop k a xs
