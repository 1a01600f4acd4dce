-- The first subtrie of a page, from counts of on bits before places, and question 12. Assumes nothing.
use mathlib.Core.Path.{◌≡◌, sym, ap}
use mathlib.Core.List.{List}
use Prim.Native.Nat.{ℕ, ◌+◌, ◌-◌, ◌≤◌}
use native.Mathlib.Omega.{arith}
use Rattle.format.proofs.Counting.{marks, marks_mono, subtrie_counted, third_at}
use Rattle.nodes.specs.Words.{ones_before, pairs_in}
use Rattle.checker.specs.Paged.{first_nodes}
use Rattle.checker.proofs.Shapes.{Known, Third, marks_few, marks_grow, rank}

-- ---- counted

module _ {word counts : List ℕ} {r a b : ℕ} (t : Third word counts r a b) where
  known : Known word counts r
  known = t.before.known

  -- f on bits in the first root
  pub first_second : (f : ℕ) → f ≡ ones_before word counts 1 → (f ≡ marks (pairs_in word) 1) × (f ≤ 2)
  first_second f h =
      let g = rank known 1 f (omega arith) h in
      (g, omega (arith, marks_few known 1))

  -- x on bits up to the end of the first subtrie's second level
  pub first_third : (f x : ℕ) → f ≤ 2 → x ≡ ones_before word counts (r + f) → (x ≡ marks (pairs_in word) (r + f)) × (a ≤ x) × (x - a ≤ 4)
  first_third f x few h =
      let g = rank known (r + f) x (omega (arith, known.few_roots)) h in
      let i = t.before.is in
      (g, omega (arith, marks_mono (pairs_in word) r (r + f) (omega arith)), omega (arith, marks_grow known r f))

  -- and of its third level
  pub first_fourth : (y x : ℕ) → y ≤ 4 → x ≡ ones_before word counts (r + a + y) → (x ≡ marks (pairs_in word) (r + a + y)) × (b ≤ x) × (x - b ≤ 8)
  first_fourth y x few h =
      let g = rank known (r + a + y) x (omega (arith, known.few_roots, t.before.few)) h in
      let i = t.is in
      (g, omega (arith, marks_mono (pairs_in word) (r + a) (r + a + y) (omega arith)), omega (arith, marks_grow known (r + a) y))

  pub first_is : (f x y : ℕ) → (f ≡ marks (pairs_in word) 1) × (f ≤ 2) → (x ≡ marks (pairs_in word) (r + f)) × (a ≤ x) × (x - a ≤ 4)
      → (y ≡ marks (pairs_in word) (r + a + (x - a))) × (b ≤ y) × (y - b ≤ 8) → 1 + f + (x - a) + (y - b) ≡ first_nodes r (pairs_in word)
  first_is f x y ef ex ey =
      let p : List ℕ = pairs_in word in
      let s = t.before in
      let third_is : r + a ≡ third_at p r = ap (r +◌) s.is in
      sym (subtrie_counted p r s.known.some_roots f (x - a) (y - b) (sym ef.0) (omega (arith, s.is))
      (omega (arith, t.is, ap (marks p) third_is, ap (λ (n : ℕ). marks p (n + (x - a))) third_is)))
