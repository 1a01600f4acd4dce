-- Ranks in the next level's prefixes: how many of them are smaller than a prefix that is one bit longer.
-- Assumes nothing.
use mathlib.Core.List.{List, [], ◌∷◌, Memᴰ}
use mathlib.Core.Path.{◌≡◌, refl, sym, ap, ◌∙◌}
use Prim.Native.Nat.{ℕ, zero, suc, ◌+◌, ◌*◌, ◌/◌, ◌%◌, ◌≤◌, ◌<◌}
use native.Mathlib.Omega.{arith}
use native.Mathlib.Decide.{dec_lt, ℕ_discrete}
use borrow.Author.Tests.{lt-ltb, le-ltb}
use lib.Dec.{eqb}
use lib.ListN.{length, get_or, take}
use Rattle.format.specs.Seq.{cons_if, rank_in, select}
use Rattle.format.specs.Trie.{below, bits, child_at, on_bits}
use Rattle.format.proofs.Trie.{Above, Asc, Nodes}
use Rattle.format.proofs.Members.{asc_tail}
use Rattle.format.proofs.Descent.{above_at, rank_none}

rank_lower : (b x z : ℕ) (l : List ℕ) → b ≤ 1 → x < z → rank_in (cons_if (eqb b 1) x l) z ≡ b + rank_in l z
unfolding rank_in cons_if select
rank_lower zero x z l h k = omega arith
rank_lower (suc zero) x z l h k = rw (lt-ltb x z k) (omega arith)
rank_lower (suc (suc b)) x z l h k = absurd (omega arith)

rank_higher : (b x z : ℕ) (l : List ℕ) → b ≤ 1 → z ≤ x → rank_in (cons_if (eqb b 1) x l) z ≡ rank_in l z
unfolding rank_in cons_if select
rank_higher zero x z l h k = refl
rank_higher (suc zero) x z l h k = rw (le-ltb x z k)
rank_higher (suc (suc b)) x z l h k = absurd (omega arith)

-- the children of one node, all smaller than z or none
rank_under : (p n z : ℕ) (l : List ℕ) → n ≤ 3 → 2 * p + 1 < z → rank_in (cons_if (eqb (n / 2) 1) (2 * p) (cons_if (eqb (n % 2) 1) (2 * p + 1) l)) z ≡ bits n + rank_in l z
unfolding bits
rank_under p n z l v h = omega (arith, rank_lower (n / 2) (2 * p) z (cons_if (eqb (n % 2) 1) (2 * p + 1) l) (omega arith) (omega arith), rank_lower (n % 2) (2 * p + 1) z l (omega arith) h)

rank_over : (p n z : ℕ) (l : List ℕ) → n ≤ 3 → z ≤ 2 * p → rank_in (cons_if (eqb (n / 2) 1) (2 * p) (cons_if (eqb (n % 2) 1) (2 * p + 1) l)) z ≡ rank_in l z
rank_over p n z l v h = rank_higher (n / 2) (2 * p) z (cons_if (eqb (n % 2) 1) (2 * p + 1) l) (omega arith) h ∙ rank_higher (n % 2) (2 * p + 1) z l (omega arith) (omega arith)

-- none below prefixes that are too large
rank_past : (p z : ℕ) (ps ns : List ℕ) → Above p ps → Nodes ns → z ≤ 2 * p + 2 → rank_in (below ps ns) z ≡ 0
unfolding below rank_in select
rank_past p z [] ns a v h = refl
rank_past p z (q ∷ ps) [] a v h = refl
rank_past p z (q ∷ ps) (n ∷ ns) a v h = rank_over q n z (below ps ns) v.1 (omega (arith, a.0)) ∙ rank_past q z ps ns a.1 v.2 (omega (arith, a.0))

-- in a list with a first element
pub rank_first : (p x : ℕ) (ps : List ℕ) → p < x → rank_in (p ∷ ps) x ≡ suc (rank_in ps x)
unfolding rank_in select cons_if
rank_first p x ps h = rw (lt-ltb p x h)

pub rank_zero : (p x : ℕ) (ps : List ℕ) → Above p ps → x ≤ p → rank_in (p ∷ ps) x ≡ 0
unfolding rank_in select cons_if
rank_zero p x ps a h = rw (le-ltb p x h) (rank_none x p ps h a)

-- of a prefix that stands there: the on bits before its bit
pub rank_child : (ps ns : List ℕ) (i t : ℕ) → Asc ps → Nodes ns → length ns ≡ length ps → i < length ps → t ≤ 1 → rank_in (below ps ns) (2 * get_or ps i 0 + t) ≡ child_at ns i t
unfolding below on_bits
rank_child [] ns i t a v e h s = absurd (omega arith)
rank_child (p ∷ ps) [] i t a v e h s = absurd (omega arith)
rank_child (p ∷ ps) (n ∷ ns) zero zero a v e h s =
    let z : 2 * p + 0 ≡ 2 * p = omega arith in
    ap (rank_in (below (p ∷ ps) (n ∷ ns))) z ∙ rank_over p n (2 * p) (below ps ns) v.1 (omega arith) ∙ rank_past p (2 * p) ps ns a v.2 (omega arith)
rank_child (p ∷ ps) (n ∷ ns) zero (suc zero) a v e h s =
    omega (
      arith,
      rank_lower (n / 2) (2 * p) (2 * p + 1) (cons_if (eqb (n % 2) 1) (2 * p + 1) (below ps ns)) (omega (arith, v.1)) (omega arith),
      rank_higher (n % 2) (2 * p + 1) (2 * p + 1) (below ps ns) (omega arith) (omega arith),
      rank_past p (2 * p + 1) ps ns a v.2 (omega arith),
    )
rank_child (p ∷ ps) (n ∷ ns) zero (suc (suc t)) a v e h s = absurd (omega arith)
rank_child (p ∷ ps) (n ∷ ns) (suc i) t a v e h s =
    let up = above_at p ps i a (omega arith) in
    rank_under p n (2 * get_or ps i 0 + t) (below ps ns) v.1 (omega arith)
    ∙ ap (bits n +◌) (rank_child ps ns i t (asc_tail p ps a) v.2 (omega arith) (omega arith) s)
    ∙ more t
  where
    more : (t : ℕ) → bits n + child_at ns i t ≡ child_at (n ∷ ns) (suc i) t
    more zero = refl
    more (suc t) = omega arith

-- of one that does not: the on bits of the smaller prefixes' nodes
pub rank_stranger : (ps ns : List ℕ) (x t : ℕ) → Asc ps → Nodes ns → length ns ≡ length ps → (Memᴰ x ps → ⊥) → t ≤ 1 → rank_in (below ps ns) (2 * x + t) ≡ on_bits (take (rank_in ps x) ns)
unfolding below on_bits
rank_stranger [] [] x t a v e f s = unfold rank_in select in refl
rank_stranger [] (n ∷ ns) x t a v e f s = absurd (omega arith)
rank_stranger (p ∷ ps) [] x t a v e f s = absurd (omega arith)
rank_stranger (p ∷ ps) (n ∷ ns) x t a v e f s =
    elim (dec_lt p x) [
      | yes h ↦ let first : rank_in (p ∷ ps) x ≡ suc (rank_in ps x) = rank_first p x ps h in
          rank_under p n (2 * x + t) (below ps ns) v.1 (omega arith)
          ∙ ap (bits n +◌) (rank_stranger ps ns x t (asc_tail p ps a) v.2 (omega arith) (λ m. f (Memᴰ.tail m)) s)
          ∙ ap (λ (k : ℕ). on_bits (take k (n ∷ ns))) (sym first)
      | no h ↦ elim (ℕ_discrete x p) [
        | yes d ↦ absurd (f (Memᴰ.head d))
        | no d ↦ rank_over p n (2 * x + t) (below ps ns) v.1 (omega arith)
            ∙ rank_past p (2 * x + t) ps ns a v.2 (omega arith)
            ∙ ap (λ (k : ℕ). on_bits (take k (n ∷ ns))) (sym (rank_zero p x ps a (omega arith)))
      ]
    ]
