-- Parts of the output written one after the other: a field, a line, the lines.
-- Assumes nothing.
use mathlib.Core.Path.{◌≡◌, refl, sym, ap, ap₂, ◌∙◌}
use mathlib.Core.List.{List, [], ◌∷◌, ◌++◌, append_assoc, append-nil}
use Prim.Native.Nat.{ℕ, suc, ◌+◌, ◌*◌, ◌≤◌, ◌<◌}
use native.Mathlib.Nat.{add-zero}
use native.Mathlib.Numerals.{add-one}
use native.Mathlib.Omega.{arith}
use lib.ListN.{length, get_or, take, set, length-append, length-take}
use lib.Seq.{sets, length-sets, take-suc}
use Rattle.format.specs.Key.{holder_of, slot_of}
use Rattle.format.specs.Text.{decimal, digits, rows}
use Rattle.report.specs.Row.{field_of, row_of, Put}
use Rattle.report.proofs.Digits.{digits-length, sets-append}

pub put_length : (l : List ℕ) (at : ℕ) (xs : List ℕ) (k : ℕ) (m : List ℕ) (n : ℕ) → Put l at xs k m n → length m ≡ length l
put_length l at xs k m n p = ap length p.stored ∙ length-sets l at xs

pub put_nothing : (l : List ℕ) (at : ℕ) → Put l at [] 0 l at
put_nothing l at = record { stored = refl; place = omega arith; few = omega arith }

-- one after the other
pub put_then : (l : List ℕ) (at : ℕ) (xs : List ℕ) (k : ℕ) (m : List ℕ) (n : ℕ) (ys : List ℕ) (j : ℕ) (p : List ℕ) (q : ℕ) → Put l at xs k m n → Put m n ys j p q → Put l at (xs ++ ys) (k + j) p q
put_then l at xs k m n ys j p q f g =
    record {
      stored = g.stored ∙ ap₂ (λ (z : List ℕ) (i : ℕ). sets z i ys) f.stored f.place ∙ sym (sets-append l at xs ys);
      place = omega (arith, f.place, g.place, length-append xs ys);
      few = omega (arith, f.few, g.few, length-append xs ys);
    }

-- the same bytes, said in another way
pub put_same : (l : List ℕ) (at : ℕ) (xs ys : List ℕ) (k j : ℕ) (m : List ℕ) (n : ℕ) → xs ≡ ys → k ≡ j → Put l at xs k m n → Put l at ys j m n
put_same l at xs ys k j m n e f p = rw (← e, ← f) p

-- a number and the byte after it
pub put_field : (l m : List ℕ) (at n end r : ℕ) → m ≡ sets l at (digits 4 n) → r ≡ at + length (digits 4 n) → Put l at (field_of n end) 6 (set m r end) (r + 1)
unfolding field_of decimal
put_field l m at n end r e f =
    put_then l at (digits 4 n) 5 m r (end ∷ []) 1 (set m r end) (r + 1)
    (record { stored = e; place = f; few = omega (arith, digits-length 4 n) })
    (record { stored = refl; place = refl; few = omega arith })

pub field_room : (l m : List ℕ) (at n r : ℕ) → m ≡ sets l at (digits 4 n) → r ≡ at + length (digits 4 n) → at + 6 ≤ length l → r < length m
field_room l m at n r e f room = omega (arith, ap length e, length-sets l at (digits 4 n), digits-length 4 n)

-- a line, as format's `rows` has it
row_then : (key rank : ℕ) (keys : List ℕ) → rows rank (key ∷ keys) ≡ row_of key rank ++ rows (suc rank) keys
unfolding rows row_of field_of
row_then key rank keys = simp append_assoc

rows_snoc : (r : ℕ) (xs : List ℕ) (key : ℕ) → rows r (xs ++ key ∷ []) ≡ rows r xs ++ row_of key (r + length xs)
unfolding rows
rows_snoc r [] key = row_then key r [] ∙ append-nil (row_of key r) ∙ ap (row_of key) (sym (add-zero r))
rows_snoc r (x ∷ xs) key =
    let e : suc r + length xs ≡ r + suc (length xs) = omega arith in
    row_then x r (xs ++ key ∷ [])
    ∙ ap (row_of x r ++◌) (rows_snoc (suc r) xs key ∙ ap (λ (n : ℕ). rows (suc r) xs ++ row_of key n) e)
    ∙ sym (append_assoc (row_of x r) (rows (suc r) xs) (row_of key (r + suc (length xs))))
    ∙ ap (◌++ row_of key (r + suc (length xs))) (sym (row_then x r xs))

-- the lines of one key more
pub next_row : (keys : List ℕ) (i : ℕ) → i < length keys → rows 0 (take i keys) ++ row_of (get_or keys i 0) i ≡ rows 0 (take (i + 1) keys)
next_row keys i h =
    let n : 0 + length (take i keys) ≡ i = omega (arith, length-take i keys) in
    ap (λ (m : ℕ). rows 0 (take i keys) ++ row_of (get_or keys i 0) m) (sym n)
    ∙ sym (rows_snoc 0 (take i keys) (get_or keys i 0))
    ∙ ap (rows 0) (sym (take-suc keys i 0 h) ∙ ap (λ (m : ℕ). take m keys) (sym (add-one i)))

-- three fields are a line
pub put_row : (l m₁ m₂ m₃ : List ℕ) (at n₁ n₂ n₃ key rank h s : ℕ) → h ≡ holder_of key → s ≡ slot_of key → Put l at (field_of h 32) 6 m₁ n₁ → Put m₁ n₁ (field_of s 32) 6 m₂ n₂
    → Put m₂ n₂ (field_of rank 10) 6 m₃ n₃ → Put l at (row_of key rank) 18 m₃ n₃
unfolding row_of
put_row l m₁ m₂ m₃ at n₁ n₂ n₃ key rank h s e f p q r =
    put_same l at (field_of h 32 ++ field_of s 32 ++ field_of rank 10) _ 18 18 m₃ n₃
    (ap₂ (λ (x y : ℕ). field_of x 32 ++ field_of y 32 ++ field_of rank 10) e f) refl
    (put_then l at (field_of h 32 ++ field_of s 32) 12 m₂ n₂ (field_of rank 10) 6 m₃ n₃ (put_then l at (field_of h 32) 6 m₁ n₁ (field_of s 32) 6 m₂ n₂ p q) r)

-- and one line more
pub put_next : (l m m' keys : List ℕ) (at next i next' : ℕ) → i < length keys → Put l at (rows 0 (take i keys)) (18 * i) m next → Put m next (row_of (get_or keys i 0) i) 18 m' next'
    → Put l at (rows 0 (take (i + 1) keys)) (18 * (i + 1)) m' next'
put_next l m m' keys at next i next' h p q =
    put_same l at _ _ (18 * i + 18) (18 * (i + 1)) m' next' (next_row keys i h) (omega arith) (put_then l at (rows 0 (take i keys)) (18 * i) m next (row_of (get_or keys i 0) i) 18 m' next' p q)

pub put_start : (l keys : List ℕ) (at : ℕ) → Put l at (rows 0 (take 0 keys)) (18 * 0) l at
unfolding rows
put_start l keys at = put_nothing l at
