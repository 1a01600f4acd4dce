-- An ascending list of keys with one added or withdrawn, by its members.
-- Assumes nothing.
use mathlib.Core.Path.{◌≡◌, refl, sym, ap}
use mathlib.Core.Logic.{◌⊎◌, inl, inr, ⊎_elim}
use mathlib.Core.List.{List, [], ◌∷◌, ◌++◌, Memᴰ}
use Prim.Native.Nat.{ℕ, ◌+◌, ◌<◌}
use native.Mathlib.Omega.{arith}
use native.Mathlib.Decide.{dec_lt, ℕ_discrete}
use borrow.Author.Tests.{lt-ltb, ltb-true}
use lib.Dec.{ltb}
use lib.ListN.{length, length-append}
use Rattle.format.proofs.Trie.{Above, Asc, Fits}
use Rattle.format.proofs.Members.{asc_same, fits_mem, mem_all, mem-select, select_asc, select-mem}
use Rattle.edit.specs.declared.Change.{Change}
use Rattle.edit.specs.declared.Change.TheVariants.{Add, Withdraw}
use Rattle.edit.specs.Edit.{changed_keys, keys_above, keys_below}

-- ---- ascending lists one after the other

above_append : (x : ℕ) (a b : List ℕ) → Above x a → Asc b → ((k : ℕ) → Memᴰ k b → x < k) → ((j k : ℕ) → Memᴰ j a → Memᴰ k b → j < k) → Above x (a ++ b)
above_append x [] [] h k f g = tt
above_append x [] (y ∷ b) h k f g = (f y (mathlib.Core.List.Memᴰ.head refl), k)
above_append x (z ∷ a) b h k f g = (h.0, above_append z a b h.1 k (λ w m. g z w (mathlib.Core.List.Memᴰ.head refl) m) (λ j w m n. g j w (mathlib.Core.List.Memᴰ.tail m) n))

asc_append : (a b : List ℕ) → Asc a → Asc b → ((j k : ℕ) → Memᴰ j a → Memᴰ k b → j < k) → Asc (a ++ b)
asc_append [] b h k g = k
asc_append (x ∷ a) b h k g = above_append x a b h k (λ w m. g x w (mathlib.Core.List.Memᴰ.head refl) m) (λ j w m n. g j w (mathlib.Core.List.Memᴰ.tail m) n)

-- ---- members

module _ (key : ℕ) (keys : List ℕ) where
  mem_below : (k : ℕ) → Memᴰ k keys → k < key → Memᴰ k (keys_below key keys)
  unfolding keys_below
  mem_below k m h = mem-select (λ j. ltb j key) k keys m (lt-ltb k key h)

  below-mem : (k : ℕ) → Memᴰ k (keys_below key keys) → Memᴰ k keys × (k < key)
  unfolding keys_below
  below-mem k m = let (t, e) = select-mem (λ j. ltb j key) k keys m in (t, ltb-true k key e)

  mem-above : (k : ℕ) → Memᴰ k keys → key < k → Memᴰ k (keys_above key keys)
  unfolding keys_above
  mem-above k m h = mem-select (λ j. ltb key j) k keys m (lt-ltb key k h)

  above_mem : (k : ℕ) → Memᴰ k (keys_above key keys) → Memᴰ k keys × (key < k)
  unfolding keys_above
  above_mem k m = let (t, e) = select-mem (λ j. ltb key j) k keys m in (t, ltb-true key k e)

  -- the key is there once it is added
  pub added_key : Memᴰ key (changed_keys Add key keys)
  unfolding changed_keys
  added_key = mathlib.Core.List.Memᴰ.append_right (keys_below key keys) (mathlib.Core.List.Memᴰ.head refl)

  -- every other key stays
  pub kept : (change : Change) (k : ℕ) → Memᴰ k keys → (k ≡ key → ⊥) → Memᴰ k (changed_keys change key keys)
  unfolding changed_keys
  kept Add k m ne =
      elim (dec_lt k key) [
        | yes h ↦ mathlib.Core.List.Memᴰ.append_left (key ∷ keys_above key keys) (mem_below k m h)
        | no h ↦ mathlib.Core.List.Memᴰ.append_right (keys_below key keys) (mathlib.Core.List.Memᴰ.tail (mem-above k m (omega (arith, ne))))
      ]
  kept Withdraw k m ne =
      elim (dec_lt k key) [
        | yes h ↦ mathlib.Core.List.Memᴰ.append_left (keys_above key keys) (mem_below k m h)
        | no h ↦ mathlib.Core.List.Memᴰ.append_right (keys_below key keys) (mem-above k m (omega (arith, ne)))
      ]

  -- and none comes
  pub of_add : (k : ℕ) → Memᴰ k (changed_keys Add key keys) → (k ≡ key) ⊎ Memᴰ k keys
  unfolding changed_keys
  of_add k m =
      ⊎_elim (λ (t : Memᴰ k (keys_below key keys)). inr (below-mem k t).0)
      (λ (t : Memᴰ k (key ∷ keys_above key keys)). ⊎_elim (λ (e : k ≡ key). inl e) (λ (u : Memᴰ k (keys_above key keys)). inr (above_mem k u).0) (mathlib.Core.List.Memᴰ.cases_cons t))
      (mathlib.Core.List.Memᴰ.append_cases (keys_below key keys) m)

  pub of_withdraw : (k : ℕ) → Memᴰ k (changed_keys Withdraw key keys) → Memᴰ k keys × (k ≡ key → ⊥)
  unfolding changed_keys
  of_withdraw k m =
      ⊎_elim (λ (t : Memᴰ k (keys_below key keys)). let b = below-mem k t in (b.0, λ e. omega (arith, b.1)))
      (λ (t : Memᴰ k (keys_above key keys)). let b = above_mem k t in (b.0, λ e. omega (arith, b.1))) (mathlib.Core.List.Memᴰ.append_cases (keys_below key keys) m)

  pub of_other : (change : Change) (k : ℕ) → Memᴰ k (changed_keys change key keys) → (k ≡ key → ⊥) → Memᴰ k keys
  of_other Add k m ne = ⊎_elim (λ (e : k ≡ key). absurd (ne e)) (λ (u : Memᴰ k keys). u) (of_add k m)
  of_other Withdraw k m ne = (of_withdraw k m).0

-- ---- order and size

module _ (key : ℕ) (keys : List ℕ) (a : Asc keys) where
  asc-above : Asc (keys_above key keys)
  unfolding keys_above
  asc-above = select_asc (λ k. ltb key k) keys a

  asc-below : Asc (keys_below key keys)
  unfolding keys_below
  asc-below = select_asc (λ k. ltb k key) keys a

  pub asc_changed : (change : Change) → Asc (changed_keys change key keys)
  unfolding changed_keys
  asc_changed Add =
      asc_append (keys_below key keys) (key ∷ keys_above key keys) asc-below (above-all (keys_above key keys) asc-above (λ k m. (above_mem key keys k m).1))
      (λ j k m n. ⊎_elim (λ (e : k ≡ key). omega (arith, (below-mem key keys j m).1)) (λ (t : Memᴰ k (keys_above key keys)). omega (arith, (below-mem key keys j m).1, (above_mem key keys k t).1)) (mathlib.Core.List.Memᴰ.cases_cons n))
    where
      above-all : (l : List ℕ) → Asc l → ((k : ℕ) → Memᴰ k l → key < k) → Above key l
      above-all [] b f = tt
      above-all (y ∷ l) b f = (f y (mathlib.Core.List.Memᴰ.head refl), b)
  asc_changed Withdraw = asc_append (keys_below key keys) (keys_above key keys) asc-below asc-above (λ j k m n. omega (arith, (below-mem key keys j m).1, (above_mem key keys k n).1))

  pub fits_changed : (change : Change) → key < 4294967296 → Fits 32 keys → Fits 32 (changed_keys change key keys)
  fits_changed change small f = mem_all _ (changed_keys change key keys) (λ k m. elim (ℕ_discrete k key) [ yes e ↦ omega arith | no ne ↦ fits_mem 32 k keys f (of_other key keys change k m ne) ])

  -- to withdraw a key that is not listed, and to add one that is, changes nothing
  pub absent_same : (Memᴰ key keys → ⊥) → changed_keys Withdraw key keys ≡ keys
  absent_same f =
      asc_same (changed_keys Withdraw key keys) keys (asc_changed Withdraw) a (λ k m. (of_withdraw key keys k m).0)
      (λ k m. kept key keys Withdraw k m (λ e. f (mathlib.Core.List.Memᴰ.cast (sym e) m)))

  pub listed_same : Memᴰ key keys → changed_keys Add key keys ≡ keys
  listed_same t =
      asc_same (changed_keys Add key keys) keys (asc_changed Add) a (λ k m. ⊎_elim (λ (e : k ≡ key). mathlib.Core.List.Memᴰ.cast e t) (λ (u : Memᴰ k keys). u) (of_add key keys k m))
      (λ k m. elim (ℕ_discrete k key) [ yes e ↦ mathlib.Core.List.Memᴰ.cast e (added_key key keys) | no ne ↦ kept key keys Add k m ne ])

  one_more : length (changed_keys Add key keys) ≡ length (changed_keys Withdraw key keys) + 1
  unfolding changed_keys
  one_more = omega (arith, length-append (keys_below key keys) (key ∷ keys_above key keys), length-append (keys_below key keys) (keys_above key keys))

  pub add_length : (Memᴰ key keys → ⊥) → length (changed_keys Add key keys) ≡ length keys + 1
  add_length f = omega (arith, one_more, ap length (absent_same f))

  pub withdraw_length : Memᴰ key keys → length (changed_keys Withdraw key keys) + 1 ≡ length keys
  withdraw_length t = omega (arith, one_more, ap length (listed_same t))

-- ---- one change after the other

pub add_undone : (key : ℕ) (keys : List ℕ) → Asc keys → (Memᴰ key keys → ⊥) → changed_keys Withdraw key (changed_keys Add key keys) ≡ keys
add_undone key keys a f =
    asc_same (changed_keys Withdraw key (changed_keys Add key keys)) keys (asc_changed key (changed_keys Add key keys) (asc_changed key keys a Add) Withdraw) a
    (λ k m. let (t, ne) = of_withdraw key (changed_keys Add key keys) k m in of_other key keys Add k t ne)
    (λ k m. let ne : k ≡ key → ⊥ = λ e. f (mathlib.Core.List.Memᴰ.cast (sym e) m) in kept key (changed_keys Add key keys) Withdraw k (kept key keys Add k m ne) ne)

pub withdraw_undone : (key : ℕ) (keys : List ℕ) → Asc keys → Memᴰ key keys → changed_keys Add key (changed_keys Withdraw key keys) ≡ keys
withdraw_undone key keys a t =
    let less : List ℕ = changed_keys Withdraw key keys in
    asc_same (changed_keys Add key less) keys (asc_changed key less (asc_changed key keys a Withdraw) Add) a
    (λ k m. ⊎_elim (λ (e : k ≡ key). mathlib.Core.List.Memᴰ.cast e t) (λ (u : Memᴰ k less). (of_withdraw key keys k u).0) (of_add key less k m))
    (λ k m. elim (ℕ_discrete k key) [ yes e ↦ mathlib.Core.List.Memᴰ.cast e (added_key key less) | no ne ↦ kept key less Add k (kept key keys Withdraw k m ne) ne ])
