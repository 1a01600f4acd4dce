-- From a rank up the bands: the key is made of four bits a band, the last band's the lowest.
-- Assumes nothing.
use mathlib.Core.Path.{◌≡◌, refl, sym, ap, ap₂, ◌∙◌}
use mathlib.Core.List.{List}
use Prim.Native.Nat.{ℕ, zero, suc, ◌+◌, ◌-◌, ◌*◌, ◌/◌, ◌%◌, ◌^◌, ◌≤◌, ◌<◌}
use native.Mathlib.Nat.{add-mul, mod-eq_of_lt, mul_assoc, mul_comm, mul-le-mul_right, pow-le-pow_right, pow-suc}
use native.Mathlib.Omega.{arith}
use lib.ListN.{length, get_or}
use lib.Pow.{pow-add}
use Rattle.format.specs.Image.{bands, key_count, keys_of, page_count, page_number, pages_before, prefixes_at}
use Rattle.format.specs.Question.{out_links_due}
use Rattle.format.proofs.Levels.{prefixes_keys}
use Rattle.pages.specs.Page.{Ready}
use Rattle.climb.specs.Climb.{ClimbRight}
use Rattle.pages.proofs.Pages.{checked}
use Rattle.pages.proofs.Counts.{next_first, keys_count, links_count, links_few}

-- what the bands below band `number` have given of the key of a rank, and the out-link of that band that leads to them
pub record Ranked (img : List ℕ) (rank link first key unit number : ℕ) : Type 0 where
  pub ready : Ready img
  pub to : number ≤ 8
  pub first_is : first ≡ page_number img (number + 1) 0
  pub within : link < length (prefixes_at img (4 * number))
  pub unit_is : unit ≡ 16 ^ (8 - number)
  pub small : key < unit
  pub value : get_or (prefixes_at img 32) rank 0 ≡ get_or (prefixes_at img (4 * number)) link 0 * unit + key

pub ranked_start : {img : List ℕ} (r : Ready img) (rank : ℕ) → rank < key_count img → Ranked img rank rank (length img / 64) 0 1 8
unfolding page_number pages_before bands
ranked_start {img} r rank h =
    record {
      ready = r;
      to = omega arith;
      first_is = omega (arith, (checked r).header.size);
      within = omega (arith, keys_count r);
      unit_is = refl;
      small = omega arith;
      value = omega arith;
    }

-- four bits a band
four_bits : (n : ℕ) → 2 ^ (4 * n) ≡ 16 ^ n
four_bits zero = refl
four_bits (suc n) =
    let e : 4 * suc n ≡ 4 * n + 4 = omega arith in
    ap (2 ^◌) e ∙ pow-add 2 (4 * n) 4 ∙ ap (◌* 16) (four_bits n) ∙ sym (pow-suc 16 n)

module _ {img : List ℕ} {rank link first key unit number : ℕ} (s : Ranked img rank link first key unit number) (h : 0 < number) where
  one-first : page_number img number 0 + page_count img number ≡ first
  one-first = next_first img number (omega arith) ∙ sym s.first_is

  -- the band's first page
  pub ranked_first : {n : ℕ} → n ≡ page_count img number → (n ≤ first) × (first - n ≡ page_number img number 0)
  ranked_first e = (omega (arith, one-first), omega (arith, one-first))

  pub ranked_link : {b : ℕ} → b ≡ number → link < out_links_due img b
  ranked_link e = rw e (omega (arith, s.within, links_count s.ready number (omega arith) s.to))

  pub ranked_small : link < 65536
  ranked_small = omega (arith, ranked_link refl, links_few s.ready number)

  -- the sums of a turn
  pub ranked_fits : {bits : ℕ} → bits < 16 → (bits * unit + unit ≤ unit * 16) × (unit ≤ 268435456)
  ranked_fits {bits} b =
      let few : unit ≤ 268435456 = rw s.unit_is (pow-le-pow_right {n = 16} (omega arith) {i = 8 - number} {j = 7} (omega arith)) in
      (omega (arith, mul-le-mul_right unit (let m : bits ≤ 15 = omega arith in m)), few)

  -- the bits at their place in the key
  pub ranked_turn : (p : ℕ) {bits : ℕ} → bits < 16 → unit ≡ 16 ^ p → bits * 2 ^ (4 * p) % 4294967296 ≡ bits * unit
  ranked_turn p {bits} b e = ap (λ (x : ℕ). bits * x % 4294967296) (four_bits p ∙ sym e) ∙ mod-eq_of_lt (omega (arith, ranked_fits b, s.small))

  -- one band further up: `up` is the out-link that leads to the root
  pub ranked_next : {b root bits up : ℕ} → b ≡ number → ClimbRight img b link root bits → up ≡ root → Ranked img rank up (first - page_count img number) (key + bits * unit) (unit * 16) (number - 1)
  ranked_next {b} {root} {bits} e d eu =
      let c : ClimbRight img number link root bits = rw (← e) d in
      let n : number - 1 + 1 ≡ number = omega arith in
      let m : 8 - (number - 1) ≡ suc (8 - number) = omega (arith, s.to) in
      let x : ℕ = get_or (prefixes_at img (4 * (number - 1))) root 0 in
      let split : (16 * x + bits) * unit ≡ x * (unit * 16) + bits * unit =
      add-mul (16 * x) bits unit ∙ ap (◌+ bits * unit) (ap (◌* unit) (mul_comm 16 x) ∙ mul_assoc x 16 unit ∙ ap (x *◌) (mul_comm 16 unit)) in
      rw eu record {
        ready = s.ready;
        to = omega (arith, s.to);
        first_is = omega (arith, one-first, ap (λ (k : ℕ). page_number img k 0) n);
        within = c.within;
        unit_is = ap (◌* 16) s.unit_is ∙ sym (ap (16 ^◌) m ∙ pow-suc 16 (8 - number));
        small = omega (arith, (ranked_fits c.small).0, s.small);
        value = s.value ∙ ap (λ (y : ℕ). y * unit + key) c.prefix ∙ ap (◌+ key) split ∙ omega arith;
      }

pub ranked_end : {img : List ℕ} {rank link first key unit number : ℕ} → Ranked img rank link first key unit number → number ≤ 0 → (key ≡ get_or (keys_of img) rank 0) × (key < 4294967296)
ranked_end {img} {rank} {link} {first} {key} {unit} {number} s h =
    let e : number ≡ 0 = omega arith in
    let one : length (prefixes_at img (4 * number)) ≡ 1 = ap (λ (n : ℕ). length (prefixes_at img (4 * n))) e ∙ (unfold prefixes_at Rattle.format.specs.Trie.descend in refl) in
    let none : link ≡ 0 = omega (arith, s.within) in
    let root : get_or (prefixes_at img (4 * number)) link 0 ≡ 0 = ap₂ (λ (n m : ℕ). get_or (prefixes_at img (4 * n)) m 0) e none ∙ (unfold prefixes_at Rattle.format.specs.Trie.descend in refl) in
    let k : get_or (prefixes_at img 32) rank 0 ≡ key = s.value ∙ ap (λ (x : ℕ). x * unit + key) root ∙ omega arith in
    let u : unit ≡ 4294967296 = s.unit_is ∙ ap (λ (n : ℕ). 16 ^ (8 - n)) e in
    (sym k ∙ ap (λ (l : List ℕ). get_or l rank 0) (prefixes_keys img), omega (arith, s.small))
