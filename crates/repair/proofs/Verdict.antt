-- The verdict on an image that has pages, band after band.
-- Assumes nothing.
use mathlib.Core.Path.{◌≡◌, refl, sym, ap, ◌∙◌, subst}
use mathlib.Core.Bool.{true}
use mathlib.Core.List.{List, map}
use Prim.Native.Nat.{ℕ, zero, suc, ◌+◌, ◌*◌, ◌/◌, ◌≤◌, ◌<◌}
use native.Mathlib.Numerals.{add-one}
use native.Mathlib.Omega.{arith}
use native.Mathlib.Decide.{ℕ_discrete}
use lib.ListN.{length, get_or, replicate, set, length-set}
use lib.Seq.{get_or-set_other, get_or-set_same}
use Rattle.format.specs.Seq.{All, numbers_from, total}
use Rattle.format.specs.Page.{Byte, number_at}
use Rattle.format.specs.Image.{bands, page_count, pages_before}
use Rattle.format.proofs.Back.{pages_before-suc}
use Rattle.format.proofs.Read.{pages_within}
use Rattle.repair.specs.declared.judge.Sums.{Sums}
use Rattle.repair.specs.Numbers.{band_links, band_roots, header_number, restored}
use Rattle.repair.specs.Sound.{Sound, SoundPage, header_kept, one_root}
use Rattle.repair.specs.Inner.{BandReady, CountsNoted, HeadsNoted, Judged, SoundBand}
use Rattle.repair.proofs.Reading.{header_back}
use Rattle.repair.proofs.Given.{cut}
use Rattle.repair.proofs.Restoring.{kept_size, sound_repairable}
use Rattle.repair.proofs.HeaderVerdict.{kept_long, top_root, whole_of}

-- ---- the loop over the bands

pub record Bands (img : List ℕ) (passed first due : ℕ) (counts ts bs : List ℕ) : Type 0 where
  pub small : All Byte img
  pub kept : header_kept img ≡ true
  pub some : total (map (page_count img) bands) ≡ 0 → ⊥
  pub few : total (map (page_count img) bands) ≤ 384
  pub within : passed ≤ 8
  pub first_is : first ≡ 1 + pages_before img (passed + 1)
  pub page : (b i : ℕ) → 1 ≤ b → b ≤ passed → i < page_count img b → SoundPage img b i
  pub link : (b : ℕ) → 1 ≤ b → b < passed → band_links img b ≡ band_roots img (suc b)
  pub top : 1 ≤ passed → band_roots img 1 ≡ 1
  pub start : passed ≡ 0 → due ≡ 1
  pub due_is : 1 ≤ passed → due ≡ band_links img passed
  pub due_few : due ≤ 4096
  pub length_is : length counts ≡ 9
  pub counted : (b : ℕ) → 1 ≤ b → b ≤ passed → get_or counts b 0 ≡ number_at (restored img) (6 + 4 * b)
  pub noted : HeadsNoted img first ts bs

pub bands_start : {img counts ts bs : List ℕ} → All Byte img → header_kept img ≡ true → (n : ℕ) → n ≡ total (map (page_count img) bands) → (n ≡ 0 → ⊥) → n ≤ 384 → counts ≡ replicate 9 0 → length ts ≡ 384 → length bs ≡ 384 → Bands img 0 1 1 counts ts bs
unfolding pages_before numbers_from total
bands_start a k n e nonzero few c tn bn =
    record {
      small = a;
      kept = k;
      some = λ z. nonzero (e ∙ z);
      few = omega arith;
      within = omega arith;
      first_is = refl;
      page = λ b i lo hi h. absurd (omega arith);
      link = λ b lo hi. absurd (omega arith);
      top = λ h. absurd (omega arith);
      start = λ z. refl;
      due_is = λ h. absurd (omega arith);
      due_few = omega arith;
      length_is = ap length c;
      counted = λ b lo hi. absurd (omega arith);
      noted = record { t_size = tn; b_size = bn; t_noted = λ q lo hi. absurd (omega arith); b_noted = λ q lo hi. absurd (omega arith) };
    }

module _ {img : List ℕ} {passed first due : ℕ} {counts ts bs : List ℕ} (u : Bands img passed first due counts ts bs) where
  sized : length img ≡ 64 * (1 + total (map (page_count img) bands))
  sized = kept_size img u.kept

  pub long : 64 ≤ length img
  long = kept_long img u.small u.kept

  module _ (h : passed < 8) where
    next_first : first + page_count img (passed + 1) ≡ 1 + pages_before img (passed + 1 + 1)
    next_first = omega (arith, u.first_is, pages_before-suc img (passed + 1) (omega arith), ap (pages_before img) (add-one (passed + 1)))

    pub band_ready : BandReady img (passed + 1) first ts bs
    band_ready =
        record {
          at = record { sized = record { long = long; size = sized }; lo = omega arith; hi = omega arith; first_is = u.first_is };
          few = omega (arith, u.first_is, u.few, pages_within img (passed + 1) (omega arith) (omega arith));
          noted = u.noted;
        }

    pub first_few : first + page_count img (passed + 1) ≤ 385
    first_few = band_ready.few

    -- the roots of a sound image's band are due
    roots-due : Sound img → band_roots img (passed + 1) ≡ due
    roots-due s =
        elim (ℕ_discrete passed 0) [
          | yes z ↦ let e : passed + 1 ≡ 1 = omega arith in ap (band_roots img) e ∙ top_root img u.small u.kept u.some s ∙ sym (u.start z)
          | no z ↦ ap (band_roots img) (add-one passed) ∙ sym (s.link passed (omega arith) (omega arith)) ∙ sym (u.due_is (omega arith))
        ]

    module _ {ts' bs' : List ℕ} (s : Sums) (band : SoundBand img (passed + 1) first ts' bs' s) where
      pub roots_few : s.roots.0 ≤ 65535
      roots_few = omega (arith, band.few_roots)

      pub roots_wrong : (s.roots.0 ≡ due → ⊥) → Sound img → ⊥
      roots_wrong n d = n (band.roots_are ∙ roots-due d)

      number-here : number_at (restored img) (6 + 4 * (passed + 1)) ≡ s.roots.0
      unfolding header_number
      number-here =
          ap (λ (b : ℕ). number_at (restored img) (6 + 4 * b)) (add-one passed)
          ∙ header_back img sized (suc passed) (omega arith)
          ∙ cut (band_roots img (suc passed)) (omega (arith, band.few_roots, band.roots_are, ap (band_roots img) (add-one passed)))
          ∙ sym (band.roots_are ∙ ap (band_roots img) (add-one passed))

      pub bands_next : s.roots.0 ≡ due → (x : ℕ) → x ≡ s.roots.0 → (p : ℕ) → p ≡ page_count img (passed + 1) → (next : ℕ) → next ≡ s.links.0
          → Bands img (passed + 1) (first + p) next (set counts (passed + 1) x) ts' bs'
      bands_next e x ex p ep next en =
          record {
            small = u.small;
            kept = u.kept;
            some = u.some;
            few = u.few;
            within = omega arith;
            first_is = omega (arith, next_first);
            page = λ b i lo hi k. elim (ℕ_discrete b (passed + 1)) [
              | yes d ↦ subst (λ (b : ℕ). SoundPage img b i) (sym d) (band.page i (rw d at k))
              | no d ↦ u.page b i lo (omega arith) k
            ];
            link = λ b lo hi. elim (ℕ_discrete b passed) [
              | yes d ↦ ap (band_links img) d ∙ sym (u.due_is (omega arith)) ∙ sym e ∙ band.roots_are ∙ ap (band_roots img) (add-one passed ∙ ap suc (sym d))
              | no d ↦ u.link b lo (omega arith)
            ];
            top = λ k. elim (ℕ_discrete passed 0) [
              | yes z ↦ let o : 1 ≡ passed + 1 = omega arith in ap (band_roots img) o ∙ sym band.roots_are ∙ e ∙ u.start z
              | no z ↦ u.top (omega arith)
            ];
            start = λ z. absurd (omega arith);
            due_is = λ k. en ∙ band.links_are;
            due_few = omega (arith, band.few_links);
            length_is = length-set counts (passed + 1) x ∙ u.length_is;
            counted = λ b lo hi. elim (ℕ_discrete b (passed + 1)) [
              | yes d ↦ subst (λ (b : ℕ). get_or (set counts (passed + 1) x) b 0 ≡ number_at (restored img) (6 + 4 * b)) (sym d)
                  (get_or-set_same counts (passed + 1) x 0 (omega (arith, u.length_is)) ∙ ex ∙ sym number-here)
              | no d ↦ get_or-set_other counts (passed + 1) b x 0 d ∙ u.counted b lo (omega arith)
            ];
            noted = subst (λ (n : ℕ). HeadsNoted img (first + n) ts' bs') (sym ep) band.noted;
          }

  module _ (h : 8 ≤ passed) where
    eight : passed ≡ 8
    eight = omega (arith, u.within)

    due-8 : due ≡ band_links img 8
    due-8 = u.due_is (omega arith) ∙ ap (band_links img) eight

    sound : Sound img
    sound =
        record {
          header = u.kept;
          top = one_root (u.top (omega arith));
          page = λ b i lo hi m. u.page b i lo (omega (arith, eight)) m;
          link = λ b lo hi. u.link b lo (omega (arith, eight));
          few = omega (arith, due-8, u.due_few);
        }

    all_counted : (x : ℕ) → x ≡ due → CountsNoted img (set counts 0 x)
    unfolding header_number
    all_counted x e zero k =
        get_or-set_same counts 0 x 0 (omega (arith, u.length_is)) ∙ e ∙ due-8 ∙ sym (header_back img sized 0 k ∙ cut (band_links img 8) (omega (arith, due-8, u.due_few)))
    all_counted x e (suc b) k = get_or-set_other counts 0 (suc b) x 0 (λ z. omega arith) ∙ u.counted (suc b) (omega arith) (omega (arith, eight))

    pages-all : first ≡ length img / 64
    unfolding pages_before bands
    pages-all = u.first_is ∙ ap (λ (n : ℕ). 1 + pages_before img (n + 1)) eight ∙ omega (arith, sized)

    pub bands-yes : (x : ℕ) → x ≡ due → Judged img (set counts 0 x) ts bs true
    bands-yes x e =
        record {
          is = sym (sound_repairable img u.small sound);
          whole = λ t. whole_of img u.small u.kept u.few;
          noted = λ t. record { counted = all_counted x e; heads = subst (λ (n : ℕ). HeadsNoted img n ts bs) pages-all u.noted };
        }
