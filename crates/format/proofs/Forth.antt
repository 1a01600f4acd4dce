-- The image of a list of keys for a lift is accepted, and its list is those keys.
-- Assumes nothing.
use mathlib.Core.Path.{◌≡◌, refl, sym, ap, ap₂, ◌∙◌, subst}
use mathlib.Core.List.{List, [], ◌∷◌, ◌++◌, map, flat_map}
use Prim.Native.Nat.{ℕ, zero, suc, ◌+◌, ◌-◌, ◌*◌, ◌≤◌, ◌<◌}
use native.Mathlib.Omega.{arith}
use lib.ListN.{length, get_or, take, drop, replicate, length-drop, take-append-drop}
use lib.Seq.{take-add, drop-drop, take_all, length-take-le}
use Rattle.format.specs.Seq.{All, numbers_from}
use Rattle.format.specs.Trie.{below, descend, levels_of, levels_over, nodes_over, on_bits, parents}
use Rattle.format.specs.Page.{Byte}
use Rattle.format.specs.Header.{header, version_for}
use Rattle.format.specs.Image.{band_levels, bands, image_levels, keys_of, lift_of, prefixes_at, version_of}
use Rattle.format.specs.Writer.{band_bytes, band_counts, bands_in, bands_of, image_of, pages_of, roots_in}
use Rattle.format.proofs.Lists.{all_numbers, flat_map_same}
use Rattle.format.proofs.Trie.{Shape, Fits, Asc, levels_spell}
use Rattle.format.proofs.Shapes.{last_on, last_on_append, shape_left, shape_right, levels_formed, length-levels_over}
use Rattle.format.proofs.Pages.{shape_roots, last_on_four}
use Rattle.format.proofs.Checked.{AllYes, accepted}
use Rattle.format.proofs.Written.{Top, none, some, Bands, bytes_of, Parts, parts, is_checked, bands_in_lem, lift_in, version_in}
use Rattle.format.proofs.WrittenBytes.{all_bytes}

-- band b of a row of levels
unfoldable pub band_at : List (List ℕ) → ℕ → List (List ℕ)
band_at levels b = take 4 (drop (4 * (b - 1)) levels)

band_at_suc : (levels : List (List ℕ)) (k : ℕ) → band_at levels (suc k) ≡ take 4 (drop (4 * k) levels)
unfolding band_at
band_at_suc levels k = let e : suc k - 1 ≡ k = omega arith in ap (λ (j : ℕ). take 4 (drop (4 * j) levels)) e

next_four : (levels : List (List ℕ)) (k : ℕ) → drop 4 (drop (4 * k) levels) ≡ drop (4 * suc k) levels
next_four levels k = let e : 4 * k + 4 ≡ 4 * suc k = omega arith in drop-drop 4 (4 * k) levels ∙ ap (λ (j : ℕ). drop j levels) e

bands-row : (levels : List (List ℕ)) (k m : ℕ) → bands_in m (drop (4 * k) levels) ≡ map (band_at levels) (numbers_from (suc k) m)
unfolding bands_in numbers_from
bands-row levels k zero = refl
bands-row levels k (suc m) = λ i. sym (band_at_suc levels k) i ∷ (ap (bands_in m) (next_four levels k) ∙ bands-row levels (suc k) m) i

levels_row : (levels : List (List ℕ)) (k m : ℕ) → flat_map (band_at levels) (numbers_from (suc k) m) ≡ take (4 * m) (drop (4 * k) levels)
unfolding flat_map numbers_from
levels_row levels k zero = refl
levels_row levels k (suc m) =
    let size : 4 * suc m ≡ 4 + 4 * m = omega arith in
    ap₂ ◌++◌ (band_at_suc levels k) (levels_row levels (suc k) m ∙ ap (take (4 * m)) (sym (next_four levels k)))
    ∙ sym (ap (λ (j : ℕ). take j (drop (4 * k) levels)) size ∙ take-add 4 (4 * m) (drop (4 * k) levels))

pub bands_of-row : (keys : List ℕ) → bands_of keys ≡ map (band_at (levels_of keys)) bands
unfolding bands_of bands
bands_of-row keys = bands-row (levels_of keys) 0 8

-- ---- 32 levels that hang together are eight bands that do

module _ (levels : List (List ℕ)) (r n : ℕ) (e : length levels ≡ 32) (s : Shape r levels) (l : last_on r levels ≡ n) where
  start : ℕ → ℕ
  start k = last_on r (take (4 * k) levels)

  shape-from : (k : ℕ) → Shape (start k) (drop (4 * k) levels)
  unfolding start
  shape-from k = shape_right r (take (4 * k) levels) (drop (4 * k) levels) (rw (take-append-drop (4 * k) levels) s)

  shape_at : (k : ℕ) → Shape (start k) (band_at levels (suc k))
  shape_at k = rw (band_at_suc levels k) (shape_left (start k) (take 4 (drop (4 * k) levels)) (drop 4 (drop (4 * k) levels)) (rw (take-append-drop 4 (drop (4 * k) levels)) (shape-from k)))

  four-at : (k : ℕ) → k < 8 → length (band_at levels (suc k)) ≡ 4
  four-at k h = ap length (band_at_suc levels k) ∙ length-take-le 4 (drop (4 * k) levels) (omega (arith, length-drop (4 * k) levels))

  roots-at : (k : ℕ) → k < 8 → roots_in (band_at levels (suc k)) ≡ start k
  roots-at k h = shape_roots (start k) (band_at levels (suc k)) (four-at k h) (shape_at k)

  links-at : (k : ℕ) → k < 8 → on_bits (get_or (band_at levels (suc k)) 3 []) ≡ start (suc k)
  unfolding start
  links-at k h =
      let size : 4 * suc k ≡ 4 * k + 4 = omega arith in
      sym (last_on_four (start k) (band_at levels (suc k)) (four-at k h))
      ∙ ap (last_on (start k)) (band_at_suc levels k)
      ∙ sym (ap (λ (j : ℕ). last_on r (take j levels)) size ∙ ap (last_on r) (take-add (4 * k) 4 levels) ∙ last_on_append r (take (4 * k) levels) (take 4 (drop (4 * k) levels)))

  row-bands : n ≤ 4096 → Top n r → Bands n (band_at levels)
  unfolding start
  row-bands few top =
      record {
        four = λ b lo hi. let k : suc (b - 1) ≡ b = omega arith in subst (λ (b : ℕ). length (band_at levels b) ≡ 4) k (four-at (b - 1) (omega arith));
        shape = λ b lo hi. let k : suc (b - 1) ≡ b = omega arith in subst (λ (b : ℕ). Shape (roots_in (band_at levels b)) (band_at levels b)) k (rw (roots-at (b - 1) (omega arith)) (shape_at (b - 1)));
        links = λ b lo hi. let k : suc (b - 1) ≡ b = omega arith in subst (λ (b : ℕ). on_bits (get_or (band_at levels b) 3 []) ≡ roots_in (band_at levels (suc b))) k (links-at (b - 1) (omega arith) ∙ sym (roots-at (suc (b - 1)) (omega arith)));
        last = links-at 7 (omega arith) ∙ ap (last_on r) (take_all 32 levels (omega arith)) ∙ l;
        few = few;
        top = rw (roots-at 0 (omega arith)) top;
      }

-- ---- the levels of keys

record KeyLevels (keys : List ℕ) : Type 0 where
  top : ℕ
  shape : Shape top (levels_of keys)
  last : last_on top (levels_of keys) ≡ length keys
  is_top : Top (length keys) top
  back : descend (0 ∷ []) (levels_of keys) ≡ keys

key_levels : (keys : List ℕ) → Asc keys → Fits 32 keys → KeyLevels keys
unfolding levels_of levels_over parents nodes_over descend below on_bits
key_levels [] a f = record { top = 0; shape = none-shape; last = refl; is_top = none refl refl; back = refl }
  where
    empties : (n : ℕ) → Shape 0 (replicate n [])
    empties zero = tt
    empties (suc n) = (refl, tt, empties n)

    none-shape : Shape 0 (levels_of [])
    none-shape = empties 32
key_levels (x ∷ xs) a f =
    let t = levels_formed 32 x xs a f in
    record { top = 1; shape = t.shape; last = t.last; is_top = some (omega arith) refl; back = levels_spell 32 x xs a f }

-- they are eight bands that hang together, whose bytes are the image
pub key_bands : (keys : List ℕ) → Asc keys → Fits 32 keys → length keys ≤ 4096 → Bands (length keys) (band_at (levels_of keys))
key_bands keys a f few =
    let k = key_levels keys a f in
    row-bands (levels_of keys) k.top (length keys) (unfold levels_of in length-levels_over 32 keys) k.shape k.last few k.is_top

pub image_bytes : (lift : ℕ) (keys : List ℕ) → image_of lift keys ≡ bytes_of lift (length keys) (band_at (levels_of keys))
unfolding image_of
image_bytes lift keys = ap (λ (bs : List (List (List ℕ))). header lift (length keys) (flat_map band_counts bs) ++ flat_map (λ x. band_bytes 0 0 (pages_of x)) bs) (bands_of-row keys)

levels_found : (img : List ℕ) (levels : List (List ℕ)) → length levels ≡ 32 → ((b : ℕ) → 1 ≤ b → b ≤ 8 → band_levels img b ≡ band_at levels b) → image_levels img ≡ levels
unfolding image_levels bands
levels_found img levels e h =
    flat_map_same (band_levels img) (band_at levels) bands (all_numbers (λ b. band_levels img b ≡ band_at levels b) 1 8 (λ b lo hi. h b lo (omega arith)))
    ∙ levels_row levels 0 8
    ∙ take_all 32 levels (omega arith)

keys_found : (img keys : List ℕ) → image_levels img ≡ levels_of keys → length (levels_of keys) ≡ 32 → descend (0 ∷ []) (levels_of keys) ≡ keys → keys_of img ≡ keys
unfolding keys_of prefixes_at
keys_found img keys e n h = ap (λ (ls : List (List ℕ)). descend (0 ∷ []) (take 32 ls)) e ∙ ap (descend (0 ∷ [])) (take_all 32 (levels_of keys) (omega arith)) ∙ h

-- Every ascending list of at most 4,096 keys of 32 bits has, for each lift from 0 to 999, an accepted image, of bytes, whose list it is.
pub record Imaged (lift : ℕ) (keys : List ℕ) : Type 0 where
  pub is_accepted : AllYes (image_of lift keys)
  pub bytes : All Byte (image_of lift keys)
  pub list : keys_of (image_of lift keys) ≡ keys
  pub version : version_of (image_of lift keys) ≡ version_for lift
  pub its_lift : lift_of (image_of lift keys) ≡ lift

pub imaged : (lift : ℕ) (keys : List ℕ) → lift ≤ 999 → Asc keys → Fits 32 keys → length keys ≤ 4096 → Imaged lift keys
unfolding levels_of
imaged lift keys small a f few =
    let levels = levels_of keys in
    let h = key_bands keys a f few in
    let img : List ℕ = bytes_of lift (length keys) (band_at levels) in
    let is = image_bytes lift keys in
    let p : Parts lift (length keys) (band_at levels) img = parts lift (length keys) (band_at levels) in
    let b : All Byte img = all_bytes lift (length keys) small (band_at levels) h in
    let found : image_levels img ≡ levels = levels_found img levels (length-levels_over 32 keys) (λ j lo hi. bands_in_lem lift (length keys) small (band_at levels) h img p j lo hi b) in
    record {
      is_accepted = rw is (accepted img (is_checked lift (length keys) small (band_at levels) h img p));
      bytes = rw is b;
      list = ap keys_of is ∙ keys_found img keys found (length-levels_over 32 keys) (key_levels keys a f).back;
      version = ap version_of is ∙ version_in lift (length keys) small (band_at levels) h img p;
      its_lift = ap lift_of is ∙ lift_in lift (length keys) small (band_at levels) h img p;
    }
