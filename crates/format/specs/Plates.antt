-- What the starred sample plates say of the definitions, and the packing rule at its edges. The proofs are in proofs/Plates.antt.
-- Assumes nothing.
use Rattle.std.specs.Prelude.{◌≡◌, ℕ, ◌-◌, length, replicate, set}
use mathlib.Core.List.{List, [], ◌∷◌, ◌++◌, flat_map}
use Rattle.format.specs.Seq.{up_to}
use Rattle.format.specs.Key.{key_of}
use Rattle.format.specs.Image.{keys_of}
use Rattle.format.specs.Writer.{image_of, subtries_per_page}
use Rattle.format.specs.Question.{returns}
use Rattle.format.specs.Answer.{check, count, member_keys}
use Rattle.format.specs.declared.Rectangle.{Rectangle}

-- the first six bytes of version 1, written out, so that no plate rests on specs/Header
unfoldable pub first_bytes : List ℕ
first_bytes = 0x4C ∷ 0x50 ∷ 0x54 ∷ 0 ∷ 1 ∷ 0 ∷ []

-- an image of one page a band, from the key count, the bands' root counts and the pages' node bytes up to the last that is not zero
unfoldable pub one_page_header : ℕ → List ℕ → List ℕ
one_page_header n roots = first_bytes ++ 0 ∷ n ∷ flat_map (λ r. 0 ∷ 1 ∷ 0 ∷ r ∷ []) roots ++ replicate 24 0

unfoldable pub first_page : List ℕ → List ℕ
first_page nodes = 0 ∷ 0 ∷ 0 ∷ 0 ∷ nodes ++ replicate (60 - length nodes) 0

unfoldable pub one_page_image : ℕ → List ℕ → List (List ℕ) → List ℕ
one_page_image n roots nodes = one_page_header n roots ++ flat_map first_page nodes

-- the keys' image in version 1 has these bytes, the checker accepts it, and its list is the keys
pub record Image-is (keys img : List ℕ) : Type 0 where
  pub bytes : image_of 0 keys ≡ img
  pub accepted : check (image_of 0 keys) ≡ returns (length keys)
  pub list : keys_of (image_of 0 keys) ≡ keys

-- plate 11's rectangle: holders 2 to 3, slot 1
abbrev pub plate11 : Rectangle
plate11 = record { holders = record { low = 2; high = 3 }; slots = record { low = 1; high = 1 } }

pub record Plates : Type 0 where
  pub plate_1 : key_of 0 0 ≡ 0
  pub plate_2 : key_of 0 1 ≡ 1
  pub plate_3 : key_of 1 0 ≡ 2
  pub plate_4 : key_of 3 1 ≡ 11
  pub plate_5 : key_of 65535 0 ≡ 2863311530
  pub plate_6 : key_of 65535 65535 ≡ 4294967295
  pub plate_7 : Image-is [] (first_bytes ++ replicate 58 0)
  pub plate_8 : Image-is (0 ∷ []) (one_page_image 1 (replicate 8 1) (replicate 8 (0xAA ∷ [])))
  pub plate_8_length : length (image_of 0 (0 ∷ [])) ≡ 576
  -- in version 2, for lift 258, bytes 4, 40 and 41 are others
  pub plate_8_lift : image_of 258 (0 ∷ []) ≡ set (set (set (one_page_image 1 (replicate 8 1) (replicate 8 (0xAA ∷ []))) 4 2) 40 1) 41 2
  pub plate_8_lift_accepted : check (image_of 258 (0 ∷ [])) ≡ returns 1
  pub plate_9 : Image-is (0 ∷ 1 ∷ []) (one_page_image 2 (replicate 8 1) (replicate 7 (0xAA ∷ []) ++ (0xAB ∷ []) ∷ []))
  pub plate_10 : Image-is (0 ∷ 4294967295 ∷ []) (one_page_image 2 (1 ∷ replicate 7 2) ((0xE6 ∷ 0x64 ∷ []) ∷ replicate 7 (0x99 ∷ 0x99 ∷ [])))
  pub plate_11 : member_keys (image_of 0 (up_to 16)) plate11 ≡ 9 ∷ 11 ∷ []
  pub plate_11_count : count (image_of 0 (up_to 16)) plate11 ≡ returns 2
  pub plate_12 : Image-is (3 ∷ 44 ∷ 128 ∷ 133 ∷ 136 ∷ 160 ∷ 172 ∷ 192 ∷ [])
      (one_page_image 8 (replicate 7 1 ++ 5 ∷ [])
      (replicate 6 (0xAA ∷ []) ++ (0xEF ∷ 0xEA ∷ 0xA8 ∷ []) ∷ (0x9F ∷ 0xA7 ∷ 0xA6 ∷ 0x6A ∷ 0xAA ∷ 0x69 ∷ 0xAA ∷ []) ∷ []))

-- the packing rule at its edges: n subtries of so many nodes each
pub record Packings : Type 0 where
  pub sixty_of_4 : subtries_per_page (replicate 61 4) ≡ 60 ∷ 1 ∷ []
  pub sixteen_of_15 : subtries_per_page (replicate 17 15) ≡ 16 ∷ 1 ∷ []
  pub one_node_over : subtries_per_page (replicate 15 15 ++ 12 ∷ 4 ∷ []) ≡ 16 ∷ 1 ∷ []
  pub just_full : subtries_per_page (replicate 15 15 ++ 11 ∷ 4 ∷ 4 ∷ []) ≡ 17 ∷ 1 ∷ []
