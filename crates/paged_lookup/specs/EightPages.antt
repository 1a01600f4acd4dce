-- What is promised of the eight-page lookup, beside its outcome.
-- Assumes nothing.
use Rattle.std.specs.Prelude.{◌≡◌, List, ℕ, ◌*◌, ◌≤◌, ◌<◌, length, take, drop}
use Rattle.format.specs.Image.{page_count, page_number, page_t}
use Rattle.format.specs.Answer.{lookup}
use Rattle.format.specs.Exact.{Accepted}
use Rattle.paged_lookup.specs.Paged.{paged_lookup}

-- the 64 bytes of page i of band b
unfoldable pub bytes_of_page : List ℕ → ℕ → ℕ → List ℕ
bytes_of_page img b i = take 64 (drop (64 * page_number img b i) img)

-- two byte sequences agree in length, in the header, in T of every page, and in one page of each band
pub record Agree (x y : List ℕ) (page : ℕ → ℕ) : Type 0 where
  pub length_is : length y ≡ length x
  pub header_is : take 64 y ≡ take 64 x
  pub t_is : (b i : ℕ) → 1 ≤ b → b ≤ 8 → i < page_count x b → page_t y b i ≡ page_t x b i
  pub page_is : (b : ℕ) → 1 ≤ b → b ≤ 8 → bytes_of_page y b (page b) ≡ bytes_of_page x b (page b)

-- there is one page of each band, by its index, such that any other bytes which agree so far have the same outcome
pub record Reads (x : List ℕ) (holder slot : ℕ) : Type 0 where
  pub page : ℕ → ℕ
  pub in_band : (b : ℕ) → 1 ≤ page_count x b → page b < page_count x b
  pub enough : (y : List ℕ) → Agree x y page → paged_lookup y holder slot ≡ paged_lookup x holder slot

pub record EightPages : Type 0 where
  -- on every image that passes all thirteen questions it is the full lookup, page numbers and the number that "absent" brings too
  pub agrees : (img : List ℕ) → Accepted img → (holder slot : ℕ) → paged_lookup img holder slot ≡ lookup img holder slot
  -- whatever the bytes, it reads the header, the T's of the pages and eight pages, one of each band
  pub reads : (x : List ℕ) (holder slot : ℕ) → Reads x holder slot
