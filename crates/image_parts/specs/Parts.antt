-- What all images have in common: the numbers that stand in bytes, and the list of the parts.
use Rattle.std.specs.Prelude.{◌≡◌, ℕ, zero, suc, ◌+◌, ◌*◌, ◌^◌, ◌<◌, ◌≤◌, List, [], ◌∷◌, ◌++◌, drop, length, slice_index, take}
use Rattle.std.specs.Int.{w32, w64, from_le_bytes}

-- the number of 4 bytes from the place a on, the low byte first
unfoldable pub u32_in : List ℕ → ℕ → ℕ
u32_in bs a = from_le_bytes w32
    (slice_index bs a ∷ slice_index bs (a + 1) ∷ slice_index bs (a + 2) ∷ slice_index bs (a + 3) ∷ [])

-- the number of 8 bytes
unfoldable pub u64_in : List ℕ → ℕ → ℕ
u64_in bs a = from_le_bytes w64
    (slice_index bs a ∷ slice_index bs (a + 1) ∷ slice_index bs (a + 2) ∷ slice_index bs (a + 3)
    ∷ slice_index bs (a + 4) ∷ slice_index bs (a + 5) ∷ slice_index bs (a + 6) ∷ slice_index bs (a + 7) ∷ [])

-- the number of 16 bytes
abbrev pub u128_in : List ℕ → ℕ → ℕ
u128_in bs a = u64_in bs a + 2 ^ 64 * u64_in bs (a + 8)

-- the first n values of a function
unfoldable pub listed : {X : Type 0} → (ℕ → X) → ℕ → List X
listed f zero = []
listed f (suc n) = listed f n ++ f n ∷ []

-- how many rows there are, as the head says
abbrev pub row_count : List ℕ → ℕ
row_count bs = u32_in bs 8

-- how many parts it lists
abbrev pub part_count : List ℕ → ℕ
part_count bs = u32_in bs 12

-- a part of this kind is listed at the place a, and lies inside the bytes
pub record IsListed (bs : List ℕ) (a kind : ℕ) : Type 0 where
  pub of_kind : u32_in bs a ≡ kind
  pub inside : u64_in bs (a + 8) + u64_in bs (a + 16) ≤ length bs

-- what is listed at the place a: a part of this kind and detail, where it lies, and its length
pub record IsEntry (bs : List ℕ) (a kind detail place size : ℕ) : Type 0 where
  pub kind_is : u32_in bs a ≡ kind
  pub detail_is : u32_in bs (a + 4) ≡ detail
  pub place_is : u64_in bs (a + 8) ≡ place
  pub size_is : u64_in bs (a + 16) ≡ size

-- the user's own bytes are so many from a place on: the first of the first 64 listed parts that is of kind 3 says so, and
-- lies inside the bytes, as the list does
pub record IsPayload (bs : List ℕ) (place size : ℕ) : Type 0 where
  pub at : ℕ
  pub within : at < part_count bs
  pub early : at < 64
  pub list : 16 + 24 * part_count bs ≤ length bs
  pub listed : IsListed bs (16 + 24 * at) 3
  pub first : (k : ℕ) → k < at → u32_in bs (16 + 24 * k) ≡ 3 → ⊥
  pub place_is : u64_in bs (16 + 24 * at + 8) ≡ place
  pub size_is : u64_in bs (16 + 24 * at + 16) ≡ size

-- the user's own bytes are these
pub record HoldsPayload (bs payload : List ℕ) : Type 0 where
  pub place : ℕ
  pub part : IsPayload bs place (length payload)
  pub bytes : take (length payload) (drop place bs) ≡ payload
