-- Images whose numbers are the places of values among the image's own bytes.
use Rattle.std.specs.Prelude.{◌≡◌, ℕ, ◌+◌, ◌<◌, ◌≤◌, ◌⊎◌, List, [], Some, drop, length, slice_get, sum_by, take}
use Rattle.std.specs.List.{AllZip, flat_map}
use Rattle.nibble_map.specs.Nibbles.{nibbles}
use Rattle.frozen_trie.specs.FileRows.{counted_bytes}
use Rattle.image_parts.specs.Parts.{HoldsPayload, IsPayload, u32_in}
use Rattle.flat_texts.specs.TextImages.{image_pairs}

-- the image's own bytes, none where it lists no such part
abbrev pub HoldsOwnBytes : (image own : List ℕ) → Type 0
HoldsOwnBytes image own =
    HoldsPayload image own
    ⊎ (((place size : ℕ) → IsPayload image place size → ⊥) × (own ≡ []))

-- at the place stands how many these bytes are, in four bytes with the low one first, and they stand behind it
pub record StandsCounted (own : List ℕ) (place : ℕ) (bytes : List ℕ) : Type 0 where
  pub inside : place + 4 + length bytes ≤ length own
  pub counted : u32_in own place ≡ length bytes
  pub text : take (length bytes) (drop (place + 4) own) ≡ bytes

-- the bytes of the values of pairs, one behind another, each with their count before them
abbrev pub laid_values : {K V : Type 0} → (V → List ℕ) → List (K × V) → List ℕ
laid_values bytes qs = flat_map (λ q. counted_bytes (bytes q.1)) qs

-- how many bytes the values at the numbers of pairs take, each with the four that count it
abbrev pub values_size : (own : List ℕ) → List (List ℕ × ℕ) → ℕ
values_size own ps = sum_by (λ p. 4 + u32_in own p.1) ps

-- those of the pairs up to the one at i take more than the image
pub record ShareValues (image : List ℕ) (i : ℕ) : Type 0 where
  pub own : List ℕ
  pub are_own : HoldsOwnBytes image own
  pub more : length image < values_size own (take (i + 1) (image_pairs image))

module _ {V : Type 0} (bytes : V → List ℕ) (is_item : V → Type 0) where
  -- a value is one of its type, and its bytes stand at the place
  pub record IsValueAt (own : List ℕ) (place : ℕ) (value : V) : Type 0 where
    pub item : is_item value
    pub stands : StandsCounted own place (bytes value)

  -- some value's do
  abbrev pub HasValueAt : List ℕ → ℕ → Type 0
  HasValueAt own place = (value : V) × IsValueAt own place value

  -- at the number of the pair at i stands no value of the type
  pub record LacksValue (image : List ℕ) (i : ℕ) : Type 0 where
    pub own : List ℕ
    pub are_own : HoldsOwnBytes image own
    pub pair : List ℕ × ℕ
    pub stored : slice_get (image_pairs image) i ≡ Some pair
    pub lacks : HasValueAt own pair.1 → ⊥

  module _ {K : Type 0} (enc : K → List ℕ) where
    -- the bytes of a pair are the encoding of a key, and at its number stands the value
    pub record IsPlacedPair (own : List ℕ) (p : List ℕ × ℕ) (q : K × V) : Type 0 where
      pub key : nibbles p.0 ≡ enc q.0
      pub value : IsValueAt own p.1 q.1

    -- the pairs of an image are, one by one, those of keys and values
    pub record HoldsValues (image : List ℕ) (qs : List (K × V)) : Type 0 where
      pub own : List ℕ
      pub are_own : HoldsOwnBytes image own
      pub pairs : AllZip (IsPlacedPair own) (image_pairs image) qs
