-- An index of lists by hashes of their bytes.
use Rattle.std.specs.Prelude.{◌≡◌, ℕ, zero, suc, ◌+◌, ◌-◌, ◌*◌, ◌/◌, ◌%◌, ◌^◌, ◌<◌, ◌≤◌, List, [], ◌∷◌, length, slice_index, slice_index_or, nat_lt, bit_and, bit_xor, if◌then◌else◌}
use Rattle.std.specs.Int.{w64, from_le_bytes}
use Rattle.encoded_keys.specs.Codes.{code_at}
use Rattle.encoded_keys.specs.Laid.{packed_bytes}

-- eight bytes as a number, the low ones first
unfoldable pub word_in : List ℕ → ℕ → ℕ
word_in bytes i = from_le_bytes w64 (slice_index bytes i ∷ slice_index bytes (i + 1)
    ∷ slice_index bytes (i + 2) ∷ slice_index bytes (i + 3) ∷ slice_index bytes (i + 4)
    ∷ slice_index bytes (i + 5) ∷ slice_index bytes (i + 6) ∷ slice_index bytes (i + 7) ∷ [])

-- a hash and one word more
unfoldable pub mixed_with : ℕ → ℕ → ℕ
mixed_with h w = let p = bit_xor h w * 0x9e37_79b9_7f4a_7c15 % 2 ^ 64 in bit_xor p (p / 2 ^ 32)

-- the first n bytes as a number, the high ones first
unfoldable pub number_in : List ℕ → ℕ → ℕ
number_in bytes zero = 0
number_in bytes (suc n) = (number_in bytes n * 256 % 2 ^ 64 + slice_index bytes n) % 2 ^ 64

-- a hash of the count and of the first n words of eight bytes
unfoldable pub hash_of_words : List ℕ → ℕ → ℕ
hash_of_words bytes zero = length bytes
hash_of_words bytes (suc n) = mixed_with (hash_of_words bytes n) (word_in bytes (8 * n))

-- the hash of bytes: of eight or more the last eight are a word, and the others are
unfoldable pub hash_of_bytes : List ℕ → ℕ
hash_of_bytes bytes = if nat_lt (length bytes) 8
    then mixed_with (length bytes) (number_in bytes (length bytes))
    else mixed_with (hash_of_words bytes ((length bytes - 1) / 8)) (word_in bytes (length bytes - 8))

-- the hash of a list, by the bytes that it is packed in
unfoldable pub hash_of_list : List ℕ → ℕ
hash_of_list c = hash_of_bytes (packed_bytes c) * 0x9e37_79b9_7f4a_7c15 % 2 ^ 64

-- the first of the slots that a list with a hash may lie in, where 64 more than so many are there
abbrev pub first_slot : ℕ → ℕ → ℕ
first_slot places hash = hash / 2 ^ 32 * places / 2 ^ 32

-- what a slot holds of the list at an index: bits of the hash, and the index and one more
abbrev pub entry_of : ℕ → ℕ → ℕ → ℕ
entry_of tags hash i = bit_and hash tags + (i + 1)

-- an entry stands in one of the slots from one on up to another
pub record IsEntered (slots : List ℕ) (from to entry : ℕ) : Type 0 where
  pub at : ℕ
  pub start : from ≤ at
  pub before : at < to
  pub held : slice_index slots at ≡ entry

-- each free one of the 64 slots from one on has an entry in front of it
abbrev pub IsSlotted : List ℕ → ℕ → ℕ → Type 0
IsSlotted slots from entry = (s : ℕ) → from ≤ s → s < from + 64 → slice_index slots s ≡ 0
    → IsEntered slots from s entry

-- the first n lists have theirs so
abbrev pub AreSlotted : List (List ℕ) → ℕ → List ℕ → ℕ → Type 0
AreSlotted cs n slots tags = (k : ℕ) → k < n
    → IsSlotted slots (first_slot (length slots - 64) (hash_of_list (code_at cs k)))
    (entry_of tags (hash_of_list (code_at cs k)) k)

-- the slots of lists, each found by its hash
pub record AreSlots (cs : List (List ℕ)) (slots : List ℕ) (tags : ℕ) : Type 0 where
  pub few : length slots < 2 ^ 32
  pub room : tags + length cs < 2 ^ 32
  pub slotted : AreSlotted cs (length cs) slots tags

-- if there are any
abbrev pub IsIndexed : List (List ℕ) → List ℕ → ℕ → Type 0
IsIndexed cs slots tags = 64 < length slots → AreSlots cs slots tags

-- the first free one of 64 slots from one on
pub record IsFirstFree (slots : List ℕ) (from at : ℕ) : Type 0 where
  pub start : from ≤ at
  pub within : at < from + 64
  pub free : slice_index slots at ≡ 0
  pub first : (s : ℕ) → from ≤ s → s < at → slice_index slots s ≡ 0 → ⊥

-- the list at each pair's index is its encoding; of lists without pairs there is none to be compared
abbrev pub AreKeys : {K V : Type 0} → (K → List ℕ) → List (K × V) → List (List ℕ) → Type 0
AreKeys enc ps cs = (i : ℕ) (p : _) → i < length ps → p ≡ slice_index_or ps i p
    → code_at cs i ≡ enc p.0
