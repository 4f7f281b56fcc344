-- A map from byte strings to numbers, laid into one run of bytes: what stands there, and when the bytes are such a map.
use Rattle.std.specs.Prelude.{◌≡◌, ◌≢◌, ℕ, zero, suc, ◌+◌, ◌-◌, ◌*◌, ◌%◌, ◌^◌, ◌<◌, ◌≤◌, ◌⊎◌, Bool, true, false, List, Option, None, Some, codes, drop, length, take}
use Rattle.std.specs.Int.{w64, from_le_bytes}
use Rattle.nibble_map.specs.Lists.{IsBefore, IsPrefix}
use Rattle.nibble_map.specs.Maps.{PairMap}
use Rattle.nibble_map.specs.Nibbles.{nibbles}
use Rattle.sorted_tables.specs.Tables.{IsLastOf}
use Rattle.frozen_trie.specs.Frozen.{map_of_pairs}
use Rattle.encoded_keys.specs.Heads.{IsTop, head_padded}
use Rattle.encoded_keys.specs.Laid.{piece_of}
use Rattle.image_parts.specs.declared.errors.ImageError.{ImageError}
use Rattle.image_parts.specs.declared.errors.ImageError.TheVariants.{Cell, Mark, Part, Row, Short, Span, Version}
use Rattle.image_parts.specs.Parts.{IsListed, listed, part_count, row_count, u32_in, u64_in}
use Rattle.flat_texts.specs.declared.head.Plan.{Plan}
use Rattle.flat_texts.specs.declared.pair.Pair.{Pair}
use Rattle.flat_texts.specs.declared.pair.Place.{Place}

-- the number of the first 8 bytes of an image
abbrev pub text_mark : ℕ
text_mark = from_le_bytes w64 (codes "NZTEXT.1")

-- where the one part begins that is listed first, with the heads
abbrev pub heads_place : List ℕ → ℕ
heads_place bs = u64_in bs 24

-- how many bytes it has
abbrev pub texts_size : List ℕ → ℕ
texts_size bs = u64_in bs 32

-- how many counts there are
abbrev pub counts_listed : List ℕ → ℕ
counts_listed bs = u32_in bs 20

-- where the pairs begin, behind the heads
abbrev pub pairs_place : List ℕ → ℕ
pairs_place bs = heads_place bs + 8 * row_count bs

-- where the counts begin, behind the pairs
abbrev pub counts_place : List ℕ → ℕ
counts_place bs = heads_place bs + 24 * row_count bs

-- where the keys' bytes begin, behind the counts
abbrev pub keys_place : List ℕ → ℕ
keys_place bs = heads_place bs + 24 * row_count bs + 4 * counts_listed bs

-- how many there are, up to the end of the part
abbrev pub keys_size : List ℕ → ℕ
keys_size bs = texts_size bs - (24 * row_count bs + 4 * counts_listed bs)

-- the head at i
abbrev pub stored_head : List ℕ → ℕ → ℕ
stored_head bs i = u64_in bs (heads_place bs + 8 * i)

-- where the key at i ends among the keys' bytes
abbrev pub key_end : List ℕ → ℕ → ℕ
key_end bs i = u32_in bs (pairs_place bs + 16 * i)

-- where it begins
abbrev pub key_start : List ℕ → ℕ → ℕ
key_start bs zero = 0
key_start bs (suc i) = key_end bs i

-- its link
abbrev pub stored_link : List ℕ → ℕ → ℕ
stored_link bs i = u32_in bs (pairs_place bs + 16 * i + 4)

-- its value
abbrev pub stored_value : List ℕ → ℕ → ℕ
stored_value bs i = u64_in bs (pairs_place bs + 16 * i + 8)

-- the count at t
abbrev pub stored_count : List ℕ → ℕ → ℕ
stored_count bs t = u32_in bs (counts_place bs + 4 * t)

-- the keys' bytes, one behind the other
abbrev pub key_bytes : List ℕ → List ℕ
key_bytes bs = take (keys_size bs) (drop (keys_place bs) bs)

-- the key at i
abbrev pub key_in : List ℕ → ℕ → List ℕ
key_in bs i = piece_of (key_bytes bs) (key_start bs i) (key_end bs i)

-- the pair at i
abbrev pub pair_in : List ℕ → ℕ → List ℕ × ℕ
pair_in bs i = (key_in bs i, stored_value bs i)

-- the pair that lies there
abbrev pub placed_pair : List ℕ → Place → List ℕ × ℕ
placed_pair bs place = (take place.len (drop place.first bs), place.value)

-- the pairs of an image
abbrev pub image_pairs : List ℕ → List (List ℕ × ℕ)
image_pairs bs = listed (pair_in bs) (row_count bs)

-- the map from each key's nibbles to its pair
abbrev pub image_map : List ℕ → PairMap (List ℕ) ℕ
image_map bs = map_of_pairs nibbles (image_pairs bs)

-- an index and one more, or 0 where there is none
abbrev pub place_of : Option ℕ → ℕ
place_of None = 0
place_of (Some i) = suc i

-- the nibbles of the key at i
abbrev pub key_code : List ℕ → ℕ → List ℕ
key_code bs i = nibbles (key_in bs i)

-- those of all keys
abbrev pub key_codes : List ℕ → List (List ℕ)
key_codes bs = listed (key_code bs) (row_count bs)

-- the first 8 bytes of a key as a number, the first the highest, with a zero for each that it lacks
abbrev pub key_head : List ℕ → ℕ
key_head key = head_padded 0 16 (nibbles key)

-- the same of what is searched for, by its nibbles; where the search is one through it, with 15 for each that it lacks
abbrev pub key_bound : Bool → List ℕ → ℕ
key_bound false q = head_padded 0 16 q
key_bound true q = head_padded 15 16 q

-- the heads
abbrev pub stored_heads : List ℕ → List ℕ
stored_heads bs = listed (stored_head bs) (row_count bs)

-- the head is of this version, and the first part that it lists has room for the heads, the pairs and the counts
pub record HasTextHead (bs : List ℕ) : Type 0 where
  pub marked : u64_in bs 0 ≡ text_mark
  pub some : 1 ≤ part_count bs
  pub fits : 16 + 24 * part_count bs ≤ length bs
  pub part : IsListed bs 16 4
  pub room : 24 * row_count bs + 4 * counts_listed bs ≤ texts_size bs

-- a plan says what the head says
pub record IsTextPlan (bs : List ℕ) (plan : Plan) : Type 0 where
  pub head : HasTextHead bs
  pub pairs : plan.pairs ≡ row_count bs
  pub few : plan.pairs < 2 ^ 32
  pub heads_at : plan.heads_at ≡ heads_place bs
  pub pairs_at : plan.pairs_at ≡ pairs_place bs
  pub counts : plan.counts ≡ counts_listed bs
  pub counts_at : plan.counts_at ≡ counts_place bs
  pub keys_at : plan.keys_at ≡ keys_place bs
  pub keys_len : plan.keys_len ≡ keys_size bs

-- the pair at i ends at or behind where it begins, among the keys' bytes; it has the head of its key, which comes after the
-- one before it; and its link leads to the last earlier key that is a prefix of its own
pub record IsRightPair (bs : List ℕ) (i : ℕ) : Type 0 where
  pub order : key_start bs i ≤ key_end bs i
  pub within : key_end bs i ≤ keys_size bs
  pub head : stored_head bs i ≡ key_head (key_in bs i)
  pub after : 0 < i → IsBefore (key_code bs (i - 1)) (key_code bs i)
  pub link : IsLastOf (λ k. IsPrefix (key_code bs k) (key_code bs i)) i (stored_link bs i)

-- the first n pairs are right
abbrev pub AreRightPairs : List ℕ → ℕ → Type 0
AreRightPairs bs n = (i : ℕ) → i < n → IsRightPair bs i

-- the bytes are an image: the head is one, each pair is right, and each count says how many heads are below its index times 2
-- to the 48
pub record IsTextImage (bs : List ℕ) : Type 0 where
  pub head : HasTextHead bs
  pub pairs : AreRightPairs bs (row_count bs)
  pub counts : (t : ℕ) → t < counts_listed bs → IsTop (stored_heads bs) t (stored_count bs t)

-- why bytes are no image: there is no room for the head and the list of the parts; the first 8 bytes are others, or of another
-- version; the part isn't listed first, or too small; or this is the first pair, or the first count, that isn't right
abbrev pub IsImageFault : List ℕ → ImageError → Type 0
IsImageFault bs Short = (length bs < 40) ⊎ (length bs < 16 + 24 * part_count bs)
IsImageFault bs Mark = u64_in bs 0 % 2 ^ 56 ≢ text_mark % 2 ^ 56
IsImageFault bs Version = (u64_in bs 0 % 2 ^ 56 ≡ text_mark % 2 ^ 56) × (u64_in bs 0 ≢ text_mark)
IsImageFault bs (Part i) = (i ≡ 0) × (HasTextHead bs → ⊥)
IsImageFault bs (Row i) = (i < row_count bs) × AreRightPairs bs i × (IsRightPair bs i → ⊥)
IsImageFault bs (Span i) = ⊥
IsImageFault bs (Cell t) = (t < counts_listed bs)
    × ((u : ℕ) → u < t → IsTop (stored_heads bs) u (stored_count bs u))
    × (IsTop (stored_heads bs) t (stored_count bs t) → ⊥)

-- a pair as the calls take and give it
abbrev pub given_pair : Pair → List ℕ × ℕ
given_pair p = (p.key.now, p.value)
