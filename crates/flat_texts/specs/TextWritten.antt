-- How an image of texts is laid out, and what has been written of it.
use Rattle.std.specs.Prelude.{◌≡◌, ℕ, ◌+◌, ◌-◌, ◌*◌, ◌^◌, ◌<◌, ◌≤◌, ◌⊎◌, List, Some, if◌then◌else◌, length, map as each, nat_lt, slice_get, slice_index, sum_by}
use Rattle.nibble_map.specs.Lists.{IsRising}
use Rattle.nibble_map.specs.Nibbles.{nibbles}
use Rattle.frozen_trie.specs.Frozen.{IsFirstListOutOfOrder, codes_of}
use Rattle.image_parts.specs.declared.errors.WriteError.{WriteError}
use Rattle.image_parts.specs.declared.errors.WriteError.TheVariants.{Full, Short, OutOfOrder}
use Rattle.image_parts.specs.Parts.{IsEntry, row_count, u32_in, u64_in}
use Rattle.flat_texts.specs.declared.head.Plan.{Plan}
use Rattle.flat_texts.specs.declared.pair.Pair.{Pair}
use Rattle.flat_texts.specs.TextImages.{AreRightPairs, key_start, pair_in, given_pair, stored_head, text_mark}

-- how many bytes the keys of pairs have
abbrev pub keys_len : List Pair → ℕ
keys_len ps = sum_by (λ p. length p.key.now) ps

-- how many bytes the counts of so many pairs take
abbrev pub counts_size : ℕ → ℕ
counts_size n = if nat_lt n 65536 then 0 else 262148

-- how many bytes an image of pairs takes, with so many bytes of the user's own
abbrev pub text_image_size : List Pair → ℕ → ℕ
text_image_size ps payload = 64 + 24 * length ps + counts_size (length ps) + keys_len ps + payload

-- the keys of pairs rise in the order of their bytes
abbrev pub AreKeysRising : List Pair → Type 0
AreKeysRising ps = IsRising (codes_of nibbles (each given_pair ps))

-- pairs can be written, with so many bytes of the user's own, into so many bytes
pub record CanWriteTexts (ps : List Pair) (payload room : ℕ) : Type 0 where
  pub few : length ps < 2 ^ 32
  pub short : keys_len ps < 2 ^ 32
  pub fits : text_image_size ps payload ≤ room
  pub rising : AreKeysRising ps

-- the error says why they can't
abbrev pub IsTextWriteFault : List Pair → (payload room : ℕ) → WriteError → Type 0
IsTextWriteFault ps payload room Full = (2 ^ 32 ≤ length ps) ⊎ (2 ^ 32 ≤ keys_len ps)
IsTextWriteFault ps payload room Short = room < text_image_size ps payload
IsTextWriteFault ps payload room (OutOfOrder i) =
    (text_image_size ps payload ≤ room) × IsFirstListOutOfOrder (codes_of nibbles (each given_pair ps)) i

-- a plan says where the parts of so many pairs with so many bytes of keys are laid: behind a head that lists two, one behind
-- another
pub record IsTextLayout (n len : ℕ) (plan : Plan) : Type 0 where
  pub few : n < 2 ^ 32
  pub short : len < 2 ^ 32
  pub pairs : plan.pairs ≡ n
  pub heads_at : plan.heads_at ≡ 64
  pub pairs_at : plan.pairs_at ≡ 64 + 8 * n
  pub counts : 4 * plan.counts ≡ counts_size n
  pub limit : plan.counts ≤ 65537
  pub counts_at : plan.counts_at ≡ 64 + 24 * n
  pub keys_at : plan.keys_at ≡ 64 + 24 * n + 4 * plan.counts
  pub keys_len : plan.keys_len ≡ len

-- the head of a plan is written, and so many bytes of the user's own are listed
pub record IsWrittenTextHead (bs : List ℕ) (plan : Plan) (payload : ℕ) : Type 0 where
  pub marked : u64_in bs 0 ≡ text_mark
  pub count : u32_in bs 8 ≡ plan.pairs
  pub parts : u32_in bs 12 ≡ 2
  pub part : IsEntry bs 16 4 plan.counts plan.heads_at (plan.keys_at + plan.keys_len - plan.heads_at)
  pub own : IsEntry bs 40 3 0 (plan.keys_at + plan.keys_len) payload

-- the head, the first n pairs, and so many bytes of keys stay
pub record PairsStay (plan : Plan) (n len : ℕ) (old new : List ℕ) : Type 0 where
  pub heads : (k : ℕ) → k < plan.heads_at + 8 * n → slice_index new k ≡ slice_index old k
  pub pairs : (k : ℕ) → plan.pairs_at ≤ k → k < plan.pairs_at + 16 * n → slice_index new k ≡ slice_index old k
  pub keys : (k : ℕ) → plan.keys_at ≤ k → k < plan.keys_at + len → slice_index new k ≡ slice_index old k
  pub long : length new ≡ length old

-- the first n of some pairs stand there and are right, and their keys have so many bytes
pub record HoldsPairs (bs : List ℕ) (ps : List Pair) (n len : ℕ) : Type 0 where
  pub stored : (k : ℕ) → k < n → slice_get (each given_pair ps) k ≡ Some (pair_in bs k)
  pub right : AreRightPairs bs n
  pub ends : key_start bs n ≡ len

-- c of the heads, the first ones, are below t times 2 to the 48
pub record IsHeadCount (bs : List ℕ) (t c : ℕ) : Type 0 where
  pub within : c ≤ row_count bs
  pub below : (k : ℕ) → k < c → stored_head bs k < t * 2 ^ 48
  pub others : (k : ℕ) → c ≤ k → k < row_count bs → t * 2 ^ 48 ≤ stored_head bs k
