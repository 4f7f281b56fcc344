-- What becomes of the rows of an image by changes.
use Rattle.std.specs.Prelude.{◌≡◌, ℕ, ◌+◌, ◌*◌, ◌^◌, ◌<◌, ◌≤◌, ◌⊎◌, ◌↔◌, ◌==◌, Bool, true, false, not, List, if◌then◌else◌, length, nat_lt, slice_index_or}
use Rattle.std.specs.List.{Contains}
use Rattle.radix_keys.specs.Networks.{Net}
use Rattle.image_parts.specs.declared.errors.WriteError.{WriteError}
use Rattle.image_parts.specs.declared.errors.WriteError.TheVariants.{Full, Short, OutOfOrder}
use Rattle.frozen_routes.specs.Routes.{AreRowsInOrder, IsEarlier, IsFirstOutOfOrder}
use Rattle.flat_routes.specs.declared.ipv4.Change.{Change as Change4}
use Rattle.flat_routes.specs.declared.ipv6.Change.{Change as Change6}
use Rattle.flat_routes.specs.Images.{network, row4_of, row6_of, row_size, width}
use Rattle.flat_routes.specs.Written.{image_size, row_from}

-- the row that a change names, and whether its network goes
abbrev pub row_of_change4 : Change4 → Net ℕ × ℕ
row_of_change4 c = row4_of c.row

abbrev pub is_removal4 : Change4 → Bool
is_removal4 c = not (c.removes == 0)

abbrev pub row_of_change6 : Change6 → Net ℕ × ℕ
row_of_change6 c = row6_of c.row

abbrev pub is_removal6 : Change6 → Bool
is_removal6 c = not (c.removes == 0)

-- how many bytes an image of at most so many rows takes at most, with so many of the user's own: one of less than 2^31 rows
-- has cells, one of more none
abbrev pub merged_size : Bool → (rows payload : ℕ) → ℕ
merged_size wide rows payload = image_size wide rows payload + (if nat_lt rows (2 ^ 31) then 0 else 2 ^ 23)

-- changes, each by its row and whether its network goes
module _ {C : Type 0} (row : C → Net ℕ × ℕ) (is_removal : C → Bool) where
  -- one of them gives this row from now on
  abbrev pub IsGiven : List C → Net ℕ × ℕ → Type 0
  IsGiven changes r = (c : C) × Contains changes c × (is_removal c ≡ false) × (row c ≡ r)

  -- one of them names this network
  abbrev pub IsNamed : List C → Net ℕ → Type 0
  IsNamed changes net = (c : C) × Contains changes c × ((row c).0 ≡ net)

  -- the rows after the changes: those that they give, and the old ones whose networks they don't name
  abbrev pub AreRowsAfter : List C → (old new : List (Net ℕ × ℕ)) → Type 0
  AreRowsAfter changes old new = (r : Net ℕ × ℕ)
      → Contains new r ↔ (IsGiven changes r ⊎ (Contains old r × (IsNamed changes r.0 → ⊥)))

-- so many rows can be changed by these, with so many bytes of the user's own, into so many bytes
pub record CanMerge (wide : Bool) (rows : ℕ) (changes : List (Net ℕ × ℕ)) (payload room : ℕ) : Type 0 where
  pub few : rows + length changes < 2 ^ 32
  pub fits : merged_size wide (rows + length changes) payload ≤ room
  pub rising : AreRowsInOrder (width wide) (λ n. n) changes

-- the error says why they can't
abbrev pub IsMergeFault : Bool → (rows : ℕ) → (changes : List (Net ℕ × ℕ)) → (payload room : ℕ) → WriteError → Type 0
IsMergeFault wide rows changes payload room Full = 2 ^ 32 ≤ rows + length changes
IsMergeFault wide rows changes payload room Short =
    (rows + length changes < 2 ^ 32) × (room < merged_size wide (rows + length changes) payload)
IsMergeFault wide rows changes payload room (OutOfOrder i) = (rows + length changes < 2 ^ 32)
    × (merged_size wide (rows + length changes) payload ≤ room) × IsFirstOutOfOrder (width wide) (λ n. n) changes i

-- the network of one row comes before that of another one
abbrev pub IsRowBefore : (r s : Net ℕ × ℕ) → Type 0
IsRowBefore r s = IsEarlier r.0.base r.0.bits s.0.base s.0.bits

-- a row that no list has
abbrev pub no_row : Net ℕ × ℕ
no_row = (network 0 0, 0)

-- the row at an index, and whether the change there removes
abbrev pub row_at : List (Net ℕ × ℕ) → ℕ → Net ℕ × ℕ
row_at rows k = slice_index_or rows k no_row

abbrev pub gone_at : List Bool → ℕ → Bool
gone_at gone k = slice_index_or gone k false

-- how many bytes of a row are before its link
abbrev pub link_place : Bool → ℕ
link_place false = 8
link_place true = 20

-- the place of the row at k of an image that is written
abbrev pub put_place : Bool → ℕ → ℕ
put_place wide k = 112 + row_size wide * k

-- the row there
abbrev pub put_row_at : Bool → List ℕ → ℕ → Net ℕ × ℕ
put_row_at wide bs k = row_from wide bs (put_place wide k)

-- a row is that of one of the first c changes, which doesn't remove
abbrev pub IsOfChange : (changed : ℕ → Net ℕ × ℕ) → (gone : ℕ → Bool) → (c : ℕ) → Net ℕ × ℕ → Type 0
IsOfChange changed gone c r = (j : ℕ) × (j < c) × (gone j ≡ false) × (r ≡ changed j)

-- none of the first c changes names its network
abbrev pub IsUnnamed : (changed : ℕ → Net ℕ × ℕ) → (c : ℕ) → Net ℕ × ℕ → Type 0
IsUnnamed changed c r = (j : ℕ) → j < c → (changed j).0 ≡ r.0 → ⊥

-- a row is that of one of the first a old ones, whose network none of the changes names
abbrev pub IsOfOld : (old changed : ℕ → Net ℕ × ℕ) → (a c : ℕ) → Net ℕ × ℕ → Type 0
IsOfOld old changed a c r = (i : ℕ) × (i < a) × (r ≡ old i) × IsUnnamed changed c (old i)

-- it is one of the first n new ones
abbrev pub IsAmong : (new : ℕ → Net ℕ × ℕ) → (n : ℕ) → Net ℕ × ℕ → Type 0
IsAmong new n r = (k : ℕ) × (k < n) × (new k ≡ r)

-- the first n new rows are what the first c changes make of the first a old ones, and rise
pub record AreMerged (old changed : ℕ → Net ℕ × ℕ) (gone : ℕ → Bool) (new : ℕ → Net ℕ × ℕ) (a c n : ℕ) : Type 0 where
  pub from : (k : ℕ) → k < n → IsOfChange changed gone c (new k) ⊎ IsOfOld old changed a c (new k)
  pub given : (j : ℕ) → j < c → gone j ≡ false → IsAmong new n (changed j)
  pub kept : (i : ℕ) → i < a → IsUnnamed changed c (old i) → IsAmong new n (old i)
  pub rising : (j k : ℕ) → j < k → k < n → IsRowBefore (new j) (new k)
