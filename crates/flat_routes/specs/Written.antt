-- How an image is laid out, and what has been written of it.
use Rattle.std.specs.Prelude.{◌≡◌, ℕ, ◌+◌, ◌-◌, ◌*◌, ◌^◌, ◌<◌, ◌≤◌, Bool, true, false, List, Some, if◌then◌else◌, length, max, min, nat_lt, slice_get, slice_index}
use Rattle.std.specs.Int.{w64, leading_zeros}
use Rattle.radix_keys.specs.Networks.{Net}
use Rattle.image_parts.specs.declared.errors.WriteError.{WriteError}
use Rattle.image_parts.specs.declared.errors.WriteError.TheVariants.{Full, Short, OutOfOrder}
use Rattle.image_parts.specs.Parts.{HoldsPayload, IsEntry, u128_in, u32_in, u64_in}
use Rattle.frozen_routes.specs.Routes.{AreRowsInOrder, IsFirstOutOfOrder, IsLastHolder, base_numbers, bit_counts}
use Rattle.flat_routes.specs.declared.head.CellPlan.{CellPlan}
use Rattle.flat_routes.specs.declared.head.RowPlan.{RowPlan}
use Rattle.flat_routes.specs.declared.head.SpanPlan.{SpanPlan}
use Rattle.flat_routes.specs.Images.{IsImage, image_rows, link_in, mark, network, row_in, row_size, start_size, width}

-- of how many blocks the cells of so many rows are at most, as a power of two: two less than the count has binary digits, but
-- at least 7 and at most 21
unfoldable pub cell_bits : ℕ → ℕ
cell_bits n = max 7 (min (64 - leading_zeros w64 n - 2) 21)

-- how many cells an image of so many rows has at most
abbrev pub most_cells : ℕ → ℕ
most_cells n = if nat_lt n 256 then 0 else (if nat_lt n (2 ^ 31) then 2 ^ cell_bits n else 0)

-- how many bytes a span takes at most
abbrev pub most_span : Bool → ℕ
most_span false = 8
most_span true = 20

-- how many bytes an image of so many rows takes at most, and of so many bytes of the user's own: there are no more spans
-- than addresses at which a network begins or ends, and one
abbrev pub image_size : Bool → (rows payload : ℕ) → ℕ
image_size wide rows payload =
    112 + row_size wide * rows + most_span wide * (2 * rows + 1) + 4 * most_cells rows + payload

-- rows can be written, with so many bytes of the user's own, into so many bytes
pub record CanWrite (wide : Bool) (rows : List (Net ℕ × ℕ)) (payload room : ℕ) : Type 0 where
  pub few : length rows < 2 ^ 32
  pub fits : image_size wide (length rows) payload ≤ room
  pub rising : AreRowsInOrder (width wide) (λ n. n) rows

-- the error says why they can't
abbrev pub IsWriteFault : Bool → (rows : List (Net ℕ × ℕ)) → (payload room : ℕ) → WriteError → Type 0
IsWriteFault wide rows payload room Full = 2 ^ 32 ≤ length rows
IsWriteFault wide rows payload room Short = (length rows < 2 ^ 32) × (room < image_size wide (length rows) payload)
IsWriteFault wide rows payload room (OutOfOrder i) =
    (length rows < 2 ^ 32) × (image_size wide (length rows) payload ≤ room) × IsFirstOutOfOrder (width wide) (λ n. n) rows i

-- the bytes are an image of these rows, which holds these bytes of the user's own
pub record IsImageOf (wide : Bool) (own_rows : List (Net ℕ × ℕ)) (own : List ℕ) (bs : List ℕ) : Type 0 where
  pub image : IsImage wide bs
  pub rows : image_rows wide bs ≡ own_rows
  pub payload : HoldsPayload bs own

-- bytes change between the places a and b alone
pub record ChangesWithin (a b : ℕ) (old new : List ℕ) : Type 0 where
  pub before : (k : ℕ) → k < a → slice_index new k ≡ slice_index old k
  pub behind : (k : ℕ) → b ≤ k → slice_index new k ≡ slice_index old k
  pub same_length : length new ≡ length old

-- the head up to the part of the rows is written
pub record IsRowHead (wide : Bool) (bs : List ℕ) (plan : RowPlan) : Type 0 where
  pub marked : u64_in bs 0 ≡ mark wide
  pub count : u32_in bs 8 ≡ plan.rows
  pub parts : u32_in bs 12 ≡ 4
  pub rows : IsEntry bs 16 1 0 plan.rows_at (row_size wide * plan.rows)

-- and the other parts are listed: spans, cells, and so many bytes of the user's own
pub record AreListed (wide : Bool) (bs : List ℕ) (spans : SpanPlan) (cells : CellPlan) (payload : ℕ) : Type 0 where
  pub spans_part : IsEntry bs 40 2 (start_size wide spans.is_half) spans.at ((start_size wide spans.is_half + 4) * spans.count)
  pub cells_part : IsEntry bs 64 5 cells.rest cells.at (4 * cells.count)
  pub own_part : IsEntry bs 88 3 0 (cells.at + 4 * cells.count) payload

-- of IPv6 the starts of spans may be upper halves: no network has more bits
abbrev pub MayBeHalf : Bool → (bs : List ℕ) → (rows : ℕ) → Type 0
MayBeHalf wide bs rows = (wide ≡ true) × ((k : ℕ) → k < rows → slice_index bs k ≤ 64)

-- the row that stands at the place a
abbrev pub row_from : Bool → List ℕ → ℕ → Net ℕ × ℕ
row_from false bs a = (network (u32_in bs a) (u32_in bs (a + 4)), u32_in bs (a + 12))
row_from true bs a = (network (u128_in bs a) (u32_in bs (a + 16)), u64_in bs (a + 24))

-- its link
abbrev pub link_from : Bool → List ℕ → ℕ → ℕ
link_from false bs a = u32_in bs (a + 8)
link_from true bs a = u32_in bs (a + 20)

-- the first n of some rows stand there, with their links
pub record HoldsRows (wide : Bool) (bs : List ℕ) (rows : List (Net ℕ × ℕ)) (n : ℕ) : Type 0 where
  pub stored : (k : ℕ) → k < n → slice_get rows k ≡ Some (row_in wide bs k)
  pub links : (k : ℕ) → k < n → IsLastHolder (width wide) (base_numbers (λ m. m) rows) (bit_counts rows) k
      (slice_index (base_numbers (λ m. m) rows) k) (link_in wide bs k)
