-- A routing table laid into one run of bytes: the numbers that stand there, and when the bytes are such a table.
use Rattle.std.specs.Prelude.{◌≡◌, ℕ, zero, suc, ◌+◌, ◌-◌, ◌*◌, ◌/◌, ◌^◌, ◌<◌, ◌≤◌, ◌⊎◌, Bool, true, false, List, Option, None, Some, codes, length, nat_eq, slice_index}
use Rattle.std.specs.Int.{w64, w128, from_le_bytes, from_be_bytes}
use Rattle.radix_keys.specs.Networks.{Net, IsBase}
use Rattle.image_parts.specs.Parts.{IsListed, listed, part_count, row_count, u128_in, u32_in, u64_in}
use Rattle.frozen_routes.specs.Routes.{AreRising, AreUpTo, AreUplinks, IsEarlier, IsLastHolder, base_numbers, bit_counts}
use Rattle.flat_routes.specs.declared.head.Plan.{Plan}
use Rattle.flat_routes.specs.declared.head.RowPlan.{RowPlan}
use Rattle.flat_routes.specs.declared.head.SpanPlan.{SpanPlan}
use Rattle.flat_routes.specs.declared.turns.Begun.{Begun}
use Rattle.flat_routes.specs.declared.ipv4.Row.{Row as Row4}
use Rattle.flat_routes.specs.declared.ipv6.Row.{Row as Row6}
use Rattle.flat_routes.specs.declared.table.Route.{Route}

-- the family of IPv4
abbrev pub of_ipv4 : Bool
of_ipv4 = false

-- the family of IPv6
abbrev pub of_ipv6 : Bool
of_ipv6 = true

-- how many bits an address of a family has
abbrev pub width : Bool → ℕ
width false = 32
width true = 128

-- how many bytes a row takes
abbrev pub row_size : Bool → ℕ
row_size false = 16
row_size true = 32

-- the number of the first 8 bytes of a family's images
abbrev pub mark : Bool → ℕ
mark false = from_le_bytes w64 (codes "NZIPV4.2")
mark true = from_le_bytes w64 (codes "NZIPV6.2")

-- where the rows begin
abbrev pub rows_place : List ℕ → ℕ
rows_place bs = u64_in bs 24

-- whether of IPv6 the start of a span is the upper half of an address alone
abbrev pub is_half : List ℕ → Bool
is_half bs = nat_eq (u32_in bs 44) 8

-- how many bytes the start of a span takes
abbrev pub start_size : (wide half : Bool) → ℕ
start_size false half = 4
start_size true true = 8
start_size true false = 16

-- the spans as the head says: how many there are, where they begin, and what a start is
abbrev pub span_plan : Bool → List ℕ → SpanPlan
span_plan wide bs = record {
  count = u64_in bs 56 / (start_size wide (is_half bs) + 4);
  at = u64_in bs 48;
  is_half = is_half bs;
}

-- the address that a start stands for at the place a
abbrev pub start_from : (wide half : Bool) → List ℕ → ℕ → ℕ
start_from false half bs a = u32_in bs a
start_from true true bs a = 2 ^ 64 * u64_in bs a
start_from true false bs a = u128_in bs a

-- the address that the span at i begins with
abbrev pub begin_of : Bool → SpanPlan → List ℕ → ℕ → ℕ
begin_of wide spans bs i = start_from wide spans.is_half bs (spans.at + (start_size wide spans.is_half + 4) * i)

-- its answer: the index and one more of the row of the longest network that holds its addresses, or 0
abbrev pub answer_of : Bool → SpanPlan → List ℕ → ℕ → ℕ
answer_of wide spans bs i =
    u32_in bs (spans.at + (start_size wide spans.is_half + 4) * i + start_size wide spans.is_half)

-- how many spans there are, where each begins, and what its answer is
abbrev pub span_count : Bool → List ℕ → ℕ
span_count wide bs = (span_plan wide bs).count

abbrev pub start_in : Bool → List ℕ → ℕ → ℕ
start_in wide bs i = begin_of wide (span_plan wide bs) bs i

abbrev pub answer_in : Bool → List ℕ → ℕ → ℕ
answer_in wide bs i = answer_of wide (span_plan wide bs) bs i

-- how many bits of an address lie within a block
abbrev pub rest_of : List ℕ → ℕ
rest_of bs = u32_in bs 68

-- where the cells begin
abbrev pub cells_place : List ℕ → ℕ
cells_place bs = u64_in bs 72

-- how many cells there are
abbrev pub cell_count : List ℕ → ℕ
cell_count bs = u64_in bs 80 / 4

-- the cell at t
abbrev pub cell_in : List ℕ → ℕ → ℕ
cell_in bs t = u32_in bs (cells_place bs + 4 * t)

-- the first address of the row at i
abbrev pub first_in : Bool → List ℕ → ℕ → ℕ
first_in false bs i = u32_in bs (rows_place bs + 16 * i)
first_in true bs i = u128_in bs (rows_place bs + 32 * i)

-- how many bits its addresses share
abbrev pub bits_in : Bool → List ℕ → ℕ → ℕ
bits_in false bs i = u32_in bs (rows_place bs + 16 * i + 4)
bits_in true bs i = u32_in bs (rows_place bs + 32 * i + 16)

-- its link
abbrev pub link_in : Bool → List ℕ → ℕ → ℕ
link_in false bs i = u32_in bs (rows_place bs + 16 * i + 8)
link_in true bs i = u32_in bs (rows_place bs + 32 * i + 20)

-- its value
abbrev pub value_in : Bool → List ℕ → ℕ → ℕ
value_in false bs i = u32_in bs (rows_place bs + 16 * i + 12)
value_in true bs i = u64_in bs (rows_place bs + 32 * i + 24)

-- the network with a first address and so many shared bits
abbrev pub network : ℕ → ℕ → Net ℕ
network first bits = record { base = first; bits = bits }

-- the row at i: a network and its value
abbrev pub row_in : Bool → List ℕ → ℕ → Net ℕ × ℕ
row_in wide bs i = (network (first_in wide bs i) (bits_in wide bs i), value_in wide bs i)

-- a row whose network begins at an address, by the address's number
abbrev pub numbered_row : {A V : Type 0} → (A → ℕ) → Net A × V → Net ℕ × V
numbered_row number r = (network (number r.0.base) r.0.bits, r.1)

-- a row of IPv4 as the calls give it
abbrev pub row4_of : Row4 → Net ℕ × ℕ
row4_of r = (network r.first r.bits, r.value)

-- the number of an address of 16 octets, the first the highest
abbrev pub octet_number : List ℕ → ℕ
octet_number octets = from_be_bytes w128 octets

-- a row of IPv6
abbrev pub row6_of : Row6 → Net ℕ × ℕ
row6_of r = (network (octet_number r.first) r.bits, r.value)

-- a row of either family
abbrev pub read_row : {A : Type 0} → (A → ℕ) → Route A → Net ℕ × ℕ
read_row number r = (network (number r.first) r.bits, r.value)

-- the row whose index and one more is r, or None at 0
abbrev pub found_row : Bool → List ℕ → ℕ → Option (Net ℕ × ℕ)
found_row wide bs zero = None
found_row wide bs (suc i) = Some (row_in wide bs i)

-- its value, or 0 at 0
abbrev pub found_value : Bool → List ℕ → ℕ → ℕ
found_value wide bs zero = 0
found_value wide bs (suc i) = value_in wide bs i

-- the rows of an image
abbrev pub image_rows : Bool → List ℕ → List (Net ℕ × ℕ)
image_rows wide bs = listed (row_in wide bs) (row_count bs)

-- their first addresses
abbrev pub bases : Bool → List ℕ → List ℕ
bases wide bs = base_numbers (λ n. n) (image_rows wide bs)

-- how many bits the addresses of each share
abbrev pub sizes : Bool → List ℕ → List ℕ
sizes wide bs = bit_counts (image_rows wide bs)

-- their links
abbrev pub links : Bool → List ℕ → List ℕ
links wide bs = listed (link_in wide bs) (row_count bs)

-- the address that the first block begins with: the first one of the first network
abbrev pub low_of : Bool → List ℕ → ℕ
low_of wide bs = slice_index (bases wide bs) 0

-- of m spans with these starts that at i is the last that begins at or before the address a
pub record IsSpanOf (starts : ℕ → ℕ) (m a i : ℕ) : Type 0 where
  pub within : i < m
  pub from : starts i ≤ a
  pub to : i + 1 < m → a < starts (i + 1)

-- the span at i is right: the first begins at 0 and the next one behind it, and of each of its addresses its answer is the
-- last network that holds it
pub record IsSpanRight (w : ℕ) (fs bs : List ℕ) (starts answers : ℕ → ℕ) (m i : ℕ) : Type 0 where
  pub first : i ≡ 0 → starts 0 ≡ 0
  pub next : i + 1 < m → starts i < starts (i + 1)
  pub answer : (a : ℕ) → a < 2 ^ w → IsSpanOf starts m a i → IsLastHolder w fs bs (length fs) a (answers i)

-- all spans are, and there are some
pub record AreSpans (w : ℕ) (fs bs : List ℕ) (starts answers : ℕ → ℕ) (m : ℕ) : Type 0 where
  pub some : 0 < m
  pub each : (i : ℕ) → i < m → IsSpanRight w fs bs starts answers m i

-- each of so many cells leads to the span of the first address of its block; the blocks have 2^e addresses, and the first
-- begins with the address low
abbrev pub AreCells : (starts : ℕ → ℕ) → (m low e : ℕ) → (cells : ℕ → ℕ) → (count : ℕ) → Type 0
AreCells starts m low e cells count = (t : ℕ) → t < count → IsSpanOf starts m (low + t * 2 ^ e) (cells t)

-- the head is of this family and version, and the first three parts that it lists are the rows, the spans and the cells
pub record HasHead (wide : Bool) (bs : List ℕ) : Type 0 where
  pub marked : u64_in bs 0 ≡ mark wide
  pub some : 3 ≤ part_count bs
  pub fits : 16 + 24 * part_count bs ≤ length bs
  pub rows : IsListed bs 16 1
  pub rows_size : u64_in bs 32 ≡ row_size wide * row_count bs
  pub spans : IsListed bs 40 2
  pub start : u32_in bs 44 ≡ start_size wide (is_half bs)
  pub cells : IsListed bs 64 5
  pub shift : rest_of bs < 128

-- the bytes are an image: the rows have no detail, spans and cells fill their parts, the networks rise, each has its link,
-- and the spans and cells are right
pub record IsImage (wide : Bool) (bs : List ℕ) : Type 0 where
  pub head : HasHead wide bs
  pub plain : u32_in bs 20 ≡ 0
  pub whole_spans : u64_in bs 56 ≡ (start_size wide (is_half bs) + 4) * span_count wide bs
  pub whole_cells : u64_in bs 80 ≡ 4 * cell_count bs
  pub rising : AreRising (width wide) (bases wide bs) (sizes wide bs)
  pub linked : AreUplinks (width wide) (bases wide bs) (sizes wide bs) (links wide bs)
  pub spans : AreSpans (width wide) (bases wide bs) (sizes wide bs) (start_in wide bs) (answer_in wide bs) (span_count wide bs)
  pub cells : AreCells (start_in wide bs) (span_count wide bs) (low_of wide bs) (rest_of bs) (cell_in bs) (cell_count bs)

-- a plan of the rows says what the head does, and they lie inside the bytes
pub record IsRowPlan (wide : Bool) (bs : List ℕ) (plan : RowPlan) : Type 0 where
  pub rows : plan.rows ≡ row_count bs
  pub few : plan.rows < 2 ^ 32
  pub rows_at : plan.rows_at ≡ rows_place bs
  pub inside : plan.rows_at + row_size wide * plan.rows ≤ length bs

-- the spans of a plan lie inside the bytes
abbrev pub AreSpansInside : Bool → List ℕ → SpanPlan → Type 0
AreSpansInside wide bs spans = spans.at + (start_size wide spans.is_half + 4) * spans.count ≤ length bs

-- a plan says what the head does, and each part lies inside the bytes
pub record IsPlanOf (wide : Bool) (bs : List ℕ) (plan : Plan) : Type 0 where
  pub head : HasHead wide bs
  pub rows : IsRowPlan wide bs plan.rows
  pub spans : plan.spans ≡ span_plan wide bs
  pub spans_inside : AreSpansInside wide bs plan.spans
  pub cells : plan.cells.count ≡ cell_count bs
  pub cells_at : plan.cells.at ≡ cells_place bs
  pub cells_inside : plan.cells.at + 4 * plan.cells.count ≤ length bs
  pub rest : plan.cells.rest ≡ rest_of bs
  pub low : plan.cells.low ≡ low_of wide bs

-- the network at i is one, and comes after the one before it
pub record IsNext (w : ℕ) (fs bs : List ℕ) (i : ℕ) : Type 0 where
  pub base : IsBase w (slice_index bs i) (slice_index fs i)
  pub after : 0 < i
      → IsEarlier (slice_index fs (i - 1)) (slice_index bs (i - 1)) (slice_index fs i) (slice_index bs i)

-- the first n networks rise, and each has its link
pub record AreLinkedTo (w : ℕ) (fs bs parents : List ℕ) (n : ℕ) : Type 0 where
  pub next : (k : ℕ) → k < n → IsNext w fs bs k
  pub links : (k : ℕ) → k < n → IsLastHolder w fs bs k (slice_index fs k) (slice_index parents k)

-- so many networks begin by the address a, and the last of these that holds it is that of the index and one more, or 0
pub record IsKnownAt (w : ℕ) (fs bs : List ℕ) (a : ℕ) (begun : Begun) : Type 0 where
  pub count : AreUpTo fs a begun.count
  pub around : IsLastHolder w fs bs begun.count a begun.around

-- the address behind the last one of the network at k
abbrev pub end_of : ℕ → (fs bs : List ℕ) → ℕ → ℕ
end_of w fs bs k = slice_index fs k + 2 ^ (w - slice_index bs k)

-- at the address t a network begins, or one ends before it
abbrev pub IsEdge : ℕ → (fs bs : List ℕ) → ℕ → Type 0
IsEdge w fs bs t = (k : ℕ) × (k < length fs) × ((t ≡ slice_index fs k) ⊎ (t ≡ end_of w fs bs k))

-- from the address a on, r is the answer of each address before t, and not of t
pub record IsTurn (w : ℕ) (fs bs : List ℕ) (a r t : ℕ) : Type 0 where
  pub behind : a < t
  pub inside : t < 2 ^ w
  pub same : (b : ℕ) → a ≤ b → b < t → IsLastHolder w fs bs (length fs) b r
  pub other : IsLastHolder w fs bs (length fs) t r → ⊥
  pub edge : IsEdge w fs bs t

-- that of all
abbrev pub HasNoTurn : ℕ → (fs bs : List ℕ) → (a r : ℕ) → Type 0
HasNoTurn w fs bs a r = (b : ℕ) → a ≤ b → b < 2 ^ w → IsLastHolder w fs bs (length fs) b r
