-- Why bytes are no image of a routing table.
use Rattle.std.specs.Prelude.{◌≡◌, ◌≢◌, ℕ, zero, suc, ◌+◌, ◌*◌, ◌%◌, ◌^◌, ◌<◌, ◌≤◌, ◌⊎◌, Bool, List, length}
use Rattle.image_parts.specs.declared.errors.ImageError.{ImageError}
use Rattle.image_parts.specs.declared.errors.ImageError.TheVariants.{Short, Mark, Version, Part, Row, Span, Cell}
use Rattle.image_parts.specs.Parts.{IsListed, part_count, row_count, u32_in, u64_in}
use Rattle.flat_routes.specs.Images.{AreLinkedTo, HasHead, IsSpanOf, IsSpanRight, answer_in, bases, cell_count, cell_in, is_half, links, low_of, mark, rest_of, row_size, sizes, span_count, start_in, start_size, width}

-- the number of the first 7 of 8 bytes, which tell the family
abbrev pub family : ℕ → ℕ
family n = n % 2 ^ 56

-- the part listed first is that of the rows
pub record IsRowsPart (wide : Bool) (bs : List ℕ) : Type 0 where
  pub listed : IsListed bs 16 1
  pub plain : u32_in bs 20 ≡ 0
  pub size : u64_in bs 32 ≡ row_size wide * row_count bs

-- the part listed second is that of the spans
pub record IsSpansPart (wide : Bool) (bs : List ℕ) : Type 0 where
  pub listed : IsListed bs 40 2
  pub start : u32_in bs 44 ≡ start_size wide (is_half bs)
  pub some : 0 < span_count wide bs
  pub whole : u64_in bs 56 ≡ (start_size wide (is_half bs) + 4) * span_count wide bs

-- the part listed third is that of the cells
pub record IsCellsPart (bs : List ℕ) : Type 0 where
  pub listed : IsListed bs 64 5
  pub shift : rest_of bs < 128
  pub whole : u64_in bs 80 ≡ 4 * cell_count bs

-- the part listed at the index i is the one that an image has there
abbrev pub IsRoutePart : Bool → List ℕ → ℕ → Type 0
IsRoutePart wide bs zero = IsRowsPart wide bs
IsRoutePart wide bs (suc zero) = IsSpansPart wide bs
IsRoutePart wide bs (suc (suc i)) = IsCellsPart bs

-- the part at the index i is the first that isn't the one that an image has there, or isn't listed; the mark is right,
-- and the list lies inside the bytes
pub record IsFirstWrongPart (wide : Bool) (bs : List ℕ) (i : ℕ) : Type 0 where
  pub marked : u64_in bs 0 ≡ mark wide
  pub list : 16 + 24 * part_count bs ≤ length bs
  pub within : i < 3
  pub before : (j : ℕ) → j < i → (j < part_count bs) × IsRoutePart wide bs j
  pub wrong : i < part_count bs → IsRoutePart wide bs i → ⊥

-- the first n rows are of networks that rise, and have their links
abbrev pub AreRowsRight : Bool → List ℕ → ℕ → Type 0
AreRowsRight wide bs n = AreLinkedTo (width wide) (bases wide bs) (sizes wide bs) (links wide bs) n

-- the span at i is right
abbrev pub IsSpanRightIn : Bool → List ℕ → ℕ → Type 0
IsSpanRightIn wide bs i =
    IsSpanRight (width wide) (bases wide bs) (sizes wide bs) (start_in wide bs) (answer_in wide bs) (span_count wide bs) i

-- the cell at t is right
abbrev pub IsCellRight : Bool → List ℕ → ℕ → Type 0
IsCellRight wide bs t = IsSpanOf (start_in wide bs) (span_count wide bs) (low_of wide bs + t * 2 ^ rest_of bs) (cell_in bs t)

-- the row at i is the first that isn't right; the head is, and each part
pub record IsFirstWrongRow (wide : Bool) (bs : List ℕ) (i : ℕ) : Type 0 where
  pub head : HasHead wide bs
  pub parts : (j : ℕ) → j < 3 → IsRoutePart wide bs j
  pub within : i < row_count bs
  pub before : AreRowsRight wide bs i
  pub wrong : AreRowsRight wide bs (i + 1) → ⊥

-- the span at i is the first that isn't right; the head is, each part, and all rows
pub record IsFirstWrongSpan (wide : Bool) (bs : List ℕ) (i : ℕ) : Type 0 where
  pub head : HasHead wide bs
  pub parts : (j : ℕ) → j < 3 → IsRoutePart wide bs j
  pub rows : AreRowsRight wide bs (row_count bs)
  pub within : i < span_count wide bs
  pub before : (j : ℕ) → j < i → IsSpanRightIn wide bs j
  pub wrong : IsSpanRightIn wide bs i → ⊥

-- the cell at t is the first that isn't right; the head is, each part, all rows and all spans
pub record IsFirstWrongCell (wide : Bool) (bs : List ℕ) (t : ℕ) : Type 0 where
  pub head : HasHead wide bs
  pub parts : (j : ℕ) → j < 3 → IsRoutePart wide bs j
  pub rows : AreRowsRight wide bs (row_count bs)
  pub spans : (j : ℕ) → j < span_count wide bs → IsSpanRightIn wide bs j
  pub within : t < cell_count bs
  pub before : (s : ℕ) → s < t → IsCellRight wide bs s
  pub wrong : IsCellRight wide bs t → ⊥

-- the error says what is wrong, the first of all faults
abbrev pub IsRouteFault : Bool → List ℕ → ImageError → Type 0
IsRouteFault wide bs Short = (length bs < 88) ⊎ ((u64_in bs 0 ≡ mark wide) × (length bs < 16 + 24 * part_count bs))
IsRouteFault wide bs Mark = (88 ≤ length bs) × (family (u64_in bs 0) ≢ family (mark wide))
IsRouteFault wide bs Version = (88 ≤ length bs) × (family (u64_in bs 0) ≡ family (mark wide)) × (u64_in bs 0 ≢ mark wide)
IsRouteFault wide bs (Part i) = IsFirstWrongPart wide bs i
IsRouteFault wide bs (Row i) = IsFirstWrongRow wide bs i
IsRouteFault wide bs (Span i) = IsFirstWrongSpan wide bs i
IsRouteFault wide bs (Cell t) = IsFirstWrongCell wide bs t
