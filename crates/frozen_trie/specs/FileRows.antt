-- The rows of a file: each has the bytes of a key and of its value.
use Rattle.std.specs.Prelude.{◌≡◌, ◌≢◌, ℕ, ◌<◌, ◌^◌, ◌⊎◌, List, [], ◌++◌, ⊤, IfSome, OnOk, Option, Result, codes, length, flat_map, take}
use Rattle.std.specs.Int.{w32, w64, to_le_bytes}
use Rattle.std.specs.Io.Iter.{u64_saturate}
use Rattle.std.specs.Io.KnownBytes.{Appends}
use Rattle.nibble_map.specs.Lists.{Each}
use Rattle.frozen_trie.specs.declared.file.FileWhy.{FileWhy}
use Rattle.frozen_trie.specs.declared.file.FileWhy.TheVariants.{Full, Key, Long, Magic, Memory, Read, Short, OutOfOrder, Value, Version}

-- bytes behind their count
abbrev pub counted_bytes : List ℕ → List ℕ
counted_bytes bytes = to_le_bytes w32 (length bytes) ++ bytes

-- a row: a key's bytes behind their count, and then its value's
abbrev pub row_of : List ℕ × List ℕ → List ℕ
row_of p = counted_bytes p.0 ++ counted_bytes p.1

abbrev pub file_rows : List (List ℕ × List ℕ) → List ℕ
file_rows rs = flat_map row_of rs

-- what stands before the rows: the name of the form, its version, and the count of rows
abbrev pub head_of : ℕ → List ℕ
head_of n = codes "FROZENTX" ++ (to_le_bytes w32 2 ++ to_le_bytes w64 n)

-- the whole file
abbrev pub file_of_rows : List (List ℕ × List ℕ) → List ℕ
file_of_rows rs = head_of (length rs) ++ file_rows rs

-- the counts of a row's bytes fit 4 bytes each
abbrev pub FitsRow : List ℕ × List ℕ → Type 0
FitsRow p = (length p.0 < 2 ^ 32) × (length p.1 < 2 ^ 32)

-- the bytes begin with the row of these
abbrev pub IsNextRow : List ℕ × List ℕ → List ℕ → Type 0
IsNextRow p bytes = FitsRow p × ((rest : List ℕ) × (bytes ≡ row_of p ++ rest))

-- they begin with no row that is whole
abbrev pub HasNoRow : List ℕ → Type 0
HasNoRow bytes = (p : List ℕ × List ℕ) → IsNextRow p bytes → ⊥

-- nor with bytes behind their count
abbrev pub HasNoCounted : List ℕ → Type 0
HasNoCounted bytes =
    (own rest : List ℕ) → length own < 2 ^ 32 → bytes ≡ counted_bytes own ++ rest → ⊥

-- a part of the head begins at this place, and has so many bytes: the name of the form, its version, or the count
abbrev pub IsHeadPart : (place size : ℕ) → Type 0
IsHeadPart place size =
    ((place ≡ 0) × (size ≡ 8)) ⊎ (((place ≡ 8) × (size ≡ 4)) ⊎ ((place ≡ 12) × (size ≡ 8)))

-- the bytes begin as a head does up to a part of it, which begins at this place
pub record IsHeadUntil (bytes : List ℕ) (place : ℕ) : Type 0 where
  pub size : ℕ
  pub rest : List ℕ
  pub part : IsHeadPart place size
  pub begin : bytes ≡ take place (head_of 0) ++ rest

-- and they end within that part
pub record IsCutHead (bytes : List ℕ) (place : ℕ) : Type 0 where
  pub until : IsHeadUntil bytes place
  pub cut : length until.rest < until.size

-- the bytes begin with another name
pub record IsOtherName (bytes : List ℕ) : Type 0 where
  pub name : List ℕ
  pub rest : List ℕ
  pub begin : bytes ≡ name ++ rest
  pub long : length name ≡ 8
  pub other : name ≢ codes "FROZENTX"

-- the bytes begin with the name and another version
pub record IsOtherVersion (bytes : List ℕ) : Type 0 where
  pub version : ℕ
  pub rest : List ℕ
  pub fits : version < 2 ^ 32
  pub begin : bytes ≡ (codes "FROZENTX" ++ to_le_bytes w32 version) ++ rest
  pub other : version ≢ 2

-- the fault is in the head
abbrev pub IsHeadFault : FileWhy → List ℕ → ℕ → ℕ → Type 0
IsHeadFault Magic bytes pair place = (pair ≡ 0) × (place ≡ 0) × IsOtherName bytes
IsHeadFault Version bytes pair place = (pair ≡ 0) × (place ≡ 8) × IsOtherVersion bytes
IsHeadFault Short bytes pair place = (pair ≡ 0) × IsCutHead bytes place
IsHeadFault Read bytes pair place = (pair ≡ 0) × IsHeadUntil bytes place
IsHeadFault why bytes pair place = ⊥

-- Refuses says why a map of M doesn't take one row more
module _ {M : Type 0} (Refuses : M → FileWhy → List ℕ × List ℕ → Type 0) where
  -- why the row of these bytes isn't taken behind those of m
  abbrev pub IsRefusedRow : FileWhy → M → List ℕ × List ℕ → Type 0
  IsRefusedRow Memory m p = ⊤
  IsRefusedRow Key m p = Refuses m Key p
  IsRefusedRow Value m p = Refuses m Value p
  IsRefusedRow OutOfOrder m p = Refuses m OutOfOrder p
  IsRefusedRow Full m p = Refuses m Full p
  IsRefusedRow why m p = ⊥

  -- why no row of the bytes is taken behind those of m
  abbrev pub IsUnreadRow : FileWhy → M → List ℕ → Type 0
  IsUnreadRow Short m bytes = HasNoRow bytes
  IsUnreadRow Read m bytes = ⊤
  IsUnreadRow Memory m bytes = ⊤
  IsUnreadRow why m bytes = (p : List ℕ × List ℕ) × IsNextRow p bytes × IsRefusedRow why m p

-- a map of M has these rows
module _ {M : Type 0} (rows : M → List (List ℕ × List ℕ))
    (Refuses : M → FileWhy → List ℕ × List ℕ → Type 0) where
  -- why the bytes behind the rows of m aren't the rest of a file of so many rows that is read
  abbrev pub IsRestFault : FileWhy → M → ℕ → List ℕ → Type 0
  IsRestFault Long m count rest = (length (rows m) ≡ count) × (rest ≢ [])
  IsRestFault Read m count rest = ⊤
  IsRestFault Memory m count rest = ⊤
  IsRestFault why m count rest = (length (rows m) < count) × IsUnreadRow Refuses why m rest

-- and Are says that its pairs are of their types
module _ {M : Type 0} (rows : M → List (List ℕ × List ℕ)) (Are : M → Type 0)
    (Refuses : M → FileWhy → List ℕ × List ℕ → Type 0) where
  -- the rows of a map stand behind the head, so many, and end at this place, which stops at
  -- `u64::MAX`; why what stands behind them isn't read
  pub record IsFaultBehind (why : FileWhy) (bytes : List ℕ) (pair place : ℕ) : Type 0 where
    pub map : M
    pub count : ℕ
    pub rest : List ℕ
    pub few : count < 2 ^ 64
    pub fits : Each FitsRow (rows map)
    pub items : Are map
    pub begin : bytes ≡ (head_of count ++ file_rows (rows map)) ++ rest
    pub pairs : length (rows map) ≡ pair
    pub ends : place ≡ u64_saturate (length (head_of count ++ file_rows (rows map)))
    pub fault : IsRestFault rows Refuses why map count rest

  -- the fault is in the head, or behind so many whole rows
  abbrev pub IsFault : FileWhy → List ℕ → (pair place : ℕ) → Type 0
  IsFault why bytes pair place =
      IsHeadFault why bytes pair place ⊎ IsFaultBehind why bytes pair place

-- the reader failed, or ended before it gave so many bytes
abbrev pub IsReaderFault : FileWhy → Option (List ℕ) → ℕ → Type 0
IsReaderFault Short known n = IfSome known (λ bytes. length bytes < n)
IsReaderFault Read known n = ⊤
IsReaderFault why known n = ⊥

-- or memory for them is refused
abbrev pub IsPartFault : FileWhy → Option (List ℕ) → ℕ → Type 0
IsPartFault Memory known n = ⊤
IsPartFault why known n = IsReaderFault why known n

-- why no bytes behind their count are read
abbrev pub IsCountedFault : FileWhy → Option (List ℕ) → Type 0
IsCountedFault Short known = IfSome known HasNoCounted
IsCountedFault Read known = ⊤
IsCountedFault Memory known = ⊤
IsCountedFault why known = ⊥

-- the reader failed, or has a byte left
abbrev pub IsEndFault : FileWhy → Option (List ℕ) → Type 0
IsEndFault Long known = IfSome known (λ bytes. bytes ≢ [])
IsEndFault Read known = ⊤
IsEndFault why known = ⊥

-- a beginning of the bytes is written
abbrev pub WritesPart : (old new : Option (List ℕ)) → List ℕ → Type 0
WritesPart old new bytes =
    (begun : List ℕ) × (rest : List ℕ) × (bytes ≡ begun ++ rest) × Appends old new begun

-- all of them are written, or at `Err` a beginning
pub record WritesInFull {U E : Type 0} (r : Result U E) (old new : Option (List ℕ)) (bytes : List ℕ)
    : Type 0 where
  pub all : OnOk r (Appends old new bytes)
  pub part : WritesPart old new bytes
