-- The lines of a text.
use Rattle.std.specs.Prelude.{◌≢◌, ℕ, ◌-◌, ◌^◌, min, ◌==◌, if◌then◌else◌, List, [], ◌∷◌, ◌++◌, fold}
use Rattle.std.specs.List.{All}

-- no byte is a line feed
abbrev pub HasNoFeed : List ℕ → Type 0
HasNoFeed bytes = All (λ byte. byte ≢ 10) bytes

-- a text's lines that a line feed ends, and the bytes after the last line feed
pub record Cut : Type 0 where
  pub lines : List (List ℕ)
  pub rest : List ℕ

abbrev pub cut_at : Cut → ℕ → Cut
cut_at c byte =
    if byte == 10 then record { lines = c.lines ++ c.rest ∷ []; rest = [] }
    else record { lines = c.lines; rest = c.rest ++ byte ∷ [] }

unfoldable pub cut : List ℕ → Cut
cut bytes = fold cut_at (record { lines = []; rest = [] }) bytes

-- the lines that a line feed ends
abbrev pub ended_lines : List ℕ → List (List ℕ)
ended_lines bytes = (cut bytes).lines

-- the bytes after the last line feed, if there are any, as a line
abbrev pub last_line : List ℕ → List (List ℕ)
last_line [] = []
last_line (b ∷ bs) = (b ∷ bs) ∷ []

-- all lines, also one that no line feed ends
abbrev pub all_lines : List ℕ → List (List ℕ)
all_lines bytes = ended_lines bytes ++ last_line (cut bytes).rest

-- lines are counted from 1, and at the largest u64 the count stays
abbrev pub counted : ℕ → ℕ
counted lines = min lines (2 ^ 64 - 1)
