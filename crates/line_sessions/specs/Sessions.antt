-- What a session says of the bytes that were read and written, and of the program.
use Rattle.std.specs.Prelude.{◌≡◌, ℕ, ◌+◌, List, ◌∷◌, ◌++◌, Option, Result, Ok, Err, ◌⊎◌, length}
use Rattle.std.specs.Io.KnownBytes.{Appends, Consumes, IsAtEnd}
use Rattle.line_sessions.specs.Answers.{AreAnswers, IsBadLine, IsToldBad}
use Rattle.line_sessions.specs.Faults.{exit_of, told_of}
use Rattle.line_sessions.specs.Lines.{all_lines, counted, ended_lines}
use Rattle.line_sessions.specs.Watched.{Noted, ReaderState, WriterState, Writes}
use Rattle.line_sessions.specs.declared.fault.Fault.{Fault}
use Rattle.line_sessions.specs.declared.fault.Fault.TheVariants.{Read, Write, BadLine, Memory}

-- what was written begins the answers to some first lines
abbrev pub IsBeginning : {S : Type 0} → (S → List ℕ → S → List ℕ → Type 0) → List (List ℕ) → S
    → List ℕ → Type 0
IsBeginning {S} R lines s o =
    (before : List (List ℕ)) × (after : List (List ℕ)) × (lines ≡ before ++ after)
    × (t : S) × (rest : List ℕ) × AreAnswers R before s t (o ++ rest)

-- the lines before a bad one are answered, and it has this number
abbrev pub IsBadAt : {S : Type 0} → (S → List ℕ → S → List ℕ → Type 0) → (List ℕ → Type 0)
    → List (List ℕ) → ℕ → S → S → List ℕ → Type 0
IsBadAt R B lines n s t o =
    (before : List (List ℕ)) × (bad : List ℕ) × (after : List (List ℕ))
    × (lines ≡ before ++ bad ∷ after) × IsBadLine B bad × (n ≡ counted (length before + 1))
    × AreAnswers R before s t o

-- where no memory was left: at the program's answer to the next line, or before it had that line
abbrev pub GaveUp : {S : Type 0} → (S → List ℕ → S → Type 0) → List (List ℕ) → S → S → Type 0
GaveUp G after s t =
    (t ≡ s) ⊎ ((line : List ℕ) × (more : List (List ℕ)) × (after ≡ line ∷ more) × G s line t)

-- all lines that the program answered are those before the one that memory was refused for
abbrev pub IsRefusedAt : {S : Type 0} → (S → List ℕ → S → List ℕ → Type 0)
    → (S → List ℕ → S → Type 0) → List (List ℕ) → S → S → List ℕ → Type 0
IsRefusedAt {S} R G lines s t o =
    (before : List (List ℕ)) × (after : List (List ℕ)) × (lines ≡ before ++ after)
    × (u : S) × AreAnswers R before s u o × GaveUp G after u t

-- why the lines of a text are answered no further, with o written
abbrev pub Breaks : {S : Type 0} → (S → List ℕ → S → List ℕ → Type 0) → (List ℕ → Type 0)
    → (S → List ℕ → S → Type 0) → Fault → List (List ℕ) → S → S → List ℕ → Type 0
Breaks R B G Read lines s t o = ⊥
Breaks R B G Write lines s t o = IsBeginning R lines s o
Breaks R B G (BadLine n) lines s t o = IsBadAt R B lines n s t o
Breaks R B G Memory lines s t o = IsRefusedAt R G lines s t o

-- the lines of b that a line feed ends, or where the reader has ended all of them
abbrev pub AreHeard : (ended : Type 0) → List ℕ → List (List ℕ) → Type 0
AreHeard ended b lines = (lines ≡ ended_lines b) ⊎ (ended × (lines ≡ all_lines b))

-- what is answered where b was read and o written, and the program went from s to t:
-- all lines, at the reader's end; all whole lines, where a read failed; a beginning, where a write
-- failed; the lines before the bad one; the lines before the one that memory was refused for
abbrev pub Outcome : {S U : Type 0} → (S → List ℕ → S → List ℕ → Type 0) → (List ℕ → Type 0)
    → (S → List ℕ → S → Type 0) → Result U Fault → (ended : Type 0) → (b : List ℕ) → S → S
    → (o : List ℕ) → Type 0
Outcome R B G (Ok _) ended b s t o = ended × AreAnswers R (all_lines b) s t o
Outcome R B G (Err Read) ended b s t o = AreAnswers R (ended_lines b) s t o
Outcome R B G (Err Write) ended b s t o =
    (lines : List (List ℕ)) × AreHeard ended b lines × IsBeginning R lines s o
Outcome R B G (Err (BadLine n)) ended b s t o =
    (lines : List (List ℕ)) × AreHeard ended b lines × IsBadAt R B lines n s t o
Outcome R B G (Err Memory) ended b s t o =
    (lines : List (List ℕ)) × AreHeard ended b lines × IsRefusedAt R G lines s t o

-- what stands in a reader and a writer, and what the program is, before and after
pub record Served {S U : Type 0} (R : S → List ℕ → S → List ℕ → Type 0) (B : List ℕ → Type 0)
    (G : S → List ℕ → S → Type 0) (unread unread' held held' : Option (List ℕ)) (s t : S)
    (r : Result U Fault) : Type 0 where
  pub read : List ℕ
  pub written : List ℕ
  pub consumed : Consumes unread unread' read
  pub appended : Appends held held' written
  pub outcome : Outcome R B G r (IsAtEnd unread') read s t written

-- a whole run: how the session went, which calls of the streams it tells, the status, and the text
-- on standard error, with the remark that M tells of a bad line
pub record Ran {S : Type 0} (R : S → List ℕ → S → List ℕ → Type 0) (B : List ℕ → Type 0)
    (G : S → List ℕ → S → Type 0) (M : List ℕ → List ℕ → Type 0) (reader reader' : ReaderState)
    (writer writer' errors errors' : WriterState) (s : S) (status : ℕ) : Type 0 where
  pub result : Result (Unit {0}) Fault
  pub left : S
  pub remark : List ℕ
  pub served : Served R (IsToldBad B M remark) G reader.unread reader'.unread writer.held
      writer'.held s left result
  pub noted : Noted reader reader' writer writer' result
  pub status_is : status ≡ exit_of result
  pub told : Writes errors errors' (told_of remark result)
