-- What a program tells of a fault, and its exit status.
use Rattle.std.specs.Prelude.{ℕ, Bool, true, false, ◌==◌, ◌&&◌, nat_lt, length, List, [], ◌∷◌, ◌++◌, codes, decimal, Result, Ok, Err}
use Rattle.line_sessions.specs.declared.fault.Fault.{Fault}
use Rattle.line_sessions.specs.declared.fault.Fault.TheVariants.{Read, Write, BadLine, Memory}

-- its text, but for the number of a bad line
abbrev pub words_of : Fault → List ℕ
words_of Read = codes "read failed"
words_of Write = codes "write failed"
words_of (BadLine n) = codes "bad line "
words_of Memory = codes "out of memory"

abbrev pub fault_text : Fault → List ℕ
fault_text Read = codes "read failed"
fault_text Write = codes "write failed"
fault_text (BadLine n) = codes "bad line " ++ decimal n
fault_text Memory = codes "out of memory"

abbrev pub status_of : Fault → ℕ
status_of Read = 1
status_of Write = 1
status_of (BadLine n) = 2
status_of Memory = 3

-- a remark behind the number of a bad line; an empty one isn't told
abbrev pub remark_of : List ℕ → List ℕ
remark_of [] = []
remark_of (b ∷ bs) = codes ": " ++ b ∷ bs

-- the text of a fault, and the remark if it is a bad line
abbrev pub text_with : (remark : List ℕ) → Fault → List ℕ
text_with remark Read = fault_text Read
text_with remark Write = fault_text Write
text_with remark (BadLine n) = fault_text (BadLine n) ++ remark_of remark
text_with remark Memory = fault_text Memory

-- the line that stands on standard error at the end
abbrev pub told_of : {U : Type 0} → (remark : List ℕ) → Result U Fault → List ℕ
told_of remark (Ok _) = []
told_of remark (Err e) = text_with remark e ++ 10 ∷ []

abbrev pub exit_of : {U : Type 0} → Result U Fault → ℕ
exit_of (Ok _) = 0
exit_of (Err e) = status_of e

-- a fault of the reader is answered
abbrev pub tells_read : {U : Type 0} → Result U Fault → Bool
tells_read (Ok _) = false
tells_read (Err Read) = true
tells_read (Err Write) = false
tells_read (Err (BadLine n)) = false
tells_read (Err Memory) = false

-- a fault of the writer is answered
abbrev pub tells_write : {U : Type 0} → Result U Fault → Bool
tells_write (Ok _) = false
tells_write (Err Read) = false
tells_write (Err Write) = true
tells_write (Err (BadLine n)) = false
tells_write (Err Memory) = false

-- a write of these bytes failed, or took none of them
abbrev pub took_none : {E : Type 0} → List ℕ → Result ℕ E → Bool
took_none bytes (Ok n) = n == 0 && nat_lt 0 (length bytes)
took_none bytes (Err _) = true
