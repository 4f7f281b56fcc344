-- What a watched reader and a watched writer note of their calls.
use Rattle.std.specs.Prelude.{◌≡◌, ◌≤◌, ℕ, ◌-◌, ◌^◌, ◌⊎◌, ◌||◌, Bool, IsFalse, IsTrue, List, Option, Result, ◌++◌, OnOk, is_err}
use Rattle.std.specs.Io.KnownBytes.{Appends}
use Rattle.line_sessions.specs.Faults.{tells_read, tells_write}
use Rattle.line_sessions.specs.declared.fault.Fault.{Fault}

-- the bytes that a reader has left, where they are known; how often it was read; how often the
-- writer had been written when it was last read; whether a read has failed
pub record ReaderState : Type 0 where
  pub unread : Option (List ℕ)
  pub reads : ℕ
  pub writes_before : ℕ
  pub has_failed : Bool

-- the bytes that a writer holds, where they are known; how often it was written; whether a write
-- has failed or took none of its bytes
pub record WriterState : Type 0 where
  pub held : Option (List ℕ)
  pub writes : ℕ
  pub has_failed : Bool

-- a count that has reached the largest u64, and stays there
abbrev pub IsFullCount : ℕ → Type 0
IsFullCount n = 2 ^ 64 - 1 ≤ n

-- which of the calls is told: a failed read as a fault of the reader, and no other but the last of
-- all that can be counted; a failed write, and no other, as a fault of the writer; and before a
-- read that fails all was written, nothing after it
pub record Noted {U : Type 0} (reader reader' : ReaderState) (writer writer' : WriterState)
    (r : Result U Fault) : Type 0 where
  pub failed_read_told :
      IsTrue reader'.has_failed → IsTrue reader.has_failed ⊎ IsTrue (tells_read r)
  pub read_failed : IsTrue (tells_read r) → IsTrue reader'.has_failed ⊎ IsFullCount reader'.reads
  pub read_comes_last :
      IsTrue (tells_read r)
      → (reader'.writes_before ≡ writer'.writes) ⊎ IsFullCount reader'.reads
  pub write_failed : writer'.has_failed ≡ (writer.has_failed || tells_write r)

-- all of the bytes are written, or a beginning of them where a write has failed
pub record Writes (writer writer' : WriterState) (bytes : List ℕ) : Type 0 where
  pub whole : IsFalse writer'.has_failed → Appends writer.held writer'.held bytes
  pub part :
      (begun : List ℕ) × (rest : List ℕ) × (bytes ≡ begun ++ rest)
      × Appends writer.held writer'.held begun

-- the same of a call that answers whether all were written
pub record Puts {U : Type 0} (r : Result U Fault) (writer writer' : WriterState)
    (bytes : List ℕ) : Type 0 where
  pub all : OnOk r (Appends writer.held writer'.held bytes)
  pub part :
      (begun : List ℕ) × (rest : List ℕ) × (bytes ≡ begun ++ rest)
      × Appends writer.held writer'.held begun
  pub noted : writer'.has_failed ≡ (writer.has_failed || is_err r)
