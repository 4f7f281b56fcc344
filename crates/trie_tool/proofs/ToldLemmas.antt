-- What is told of a bad line: its number, and no remark.
use Rattle.std.specs.Prelude.{ℕ, List, [], ◌∷◌, Option, Result, Ok, Err, refl}
use Rattle.std.specs.FinMap as map
use Rattle.line_sessions.specs.Answers.{IsBadLine, IsToldBad}
use Rattle.line_sessions.specs.Sessions.{Outcome, Served}
use Rattle.line_sessions.specs.declared.fault.Fault.{Fault}
use Rattle.line_sessions.specs.declared.fault.Fault.TheVariants.{Read, Write, BadLine, Memory}
use Rattle.trie_tool.specs.Request.{GivesUp, IsBad, IsRemarkOf, Numbers, Replies}

-- a bad line has no remark
bad_line-told : (line : List ℕ) → IsBadLine IsBad line → IsBadLine (IsToldBad IsBad IsRemarkOf []) line
bad_line-told [] bad = bad
bad_line-told (b ∷ bs) bad = (bad, refl)

-- so the bad line of an outcome has none
outcome-told : {U : Type 0} (r : Result U Fault) (ended : Type 0) (b : List ℕ) (m n : Numbers) (o : List ℕ) → Outcome Replies IsBad GivesUp r ended b m n o
    → Outcome Replies (IsToldBad IsBad IsRemarkOf []) GivesUp r ended b m n o
outcome-told (Ok _) ended b m n o h = h
outcome-told (Err Read) ended b m n o h = h
outcome-told (Err Write) ended b m n o h = h
outcome-told (Err (BadLine k)) ended b m n o (lines, heard, (before, bad, after, at, is_bad, number, answers)) = (lines, heard, (before, bad, after, at, bad_line-told bad is_bad, number, answers))
outcome-told (Err Memory) ended b m n o h = h

-- and the bad line of a session
pub served-told : {U : Type 0} (unread unread' held held' : Option (List ℕ)) (m n : Numbers) (r : Result U Fault) → Served Replies IsBad GivesUp unread unread' held held' m n r
    → Served Replies (IsToldBad IsBad IsRemarkOf []) GivesUp unread unread' held held' m n r
served-told unread unread' held held' m n r h = record {
  read = h.read;
  written = h.written;
  consumed = h.consumed;
  appended = h.appended;
  outcome = outcome-told r _ h.read m n h.written h.outcome;
}
