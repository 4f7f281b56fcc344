-- Where a session stands in the bytes that it has heard.
use Rattle.std.specs.Prelude.{◌≡◌, ℕ, ◌⊎◌, List, [], ◌++◌, Option, Result, Ok, Err, length, take}
use Rattle.std.specs.Io.KnownBytes.{Appends}
use Rattle.line_sessions.specs.Answers.{AreAnswers, IsBadLine}
use Rattle.line_sessions.specs.Lines.{all_lines, counted, cut, ended_lines}
use Rattle.line_sessions.specs.Sessions.{Breaks}
use Rattle.line_sessions.specs.declared.fault.Fault.{Fault}
use Rattle.line_sessions.specs.declared.fault.Fault.TheVariants.{Read, Write, BadLine, Memory}
use Rattle.line_sessions.specs.declared.session.Conversation.{Conversation}
use Rattle.line_sessions.specs.declared.session.Session.{Session}

-- why the line of this number gets no answer
abbrev pub IsRefusal : {S : Type 0} → (List ℕ → Type 0) → (S → List ℕ → S → Type 0) → Fault
    → (line : List ℕ) → (number : ℕ) → S → S → Type 0
IsRefusal B G Read line number s t = ⊥
IsRefusal B G Write line number s t = ⊥
IsRefusal B G (BadLine n) line number s t = IsBadLine B line × (n ≡ number) × (t ≡ s)
IsRefusal B G Memory line number s t = G s line t

-- the lines are answered; of the answers, some were sent and the others wait
pub record IsAnswered {S : Type 0} (R : S → List ℕ → S → List ℕ → Type 0)
    (lines : List (List ℕ)) (sent : List ℕ) (s t : S) (c : Conversation) : Type 0 where
  pub count : c.count ≡ counted (length lines)
  pub answers : AreAnswers R lines s t (sent ++ c.answers.items)

-- all whole lines of b are answered, and the bytes after them are kept
pub record StandsAt {S : Type 0} (R : S → List ℕ → S → List ℕ → Type 0) (b sent : List ℕ) (s t : S)
    (c : Session) : Type 0 where
  pub rest : c.open_line.items ≡ (cut b).rest
  pub answered : IsAnswered R (ended_lines b) sent s t c.conversation

-- the lines of b were answered, up to a fault
abbrev pub Goes : {S U : Type 0} → (S → List ℕ → S → List ℕ → Type 0) → (List ℕ → Type 0)
    → (S → List ℕ → S → Type 0) → Result U Fault → (b sent : List ℕ) → S → S → Session → Type 0
Goes R B G (Ok _) b sent s t c = StandsAt R b sent s t c
Goes R B G (Err e) b sent s t c =
    Breaks R B G e (ended_lines b) s t (sent ++ c.conversation.answers.items)

-- what waited was written, or a first part of it where a write failed
abbrev pub WritesWaiting : {U : Type 0} → (outcome r : Result U Fault) → (waited : List ℕ)
    → (held held' : Option (List ℕ)) → Type 0
WritesWaiting outcome r waited held held' =
    ((r ≡ outcome) × Appends held held' waited)
    ⊎ ((r ≡ Err Write) × (k : ℕ) × Appends held held' (take k waited))

-- no answer waits any more, and all else is as it was
pub record IsCleared (c d : Session) : Type 0 where
  pub none_waits : d.conversation.answers.items ≡ []
  pub count : d.conversation.count ≡ c.conversation.count
  pub rest : d.open_line.items ≡ c.open_line.items

-- all whole lines of b are answered, and all answers were sent
pub record IsClear {S : Type 0} (R : S → List ℕ → S → List ℕ → Type 0) (b sent : List ℕ)
    (s t : S) (c : Session) : Type 0 where
  pub at : StandsAt R b sent s t c
  pub none_waits : c.conversation.answers.items ≡ []

-- the lines of b were answered and their answers were written, up to a fault
abbrev pub Sent : {S U : Type 0} → (S → List ℕ → S → List ℕ → Type 0) → (List ℕ → Type 0)
    → (S → List ℕ → S → Type 0) → Result U Fault → (b sent : List ℕ) → S → S → Session → Type 0
Sent R B G (Ok _) b sent s t c = IsClear R b sent s t c
Sent R B G (Err e) b sent s t c = Breaks R B G e (ended_lines b) s t sent

pub record Sends {S U : Type 0} (R : S → List ℕ → S → List ℕ → Type 0) (B : List ℕ → Type 0)
    (G : S → List ℕ → S → Type 0) (r : Result U Fault) (b sent : List ℕ)
    (held held' : Option (List ℕ)) (s t : S) (c : Session) : Type 0 where
  pub written : List ℕ
  pub appended : Appends held held' written
  pub why : Sent R B G r b (sent ++ written) s t c

-- the lines of b were answered, up to a fault, at which all answers were sent
abbrev pub Told : {S U : Type 0} → (S → List ℕ → S → List ℕ → Type 0) → (List ℕ → Type 0)
    → (S → List ℕ → S → Type 0) → Result U Fault → (b sent : List ℕ) → S → S → Session → Type 0
Told R B G (Ok _) b sent s t c = StandsAt R b sent s t c
Told R B G (Err e) b sent s t c = Breaks R B G e (ended_lines b) s t sent

-- and some of their answers were written
pub record Tells {S U : Type 0} (R : S → List ℕ → S → List ℕ → Type 0) (B : List ℕ → Type 0)
    (G : S → List ℕ → S → Type 0) (r : Result U Fault) (b sent : List ℕ)
    (held held' : Option (List ℕ)) (s t : S) (c : Session) : Type 0 where
  pub written : List ℕ
  pub appended : Appends held held' written
  pub why : Told R B G r b (sent ++ written) s t c

-- at the end of the input
abbrev pub IsDone : {S U : Type 0} → (S → List ℕ → S → List ℕ → Type 0) → (List ℕ → Type 0)
    → (S → List ℕ → S → Type 0) → Result U Fault → (b sent : List ℕ) → S → S → Type 0
IsDone R B G (Ok _) b sent s t = AreAnswers R (all_lines b) s t sent
IsDone R B G (Err e) b sent s t = Breaks R B G e (all_lines b) s t sent

pub record Finishes {S U : Type 0} (R : S → List ℕ → S → List ℕ → Type 0) (B : List ℕ → Type 0)
    (G : S → List ℕ → S → Type 0) (r : Result U Fault) (b sent : List ℕ)
    (held held' : Option (List ℕ)) (s t : S) : Type 0 where
  pub written : List ℕ
  pub appended : Appends held held' written
  pub why : IsDone R B G r b (sent ++ written) s t
