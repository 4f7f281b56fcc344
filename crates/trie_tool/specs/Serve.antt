-- What a session of lines of commands says of the bytes that were read and written.
use Rattle.std.specs.Prelude.{ℕ, List, Option, Result}
use Rattle.std.specs.FinMap as map
use Rattle.line_sessions.specs.Sessions.{Served}
use Rattle.line_sessions.specs.declared.fault.Fault.{Fault}
use Rattle.trie_tool.specs.Request.{GivesUp, IsBad, Numbers, Replies}

-- a session that begins with no text
abbrev pub ServedNumbers : {U : Type 0} → (unread unread' held held' : Option (List ℕ))
    → Result U Fault → Type 0
ServedNumbers unread unread' held held' r =
    (left : Numbers) × Served Replies IsBad GivesUp unread unread' held held' map.empty left r
