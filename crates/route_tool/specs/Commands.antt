-- What the code's commands stand for.
use Rattle.std.specs.Prelude.{ℕ, List, codes}
use Rattle.route_tool.specs.Requests as asked
use Rattle.route_tool.specs.declared.command.Command.{Command}
use Rattle.route_tool.specs.declared.command.Command.TheVariants.{V4, V6, Len, All, Dump, Aggregate, Compact, OnFile, Help, Comment}
use Rattle.route_tool.specs.declared.command.Request.{Request}
use Rattle.route_tool.specs.declared.command.Request.TheVariants.{Add, Del, Below, Look, Find}
use Rattle.route_tool.specs.declared.command.Word.{Word}
use Rattle.route_tool.specs.declared.command.Word.TheVariants as word

abbrev pub request_of : {A : Type 0} → Request A → asked.Request A
request_of (Add net hop) = asked.Add net hop.now
request_of (Del net) = asked.Del net
request_of (Below net) = asked.Below net
request_of (Look address) = asked.Look address
request_of (Find address) = asked.Find address

abbrev pub asked_of : Command → asked.Asked
asked_of (V4 r) = asked.V4 (request_of r)
asked_of (V6 r) = asked.V6 (request_of r)
asked_of Len = asked.Len
asked_of All = asked.All
asked_of Dump = asked.Dump
asked_of Aggregate = asked.Aggregate
asked_of Compact = asked.Compact
asked_of (OnFile call path) = asked.OnFile call path.now
asked_of Help = asked.Help
asked_of Comment = asked.Comment

-- the text of a word
abbrev pub word_text : Word → List ℕ
word_text word.Add = codes "add"
word_text word.Del = codes "del"
word_text word.Below = codes "below"
word_text word.Look = codes "look"
word_text word.Find = codes "find"
