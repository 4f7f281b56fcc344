-- What the code's commands stand for.
use Rattle.trie_tool.specs.declared.command.Command.{Command}
use Rattle.trie_tool.specs.declared.command.Command.TheVariants.{Insert, Get, Remove, Ancestor, Below, Prune, Len, Foot, Json}
use Rattle.trie_tool.specs.Request as asked
use Rattle.trie_tool.specs.Request.{Request}

abbrev pub request : Command → Request
request (Insert key number) = asked.Insert key.now number
request (Get key) = asked.Get key.now
request (Remove key) = asked.Remove key.now
request (Ancestor key) = asked.Ancestor key.now
request (Below key) = asked.Below key.now
request (Prune key) = asked.Prune key.now
request Len = asked.Len
request Foot = asked.Foot
request Json = asked.Json
