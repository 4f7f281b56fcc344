use Rattle.std.proofs.Common.{◌∙◌, ap}
use Rattle.trie_tool.specs.Request.{worded_request}
use Rattle.trie_tool.proofs.LineLemmas.{request_of-text, request_of-none}
use Rattle.trie_tool.proofs.command.parse.Goals as goal

pub returns-in-Ok : goal.returns-in-Ok
returns-in-Ok c = c.worded.ensures ∙ ap worded_request c.in-Ok.ensures.cases.0 ∙ request_of-text c.args.line.now c.in-Ok.ensures.cases.1

pub returns-in-Err : goal.returns-in-Err
returns-in-Err c = request_of-none c.args.line.now c.in-Err.ensures.cases.0
