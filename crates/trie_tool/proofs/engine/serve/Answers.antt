use Rattle.std.proofs.Common.{subst}
use Rattle.line_sessions.specs.Sessions.{Served}
use Rattle.trie_tool.specs.Request.{GivesUp, IsBad, Numbers, Replies}
use Rattle.trie_tool.proofs.engine.serve.Goals as goal

pub returns-clause-served : goal.returns-clause-served
returns-clause-served g c =
    let left : Numbers = c.serve-outcome.new.program in
    (left, subst (λ (m : Numbers). Served Replies IsBad GivesUp c.args.reader.now.unread c.serve-outcome.new.reader.unread c.args.writer.now.held c.serve-outcome.new.writer.held m left c.serve-outcome.result) c.new-numbers.ensures c.serve-outcome.ensures.served)
