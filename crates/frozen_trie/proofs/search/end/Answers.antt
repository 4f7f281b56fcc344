use Rattle.frozen_trie.proofs.FrozenLemmas.Spans.{cut_up_to}
use Rattle.frozen_trie.proofs.search.end.Goals as goal

pub returns-in-Included : goal.returns-in-Included
returns-in-Included c = rw c.in-Included.is (cut_up_to c.args.codes.now c.in-Included.list c.behind.result c.behind.ensures)
