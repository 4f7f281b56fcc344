use Rattle.frozen_trie.proofs.FrozenLemmas.Spans.{cut_from}
use Rattle.frozen_trie.proofs.search.start.Goals as goal

pub returns-in-Included : goal.returns-in-Included
returns-in-Included c = rw c.in-Included.is (cut_from c.args.codes.now c.in-Included.list c.lower.result c.lower.ensures)
