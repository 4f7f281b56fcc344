use Rattle.frozen_trie.proofs.FrozenLemmas.Spans.{span_between}
use Rattle.frozen_trie.proofs.search.within.Goals as goal

pub returns : goal.returns
returns c = span_between c.args.low c.args.high c.args.codes.now c.start-from.result c.end-to.result c.max.result c.start-from.ensures c.end-to.ensures c.max.ensures
