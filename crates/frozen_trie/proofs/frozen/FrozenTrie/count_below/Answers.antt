use Rattle.std.proofs.Common.{length, sym, ap, ◌∙◌}
use Rattle.radix_trie.proofs.PathLemmas.Below.{len-pairs_below}
use Rattle.frozen_trie.proofs.frozen.FrozenTrie.count_below.Goals as goal

pub returns-clause-count : goal.returns-clause-count
returns-clause-count g c = ap length c.in_ok-below.ensures.pairs ∙ sym (len-pairs_below c.args.self.now (g.Q.TrieKey.encoding c.args.key.now))
