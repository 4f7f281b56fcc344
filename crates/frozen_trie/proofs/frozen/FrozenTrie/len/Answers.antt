use Rattle.std.proofs.Common.{subst, ap, ◌∙◌}
use Rattle.std.specs.FinMap as fin
use Rattle.nibble_map.specs.Lists.{IsRising}
use Rattle.frozen_trie.proofs.FrozenLemmas.Rows.{len_is}
use Rattle.frozen_trie.proofs.frozen.FrozenTrie.len.Goals as goal

pub returns : goal.returns
returns g c =
    c.len.ensures ∙ c.self.inside.pairs.ok.0 ∙ len_is g.K.TrieKey.encoding c.self.inside.pairs.items (subst IsRising c.self.invariant.keyed c.self.invariant.linked.rising) ∙ ap fin.len c.self.view_is
