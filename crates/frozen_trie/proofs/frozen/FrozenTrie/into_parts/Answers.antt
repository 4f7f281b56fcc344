use Rattle.std.proofs.Common.{subst}
use Rattle.nibble_map.specs.Lists.{IsRising}
use Rattle.frozen_trie.proofs.frozen.FrozenTrie.into_parts.Goals as goal

pub returns-clause-rising : goal.returns-clause-rising
returns-clause-rising g c = subst IsRising c.self.invariant.keyed c.self.invariant.linked.rising
