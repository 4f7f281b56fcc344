use Rattle.std.proofs.Common.{sym, ap, subst, slice_get, ◌∙◌}
use Rattle.nibble_map.specs.Lists.{IsRising}
use Rattle.frozen_trie.proofs.FrozenLemmas.Queries.{whole_is}
use Rattle.frozen_trie.proofs.frozen.FrozenTrie.nth.Goals as goal

pub returns : goal.returns
returns g c = record {
  pair = rw (← c.self.view_is) (c.entry_in.ensures ∙ ap (λ ps. slice_get ps c.args.index) (c.deref.ensures.value
      ∙ sym (whole_is g.K.TrieKey.encoding c.self.inside.pairs.items (subst IsRising c.self.invariant.keyed c.self.invariant.linked.rising))));
}
