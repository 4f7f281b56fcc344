use Rattle.std.proofs.Common.{[], sym, ap, ◌∙◌}
use Rattle.radix_trie.specs.Views.{pairs_below}
use Rattle.frozen_trie.proofs.FrozenLemmas.Queries.{whole_is}
use Rattle.frozen_trie.proofs.frozen.FrozenTrie.into_pairs.Goals as goal

pub returns : goal.returns
returns g c = record {
  pairs = sym (whole_is g.K.TrieKey.encoding c.into_parts.result.0.items c.into_parts.ensures.rising) ∙ ap (λ m. pairs_below m []) c.into_parts.ensures.map;
}
