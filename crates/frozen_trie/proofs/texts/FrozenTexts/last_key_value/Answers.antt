use Rattle.std.proofs.Common.{◌-◌, [], slice_get, sym, ap, ◌∙◌}
use Rattle.radix_trie.specs.Views.{pairs_below}
use Rattle.frozen_trie.proofs.FrozenLemmas.Whole.{count_whole}
use Rattle.frozen_trie.proofs.texts.FrozenTexts.last_key_value.Goals as goal

pub returns : goal.returns
returns g c = record {
  pair = c.nth.ensures.pair ∙ ap (slice_get (pairs_below c.args.self.now [])) (c.saturating_sub.ensures ∙ ap (λ n. n - 1) (c.len.ensures ∙ sym (count_whole c.args.self.now)));
}
