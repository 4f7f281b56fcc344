use Rattle.std.proofs.Common.{◌-◌, length, sym, ap, subst, slice_get, ◌∙◌}
use Rattle.nibble_map.specs.Lists.{IsRising}
use Rattle.frozen_trie.proofs.FrozenLemmas.Queries.{whole_is}
use Rattle.frozen_trie.proofs.frozen.FrozenTrie.last_key_value.Goals as goal

pub returns : goal.returns
returns g c =
    let ps = c.self.inside.pairs.items in
    let whole = sym (whole_is g.K.TrieKey.encoding ps (subst IsRising c.self.invariant.keyed c.self.invariant.linked.rising)) in
    record {
      pair = rw (← c.self.view_is) (c.entry_in.ensures ∙ ap (λ xs. slice_get xs c.saturating_sub.result) c.deref.ensures.value
          ∙ ap (slice_get ps) (c.saturating_sub.ensures ∙ ap (λ n. n - 1) (c.len.ensures ∙ c.self.inside.pairs.ok.0))
          ∙ ap (λ xs. slice_get xs (length xs - 1)) whole);
    }
