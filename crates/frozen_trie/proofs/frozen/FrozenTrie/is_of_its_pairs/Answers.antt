use Rattle.std.proofs.Common.{[], sym, ap, subst, ◌∙◌}
use Rattle.nibble_map.specs.Lists.{IsRising}
use Rattle.radix_trie.specs.Views.{pairs_below}
use Rattle.frozen_trie.specs.Frozen.{codes_of, map_of_pairs}
use Rattle.frozen_trie.proofs.FrozenLemmas.Queries.{whole_is}
use Rattle.frozen_trie.proofs.frozen.FrozenTrie.is_of_its_pairs.Goals as goal

pub returns-clause-mapped : goal.returns-clause-mapped
returns-clause-mapped g c =
    let enc = g.K.TrieKey.encoding in
    let whole = whole_is enc c.self.inside.pairs.items (subst IsRising c.self.invariant.keyed c.self.invariant.linked.rising) in
    sym c.self.view_is ∙ ap (map_of_pairs enc) (sym whole) ∙ ap (λ m. map_of_pairs enc (pairs_below m [])) c.self.view_is

pub returns-clause-rising : goal.returns-clause-rising
returns-clause-rising g c =
    let enc = g.K.TrieKey.encoding in
    let rises = subst IsRising c.self.invariant.keyed c.self.invariant.linked.rising in
    subst (λ ps. IsRising (codes_of enc ps)) (sym (whole_is enc c.self.inside.pairs.items rises) ∙ ap (λ m. pairs_below m []) c.self.view_is) rises
