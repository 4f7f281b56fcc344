use Rattle.std.proofs.Common.{◌≡◌, [], All, ap, sym, subst, ◌∙◌}
use Rattle.nibble_map.specs.Copies.{IsMapCopy}
use Rattle.nibble_map.specs.Lists.{IsRising}
use Rattle.radix_trie.specs.Values.{LeavesAtPair, TakesPairAtMut}
use Rattle.radix_trie.specs.Views.{pairs_below}
use Rattle.frozen_trie.specs.Changes.{AreChanged}
use Rattle.frozen_trie.specs.Frozen.{IsFrozen, map_of_pairs}
use Rattle.frozen_trie.proofs.FrozenLemmas.Changed.{changed_kept, changed_map, written_back}
use Rattle.frozen_trie.proofs.FrozenLemmas.Queries.{whole_is}
use Rattle.frozen_trie.proofs.frozen.FrozenTrie.for_each_mut.Goals as goal

pub change_pairs-requires : goal.change_pairs-requires
change_pairs-requires g c =
    let enc = g.K.TrieKey.encoding in
    let ps = c.self.inside.pairs.items in
    let rises = subst IsRising c.self.invariant.keyed c.self.invariant.linked.rising in
    record {
      callable = subst (All (TakesPairAtMut g.F.Fn c.args.f)) (ap (λ m. pairs_below m []) (sym c.self.view_is) ∙ whole_is enc ps rises ∙ sym c.deref_mut.ensures.value) c.requires.callable;
    }

pub invariant_of-self : goal.invariant_of-self
invariant_of-self g c =
    let enc = g.K.TrieKey.encoding in
    let R = LeavesAtPair g.F.Fn c.args.f in
    let ps = c.self.inside.pairs.items in
    let now = c.change_pairs.new.pairs in
    let changed = subst (λ xs. AreChanged R xs now) c.deref_mut.ensures.value c.change_pairs.ensures in
    subst (λ xs. IsFrozen enc c.self.inside.codes xs c.self.inside.parents.items) (sym (written_back R c.self.inside.pairs.len ps now c.self.inside.pairs.ok.0 changed))
    (changed_kept R enc ps now changed c.self.inside.codes c.self.inside.parents.items c.self.invariant)

pub returns : goal.returns
returns g c =
    let enc = g.K.TrieKey.encoding in
    let R = LeavesAtPair g.F.Fn c.args.f in
    let ps = c.self.inside.pairs.items in
    let now = c.change_pairs.new.pairs in
    let changed = subst (λ xs. AreChanged R xs now) c.deref_mut.ensures.value c.change_pairs.ensures in
    let rises = subst IsRising c.self.invariant.keyed c.self.invariant.linked.rising in
    rw (← c.self.view_is) (record {
      changed = subst (λ xs. IsMapCopy (λ p q. (q.0 ≡ p.0) × R p q.1) (map_of_pairs enc ps) (map_of_pairs enc xs)) (sym (written_back R c.self.inside.pairs.len ps now c.self.inside.pairs.ok.0 changed))
          (changed_map R enc ps now changed rises);
    })
