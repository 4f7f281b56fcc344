use Rattle.std.proofs.Common.{◌∙◌, subst, sym}
use Rattle.radix_trie.specs.Views.{IsValueAbove}
use Rattle.trie_examples.proofs.uses.next_hop.Goals as goal

pub returns-clause-hop : goal.returns-clause-hop
returns-clause-hop g c v is =
    c.keyed_maps_follow_nearest.ensures.get_nearest _ v (subst (IsValueAbove c.args.table.now c.args.address.now) (sym c.copied.ensures ∙ is) c.in_ok-get_ancestor_value.ensures.value)
