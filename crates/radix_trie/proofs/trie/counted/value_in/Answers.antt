use Rattle.std.proofs.Common.{◌≡◌, MatchOption, None, option_copied, option_map, sym, subst}
use Rattle.radix_nodes.specs.Nodes.{tree_of}
use Rattle.radix_trie.proofs.trie.counted.value_in.Goals as goal

pub returns : goal.returns
returns g c =
    subst (λ o. MatchOption o (option_copied c.value.result ≡ None) (λ node. option_copied c.value.result ≡ option_map (λ p. p.value) (tree_of node.now).pair))
    (sym c.in_ok-found.was) c.value.ensures
