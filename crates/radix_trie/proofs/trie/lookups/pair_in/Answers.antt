use Rattle.std.proofs.Common.{◌≡◌, MatchOption, None, option_map, sym, subst}
use Rattle.radix_nodes.specs.Nodes.{tree_of}
use Rattle.radix_nodes.specs.Pairs.{pair_of}
use Rattle.radix_trie.proofs.trie.lookups.pair_in.Goals as goal

pub returns : goal.returns
returns g c =
    subst (λ o. MatchOption o (option_map (λ p. pair_of p.now) c.pair.result ≡ None) (λ found. option_map (λ p. pair_of p.now) c.pair.result ≡ option_map pair_of (tree_of found.0.now).pair))
    (sym c.in_ok-node.was) c.pair.ensures
