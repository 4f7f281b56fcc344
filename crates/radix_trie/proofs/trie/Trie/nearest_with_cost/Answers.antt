use Rattle.std.proofs.Common.{◌∙◌, sym, subst}
use Rattle.nibble_map.specs.Maps.{IsPoint, IsStored}
use Rattle.nibble_map.proofs.PointLemmas.Visited.{few_prefixes}
use Rattle.radix_nodes.proofs.NodeLemmas.Nodes.{fragment-tree_of}
use Rattle.radix_trie.specs.Views.{IsPairAbove}
use Rattle.radix_trie.proofs.PathLemmas.Above.{found_above}
use Rattle.radix_trie.proofs.RootLemmas.Paths.{found_visits, visits_two_a_pair}
use Rattle.radix_trie.proofs.RootLemmas.Roots.{compared_once, root_is_full_below, found_count}
use Rattle.radix_trie.proofs.trie.Trie.nearest_with_cost.Goals as goal

pub find_counted-requires-clause-top : goal.find_counted-requires-clause-top
find_counted-requires-clause-top g c = sym (fragment-tree_of c.root.result.now) ∙ c.root.ensures.top

pub find_counted-requires-clause-full : goal.find_counted-requires-clause-full
find_counted-requires-clause-full g c = root_is_full_below g.K.TrieKey.encoding _ _ c.root.ensures

pub returns-clause-pair : goal.returns-clause-pair
returns-clause-pair g c =
    subst (IsPairAbove c.args.self.now c.args.list.now) (sym c.key_value_of.ensures)
    (found_above g.K.TrieKey.encoding _ _ _ c.root.ensures c.find_counted.result.nearest _ c.find_counted.ensures.nearest c.pair_in.ensures)

pub returns-clause-nodes : goal.returns-clause-nodes
returns-clause-nodes g c = found_visits g.K.TrieKey.encoding _ _ c.root.ensures c.args.list.now _ c.find_counted.ensures.nodes

pub returns-clause-nibbles : goal.returns-clause-nibbles
returns-clause-nibbles g c = found_count g.K.TrieKey.encoding _ _ c.root.ensures c.args.list.now _ c.find_counted.ensures.nibbles

pub returns-clause-few : goal.returns-clause-few
returns-clause-few g c =
    few_prefixes (IsPoint c.args.self.now) c.args.list.now _
    (found_visits g.K.TrieKey.encoding _ _ c.root.ensures c.args.list.now _ c.find_counted.ensures.nodes)

pub returns-clause-two_a_pair : goal.returns-clause-two_a_pair
returns-clause-two_a_pair g c =
    visits_two_a_pair g.K.TrieKey.encoding _ _ c.root.ensures c.args.list.now _
    (found_visits g.K.TrieKey.encoding _ _ c.root.ensures c.args.list.now _ c.find_counted.ensures.nodes)

pub returns-clause-at_most_once : goal.returns-clause-at_most_once
returns-clause-at_most_once g c =
    compared_once (IsStored c.args.self.now) c.args.list.now _
    (found_count g.K.TrieKey.encoding _ _ c.root.ensures c.args.list.now _ c.find_counted.ensures.nibbles)
