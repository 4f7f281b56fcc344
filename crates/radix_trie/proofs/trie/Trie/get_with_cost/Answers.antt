use Rattle.std.proofs.Common.{◌≡◌, ◌≤◌, suc, length, option_copied, sym, subst, ◌∙◌}
use Rattle.nibble_map.specs.MapQueries.{IsCompared, IsVisited}
use Rattle.nibble_map.specs.Maps.{IsPoint, IsStored, value_at}
use Rattle.nibble_map.proofs.PointLemmas.Visited.{few_prefixes}
use Rattle.radix_nodes.specs.Nodes.{tree_of}
use Rattle.radix_nodes.proofs.NodeLemmas.Nodes.{fragment-tree_of}
use Rattle.radix_trie.proofs.RootLemmas.Paths.{found_visits, visits_two_a_pair}
use Rattle.radix_trie.proofs.RootLemmas.Roots.{compared_once, root_is_full_below, found_value, found_count}
use Rattle.radix_trie.proofs.trie.Trie.get_with_cost.Goals as goal

pub find_counted-requires-clause-top : goal.find_counted-requires-clause-top
find_counted-requires-clause-top g c = sym (fragment-tree_of c.root.result.now) ∙ c.root.ensures.top

pub find_counted-requires-clause-full : goal.find_counted-requires-clause-full
find_counted-requires-clause-full g c = root_is_full_below g.K.TrieKey.encoding _ _ c.root.ensures

pub returns-clause-value : goal.returns-clause-value
returns-clause-value g c =
    subst (λ q. option_copied c.value_in.result ≡ value_at c.args.self.now q) c.in_ok-list.ensures.ok
    (found_value g.K.TrieKey.encoding _ _ c.root.ensures (λ n. tree_of n.now) c.in_ok-list.list c.find_counted.result.found _
    c.find_counted.ensures.found c.value_in.ensures)

pub returns-clause-nodes : goal.returns-clause-nodes
returns-clause-nodes g c =
    subst (λ q. IsVisited c.args.self.now q c.find_counted.result.cost.nodes) c.in_ok-list.ensures.ok
    (found_visits g.K.TrieKey.encoding _ _ c.root.ensures c.in_ok-list.list _ c.find_counted.ensures.nodes)

pub returns-clause-nibbles : goal.returns-clause-nibbles
returns-clause-nibbles g c =
    subst (λ q. IsCompared c.args.self.now q c.find_counted.result.cost.nibbles) c.in_ok-list.ensures.ok
    (found_count g.K.TrieKey.encoding _ _ c.root.ensures c.in_ok-list.list _ c.find_counted.ensures.nibbles)

pub returns-clause-few : goal.returns-clause-few
returns-clause-few g c =
    subst (λ (q : _). c.find_counted.result.cost.nodes ≤ suc (length q)) c.in_ok-list.ensures.ok
    (few_prefixes (IsPoint c.args.self.now) c.in_ok-list.list _
    (found_visits g.K.TrieKey.encoding _ _ c.root.ensures c.in_ok-list.list _ c.find_counted.ensures.nodes))

pub returns-clause-two_a_pair : goal.returns-clause-two_a_pair
returns-clause-two_a_pair g c =
    visits_two_a_pair g.K.TrieKey.encoding _ _ c.root.ensures c.in_ok-list.list _
    (found_visits g.K.TrieKey.encoding _ _ c.root.ensures c.in_ok-list.list _ c.find_counted.ensures.nodes)

pub returns-clause-at_most_once : goal.returns-clause-at_most_once
returns-clause-at_most_once g c =
    subst (λ (q : _). c.find_counted.result.cost.nibbles ≤ length q) c.in_ok-list.ensures.ok
    (compared_once (IsStored c.args.self.now) c.in_ok-list.list _
    (found_count g.K.TrieKey.encoding _ _ c.root.ensures c.in_ok-list.list _ c.find_counted.ensures.nibbles))
