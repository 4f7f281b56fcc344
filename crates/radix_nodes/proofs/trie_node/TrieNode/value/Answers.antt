use Rattle.std.proofs.Common.{ap, sym, ◌∙◌, option_map}
use Rattle.radix_nodes.specs.Nodes.{tree_of}
use Rattle.radix_nodes.proofs.NodeLemmas.Pointed.{value_pointed}
use Rattle.radix_nodes.proofs.trie_node.TrieNode.value.Goals as goal

pub returns-in-Some : goal.returns-in-Some
returns-in-Some g c = ap (option_map (λ p. p.now.value)) (sym c.in-Some.is) ∙ value_pointed c.pair.result (tree_of c.args.self.now).pair c.pair.ensures

pub returns-in-None : goal.returns-in-None
returns-in-None g c = ap (option_map (λ p. p.now.value)) (sym c.in-None.is) ∙ value_pointed c.pair.result (tree_of c.args.self.now).pair c.pair.ensures
