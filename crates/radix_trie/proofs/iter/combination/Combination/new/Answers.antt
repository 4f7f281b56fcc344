use Rattle.std.proofs.Common.{◌∙◌, ap, sym}
use Rattle.radix_nodes.specs.Nodes.{tree_of}
use Rattle.radix_trie.specs.Combinations.{found_first}
use Rattle.radix_trie.proofs.CombinationLemmas.Maps.{combined_none, combined_roots, found_first-step}
use Rattle.radix_trie.proofs.iter.combination.Combination.new.Goals as goal

pub returns-then-is_empty-2-clause-pairs : goal.returns-then-is_empty-2-clause-pairs
returns-then-is_empty-2-clause-pairs g c =
    sym (combined_none c.args.operation c.args.first.now c.args.second.now (c.is_empty.ensures.0 c.if-is_empty.true) (c.is_empty-then-is_empty.ensures.0 c.if-is_empty-2.true))

pub returns-clause-pairs : goal.returns-clause-pairs
returns-clause-pairs g c =
    ap (found_first c.in_ok-found.found) c.in_ok-found.ensures.rest ∙ found_first-step c.in_ok-found.found _ c.in_ok-found.ensures.pair
    ∙ c.new-search.ensures
    ∙ combined_roots g.K.TrieKey.encoding c.args.operation c.args.first.now c.args.second.now (tree_of c.root.result.now) (tree_of c.root-2.result.now) c.root.ensures c.root-2.ensures
