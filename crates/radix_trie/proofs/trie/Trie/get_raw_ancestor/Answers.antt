use Rattle.std.proofs.Common.{sym, subst}
use Rattle.nibble_map.specs.Answers.{IsLongest}
use Rattle.nibble_map.specs.Maps.{IsPoint}
use Rattle.radix_nodes.specs.Nodes.{tree_of}
use Rattle.radix_trie.proofs.PathLemmas.Above.{longest_point}
use Rattle.radix_trie.proofs.trie.Trie.get_raw_ancestor.Goals as goal

pub returns-clause-nearest : goal.returns-clause-nearest
returns-clause-nearest g c =
    let d = c.deepest-depth.ensures in
    let near = longest_point g.K.TrieKey.encoding c.args.self.now c.root.result.now c.in_ok-list.list c.root.ensures (tree_of c.deepest-depth.result.0.now) c.deepest-depth.result.1 d in
    rw (← c.in_ok-list.ensures.ok) (subst (IsLongest (IsPoint c.args.self.now) c.in_ok-list.list) (sym c.view_within.ensures.path) near)
