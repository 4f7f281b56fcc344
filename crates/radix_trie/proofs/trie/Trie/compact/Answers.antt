use Rattle.std.proofs.Common.{◌≡◌, ◌∙◌, sym}
use Rattle.std.specs.FinMap as map
use Rattle.radix_nodes.specs.Nodes.{tree_of}
use Rattle.radix_trie.specs.Roots.{map_of}
use Rattle.radix_trie.proofs.ChangeLemmas.Copies.{children-empty_root}
use Rattle.radix_trie.proofs.RootLemmas.Shown.{len-map_of_kept}
use Rattle.radix_trie.proofs.trie.Trie.compact.Goals as goal

pub returns-clause-inline : goal.returns-clause-inline
returns-clause-inline g c = λ nothing.
    let enc = g.K.TrieKey.encoding in
    let root = c.self.inside.root in
    let none : map.len (map_of (tree_of root)) ≡ 0 = rw c.self.view_is nothing in
    let empty = sym (len-map_of_kept enc (tree_of root) _ _ _ c.self.invariant) ∙ none in
    c.lay_anew.ensures.inline (children-empty_root enc (tree_of root) _ _ _ c.self.invariant empty)
