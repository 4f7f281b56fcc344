use Rattle.std.proofs.Common.{◌≡◌, ◌++◌, ℕ, List, ap, sym, subst, ◌∙◌, length, drop}
use Rattle.std.proofs.Math.Seq.{drop-append_seam}
use Rattle.masked_tree.specs.Paths.{IsNodeAt}
use Rattle.nibble_map.specs.Lists.{IsPrefix}
use Rattle.radix_nodes.specs.declared.trie_node.TrieNode.{TrieNode}
use Rattle.radix_nodes.specs.Nodes.{tree_of, fragment_of}
use Rattle.radix_nodes.proofs.NodeLemmas.Nodes.{fragment-tree_of}
use Rattle.radix_trie.proofs.RootLemmas.Held.{pair_of-node, get-no_node}
use Rattle.radix_trie.proofs.PathLemmas.Parts.{node_placed, from_node, none_from_node}
use Rattle.radix_trie.proofs.view.subtrie.SubTrie.pair_at.Goals as goal

-- behind a node's fragment, the list without its path's nibbles is what it has beyond the path
gone_on : {K V : Type 0} (n : TrieNode K V) (path list : List ℕ) (count : ℕ) → count ≡ length path → (p : IsPrefix path list)
    → fragment_of n ++ drop count list ≡ (tree_of n).fragment ++ p.0
gone_on n path list count is p =
    ap (λ f. f ++ drop count list) (sym (fragment-tree_of n))
    ∙ ap (λ l. (tree_of n).fragment ++ l) (ap (λ k. drop k list) is ∙ ap (drop (length path)) p.1 ∙ drop-append_seam path p.0)

pub find-requires-clause-placed : goal.find-requires-clause-placed
find-requires-clause-placed g c =
    let at = c.self.invariant in
    node_placed at.0 c.self.inside.path (tree_of c.self.inside.node.now) at.1.masked at.2

pub returns-in-Some : goal.returns-in-Some
returns-in-Some g c =
    let n = c.self.inside.node.now in
    let at = c.self.invariant in
    let begins = subst (λ v. IsPrefix v.path c.args.list.now) (sym c.self.view_is) c.requires in
    let here = subst (λ l. IsNodeAt (tree_of n) l (tree_of c.in-Some.node.now)) (gone_on n c.self.inside.path c.args.list.now c.len.result c.len.ensures begins) c.in-Some.ensures in
    let found = subst (λ l. IsNodeAt at.0 l (tree_of c.in-Some.node.now)) (sym begins.1) (from_node at.0 (tree_of n) c.self.inside.path at.2 begins.0 _ here) in
    rw (← c.self.view_is) (c.pair.ensures ∙ pair_of-node g.K.TrieKey.encoding _ _ at.1 _ _ found)

pub returns-in-None : goal.returns-in-None
returns-in-None g c =
    let n = c.self.inside.node.now in
    let at = c.self.invariant in
    let begins = subst (λ v. IsPrefix v.path c.args.list.now) (sym c.self.view_is) c.requires in
    let on = gone_on n c.self.inside.path c.args.list.now c.len.result c.len.ensures begins in
    rw (← c.self.view_is)
    (sym (get-no_node g.K.TrieKey.encoding _ _ at.1 _ (λ w d. none_from_node at.0 (tree_of n) c.self.inside.path at.2 at.1.masked begins.0
    (λ u e. c.in-None.ensures u (subst (λ l. IsNodeAt (tree_of n) l u) (sym on) e)) w (subst (λ l. IsNodeAt at.0 l w) begins.1 d))))
