use Rattle.std.proofs.Common.{◌++◌, ◌∙◌, ◌⊎◌, ◌≢◌, IsSome, sym, ap, subst, arith}
use Rattle.nibble_map.specs.Trees.{first}
use Rattle.masked_tree.specs.Edits.{IsOne, merged, remove_child}
use Rattle.radix_nodes.specs.declared.trie_node.TrieNode.{out-TrieNode}
use Rattle.radix_nodes.specs.Nodes.{tree_of, unboxed}
use Rattle.radix_nodes.proofs.EditLemmas.Branches.{branch_cut, branch_merged}
use Rattle.radix_nodes.proofs.NodeLemmas.Nodes.{fragment-tree_of, pair-tree_of}
use Rattle.radix_nodes.proofs.EditLemmas.Merging.{merged_fragment, has_one_child}
use Rattle.radix_nodes.proofs.EditLemmas.Removal.{long_without, other_child_at, length-firsts_of_node, full_without_child}
use Rattle.radix_nodes.proofs.removal.cut_child.cut_child.Goals as goal

pub absorb-requires-clause-joined : goal.absorb-requires-clause-joined
absorb-requires-clause-joined g c =
    let out = out-TrieNode g.row.K.Denot g.row.V.Denot in
    let n = c.args.node.now in
    let o = (out n).children.ok.0 in
    let o' = (out c.unlink-top.new.node).children.ok.0 in
    let two = c.if-leaves_one.ensures.1 in
    let less = c.unlink-top.ensures.less in
    let one : IsOne (remove_child c.args.i (tree_of n).children) = subst (λ t. IsOne t.children) c.unlink-top.ensures.tree (has_one_child c.unlink-top.new.node (omega (arith, two, less, o'))) in
    merged_fragment (tree_of n).fragment c.in-Ok.joined (remove_child c.args.i (tree_of n).children) one
    (λ u a. c.in-Ok.ensures.made u (other_child_at c.args.i (tree_of n).children u (length-firsts_of_node n ∙ sym o ∙ two) (omega (arith, c.requires.within, two)) a) ∙ ap (λ f. f ++ u.fragment) (sym (fragment-tree_of n)))
    ∙ ap (λ t. (merged t).fragment) (sym c.unlink-top.ensures.tree)

pub returns-in-Ok-clause-cut : goal.returns-in-Ok-clause-cut
returns-in-Ok-clause-cut g c =
    let out = out-TrieNode g.row.K.Denot g.row.V.Denot in
    let n = c.args.node.now in
    let o' = (out c.unlink-top.new.node).children.ok.0 in
    let two = c.if-leaves_one.ensures.1 in
    let less = c.unlink-top.ensures.less in
    let one : IsOne (remove_child c.args.i (tree_of n).children) = subst (λ t. IsOne t.children) c.unlink-top.ensures.tree (has_one_child c.unlink-top.new.node (omega (arith, two, less, o'))) in
    branch_merged n c.unlink-top.result.value c.args.i c.requires.placed c.unlink-top.ensures.child c.unlink-top.ensures.nibble
    (tree_of c.absorb.new.node) (pair-tree_of n ∙ ap unboxed c.if-leaves_one.ensures.0) one c.requires.some (c.absorb.ensures ∙ ap merged c.unlink-top.ensures.tree)

pub returns-else-leaves_one-clause-cut : goal.returns-else-leaves_one-clause-cut
returns-else-leaves_one-clause-cut g c =
    let out = out-TrieNode g.row.K.Denot g.row.V.Denot in
    let n = c.args.node.now in
    let o = (out n).children.ok.0 in
    let u = c.unlink-top-else-leaves_one in
    branch_cut n u.result.value c.args.i c.requires.placed u.ensures.child u.ensures.nibble (tree_of u.new.node)
    (full_without_child n c.args.i (first (tree_of u.result.value).fragment) (subst (λ k. IsSome (unboxed (out n).pair) ⊎ (k ≢ 2)) o c.if-leaves_one.ensures)) u.ensures.tree

pub returns-in-Err-clause-long : goal.returns-in-Err-clause-long
returns-in-Err-clause-long g c =
    let n = c.args.node.now in
    let o = (out-TrieNode g.row.K.Denot g.row.V.Denot n).children.ok.0 in
    long_without n c.args.i (omega (arith, o, c.if-leaves_one.ensures.1)) (omega (arith, c.requires.within, c.if-leaves_one.ensures.1)) (pair-tree_of n ∙ ap unboxed c.if-leaves_one.ensures.0) c.in-Err.ensures.long
