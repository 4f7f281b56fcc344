use Rattle.std.proofs.Common.{[], ◌<◌, ◌++◌, ◌∙◌, Err, ap, length, subst, sym}
use Rattle.std.specs.Box.{with_value}
use Rattle.masked_tree.specs.Edits.{IsOne, with_fragment}
use Rattle.masked_tree.specs.Tree.{IsTreeFull, IsTreePlaced}
use Rattle.masked_tree.proofs.TreeLemmas.Children.{child_tree_is_placed}
use Rattle.radix_nodes.specs.declared.trie_node.TrieNode.{out-TrieNode}
use Rattle.radix_nodes.specs.Grafts.{GraftOutcome}
use Rattle.radix_nodes.specs.Nodes.{fragment_of, tree_of}
use Rattle.radix_nodes.proofs.EditLemmas.GraftedRoots.{grafted_root, only_is_full, stays_for_memory, stays_occupied}
use Rattle.radix_nodes.proofs.EditLemmas.KeyParts.{length_some}
use Rattle.radix_nodes.proofs.EditLemmas.Merging.{has_one_child}
use Rattle.radix_nodes.proofs.NodeLemmas.Nodes.{fragment-tree_of}
use Rattle.radix_nodes.proofs.insertion.graft_root.graft_root.Goals as goal

pub graft-requires-clause-below : goal.graft-requires-clause-below
graft-requires-clause-below g c =
    let placed = child_tree_is_placed 0 0 (tree_of c.args.part.now).children (tree_of c.unlink-branch.result.value) c.unlink-branch.ensures.child c.requires.below.1 in
    let freed = c.take_fragment-list.ensures.tree ∙ ap (λ n. with_fragment [] (tree_of n)) c.deref_mut.ensures.value in
    subst IsTreePlaced (sym freed) placed.1

pub graft-requires-clause-full : goal.graft-requires-clause-full
graft-requires-clause-full g c =
    let full = only_is_full (tree_of c.args.part.now) (tree_of c.unlink-branch.result.value) c.requires.full c.unlink-branch.ensures.child in
    let freed = c.take_fragment-list.ensures.tree ∙ ap (λ n. with_fragment [] (tree_of n)) c.deref_mut.ensures.value in
    subst IsTreeFull (sym freed) full

pub put_back-requires-clause-some : goal.put_back-requires-clause-some
put_back-requires-clause-some g c =
    let b = c.unlink-branch.result.value in
    let placed = child_tree_is_placed 0 0 (tree_of c.args.part.now).children (tree_of b) c.unlink-branch.ensures.child c.requires.below.1 in
    let listed = c.take_fragment-list.ensures.fragment ∙ ap fragment_of c.deref_mut.ensures.value ∙ sym (fragment-tree_of b) in
    subst (λ l. 0 < length l) (sym listed) (length_some (tree_of b).fragment placed.0)

pub put_back-requires-in-Err-Memory-clause-some : goal.put_back-requires-in-Err-Memory-clause-some
put_back-requires-in-Err-Memory-clause-some g c =
    let b = c.unlink-branch.result.value in
    let placed = child_tree_is_placed 0 0 (tree_of c.args.part.now).children (tree_of b) c.unlink-branch.ensures.child c.requires.below.1 in
    let listed = c.take_fragment-list.ensures.fragment ∙ ap fragment_of c.deref_mut.ensures.value ∙ sym (fragment-tree_of b) in
    subst (λ l. 0 < length l) (sym listed) (length_some (tree_of b).fragment placed.0)

pub returns-in-Ok : goal.returns-in-Ok
returns-in-Ok g c =
    let n = c.args.part.now in
    let b = c.unlink-branch.result.value in
    let top = fragment-tree_of n ∙ c.requires.top in
    let listed = c.take_fragment-list.ensures.fragment ∙ ap fragment_of c.deref_mut.ensures.value ∙ sym (fragment-tree_of b) in
    let branch = with_value c.unlink-branch.result c.take_fragment-list.new.node in
    let freed = c.take_fragment-list.ensures.tree ∙ ap (λ n. with_fragment [] (tree_of n)) c.deref_mut.ensures.value in
    grafted_root (tree_of n) (tree_of b) top c.unlink-branch.ensures.child _ listed branch freed c.in-Ok.grafted (fragment_of c.args.root.now) (tree_of n) (tree_of c.args.root.now) (tree_of c.graft.new.node) c.in-Ok.ensures

pub returns-in-Err-Occupied : goal.returns-in-Err-Occupied
returns-in-Err-Occupied g c =
    let n = c.args.part.now in
    let b = c.unlink-branch.result.value in
    let top = fragment-tree_of n ∙ c.requires.top in
    let one : IsOne (tree_of n).children = has_one_child n (sym (out-TrieNode g.row.K.Denot g.row.V.Denot n).children.ok.0 ∙ c.requires.one) in
    let listed = c.take_fragment-list.ensures.fragment ∙ ap fragment_of c.deref_mut.ensures.value ∙ sym (fragment-tree_of b) in
    let branch = with_value c.unlink-branch.result c.take_fragment-list.new.node in
    let freed = c.take_fragment-list.ensures.tree ∙ ap (λ n. with_fragment [] (tree_of n)) c.deref_mut.ensures.value in
    let told = subst (λ e. GraftOutcome (Err e) branch (fragment_of c.args.root.now ++ c.take_fragment-list.result) (tree_of c.args.root.now) (tree_of c.graft.new.node)) c.in-Err-Occupied.field-0-is c.in-Err-Occupied.ensures in
    stays_occupied (tree_of n) (tree_of b) top c.unlink-branch.ensures.child _ listed branch freed c.requires.below one c.unlink-branch.ensures.nibble (tree_of c.unlink-branch.new.node) (tree_of c.put_back.new.root)
    c.unlink-branch.ensures.tree c.in-Err-Occupied.branch c.put_back.ensures (fragment_of c.args.root.now) (tree_of c.args.root.now) (tree_of c.graft.new.node) told

pub returns-in-Err-Memory : goal.returns-in-Err-Memory
returns-in-Err-Memory g c =
    let n = c.args.part.now in
    let b = c.unlink-branch.result.value in
    let top = fragment-tree_of n ∙ c.requires.top in
    let one : IsOne (tree_of n).children = has_one_child n (sym (out-TrieNode g.row.K.Denot g.row.V.Denot n).children.ok.0 ∙ c.requires.one) in
    let listed = c.take_fragment-list.ensures.fragment ∙ ap fragment_of c.deref_mut.ensures.value ∙ sym (fragment-tree_of b) in
    let branch = with_value c.unlink-branch.result c.take_fragment-list.new.node in
    let freed = c.take_fragment-list.ensures.tree ∙ ap (λ n. with_fragment [] (tree_of n)) c.deref_mut.ensures.value in
    let told = subst (λ e. GraftOutcome (Err e) branch (fragment_of c.args.root.now ++ c.take_fragment-list.result) (tree_of c.args.root.now) (tree_of c.graft.new.node)) c.in-Err-Memory.field-0-is c.in-Err-Memory.ensures in
    stays_for_memory (tree_of n) (tree_of b) top c.unlink-branch.ensures.child _ listed branch freed c.requires.below one c.unlink-branch.ensures.nibble (tree_of c.unlink-branch.new.node) (tree_of c.put_back-in-Err-Memory.new.root)
    c.unlink-branch.ensures.tree c.in-Err-Memory.branch c.put_back-in-Err-Memory.ensures (fragment_of c.args.root.now) (tree_of c.args.root.now) (tree_of c.graft.new.node) told
