use Rattle.std.proofs.Common.{Ok, Err, arith, ap, sym, subst}
use Rattle.masked_tree.specs.Mask.{IsPlaceOf}
use Rattle.masked_tree.specs.Sizes.{levels}
use Rattle.masked_tree.specs.Tree.{IsFullBelow, IsTreePlaced, firsts, plain}
use Rattle.nibble_map.specs.Trees.{IsFull}
use Rattle.radix_nodes.specs.declared.trie_node.TrieNode.{out-TrieNode}
use Rattle.radix_nodes.specs.Nodes.{fragment_of, tree_of}
use Rattle.radix_nodes.proofs.EditLemmas.Insertion.{boxed_child_is_placed, place_by_mask, place_is_within}
use Rattle.radix_nodes.proofs.NodeLemmas.FewChildren.{few_children}
use Rattle.radix_nodes.proofs.NodeLemmas.Nodes.{children-tree_of}
use Rattle.radix_nodes.proofs.NodeLemmas.Sizes.{levels_next, levels_out}
use Rattle.radix_trie.specs.declared.iter.side.Side.TheVariants as side
use Rattle.radix_trie.specs.Walks.{StandsBeside}
use Rattle.radix_trie.proofs.WalkLemmas.Cuts.{cut-after, cut-before, cut-ended, cut-gap, cut-on, levels-drop}
use Rattle.radix_trie.proofs.WalkLemmas.FullRows.{full_at}
use Rattle.radix_trie.proofs.iter.span.cuts.cut_by.Goals as goal

pub returns-then-depth-len-clause-parts : goal.returns-then-depth-len-clause-parts
returns-then-depth-len-clause-parts g c =
    cut-ended c.args.node.now c.args.list.now c.args.depth c.requires.placed (omega (arith, c.if-depth-len.true, c.len.ensures))

pub index-child-requires : goal.index-child-requires
index-child-requires g c =
    let n = c.args.node.now in
    let within = place_is_within n c.in-Ok.i c.get.result c.requires.placed (place_by_mask n c.get.result (Ok c.in-Ok.i) c.requires.placed c.in-Ok.ensures) in
    omega (arith, within, (out-TrieNode g.row.K.Denot g.row.V.Denot n).children.ok.0)

pub overflow_add-behind : goal.overflow_add-behind
overflow_add-behind g c =
    let n = c.args.node.now in
    let within = place_is_within n c.in-Ok.i c.get.result c.requires.placed (place_by_mask n c.get.result (Ok c.in-Ok.i) c.requires.placed c.in-Ok.ensures) in
    let few = few_children n (out-TrieNode g.row.K.Denot g.row.V.Denot n).children.items (sym (children-tree_of n)) c.requires.placed in
    omega (arith, within, few)

pub returns-in-Before-clause-parts : goal.returns-in-Before-clause-parts
returns-in-Before-clause-parts g c =
    let n = c.args.node.now in
    let at = subst (λ y. IsPlaceOf y (firsts (tree_of n).children) (Ok c.in-Ok.i)) c.get.ensures.value (place_by_mask n c.get.result (Ok c.in-Ok.i) c.requires.placed c.in-Ok.ensures) in
    cut-before n c.args.list.now c.args.depth c.requires.placed (omega (arith, c.requires.depth, c.if-depth-len.false, c.len.ensures)) c.in-Ok.i at c.index-child.result.now (sym c.index-child.ensures)
    (subst (λ m. StandsBeside (fragment_of m) c.args.list.now c.args.depth side.Before) c.deref.ensures c.in-Before.ensures)

pub returns-in-After-clause-parts : goal.returns-in-After-clause-parts
returns-in-After-clause-parts g c =
    let n = c.args.node.now in
    let at = subst (λ y. IsPlaceOf y (firsts (tree_of n).children) (Ok c.in-Ok.i)) c.get.ensures.value (place_by_mask n c.get.result (Ok c.in-Ok.i) c.requires.placed c.in-Ok.ensures) in
    cut-after n c.args.list.now c.args.depth c.requires.placed (omega (arith, c.requires.depth, c.if-depth-len.false, c.len.ensures)) c.in-Ok.i at c.index-child.result.now (sym c.index-child.ensures)
    (subst (λ m. StandsBeside (fragment_of m) c.args.list.now c.args.depth side.After) c.deref.ensures c.in-After.ensures)

pub returns-in-On-clause-parts : goal.returns-in-On-clause-parts
returns-in-On-clause-parts g c =
    let n = c.args.node.now in
    let at = subst (λ y. IsPlaceOf y (firsts (tree_of n).children) (Ok c.in-Ok.i)) c.get.ensures.value (place_by_mask n c.get.result (Ok c.in-Ok.i) c.requires.placed c.in-Ok.ensures) in
    cut-on n c.args.list.now c.args.depth c.requires.placed (omega (arith, c.requires.depth, c.if-depth-len.false, c.len.ensures)) c.in-Ok.i at c.index-child.result.now (sym c.index-child.ensures)
    c.in-On.next c.deref-in-On.result c.deref-in-On.ensures
    (subst (λ m. StandsBeside (fragment_of m) c.args.list.now c.args.depth (side.On c.in-On.next)) c.deref.ensures c.in-On.ensures)

pub returns-in-On-clause-leads : goal.returns-in-On-clause-leads
returns-in-On-clause-leads g c =
    let n = c.args.node.now in
    let boxes = (out-TrieNode g.row.K.Denot g.row.V.Denot n).children.items in
    let i = c.in-Ok.i in
    let b = c.index-child.result.now in
    let within = place_is_within n i c.get.result c.requires.placed (place_by_mask n c.get.result (Ok i) c.requires.placed c.in-Ok.ensures) in
    let node = sym c.deref-in-On.ensures in (
      c.in-On.ensures.1,
      subst (λ m. IsTreePlaced (tree_of m)) node (boxed_child_is_placed n i b c.requires.placed within (sym c.index-child.ensures)).1,
      subst (λ m. IsFullBelow (tree_of m)) node (full_at boxes i b within (sym c.index-child.ensures) (subst (λ k. IsFull (plain k)) (children-tree_of n) c.requires.full)),
      omega (arith, levels_next boxes i b within c.index-child.ensures, levels-drop i boxes, levels_out n, ap (λ m. levels (tree_of m).children) c.deref-in-On.ensures),
    )

pub returns-in-Err-clause-parts : goal.returns-in-Err-clause-parts
returns-in-Err-clause-parts g c =
    let n = c.args.node.now in
    let at = subst (λ y. IsPlaceOf y (firsts (tree_of n).children) (Err c.in-Err.i)) c.get.ensures.value (place_by_mask n c.get.result (Err c.in-Err.i) c.requires.placed c.in-Err.ensures) in
    cut-gap n c.args.list.now c.args.depth c.requires.placed (omega (arith, c.requires.depth, c.if-depth-len.false, c.len.ensures)) c.in-Err.i at
