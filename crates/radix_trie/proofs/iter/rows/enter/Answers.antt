use Rattle.std.proofs.Common.{◌≡◌, ◌<◌, refl, subst, sym, ◌∙◌, arith, length}
use Rattle.std.proofs.lemmas.Bool.Decides.{nat_tests}
use Rattle.masked_tree.specs.Sizes.{levels}
use Rattle.radix_nodes.specs.declared.trie_node.TrieNode.{out-TrieNode}
use Rattle.radix_nodes.specs.Nodes.{tree_of}
use Rattle.radix_nodes.proofs.EditLemmas.Removal.{children_of-no_boxes}
use Rattle.radix_nodes.proofs.NodeLemmas.Nodes.{children-tree_of}
use Rattle.radix_nodes.proofs.NodeLemmas.Sizes.{levels_out}
use Rattle.radix_trie.proofs.WalkLemmas.Rows.{children_of-row, first_own, levels-some}
use Rattle.radix_trie.proofs.WalkLemmas.Steps.{ArePutAside, leaf_turn, node_turn, none-aside, some-aside}
use Rattle.radix_trie.proofs.iter.rows.enter.Given.{Over}
use Rattle.radix_trie.proofs.iter.rows.enter.Goals as goal
use Rattle.radix_trie.proofs.iter.rows.enter.Goals.{then-not-is_empty, else-not-is_empty}

pub returns-then-is_empty-clause-pairs : goal.returns-then-is_empty-clause-pairs
returns-then-is_empty-clause-pairs g c =
    let out = out-TrieNode g.row.K.Denot g.row.V.Denot c.args.node.now in
    let no : length out.children.items ≡ 0 = grind (arith, nat_tests) in
    (leaf_turn c.args.stack.now.items c.args.others.now (record { own = c.pair-own.result; row = c.args.others }) (tree_of c.args.node.now) (first_own _ _ c.pair-own.ensures) (children-tree_of c.args.node.now ∙ children_of-no_boxes _ no) refl).0

pub returns-then-is_empty-clause-rows : goal.returns-then-is_empty-clause-rows
returns-then-is_empty-clause-rows g c =
    let out = out-TrieNode g.row.K.Denot g.row.V.Denot c.args.node.now in
    let no : length out.children.items ≡ 0 = grind (arith, nat_tests) in
    (leaf_turn c.args.stack.now.items c.args.others.now (record { own = c.pair-own.result; row = c.args.others }) (tree_of c.args.node.now) (first_own _ _ c.pair-own.ensures) (children-tree_of c.args.node.now ∙ children_of-no_boxes _ no) refl).1

-- the others were put aside, if there are any
aside : (g : Over) (c : goal.After-deref g) → ArePutAside c.args.stack.now.items c.args.others.now c.if-not-is_empty.stack.items
aside g c = elim c.if-not-is_empty.branch [
  | then-not-is_empty w ↦ subst (λ s. ArePutAside c.args.stack.now.items c.args.others.now s.items) (sym w.stack-is)
      (some-aside c.args.stack.now.items _ c.args.others w.push_reserved.ensures.items (grind (arith, nat_tests)))
  | else-not-is_empty w ↦ subst (λ s. ArePutAside c.args.stack.now.items c.args.others.now s.items) (sym w.stack-is)
      (none-aside c.args.stack.now.items c.args.others.now (grind (arith, nat_tests)))
]

-- the walk goes on at the node's children
below : (g : Over) (c : goal.After-deref g) → 0 < levels (tree_of c.args.node.now).children
below g c =
    let out = out-TrieNode g.row.K.Denot g.row.V.Denot c.args.node.now in
    let some : 0 < length out.children.items = grind (arith, nat_tests) in
    omega (arith, levels-some _ some, levels_out c.args.node.now)

pub returns-clause-pairs : goal.returns-clause-pairs
returns-clause-pairs g c =
    (node_turn c.args.stack.now.items c.args.others.now _ (tree_of c.args.node.now) (first_own _ _ c.pair-own.ensures) _ (aside g c) (children_of-row _ _ c.deref.ensures.value) (below g c)).0

pub returns-clause-rows : goal.returns-clause-rows
returns-clause-rows g c =
    (node_turn c.args.stack.now.items c.args.others.now _ (tree_of c.args.node.now) (first_own _ _ c.pair-own.ensures) _ (aside g c) (children_of-row _ _ c.deref.ensures.value) (below g c)).1
