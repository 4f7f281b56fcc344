use Rattle.std.proofs.Common.{◌≡◌, suc, ◌-◌, ◌∙◌, length, sym, subst, arith, IsSome}
use Rattle.masked_tree.specs.Tree.{firsts}
use Rattle.radix_nodes.specs.Ends.{EndsHere, EndsInChild}
use Rattle.radix_nodes.specs.Nodes.{tree_of, out_of}
use Rattle.radix_nodes.proofs.NodeLemmas.Nodes.{pair-tree_of}
use Rattle.radix_nodes.proofs.EditLemmas.Removal.{children-no_boxes, length-firsts_of_node}
use Rattle.radix_nodes.proofs.EditLemmas.Ends.{childless_ends_here, paired_ends_here, first_in_child, last_in_child}
use Rattle.radix_nodes.proofs.removal.pop.end_child.Goals as goal

pub returns-then-is_end : goal.returns-then-is_end
returns-then-is_end g c =
    let n = c.args.node.now in
    childless_ends_here c.args.end (tree_of n) (children-no_boxes n (omega (arith, c.if-is_end.ensures, (out_of n).children.ok.0)))

pub returns-then-has_pair : goal.returns-then-has_pair
returns-then-has_pair g c =
    let n = c.args.node.now in
    subst (λ end. EndsHere end (tree_of n)) (sym c.in-First.is) (paired_ends_here (tree_of n) (subst (λ o. IsSome o) (sym (pair-tree_of n)) c.if-has_pair.ensures))

pub returns-else-has_pair : goal.returns-else-has_pair
returns-else-has_pair g c =
    let n = c.args.node.now in
    (c.if-is_end.ensures, subst (λ end. EndsInChild end (tree_of n) 0) (sym c.in-First.is) (first_in_child (tree_of n) (pair-tree_of n ∙ c.if-has_pair.ensures)))

pub returns-in-Last : goal.returns-in-Last
returns-in-Last g c =
    let n = c.args.node.now in
    let o = (out_of n).children.ok.0 in
    let last : suc (c.len.result - 1) ≡ length (firsts (tree_of n).children) = omega (arith, o, c.len.ensures, c.if-is_end.ensures, length-firsts_of_node n) in
    (omega (arith, c.len.ensures, c.if-is_end.ensures), subst (λ end. EndsInChild end (tree_of n) (c.len.result - 1)) (sym c.in-Last.is) (last_in_child (tree_of n) (c.len.result - 1) last))
