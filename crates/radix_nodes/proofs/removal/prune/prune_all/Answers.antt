use Rattle.std.proofs.Common.{◌≡◌, ◌+◌, ◌∙◌, [], length, ap, subst, sym, arith}
use Rattle.masked_tree.specs.Tree.{nodes_in, nibbles_in, entries_at}
use Rattle.masked_tree.specs.Edits.{empty}
use Rattle.masked_tree.proofs.EditLemmas.Removal.{all_goes}
use Rattle.radix_nodes.specs.Nodes.{tree_of}
use Rattle.radix_nodes.specs.Prunes.{IsSmall}
use Rattle.radix_nodes.proofs.NodeLemmas.Nodes.{fragment-tree_of}
use Rattle.radix_nodes.proofs.removal.prune.prune_all.Goals as goal

pub returns-clause-cut : goal.returns-clause-cut
returns-clause-cut g c =
    let n = c.args.root.now in
    let is : tree_of c.replace-branch.new.dest ≡ empty = ap tree_of c.replace-branch.ensures.after ∙ c.new.ensures in
    let nodes : c.drain-drained.result.nodes ≡ nodes_in (tree_of n).children = c.drain-drained.ensures.nodes ∙ ap (λ m. nodes_in (tree_of m).children) c.replace-branch.ensures.value in
    let e = ap (λ m. length (tree_of m).fragment + nibbles_in (tree_of m).children) c.replace-branch.ensures.value in
    let top = ap length (fragment-tree_of n ∙ c.requires.top) in
    let nibbles : c.drain-drained.result.nibbles ≡ nibbles_in (tree_of n).children = omega (arith, c.drain-drained.ensures.nibbles, e, top) in
    rw (nodes, nibbles, is) (all_goes (tree_of n) (fragment-tree_of n ∙ c.requires.top))

pub drain-drained-requires-clause-room : goal.drain-drained-requires-clause-room
drain-drained-requires-clause-room g c =
    let same = ap (λ n. length (entries_at [] (tree_of n))) c.replace-branch.ensures.value in
    omega (arith, same, c.count_pairs.ensures, c.in_ok-pairs.ensures.len, c.in_ok-pairs.ensures.capacity)

pub drain-drained-requires-clause-small : goal.drain-drained-requires-clause-small
drain-drained-requires-clause-small g c = subst (λ n. IsSmall (tree_of n)) (sym c.replace-branch.ensures.value) c.requires.small
