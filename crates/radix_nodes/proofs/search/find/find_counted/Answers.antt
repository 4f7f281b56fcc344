use Rattle.nibble_map.specs.Answers.{IsCompared}
use Rattle.nibble_map.specs.Lists.{Counts}
use Rattle.nibble_map.specs.Stored.{IsStored}
use Rattle.std.proofs.Common.{◌∙◌, ◌++◌, [], ap, sym, subst}
use Rattle.masked_tree.specs.Paths.{IsNodeAt, IsOnWay}
use Rattle.masked_tree.specs.Tree.{entries_at}
use Rattle.masked_tree.proofs.TreeLemmas.Points.{walked_is_compared}
use Rattle.radix_nodes.specs.Nodes.{tree_of}
use Rattle.radix_nodes.proofs.NodeLemmas.Nodes.{fragment-tree_of}
use Rattle.radix_nodes.proofs.NodeLemmas.Options.{match_implies}
use Rattle.radix_nodes.proofs.search.find.find_counted.Goals as goal

pub returns-clause-found : goal.returns-clause-found
returns-clause-found g c =
    let t = tree_of c.args.root.now in
    let e = ap (λ f. f ++ c.args.list.now) c.requires.top in
    match_implies c.search.result.found
    (λ free u d. free u (subst (λ p. IsNodeAt t p u) (sym e) d))
    (λ r d. subst (λ p. IsNodeAt t p (tree_of r.now)) e d)
    c.search.ensures.found

pub returns-clause-nodes : goal.returns-clause-nodes
returns-clause-nodes g c =
    subst (λ p. Counts (IsOnWay (tree_of c.args.root.now) p) c.search.result.cost.nodes) (ap (λ f. f ++ c.args.list.now) c.requires.top) c.search.ensures.nodes

pub returns-clause-nibbles : goal.returns-clause-nibbles
returns-clause-nibbles g c =
    let t = tree_of c.args.root.now in
    subst (λ n. IsCompared (IsStored (entries_at [] t)) c.args.list.now n) (sym c.search.ensures.nibbles) (walked_is_compared t (fragment-tree_of c.args.root.now ∙ c.requires.top) c.requires.placed c.requires.full c.args.list.now)
