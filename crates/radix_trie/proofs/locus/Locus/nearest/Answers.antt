use Rattle.std.proofs.Common.{ap, arith, length}
use Rattle.radix_nodes.proofs.NodeLemmas.Nodes.{fragment-tree_of}
use Rattle.radix_trie.proofs.PathLemmas.Children.{node_past}
use Rattle.radix_trie.proofs.PathLemmas.Nearest.{nearest_point, no_point_below}
use Rattle.radix_trie.proofs.PathLemmas.Loci.{nearest_found, false_is_not_true}
use Rattle.radix_trie.proofs.locus.Locus.nearest.Goals as goal

pub extended-requires : goal.extended-requires
extended-requires g c =
    let near = nearest_found g.K.TrieKey.encoding c.requires.0 c.args.path.now c.args.self.now.found c.requires.1.0 c.in-Some.node c.in-Some.covered c.in-Some.is in
    omega (arith, near.within, ap length (fragment-tree_of c.in-Some.node.now))

pub returns-in_err-whole-clause-short : goal.returns-in_err-whole-clause-short
returns-in_err-whole-clause-short g c = λ m locus short.
    absurd (false_is_not_true (c.in_err-whole.ensures.short
    (short _ (nearest_point g.K.TrieKey.encoding m c.args.path.now c.args.self.now.found locus.0 c.in-Some.node c.in-Some.covered c.in-Some.is))))

pub returns-clause-node : goal.returns-clause-node
returns-clause-node g c = λ m locus.
    node_past g.K.TrieKey.encoding m c.args.path.now c.args.self.now.found locus.0 c.in-Some.node c.in-Some.covered c.in-Some.is
    c.in_ok-whole.whole c.in_ok-whole.ensures.made

pub returns-clause-nearest : goal.returns-clause-nearest
returns-clause-nearest g c = λ m locus.
    rw c.in_ok-whole.ensures.made
    (nearest_point g.K.TrieKey.encoding m c.args.path.now c.args.self.now.found locus.0 c.in-Some.node c.in-Some.covered c.in-Some.is)

pub returns-in_default-clause-nearest : goal.returns-in_default-clause-nearest
returns-in_default-clause-nearest g c = λ m locus.
    no_point_below g.K.TrieKey.encoding m c.args.path.now c.args.self.now.found locus.0 c.in_default.is
