use Rattle.std.proofs.Common.{sym, ◌∙◌}
use Rattle.radix_nodes.proofs.EditLemmas.KeyParts.{agrees_from_depth}
use Rattle.radix_nodes.specs.Nodes.{fragment_of}
use Rattle.radix_trie.proofs.PathLemmas.Further.{covered_within, further_down, further_inside, further_none, further_parted}
use Rattle.radix_trie.proofs.PathLemmas.Loci.{found_placed}
use Rattle.radix_trie.proofs.locus.Locus.below.Goals as goal

pub compare-same-requires : goal.compare-same-requires
compare-same-requires g c =
    covered_within g.K.TrieKey.encoding c.requires.0 c.requires.1 c.args.list.now c.args.self.now.found c.requires.2.0 c.in-Some.node c.in-Some.covered c.in-Some.is

pub shortest-found-requires-clause-placed : goal.shortest-found-requires-clause-placed
shortest-found-requires-clause-placed g c =
    found_placed g.K.TrieKey.encoding c.requires.0 c.requires.1 c.args.self.now.found c.requires.2.0 c.in-Some.node c.in-Some.covered c.in-Some.is

pub returns-in_default : goal.returns-in_default
returns-in_default g c = λ m p locus.
    (further_none g.K.TrieKey.encoding m p c.args.list.now c.args.self.now.found locus.0 c.in_default.is, locus.1)

pub returns-then-covered-same : goal.returns-then-covered-same
returns-then-covered-same g c = λ m p locus.
    let a = c.compare-same.result in
    let node = c.in-Some.node in
    let within = covered_within g.K.TrieKey.encoding m p c.args.list.now c.args.self.now.found locus.0 node c.in-Some.covered c.in-Some.is in
    let e = c.compare-same.ensures in
    let agree = agrees_from_depth c.args.list.now (fragment_of node.now) c.in-Some.covered a.same a.compared within e.within e.inside e.same e.apart e.ended e.parted in (
      further_down g.K.TrieKey.encoding m p c.args.list.now c.args.self.now.found locus.0 node c.in-Some.covered c.in-Some.is a.same a.compared agree
          (c.if-covered-same.true ∙ c.len.ensures)
          c.shortest-found.result c.shortest-found.ensures,
      locus.1,
    )

pub returns-then-same-len : goal.returns-then-same-len
returns-then-same-len g c = λ m p locus.
    let a = c.compare-same.result in
    let node = c.in-Some.node in
    let within = covered_within g.K.TrieKey.encoding m p c.args.list.now c.args.self.now.found locus.0 node c.in-Some.covered c.in-Some.is in
    let e = c.compare-same.ensures in
    let agree = agrees_from_depth c.args.list.now (fragment_of node.now) c.in-Some.covered a.same a.compared within e.within e.inside e.same e.apart e.ended e.parted in (
      further_inside g.K.TrieKey.encoding m p c.args.list.now c.args.self.now.found locus.0 node c.in-Some.covered c.in-Some.is a.same a.compared agree
          (c.if-same-len.true ∙ c.len-2.ensures),
      locus.1,
    )

pub returns : goal.returns
returns g c = λ m p locus.
    let a = c.compare-same.result in
    let node = c.in-Some.node in
    let within = covered_within g.K.TrieKey.encoding m p c.args.list.now c.args.self.now.found locus.0 node c.in-Some.covered c.in-Some.is in
    let e = c.compare-same.ensures in
    let agree = agrees_from_depth c.args.list.now (fragment_of node.now) c.in-Some.covered a.same a.compared within e.within e.inside e.same e.apart e.ended e.parted in (
      further_parted g.K.TrieKey.encoding m p c.args.list.now c.args.self.now.found locus.0 node c.in-Some.covered c.in-Some.is a.same a.compared agree
          (λ z. c.if-same-len.false (z ∙ sym c.len-2.ensures)) (λ z. c.if-covered-same.false (z ∙ sym c.len.ensures)),
      locus.1,
    )
