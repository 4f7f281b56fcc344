use Rattle.std.proofs.Common.{sym, ◌∙◌}
use Rattle.radix_trie.proofs.PathLemmas.Loci.{pair_of-found_here, get-found_inside, get-nothing_found, whole_or_inside}
use Rattle.radix_trie.proofs.locus.Locus.pair.Goals as goal

pub returns-then-covered-len : goal.returns-then-covered-len
returns-then-covered-len g c = λ m p locus.
    c.pair.ensures ∙ pair_of-found_here g.K.TrieKey.encoding m p c.args.self.now.found locus.0 c.in-Some.node c.in-Some.covered c.in-Some.is (c.if-covered-len.true ∙ c.len.ensures)

pub returns-else-covered-len : goal.returns-else-covered-len
returns-else-covered-len g c = λ m p locus.
    let at = whole_or_inside g.K.TrieKey.encoding m p c.args.self.now.found locus.0 c.in-Some.node c.in-Some.covered c.in-Some.is (λ e. c.if-covered-len.false (e ∙ sym c.len.ensures)) in
    sym (get-found_inside g.K.TrieKey.encoding m p c.args.self.now.found locus.0 c.in-Some.node c.in-Some.covered c.in-Some.is at)

pub returns-in-None : goal.returns-in-None
returns-in-None g c = λ m p locus. sym (get-nothing_found g.K.TrieKey.encoding m p c.args.self.now.found locus.0 c.in-None.is)
