use Rattle.std.proofs.Common.{sym, ◌∙◌, refl}
use Rattle.radix_trie.proofs.PathLemmas.Loci.{inside_no_leaf, nothing_found_leaf, whole_or_inside, leaf_tells, false_is_not_true}
use Rattle.radix_trie.proofs.locus.Locus.is_leaf.Goals as goal

pub returns-then-covered-len : goal.returns-then-covered-len
returns-then-covered-len g c = λ m p locus.
    leaf_tells g.K.TrieKey.encoding m p c.args.self.now.found locus.0 c.in-Some.node c.in-Some.covered c.in-Some.is (c.if-covered-len.true ∙ c.len.ensures) c.is_end.result c.is_end.ensures

pub returns-else-covered-len : goal.returns-else-covered-len
returns-else-covered-len g c = λ m p locus.
    let at = whole_or_inside g.K.TrieKey.encoding m p c.args.self.now.found locus.0 c.in-Some.node c.in-Some.covered c.in-Some.is (λ e. c.if-covered-len.false (e ∙ sym c.len.ensures)) in
    (λ t. absurd (false_is_not_true t), λ leaf. absurd (inside_no_leaf g.K.TrieKey.encoding m p c.args.self.now.found locus.0 c.in-Some.node c.in-Some.covered c.in-Some.is at leaf))

pub returns-in-None : goal.returns-in-None
returns-in-None g c = λ m p locus. (λ _. nothing_found_leaf g.K.TrieKey.encoding m p c.args.self.now.found locus.0 c.in-None.is, λ _. refl)
