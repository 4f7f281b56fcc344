use Rattle.std.proofs.Common.{ap, subst, ◌∙◌}
use Rattle.radix_trie.specs.Loci.{IsLocusIn}
use Rattle.radix_trie.proofs.view.locate.SubTrieMutLocate.locus.Goals as goal

pub returns : goal.returns
returns g c =
    subst (λ m. IsLocusIn g.K.TrieKey.encoding m (g.P.PathList.list c.args.self.path) c.find.result) c.into_parts-path.ensures.map
    (subst (λ p. IsLocusIn g.K.TrieKey.encoding c.into_parts-path.result.0.now p c.find.result) (c.nibbles.ensures ∙ ap g.P.PathList.list c.into_parts-path.ensures.path) c.find.ensures)
