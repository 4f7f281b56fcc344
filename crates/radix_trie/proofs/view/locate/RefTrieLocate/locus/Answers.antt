use Rattle.std.proofs.Common.{subst}
use Rattle.radix_trie.specs.Loci.{IsLocusIn}
use Rattle.radix_trie.proofs.view.locate.RefTrieLocate.locus.Goals as goal

pub returns : goal.returns
returns g c = subst (λ p. IsLocusIn g.K.TrieKey.encoding c.args.self.now p c.at.result) c.top.ensures c.at.ensures
