use Rattle.std.proofs.Common.{arith, subst, sym}
use Rattle.radix_trie.specs.Loci.{IsLocusIn}
use Rattle.radix_trie.proofs.view.subtrie.SubTrie.children.Goals as goal

pub children-requires : goal.children-requires
children-requires g c = (omega arith, subst (λ v. IsLocusIn g.K.TrieKey.encoding v.map v.path c.locus.result) (sym c.self.view_is) c.locus.ensures)

pub returns-clause-same_map : goal.returns-clause-same_map
returns-clause-same_map g c = rw (← c.self.view_is) c.children.ensures.same_map
