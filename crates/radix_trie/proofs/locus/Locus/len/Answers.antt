use Rattle.std.proofs.Common.{◌∙◌}
use Rattle.radix_trie.proofs.PathLemmas.Loci.{found_is_small, length-found_entries, nothing_found-len}
use Rattle.radix_trie.proofs.locus.Locus.len.Goals as goal

pub count_pairs-requires : goal.count_pairs-requires
count_pairs-requires g c = found_is_small g.K.TrieKey.encoding c.requires.0 c.requires.1 c.args.self.now.found c.requires.2.0 _ _ c.in-Some.is c.requires.2.1

pub returns-in-Some : goal.returns-in-Some
returns-in-Some g c = λ m p locus. c.count_pairs.ensures ∙ length-found_entries g.K.TrieKey.encoding m p c.args.self.now.found locus.0 _ _ c.in-Some.is

pub returns-in-None : goal.returns-in-None
returns-in-None g c = λ m p locus. nothing_found-len g.K.TrieKey.encoding m p c.args.self.now.found locus.0 c.in-None.is
