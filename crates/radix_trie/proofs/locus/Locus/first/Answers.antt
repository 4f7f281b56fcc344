use Rattle.std.proofs.Common.{◌∙◌, ap}
use Rattle.std.specs.List.{slice_get}
use Rattle.radix_trie.proofs.PathLemmas.Loci.{found_full, pairs_in-found, nothing_found-pairs}
use Rattle.radix_trie.proofs.locus.Locus.first.Goals as goal

pub first_pair-requires : goal.first_pair-requires
first_pair-requires g c = record { full = found_full g.K.TrieKey.encoding c.requires.0 c.requires.1 c.args.self.now.found c.requires.2.0 _ _ c.in-Some.is }

pub returns-in-Some : goal.returns-in-Some
returns-in-Some g c = λ m p locus. c.first_pair.ensures ∙ ap (λ ps. slice_get ps 0) (pairs_in-found g.K.TrieKey.encoding m p c.args.self.now.found locus.0 _ _ c.in-Some.is)

pub returns-in-None : goal.returns-in-None
returns-in-None g c = λ m p locus. ap (λ ps. slice_get ps 0) (nothing_found-pairs g.K.TrieKey.encoding m p c.args.self.now.found locus.0 c.in-None.is)
