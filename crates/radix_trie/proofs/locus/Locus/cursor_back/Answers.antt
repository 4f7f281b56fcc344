use Rattle.std.proofs.Common.{[], ◌∙◌, ap, arith, length, reverse}
use Rattle.std.proofs.lemmas.List.{length-reverse}
use Rattle.masked_tree.specs.Tree.{entries_at}
use Rattle.radix_nodes.specs.Nodes.{tree_of}
use Rattle.radix_nodes.specs.Pairs.{pairs_in}
use Rattle.radix_nodes.proofs.NodeLemmas.Pairs.{length-pairs_of}
use Rattle.radix_trie.proofs.PathLemmas.Loci.{found_full, found_is_small, pairs_in-found, nothing_found-pairs}
use Rattle.radix_trie.proofs.WalkLemmas.Keyed.{keyed_walk}
use Rattle.radix_trie.proofs.locus.Locus.cursor_back.Goals as goal

pub over-requires : goal.over-requires
over-requires g c = record { full = found_full g.K.TrieKey.encoding c.requires.0 c.requires.1 c.args.self.now.found c.requires.2.0 _ _ c.in-Some.is }

pub returns-in-Some-clause-walk : goal.returns-in-Some-clause-walk
returns-in-Some-clause-walk g c = λ m p locus. c.over.ensures ∙ ap reverse (pairs_in-found g.K.TrieKey.encoding m p c.args.self.now.found locus.0 _ _ c.in-Some.is)

pub returns-in-None-clause-walk : goal.returns-in-None-clause-walk
returns-in-None-clause-walk g c = λ m p locus. c.empty.ensures ∙ ap reverse (nothing_found-pairs g.K.TrieKey.encoding m p c.args.self.now.found locus.0 c.in-None.is)

pub returns-in-Some-clause-keyed : goal.returns-in-Some-clause-keyed
returns-in-Some-clause-keyed g c = λ m p locus. keyed_walk g.K.TrieKey.encoding m p c.args.self.now.found locus.0

pub returns-in-None-clause-keyed : goal.returns-in-None-clause-keyed
returns-in-None-clause-keyed g c = λ m p locus. keyed_walk g.K.TrieKey.encoding m p c.args.self.now.found locus.0

pub returns-in-Some-clause-countable : goal.returns-in-Some-clause-countable
returns-in-Some-clause-countable g c =
    let small = found_is_small g.K.TrieKey.encoding c.requires.0 c.requires.1 c.args.self.now.found c.requires.2.0 _ _ c.in-Some.is c.requires.2.1 in
    omega (arith, ap length c.over.ensures, length-reverse (pairs_in (tree_of c.in-Some.node.now)), length-pairs_of (entries_at [] (tree_of c.in-Some.node.now)), small)
