use Rattle.std.proofs.Common.{◌≡◌, ◌++◌, [], length}
use Rattle.radix_trie.specs.Views.{pairs_below}
use Rattle.encoded_keys.specs.Codes.{IsLinked}
use Rattle.frozen_trie.specs.Frozen.{codes_of}
use Rattle.frozen_trie.proofs.freezing.codes_and_links.Given as goal

abbrev pub invariant-loop-key : goal.invariant-loop-key
invariant-loop-key g l = record {
  keyed : l.codes ++ codes_of g.K.TrieKey.encoding l.walk ≡ codes_of g.K.TrieKey.encoding (pairs_below l.trie []);
  linked : IsLinked l.codes l.parents.items;
}

abbrev pub decreases-loop-key : goal.decreases-loop-key
decreases-loop-key g l = length l.walk
