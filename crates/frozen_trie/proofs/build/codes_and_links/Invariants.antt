use Rattle.std.proofs.Common.{◌≡◌, All, take}
use Rattle.encoded_keys.specs.Codes.{IsLinked}
use Rattle.frozen_trie.specs.Frozen.{codes_of}
use Rattle.frozen_trie.proofs.build.codes_and_links.Given as goal

abbrev pub invariant-loop-pair : goal.invariant-loop-pair
invariant-loop-pair g l = record {
  keyed : l.codes ≡ codes_of g.K.TrieKey.encoding (take l.pair-index l.pairs);
  linked : IsLinked l.codes l.parents.items;
  values : All (λ p. g.K.TrieKey.is_value p.0) (take l.pair-index l.pairs);
}
