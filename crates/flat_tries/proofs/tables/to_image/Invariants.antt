-- The texts so far are the encodings of the keys so far.
use Rattle.std.proofs.Common.{[], take}
use Rattle.std.specs.List.{AllZip}
use Rattle.radix_trie.specs.Views.{pairs_below}
use Rattle.flat_tries.specs.TrieImages.{IsCodedPair}
use Rattle.flat_tries.proofs.tables.to_image.Given as goal

abbrev pub invariant-loop-key : goal.invariant-loop-key
invariant-loop-key g l = AllZip (IsCodedPair g.K.TrieKey.encoding) (pairs_below l.texts []) (take l.key-index l.key-items)
