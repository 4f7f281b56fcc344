-- The pairs so far are of the keys so far.
use Rattle.std.proofs.Common.{[], take}
use Rattle.std.specs.List.{AllZip}
use Rattle.radix_trie.specs.Views.{pairs_below}
use Rattle.flat_texts.specs.TextImages.{image_pairs}
use Rattle.flat_tries.specs.TrieImages.{IsCodedPair}
use Rattle.flat_tries.proofs.tables.from_image.Given as goal

abbrev pub invariant-loop-at : goal.invariant-loop-at
invariant-loop-at g l = AllZip (IsCodedPair g.K.TrieKey.encoding) (take l.at (image_pairs l.image)) (pairs_below l.trie [])
