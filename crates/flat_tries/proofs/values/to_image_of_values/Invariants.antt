-- The texts so far are the encodings of the keys so far, and lead to their values.
use Rattle.std.proofs.Common.{◌≡◌, [], take}
use Rattle.std.specs.List.{AllZip}
use Rattle.radix_trie.specs.Views.{pairs_below}
use Rattle.flat_tries.specs.ValueImages.{IsPlacedPair, laid_values}
use Rattle.flat_tries.proofs.values.to_image_of_values.Given as goal

abbrev pub invariant-loop-key : goal.invariant-loop-key
invariant-loop-key g l = record {
  laid : l.own.items ≡ laid_values g.V.FileItem.file_bytes (take l.key-index l.key-items);
  pairs : AllZip (IsPlacedPair g.V.FileItem.file_bytes g.V.FileItem.is_item g.K.TrieKey.encoding l.own.items) (pairs_below l.texts []) (take l.key-index l.key-items);
}
