-- The pairs so far are of the keys and values so far, and what their values leave of the image's length is left.
use Rattle.std.proofs.Common.{◌≡◌, ◌+◌, [], length, take}
use Rattle.std.specs.List.{AllZip}
use Rattle.radix_trie.specs.Views.{pairs_below}
use Rattle.flat_texts.specs.TextImages.{image_pairs}
use Rattle.flat_tries.specs.ValueImages.{IsPlacedPair, laid_values}
use Rattle.flat_tries.proofs.values.from_image_of_values.Given as goal

abbrev pub invariant-loop-at : goal.invariant-loop-at
invariant-loop-at g l = record {
  pairs : AllZip (IsPlacedPair g.V.FileItem.file_bytes g.V.FileItem.is_item g.K.TrieKey.encoding l.own) (take l.at (image_pairs l.image)) (pairs_below l.trie []);
  left : l.left + length (laid_values g.V.FileItem.file_bytes (pairs_below l.trie [])) ≡ length l.image;
}
