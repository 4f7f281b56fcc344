use Rattle.std.proofs.Common.{◌≡◌, [], take}
use Rattle.radix_trie.specs.Views.{pairs_below}
use Rattle.flat_texts.specs.TextImages.{image_pairs}
use Rattle.flat_texts.proofs.tables.from_image.Given as goal

abbrev pub invariant-loop-at : goal.invariant-loop-at
invariant-loop-at l = pairs_below l.texts [] ≡ take l.at (image_pairs l.image)
