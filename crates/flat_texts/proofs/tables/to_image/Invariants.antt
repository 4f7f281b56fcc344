use Rattle.std.proofs.Common.{◌≡◌, [], map as each, take}
use Rattle.radix_trie.specs.Views.{pairs_below}
use Rattle.flat_texts.specs.TextImages.{given_pair}
use Rattle.flat_texts.proofs.tables.to_image.Given as goal

abbrev pub invariant-loop-at : goal.invariant-loop-at
invariant-loop-at l = each given_pair l.pairs.items ≡ take l.at (pairs_below l.texts [])
