use Rattle.std.proofs.Common.{◌≡◌, ◌++◌, ℕ, ◌≤◌, map as each, reverse, take, get_or}
use Rattle.nibble_map.specs.Nibbles.{nibbles}
use Rattle.radix_trie.specs.Views.{pairs_above}
use Rattle.frozen_trie.specs.Frozen.{prefixes_up}
use Rattle.flat_texts.specs.TextImages.{IsTextImage, image_map, pair_in}
use Rattle.flat_texts.proofs.reading.prefixes.Given as goal

abbrev pub invariant-loop-count : goal.invariant-loop-count
invariant-loop-count l = record {
  within : l.at ≤ l.plan.pairs;
  walk : IsTextImage l.image → each (pair_in l.image) (take l.count l.found) ++ prefixes_up nibbles (image_map l.image) l.at
      ≡ reverse (pairs_above (image_map l.image) (nibbles l.key));
  rest : (k : ℕ) → l.count ≤ k → get_or l.found k 0 ≡ get_or l.fn.found k 0;
}
