use Rattle.std.proofs.Common.{refl}
use Rattle.nibble_map.specs.Nibbles.{nibbles}
use Rattle.trie_examples.proofs.dictionary.completions.Goals as goal

pub returns-clause-begins : goal.returns-clause-begins
returns-clause-begins c =
    rw c.in-Ok.ensures.pairs (c.encodings_keep_prefixes.ensures (λ word. word.now) (λ word. refl) c.args.typed.now _ (c.frozen_stands_at_its_encodings.ensures.begun (nibbles c.args.typed.now)))
