use Rattle.std.proofs.Common.{◌≡◌}
use Rattle.encoded_keys.specs.Index.{hash_of_words}
use Rattle.encoded_keys.proofs.hash.hash_bytes.Given as goal

abbrev pub invariant-loop-i : goal.invariant-loop-i
invariant-loop-i l = l.hash ≡ hash_of_words l.bytes l.i
