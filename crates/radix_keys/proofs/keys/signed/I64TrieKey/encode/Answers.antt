use Rattle.radix_keys.proofs.KeyLemmas.Order.{signed_order}
use Rattle.std.specs.Int.{w64}
use Rattle.radix_keys.proofs.keys.signed.I64TrieKey.encode.Goals as goal

pub returns-clause-order : goal.returns-clause-order
returns-clause-order c = signed_order w64
