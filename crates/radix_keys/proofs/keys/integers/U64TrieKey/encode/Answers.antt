use Rattle.radix_keys.proofs.KeyLemmas.Order.{unsigned_order}
use Rattle.std.specs.Int.{w64}
use Rattle.radix_keys.proofs.keys.integers.U64TrieKey.encode.Goals as goal

pub returns-clause-order : goal.returns-clause-order
returns-clause-order c = unsigned_order w64
