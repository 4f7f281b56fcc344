use Rattle.radix_keys.proofs.KeyLemmas.Order.{unsigned_order}
use Rattle.std.specs.Int.{w32}
use Rattle.radix_keys.proofs.keys.scalars.CharTrieKey.encode.Goals as goal

pub returns-clause-order : goal.returns-clause-order
returns-clause-order c = unsigned_order w32
