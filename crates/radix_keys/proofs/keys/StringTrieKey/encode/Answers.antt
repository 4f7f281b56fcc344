use Rattle.radix_keys.proofs.KeyLemmas.Order.{byte_order}
use Rattle.radix_keys.proofs.keys.StringTrieKey.encode.Goals as goal

pub returns-clause-order : goal.returns-clause-order
returns-clause-order c = byte_order
