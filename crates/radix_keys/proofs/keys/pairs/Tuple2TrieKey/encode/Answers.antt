use Rattle.radix_keys.proofs.KeyLemmas.Order.{pair_order}
use Rattle.radix_keys.proofs.keys.pairs.Tuple2TrieKey.encode.Goals as goal

pub returns-in_err-first-clause-order : goal.returns-in_err-first-clause-order
returns-in_err-first-clause-order g c = pair_order g.A.TrieKey.encoding g.B.TrieKey.encoding g.A.TrieKey.is_value g.A.FixedWidth.nibble_count g.met.A.FixedWidth.same_width

pub returns-in_err-second-clause-order : goal.returns-in_err-second-clause-order
returns-in_err-second-clause-order g c = pair_order g.A.TrieKey.encoding g.B.TrieKey.encoding g.A.TrieKey.is_value g.A.FixedWidth.nibble_count g.met.A.FixedWidth.same_width

pub returns-in-Ok-clause-order : goal.returns-in-Ok-clause-order
returns-in-Ok-clause-order g c = pair_order g.A.TrieKey.encoding g.B.TrieKey.encoding g.A.TrieKey.is_value g.A.FixedWidth.nibble_count g.met.A.FixedWidth.same_width

pub returns-clause-order : goal.returns-clause-order
returns-clause-order g c = pair_order g.A.TrieKey.encoding g.B.TrieKey.encoding g.A.TrieKey.is_value g.A.FixedWidth.nibble_count g.met.A.FixedWidth.same_width
