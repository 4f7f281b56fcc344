use Rattle.std.proofs.Common.{arith, ap, length}
use Rattle.radix_keys.proofs.NibbleLemmas.Bytes.{length-nibbles}
use Rattle.radix_keys.proofs.KeyLemmas.Order.{byte_order}
use Rattle.radix_keys.proofs.keys.scalars.ArrayU8TrieKey.encode.Goals as goal

pub returns-clause-narrow : goal.returns-clause-narrow
returns-clause-narrow g c = λ le.
    c.from_slice.ensures.succeeds (omega (arith, length-nibbles c.as_slice.result.now, ap length c.as_slice.ensures, c.told-self))

pub returns-clause-order : goal.returns-clause-order
returns-clause-order g c = byte_order
