use Rattle.std.proofs.Common.{length, ap, arith}
use Rattle.encoded_keys.proofs.CodeLemmas.Reading.{as_many_ends}
use Rattle.encoded_keys.proofs.keys.EncodedKeys.piece.Goals as goal

pub piece_in-requires-clause-within : goal.piece_in-requires-clause-within
piece_in-requires-clause-within c =
    omega (arith, c.requires, ap length c.deref-2.ensures.value, ap length c.self.view_is, as_many_ends c.self.inside.bytes.items c.self.inside.ends.items c.self.invariant.laid)
