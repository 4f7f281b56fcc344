use Rattle.std.proofs.Common.{◌∙◌, ap, sym}
use Rattle.nibble_map.specs.Turned.{turned}
use Rattle.radix_keys.proofs.KeyLemmas.Ascending.{keys_rise}
use Rattle.radix_keys.proofs.NibbleLemmas.Turning.{nibbles-turned}
use Rattle.radix_keys.proofs.keys.ascending.AscendingTrieKey.encode.Goals as goal

pub returns-clause-turned : goal.returns-clause-turned
returns-clause-turned g c = λ x. nibbles-turned (g.T.KeyInt.bytes x) ∙ ap turned (sym (g.met.T.KeySigned.plain x))

pub returns-clause-order : goal.returns-clause-order
returns-clause-order g c =
    keys_rise g.T.KeySigned.bits g.T.KeyInt.bytes g.T.KeySigned.number g.T.KeyInt.is_value g.met.T.KeySigned.within g.met.T.KeySigned.twos_complement

pub returns-in_err-push_bytes-clause-turned : goal.returns-in_err-push_bytes-clause-turned
returns-in_err-push_bytes-clause-turned g c = λ x. nibbles-turned (g.T.KeyInt.bytes x) ∙ ap turned (sym (g.met.T.KeySigned.plain x))

pub returns-in_err-push_bytes-clause-order : goal.returns-in_err-push_bytes-clause-order
returns-in_err-push_bytes-clause-order g c =
    keys_rise g.T.KeySigned.bits g.T.KeyInt.bytes g.T.KeySigned.number g.T.KeyInt.is_value g.met.T.KeySigned.within g.met.T.KeySigned.twos_complement
