use Rattle.std.proofs.Common.{◌∙◌, ap}
use Rattle.nibble_map.specs.Turned.{turned}
use Rattle.radix_keys.proofs.NibbleLemmas.Turning.{unpacked-turned}
use Rattle.radix_keys.proofs.nibbles.NibbleVec.turn_over.Goals as goal

pub returns : goal.returns
returns c =
    rw (c.deref_mut.ensures.value) (unpacked-turned c.self.inside.bytes.items c.self.inside.is_odd ∙ ap turned c.self.view_is)
