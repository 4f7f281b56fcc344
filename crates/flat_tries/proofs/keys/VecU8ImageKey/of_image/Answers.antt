use Rattle.std.proofs.Common.{rules, sym, ap, ◌∙◌}
use Rattle.std.specs.Int.{w8, to_be_bytes}
use Rattle.std.specs.List.{flat_map}
use Rattle.nibble_map.specs.Nibbles.{nibbles}
use Rattle.flat_tries.proofs.KeyLemmas.{bytes_of_bytes}
use Rattle.flat_tries.proofs.keys.VecU8ImageKey.of_image.Goals as goal

pub returns-in-Ok-clause-encoded : goal.returns-in-Ok-clause-encoded
returns-in-Ok-clause-encoded c =
    ap nibbles (sym (ap (flat_map (to_be_bytes w8)) c.in-Ok.ensures.items ∙ bytes_of_bytes c.args.bytes.now (search rules)))
