use Rattle.std.proofs.Common.{length, rules, ◌∙◌}
use Rattle.image_parts.proofs.ByteLemmas.{u64_written}
use Rattle.image_parts.proofs.stores.put_u64.Goals as goal

pub returns-clause-number : goal.returns-clause-number
returns-clause-number c =
    u64_written _ c.args.at (length c.to_le_bytes.result) c.args.number (search rules) (search rules) c.ranges.number.fits (c.put_bytes.ensures.bytes ∙ c.to_le_bytes.ensures)
