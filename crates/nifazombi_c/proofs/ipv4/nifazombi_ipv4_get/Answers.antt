use Rattle.std.proofs.Common.{rules, ap, arith}
use Rattle.image_parts.specs.Parts.{row_count}
use Rattle.image_parts.proofs.ByteLemmas.{u32_fits}
use Rattle.nifazombi_c.proofs.ipv4.nifazombi_ipv4_get.Goals as goal

pub overflow_add-result : goal.overflow_add-result
overflow_add-result c =
    let few = u32_fits c.args.image.now 8 c.type_inv.image in
    let same = ap row_count c.in-Ok.ensures.image in
    record { fits = omega (arith, few, same, c.in-Some.ensures.within) }

pub returns-in-Some-clause-row : goal.returns-in-Some-clause-row
returns-in-Some-clause-row c = rw (← c.in-Ok.ensures.image, ← c.from.ensures, ← c.from_number.ensures) (λ image. let own = c.in-Some.ensures.row image in search rules)

pub returns-in-None-clause-row : goal.returns-in-None-clause-row
returns-in-None-clause-row c = rw (← c.in-Ok.ensures.image, ← c.from.ensures, ← c.from_number.ensures) (λ image. c.in-None.ensures.row image)
