use Rattle.std.proofs.Common.{◌≡◌, suc, ◌+◌, ap, subst, arith}
use Rattle.std.specs.Net.Addr.{ipv6_bits}
use Rattle.frozen_routes.specs.Routes.{IsLongestAround}
use Rattle.flat_routes.specs.Images.{found_row, image_rows, network, of_ipv6}
use Rattle.image_parts.specs.Parts.{row_count}
use Rattle.image_parts.proofs.ByteLemmas.{u32_fits}
use Rattle.nifazombi_c.proofs.ipv6.nifazombi_ipv6_longest_around.Goals as goal

pub overflow_add-result : goal.overflow_add-result
overflow_add-result c =
    let few = u32_fits c.args.image.now 8 c.type_inv.image in
    let same = ap row_count c.in-Ok.ensures.image in
    record { fits = omega (arith, few, same, c.in-Some.ensures.within) }

pub returns-in-Some-clause-row : goal.returns-in-Some-clause-row
returns-in-Some-clause-row c = rw (← c.in-Ok.ensures.image, ← c.from_be_bytes.ensures, ← c.from_number.ensures) (λ image.
    let next : suc c.in-Some.at ≡ c.in-Some.at + 1 = omega arith in
    subst (λ r. IsLongestAround 128 (λ n. n) (image_rows of_ipv6 c.in-Ok.table) (network (ipv6_bits c.from_number.result) c.args.bits) (found_row of_ipv6 c.in-Ok.table r)) next
    (c.in-Some.ensures.row image))

pub returns-in-None-clause-row : goal.returns-in-None-clause-row
returns-in-None-clause-row c = rw (← c.in-Ok.ensures.image, ← c.from_be_bytes.ensures, ← c.from_number.ensures) (λ image. c.in-None.ensures.row image)
