use Rattle.std.proofs.Common.{Some, ap, sym, ◌∙◌}
use Rattle.std.specs.Net.Addr.{ipv6_bits}
use Rattle.flat_routes.specs.Images.{network, octet_number}
use Rattle.nifazombi_c.proofs.ipv6.nifazombi_ipv6_row_at.Goals as goal

pub returns-clause-row : goal.returns-clause-row
unfolding ipv6_bits
returns-clause-row c = λ yes. rw (← c.in-Ok.ensures.image) (λ image.
    c.in-Some.ensures.row ∙ ap (λ octets. Some (network (octet_number octets) c.in-Some.found.bits, c.in-Some.found.value)) (sym c.octets.ensures))
