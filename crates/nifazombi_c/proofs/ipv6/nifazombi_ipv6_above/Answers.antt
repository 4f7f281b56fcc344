use Rattle.nifazombi_c.proofs.ipv6.nifazombi_ipv6_above.Goals as goal

pub returns-in-None-clause-row : goal.returns-in-None-clause-row
returns-in-None-clause-row c = rw (← c.in-Ok.ensures.image) c.in-None.ensures.row
