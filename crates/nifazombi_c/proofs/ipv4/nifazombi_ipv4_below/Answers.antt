use Rattle.nifazombi_c.proofs.ipv4.nifazombi_ipv4_below.Goals as goal

pub returns-in-Ok-clause-first : goal.returns-in-Ok-clause-first
returns-in-Ok-clause-first c = rw (← c.in-Ok.ensures.image, ← c.from.ensures, ← c.from_number.ensures) c.below.ensures.first

pub returns-in-Ok-clause-behind : goal.returns-in-Ok-clause-behind
returns-in-Ok-clause-behind c = rw (← c.in-Ok.ensures.image, ← c.from.ensures, ← c.from_number.ensures) c.below.ensures.behind

pub returns-in-Ok-clause-rows : goal.returns-in-Ok-clause-rows
returns-in-Ok-clause-rows c = rw (← c.in-Ok.ensures.image, ← c.from.ensures, ← c.from_number.ensures) c.below.ensures.rows
