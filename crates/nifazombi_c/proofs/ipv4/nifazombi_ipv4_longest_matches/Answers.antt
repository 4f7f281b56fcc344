use Rattle.std.proofs.lemmas.List.{map-id}
use Rattle.nifazombi_c.proofs.ipv4.nifazombi_ipv4_longest_matches.Goals as goal

pub returns-clause-rows : goal.returns-clause-rows
returns-clause-rows c = simp map-id at c.longest_matches.ensures.rows
