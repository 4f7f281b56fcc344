use Rattle.nifazombi_c.proofs.ResultLemmas.{if_ok}
use Rattle.nifazombi_c.proofs.ipv4.nifazombi_ipv4_merge.Goals as goal

pub returns-clause-rows : goal.returns-clause-rows
returns-clause-rows c = λ done. if_ok c.merge.result (c.length_of.ensures.ok.0 done) c.merge.ensures.rows
