use Rattle.nibble_map.proofs.PointLemmas.OneChild.{one_child_leads}
use Rattle.nibble_map.proofs.query_laws.one_child_leads_to_each_list.Goals as goal

pub returns : goal.returns
returns g c = one_child_leads
