use Rattle.std.proofs.Common.{List, MatchOption, ℕ, subst}
use Rattle.radix_keys.specs.Networks.{Net}
use Rattle.route_tool.specs.Requests.{WritesNetwork}
use Rattle.route_tool.proofs.command.target.Goals as goal

pub returns : goal.returns
returns g c =
    let Reads : List ℕ → Net g.row.A.Denot → Type 0 = WritesNetwork g.A.Address.BITS g.A.Address.number g.A.Address.is_text in
    subst (λ text. MatchOption c.network_of.result ((net : _) → ¬ (Reads text net)) (Reads text)) c.in_full.ensures c.network_of.ensures
