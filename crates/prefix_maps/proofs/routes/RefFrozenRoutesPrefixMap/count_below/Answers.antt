use Rattle.std.proofs.Common.{◌∙◌, ap, length, sym}
use Rattle.radix_trie.proofs.PathLemmas.Below.{len-pairs_below}
use Rattle.radix_trie.specs.Views.{pairs_below}
use Rattle.frozen_networks.specs.Networks.{network_code, network_map}
use Rattle.prefix_maps.proofs.routes.RefFrozenRoutesPrefixMap.count_below.Goals as goal

pub returns-clause-count : goal.returns-clause-count
returns-clause-count g c =
    let w = g.A.Address.BITS in
    let number = g.A.Address.number in
    let net = g.Q.RouteQuery.net c.args.key.now in
    ap length c.rows_of.ensures ∙ ap (λ n. length (pairs_below (network_map w number c.args.self.now) (network_code w number n))) c.network.ensures
    ∙ sym (len-pairs_below (network_map w number c.args.self.now) (network_code w number net))
