use Rattle.std.proofs.Common.{◌∙◌, ap, option_map, subst}
use Rattle.radix_keys.specs.Networks.{IsBase}
use Rattle.radix_trie.specs.Views.{IsPairAbove}
use Rattle.radix_trie.specs.Walks.{deref_pair}
use Rattle.route_tool.specs.Routes.{place}
use Rattle.route_tool.proofs.RouteLemmas.{longest}
use Rattle.route_tool.proofs.table.looks.find_in_trie.Goals as goal

pub returns-clause-longest : goal.returns-clause-longest
returns-clause-longest g c =
    let w = g.A.Address.BITS in
    let number = g.A.Address.number in
    let bits = c.in_ok-bits.ensures.ok ∙ ap (place w number) c.host.ensures in
    let base = subst (λ net. IsBase w net.bits (number net.base)) c.host.ensures c.in_ok-bits.ensures.value in
    longest w number c.args.trie.now c.requires (number c.args.address) base.0 (option_map deref_pair c.nearest.result)
    (subst (λ e. IsPairAbove c.args.trie.now e (option_map deref_pair c.nearest.result)) bits c.nearest.ensures.pair)
