use Rattle.std.proofs.Common.{inr, lit≤}
use Rattle.std.specs.Net.Addr.{ipv4_bits, ipv4_octets, ipv6_bits, ipv6_segments}
use Rattle.std.specs.Net.Grammar.{IsIpv4Text, IsIpv6Text}
use Rattle.std.specs.Net.Text.{ipv4_text, ipv6_text}
use Rattle.route_tool.proofs.WrittenLemmas.{asks_for_it, free_ipv4, free_ipv6, is_utf8}
use Rattle.route_tool.proofs.laws.dumped_routes_are_added.Goals as goal

pub returns-clause-ipv4 : goal.returns-clause-ipv4
returns-clause-ipv4 c = λ net hop is base is_hop utf8.
    let (free, reads) = free_ipv4 net.base is in
    inr (
      is_utf8 32 ipv4_bits IsIpv4Text (λ a. ipv4_text (ipv4_octets a)) net free reads base (lit≤ tt) hop utf8,
      asks_for_it 32 ipv4_bits IsIpv4Text (λ a. ipv4_text (ipv4_octets a)) net free reads base (lit≤ tt) hop is_hop,
    )

pub returns-clause-ipv6 : goal.returns-clause-ipv6
returns-clause-ipv6 c = λ net hop is base is_hop utf8.
    let (free, reads) = free_ipv6 net.base is in
    inr (
      is_utf8 128 ipv6_bits IsIpv6Text (λ a. ipv6_text (ipv6_segments a)) net free reads base (lit≤ tt) hop utf8,
      asks_for_it 128 ipv6_bits IsIpv6Text (λ a. ipv6_text (ipv6_segments a)) net free reads base (lit≤ tt) hop is_hop,
    )
