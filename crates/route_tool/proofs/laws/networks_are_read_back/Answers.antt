use Rattle.std.specs.Net.Addr.{ipv4_bits, ipv4_octets, ipv6_bits, ipv6_segments}
use Rattle.std.specs.Net.Grammar.{IsIpv4Text, IsIpv6Text}
use Rattle.std.specs.Net.Text.{ipv4_text, ipv6_text}
use Rattle.route_tool.proofs.WrittenLemmas.{free_ipv4, free_ipv6, read_back}
use Rattle.route_tool.proofs.laws.networks_are_read_back.Goals as goal

pub returns-clause-ipv4 : goal.returns-clause-ipv4
returns-clause-ipv4 c = λ net is base. let (free, reads) = free_ipv4 net.base is in read_back 32 ipv4_bits IsIpv4Text (λ a. ipv4_text (ipv4_octets a)) net free reads base

pub returns-clause-ipv6 : goal.returns-clause-ipv6
returns-clause-ipv6 c = λ net is base. let (free, reads) = free_ipv6 net.base is in read_back 128 ipv6_bits IsIpv6Text (λ a. ipv6_text (ipv6_segments a)) net free reads base
