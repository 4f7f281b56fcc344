-- A text writes one address.
use Rattle.std.specs.Prelude.{◌≡◌, ℕ, List, [], Option, Some, option_map}
use Rattle.std.proofs.Common.{◌∙◌, sym, ap, unwrap_or, lit≤}
use Rattle.std.specs.declared.net.ipv4_addr.Ipv4Addr.{Ipv4Addr}
use Rattle.std.specs.declared.net.ipv6_addr.Ipv6Addr.{Ipv6Addr}
use Rattle.std.specs.Int.{w32, w128, from_be_bytes}
use Rattle.std.specs.Net.Addr.{ipv4_octets, ipv6_segments, octets_of, ipv4_bits, ipv6_bits}
use Rattle.std.specs.Net.Grammar.{IsIpv4Text, IsIpv6Text}
use Rattle.std.proofs.NetLemmas.Ipv4.{read_ipv4_complete}
use Rattle.std.proofs.NetLemmas.Ipv6.{read_ipv6_complete, EndsGroups-nil}

-- what two reads of one text found first is one
same_first : (a b : List ℕ) → ◌≡◌ {A = Option (List ℕ × List ℕ)} (Some (a, [])) (Some (b, [])) → a ≡ b
same_first a b e = ap (λ (o : Option (List ℕ × List ℕ)). unwrap_or (option_map (λ p. p.0) o) []) e

-- a text writes one IPv4 address, of one number
pub ipv4_once : (text : List ℕ) (a b : Ipv4Addr) → IsIpv4Text text a → IsIpv4Text text b → ipv4_bits a ≡ ipv4_bits b
unfolding ipv4_bits
ipv4_once text a b is also =
    let read = sym (read_ipv4_complete text (ipv4_octets a) [] is (lit≤ tt)) ∙ read_ipv4_complete text (ipv4_octets b) [] also (lit≤ tt) in
    ap (from_be_bytes w32) (same_first (ipv4_octets a) (ipv4_octets b) read)

-- and one IPv6 address
pub ipv6_once : (text : List ℕ) (a b : Ipv6Addr) → IsIpv6Text text a → IsIpv6Text text b → ipv6_bits a ≡ ipv6_bits b
unfolding ipv6_bits
ipv6_once text a b is also =
    let read = sym (read_ipv6_complete text (ipv6_segments a) [] is EndsGroups-nil) ∙ read_ipv6_complete text (ipv6_segments b) [] also EndsGroups-nil in
    ap (λ s. from_be_bytes w128 (octets_of s)) (same_first (ipv6_segments a) (ipv6_segments b) read)
