use Rattle.std.proofs.Common.{◌≡◌, ◌∙◌, inl, inr, ℕ, ◌-◌, ◌%◌, ◌^◌, List, [], ◌∷◌, ◌++◌, true, not, ◌==◌, length, refl, arith, sym, ap, subst, lit<, lit≤, codes, decimal}
use Rattle.std.specs.Fmt.{digits}
use Rattle.std.specs.List.{list_all}
use Rattle.std.specs.Net.Addr.{ipv4_bits}
use Rattle.std.specs.Net.Grammar.{IsIpv4Text, IsIpv6Text}
use Rattle.std.specs.Str.Parse.{digits_value}
use Rattle.std.specs.declared.net.ipv4_addr.Ipv4Addr.{Ipv4Addr}
use Rattle.std.proofs.NetLemmas.Ipv6.{IsDotted-not_colon_hex}
use Rattle.std.proofs.NetLemmas.Theorems.{IsIpv4Text_unique}
use Rattle.std.proofs.lemmas.Fmt.{decimal_is_IsNumeral}
use Rattle.radix_keys.specs.Networks.{Net, IsBase}
use Rattle.route_tool.specs.Requests.{WritesNetwork}
use Rattle.route_tool.proofs.CommandLemmas.{free_of, has_slash, one_part}
use Rattle.route_tool.proofs.laws.worked_networks.Goals as goal

-- what is read of a word with a slash
read : (base count : List ℕ) → list_all (λ b. not (b == 47)) base ≡ true → (net : Net Ipv4Addr) → WritesNetwork 32 ipv4_bits IsIpv4Text (base ++ (47 ∷ count)) net
    → IsIpv4Text base net.base × (count ≡ decimal net.bits) × (digits_value 10 count ≡ net.bits) × IsBase 32 net.bits (ipv4_bits net.base)
read base count none net (inr (plain, _, _)) = absurd (has_slash (base ++ (47 ∷ count)) base count (refl, free_of 47 base none) plain)
read base count none net (inl (a, b, parted, address, spelled, is)) =
    let parts = one_part 47 (base ++ (47 ∷ count)) a b base count parted (refl, free_of 47 base none) in
    let written = sym parts.1 ∙ spelled in
    (subst (λ t. IsIpv4Text t net.base) parts.0 address, written, ap (digits_value 10) written ∙ (decimal_is_IsNumeral net.bits (omega (arith, is.1))).1, is)

pub returns-clause-address_alone : goal.returns-clause-address_alone
unfolding digits
returns-clause-address_alone c =
    inr (free_of 47 (codes "192.0.2.1") refl, record { a = 192; b = 0; c = 2; d = 1; fit = (lit< tt, lit< tt, lit< tt, lit< tt); value = refl; spelled = refl }, refl)

pub returns-clause-host_bits : goal.returns-clause-host_bits
unfolding digits ipv4_bits
returns-clause-host_bits c = λ net target.
    let (address, _, bits, is) = read (codes "10.1.2.3") (codes "8") refl net target in
    let base : Ipv4Addr = record { octets = 10 ∷ 1 ∷ 2 ∷ 3 ∷ [] } in
    let same : net.base ≡ base =
    IsIpv4Text_unique (codes "10.1.2.3") net.base base address (record { a = 10; b = 1; c = 2; d = 3; fit = (lit< tt, lit< tt, lit< tt, lit< tt); value = refl; spelled = refl }) in
    let none : ipv4_bits base % 2 ^ (32 - 8) ≡ 0 = subst (λ b. ipv4_bits b % 2 ^ (32 - 8) ≡ 0) same (subst (λ k. ipv4_bits net.base % 2 ^ (32 - k) ≡ 0) (sym bits) is.2) in
    omega (arith, none)

pub returns-clause-bits : goal.returns-clause-bits
returns-clause-bits c = λ net target.
    let (_, _, bits, is) = read (codes "1.2.3.4") (codes "33") refl net target in
    omega (arith, bits, is.1)

pub returns-clause-zero : goal.returns-clause-zero
unfolding digits
returns-clause-zero c = λ net target.
    let (_, written, bits, _) = read (codes "1.2.3.4") (codes "08") refl net target in
    omega (arith, ap length (written ∙ ap decimal (sym bits)))

-- the network of all addresses has the base 0
none : IsBase 32 0 (ipv4_bits (record { octets = 0 ∷ 0 ∷ 0 ∷ 0 ∷ [] }))
unfolding ipv4_bits
none = (lit< tt, lit≤ tt, refl)

pub returns-clause-all : goal.returns-clause-all
unfolding digits
returns-clause-all c =
    inl (codes "0.0.0.0", codes "0", (refl, free_of 47 (codes "0.0.0.0") refl), record { a = 0; b = 0; c = 0; d = 0; fit = (lit< tt, lit< tt, lit< tt, lit< tt); value = refl; spelled = refl }, refl, none)

pub returns-clause-ipv4_alone : goal.returns-clause-ipv4_alone
unfolding digits
returns-clause-ipv4_alone c = λ net target. elim target [
  | inl (base, count, parted, is, _, _) ↦
      let parts = one_part 47 (codes "0.0.0.0/0") base count (codes "0.0.0.0") (codes "0") parted (refl, free_of 47 (codes "0.0.0.0") refl) in
      IsDotted-not_colon_hex (codes "0.0.0.0") _ _ (record { a = 0; b = 0; c = 0; d = 0; fit = (lit< tt, lit< tt, lit< tt, lit< tt); value = refl; spelled = refl })
      (subst (λ t. IsIpv6Text t net.base) parts.0 is)
  | inr (free, _, _) ↦ has_slash (codes "0.0.0.0/0") (codes "0.0.0.0") (codes "0") (refl, free_of 47 (codes "0.0.0.0") refl) free
]
