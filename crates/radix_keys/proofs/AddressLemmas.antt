-- An address and its number.
use Rattle.std.proofs.Common.{◌≡◌, ◌∙◌, ℕ, zero, suc, ◌+◌, ◌*◌, ◌/◌, ◌%◌, ◌^◌, ◌<◌, ◌∷◌, arith, ap, refl}
use Rattle.std.proofs.Math.Nat.{mod-eq_of_lt}
use Rattle.std.proofs.lemmas.Nat.{from_be_bytes-to_be_bytes_4}
use Rattle.std.specs.Int.{w32, w128, byte_at, bytes_high_first, to_be_bytes, from_be_bytes}
use Rattle.std.specs.Net.Addr.{ipv4_bits, ipv6_bits, octets_of, segments_of, IsIpv4OfBits, IsIpv6OfBits}
use Rattle.std.specs.declared.net.ipv4_addr.Ipv4Addr.{Ipv4Addr}
use Rattle.std.specs.declared.net.ipv6_addr.Ipv6Addr.{Ipv6Addr}
use Rattle.radix_keys.specs.Distinct.{byte_at-is, digits-suc}

-- an even count of bytes, two by two as segments and back
abbrev twice : ℕ → ℕ
twice zero = zero
twice (suc k) = suc (suc (twice k))

octets_of-segments_of : (k n : ℕ) → octets_of (segments_of (bytes_high_first (twice k) n)) ≡ bytes_high_first (twice k) n
octets_of-segments_of zero n = refl
octets_of-segments_of (suc k) n =
    let a = byte_at (suc (twice k)) n in
    let b = byte_at (twice k) n in
    let low : b < 256 = omega (arith, byte_at-is (twice k) n) in
    let high : (a * 256 + b) / 256 ≡ a = omega (arith, low) in
    let rest : (a * 256 + b) % 256 ≡ b = omega (arith, low) in
    λ i. high i ∷ rest i ∷ octets_of-segments_of k n i

-- sixteen bytes make the number again that they are of
from_be_bytes-to_be_bytes_16 : (n : ℕ) → n < 2 ^ 128 → from_be_bytes w128 (to_be_bytes w128 n) ≡ n
from_be_bytes-to_be_bytes_16 n fits =
    omega (
      arith,
      digits-suc 0 n,
      digits-suc 1 n,
      digits-suc 2 n,
      digits-suc 3 n,
      digits-suc 4 n,
      digits-suc 5 n,
      digits-suc 6 n,
      digits-suc 7 n,
      digits-suc 8 n,
      digits-suc 9 n,
      digits-suc 10 n,
      digits-suc 11 n,
      digits-suc 12 n,
      digits-suc 13 n,
      digits-suc 14 n,
      digits-suc 15 n,
      mod-eq_of_lt {n = n} {m = 256 ^ 16} fits,
    )

-- an IPv4 address that is made of a number has it
pub ipv4_of_number : (ip : Ipv4Addr) (n : ℕ) → n < 2 ^ 32 → IsIpv4OfBits ip n → ipv4_bits ip ≡ n
unfolding ipv4_bits IsIpv4OfBits
ipv4_of_number ip n fits is = ap (from_be_bytes w32) is ∙ from_be_bytes-to_be_bytes_4 n fits

-- and an IPv6 address
pub ipv6_of_number : (ip : Ipv6Addr) (n : ℕ) → n < 2 ^ 128 → IsIpv6OfBits ip n → ipv6_bits ip ≡ n
unfolding ipv6_bits IsIpv6OfBits
ipv6_of_number ip n fits is =
    ap (λ s. from_be_bytes w128 (octets_of s)) is ∙ ap (from_be_bytes w128) (octets_of-segments_of 8 n) ∙ from_be_bytes-to_be_bytes_16 n fits
