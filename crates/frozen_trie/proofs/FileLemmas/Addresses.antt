-- The bytes of an IPv6 address, and its number.
use Rattle.std.proofs.Common.{◌≡◌, ℕ, ◌+◌, ◌-◌, ◌*◌, ◌/◌, ◌%◌, ◌<◌, suc, List, [], ◌∷◌, length, get_or, refl, ap, arith}
use Rattle.std.specs.Int.{w128, from_be_bytes}
use Rattle.std.specs.Net.Addr.{ipv6_bits, ipv6_octets, octets_of, segments_of}
use Rattle.std.specs.declared.net.ipv6_addr.Ipv6Addr.{Ipv6Addr}

-- bytes are those of the segments that they make, two to each
pub octets_of-segments_of : (n : ℕ) (xs : List ℕ) → length xs ≡ 2 * n → ((k : ℕ) → get_or xs k 0 < 256) → octets_of (segments_of xs) ≡ xs
octets_of-segments_of n [] even small = refl
octets_of-segments_of n (a ∷ []) even small = absurd (omega (arith, even))
octets_of-segments_of n (a ∷ b ∷ xs) even small =
    let low : b < 256 = small 1 in
    let high : (a * 256 + b) / 256 ≡ a = omega (arith, low) in
    let rest : (a * 256 + b) % 256 ≡ b = omega (arith, low) in
    λ i. high i ∷ rest i ∷ octets_of-segments_of (n - 1) xs (omega (arith, even)) (λ k. small (suc (suc k))) i

-- addresses of the same bytes have one number
pub same_number : (a b : Ipv6Addr) → ipv6_octets a ≡ ipv6_octets b → ipv6_bits a ≡ ipv6_bits b
unfolding ipv6_bits
same_number a b e = ap (from_be_bytes w128) e
