-- Numbers of 16 bytes.
use Rattle.std.proofs.Common.{◌≡◌, ℕ, ◌+◌, ◌*◌, ◌/◌, ◌%◌, ◌^◌, ◌<◌, inl, inr, List, [], ◌∷◌, ◌++◌, length, take, drop, get_or, refl, sym, ap, subst, ◌∙◌, lit<, arith}
use Rattle.std.specs.Int.{w64, w128, from_be_bytes, to_be_bytes}
use Rattle.std.proofs.lemmas.Bool.{cases_lt}
use Rattle.std.proofs.lemmas.List.{get_or-drop, get_or-take, get_or_past, length-drop, length-take-le, take-append-drop}
use Rattle.std.proofs.lemmas.Nat.{be_bytes_8}

-- a number of 16 bytes has those of its upper half, and behind them those of its lower half
halves : (high low n : ℕ) → low < 2 ^ 64 → n ≡ high * 2 ^ 64 + low → to_be_bytes w128 n ≡ to_be_bytes w64 high ++ to_be_bytes w64 low
halves high low n fits is =
    let b0 : n / 1329227995784915872903807060280344576 % 256 ≡ high / 72057594037927936 % 256 = omega (arith, is, fits) in
    let b1 : n / 5192296858534827628530496329220096 % 256 ≡ high / 281474976710656 % 256 = omega (arith, is, fits) in
    let b2 : n / 20282409603651670423947251286016 % 256 ≡ high / 1099511627776 % 256 = omega (arith, is, fits) in
    let b3 : n / 79228162514264337593543950336 % 256 ≡ high / 4294967296 % 256 = omega (arith, is, fits) in
    let b4 : n / 309485009821345068724781056 % 256 ≡ high / 16777216 % 256 = omega (arith, is, fits) in
    let b5 : n / 1208925819614629174706176 % 256 ≡ high / 65536 % 256 = omega (arith, is, fits) in
    let b6 : n / 4722366482869645213696 % 256 ≡ high / 256 % 256 = omega (arith, is, fits) in
    let b7 : n / 18446744073709551616 % 256 ≡ high % 256 = omega (arith, is, fits) in
    let b8 : n / 72057594037927936 % 256 ≡ low / 72057594037927936 % 256 = omega (arith, is) in
    let b9 : n / 281474976710656 % 256 ≡ low / 281474976710656 % 256 = omega (arith, is) in
    let b10 : n / 1099511627776 % 256 ≡ low / 1099511627776 % 256 = omega (arith, is) in
    let b11 : n / 4294967296 % 256 ≡ low / 4294967296 % 256 = omega (arith, is) in
    let b12 : n / 16777216 % 256 ≡ low / 16777216 % 256 = omega (arith, is) in
    let b13 : n / 65536 % 256 ≡ low / 65536 % 256 = omega (arith, is) in
    let b14 : n / 256 % 256 ≡ low / 256 % 256 = omega (arith, is) in
    let b15 : n % 256 ≡ low % 256 = omega (arith, is) in
    λ i. b0 i ∷ b1 i ∷ b2 i ∷ b3 i ∷ b4 i ∷ b5 i ∷ b6 i ∷ b7 i ∷ b8 i ∷ b9 i ∷ b10 i ∷ b11 i ∷ b12 i ∷ b13 i ∷ b14 i ∷ b15 i ∷ []

-- the first 8 of 16 bytes are bytes
first_small : (bs : List ℕ) → length bs ≡ 16 → ((i : ℕ) → get_or bs i 0 < 256) → (i : ℕ) → get_or (take 8 bs) i 0 < 256
first_small bs many small i = elim (cases_lt i 8) [
  | inl lt ↦ omega (arith, get_or-take 8 bs i 0 lt, small i)
  | inr ge ↦ omega (arith, get_or_past (take 8 bs) i 0 (omega (arith, ge, length-take-le 8 bs (omega (arith, many)))))
]

-- 16 bytes are those of their number
pub be_bytes_16 : (bs : List ℕ) (n : ℕ) → length bs ≡ 16 → ((i : ℕ) → get_or bs i 0 < 256) → n ≡ from_be_bytes w128 bs → to_be_bytes w128 n ≡ bs
be_bytes_16 bs n many small is =
    let high = from_be_bytes w64 (take 8 bs) in
    let low = from_be_bytes w64 (drop 8 bs) in
    let whole : n ≡ high * 2 ^ 64 + low = omega (
      arith,
      is,
      get_or-take 8 bs 0 0 (lit< tt),
      get_or-take 8 bs 1 0 (lit< tt),
      get_or-take 8 bs 2 0 (lit< tt),
      get_or-take 8 bs 3 0 (lit< tt),
      get_or-take 8 bs 4 0 (lit< tt),
      get_or-take 8 bs 5 0 (lit< tt),
      get_or-take 8 bs 6 0 (lit< tt),
      get_or-take 8 bs 7 0 (lit< tt),
      get_or-drop 8 bs 0 0,
      get_or-drop 8 bs 1 0,
      get_or-drop 8 bs 2 0,
      get_or-drop 8 bs 3 0,
      get_or-drop 8 bs 4 0,
      get_or-drop 8 bs 5 0,
      get_or-drop 8 bs 6 0,
      get_or-drop 8 bs 7 0,
    ) in
    let fits : low < 2 ^ 64 = omega (arith, get_or-drop 8 bs 0 0, get_or-drop 8 bs 1 0, get_or-drop 8 bs 2 0, get_or-drop 8 bs 3 0, get_or-drop 8 bs 4 0, get_or-drop 8 bs 5 0, get_or-drop 8 bs 6 0, get_or-drop 8 bs 7 0, small 8, small 9, small 10, small 11, small 12, small 13, small 14, small 15) in
    let first = be_bytes_8 (take 8 bs) high (length-take-le 8 bs (omega (arith, many))) (first_small bs many small) refl in
    let last = be_bytes_8 (drop 8 bs) low (omega (arith, length-drop 8 bs, many)) (λ i. subst (λ b. b < 256) (sym (get_or-drop 8 bs i 0)) (small (8 + i))) refl in
    halves high low n fits whole ∙ ap (λ l. l ++ to_be_bytes w64 low) first ∙ ap (λ l. take 8 bs ++ l) last ∙ take-append-drop 8 bs
