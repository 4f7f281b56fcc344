-- How many networks a range has.
use Rattle.std.proofs.Common.{◌≡◌, ℕ, zero, suc, ◌+◌, ◌-◌, ◌*◌, ◌^◌, ◌<◌, ◌≤◌, length, inl, inr, ap, ◌∙◌, arith}
use Rattle.std.proofs.lemmas.Bool.{cases_lt}
use Rattle.std.proofs.lemmas.List.{length-append}
use Rattle.std.proofs.Math.Nat.{pow-suc}
use Rattle.address_ranges.specs.Ranges.{networks_in, networks_between}
use Rattle.address_ranges.proofs.CutLemmas.{IsParted, off, parted, parted_one, whole}

-- how many there are in a block
abbrev count : (w m n k b : ℕ) → ℕ
count w m n k b = length (networks_in w m n k b)

one : (w m n k b : ℕ) → m ≤ b → b + 2 ^ k ≤ n + 1 → count w m n k b ≡ 1
one w m n k b p q = ap length (whole w m n k b (p, q))

none : (w m n k b : ℕ) → (b + 2 ^ k ≤ m) → count w m n k b ≡ 0
none w m n k b h = ap length (off w m n k b (λ a p q r s. omega (arith, h, q, r)))

none_behind : (w m n k b : ℕ) → n < b → count w m n k b ≡ 0
none_behind w m n k b h = ap length (off w m n k b (λ a p q r s. omega (arith, h, p, s)))

both : (w m n j b : ℕ) → IsParted m n (suc j) b → count w m n (suc j) b ≡ count w m n j b + count w m n j (b + 2 ^ j)
both w m n j b h = ap length (parted w m n j b h) ∙ length-append (networks_in w m n j b) (networks_in w m n j (b + 2 ^ j))

-- of a block that begins before the range and ends within it
at_end : (w m n k b : ℕ) → b < m → b + 2 ^ k ≤ n + 1 → count w m n k b ≤ k
at_end w m n zero b before within = omega (arith, ap length (parted_one w m n b (inl before)))
at_end w m n (suc j) b before within =
    let sum = both w m n j b (inl before) in
    elim (cases_lt (b + 2 ^ j) m) [
      | inl upper ↦
          let low = none w m n j b (omega (arith, upper)) in
          let high = at_end w m n j (b + 2 ^ j) upper (omega (arith, within, pow-suc 2 j)) in
          omega (arith, sum, low, high)
      | inr lower ↦
          let low = at_end w m n j b before (omega (arith, within, pow-suc 2 j)) in
          let high = one w m n j (b + 2 ^ j) lower (omega (arith, within, pow-suc 2 j)) in
          omega (arith, sum, low, high)
    ]

-- of a block that begins within the range and ends behind it
at_start : (w m n k b : ℕ) → m ≤ b → n + 1 < b + 2 ^ k → count w m n k b ≤ k
at_start w m n zero b within behind = omega (arith, ap length (parted_one w m n b (inr behind)))
at_start w m n (suc j) b within behind =
    let sum = both w m n j b (inr behind) in
    elim (cases_lt (n + 1) (b + 2 ^ j)) [
      | inl lower ↦
          let low = at_start w m n j b within lower in
          let high = none_behind w m n j (b + 2 ^ j) (omega (arith, lower)) in
          omega (arith, sum, low, high)
      | inr upper ↦
          let low = one w m n j b within upper in
          let high = at_start w m n j (b + 2 ^ j) (omega (arith, within)) (omega (arith, behind, pow-suc 2 j)) in
          omega (arith, sum, low, high)
    ]

-- of a block that begins before the range and ends behind it
around : (w m n k b : ℕ) → b < m → n + 1 < b + 2 ^ k → count w m n k b ≤ 2 * k - 2
around w m n zero b before behind = omega (arith, ap length (parted_one w m n b (inl before)))
around w m n (suc j) b before behind =
    let sum = both w m n j b (inl before) in
    elim (cases_lt (b + 2 ^ j) m) [
      | inl upper ↦
          let low = none w m n j b (omega (arith, upper)) in
          let high = around w m n j (b + 2 ^ j) upper (omega (arith, behind, pow-suc 2 j)) in
          omega (arith, sum, low, high)
      | inr lower ↦ elim (cases_lt (n + 1) (b + 2 ^ j)) [
        | inl inside ↦
            let low = around w m n j b before inside in
            let high = none_behind w m n j (b + 2 ^ j) (omega (arith, inside)) in
            omega (arith, sum, low, high)
        | inr across ↦
            let low = at_end w m n j b before across in
            let high = at_start w m n j (b + 2 ^ j) lower (omega (arith, behind, pow-suc 2 j)) in
            omega (arith, sum, low, high)
      ]
    ]

-- a range of addresses of w bits has 2 * w - 2 networks at most, where these are 2 or more
pub few : (w m n : ℕ) → 1 < w → length (networks_between w m n) ≤ 2 * w - 2
few w m n some = elim (cases_lt 0 m) [
  | inl before ↦ elim (cases_lt (n + 1) (0 + 2 ^ w)) [
    | inl behind ↦ around w m n w 0 before behind
    | inr within ↦ let most = at_end w m n w 0 before within in omega (arith, most, some)
  ]
  | inr starts ↦ elim (cases_lt (n + 1) (0 + 2 ^ w)) [
    | inl behind ↦ let most = at_start w m n w 0 starts behind in omega (arith, most, some)
    | inr within ↦ let all = one w m n w 0 starts within in omega (arith, all, some)
  ]
]
