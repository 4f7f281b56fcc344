-- The networks of a range hold its addresses and no other, rise and are apart.
use Rattle.std.proofs.Common.{◌≡◌, ℕ, zero, suc, ◌+◌, ◌-◌, ◌/◌, ◌%◌, ◌^◌, ◌<◌, ◌≤◌, ◌↔◌, [], ◌∷◌, inl, inr, ap, sym, subst, ◌∙◌, arith}
use Rattle.std.specs.List.{All, AllPairs, Any}
use Rattle.std.proofs.lemmas.Bool.{cases_lt}
use Rattle.std.proofs.lemmas.List.Elements.{All-append, All-cons, All-nil, All-weaker}
use Rattle.std.proofs.lemmas.List.Kept.{AllPairs-cons}
use Rattle.std.proofs.lemmas.Nat.{pow_pos, shr_split}
use Rattle.std.proofs.Math.Nat.{pow-suc}
use Rattle.radix_keys.specs.Networks.{Net}
use Rattle.address_ranges.specs.Ranges.{AreNetworksOf, IsInRange, HoldsAddress, EndsBefore, IsNet, block_net, networks_in, networks_between}
use Rattle.address_ranges.proofs.BlockLemmas.{in_block, of_block}
use Rattle.address_ranges.proofs.CutLemmas.{IsWhole, half_begins, off, parted, parted_one, whole, whole_or_parted}
use Rattle.address_ranges.proofs.ListLemmas.{any_here, any_left, any_of_all, any_right, pairs_none, pairs_parts}

-- a network of addresses of w bits whose addresses lie from low up to below high, and from m up to n
pub record IsPart (w m n low high : ℕ) (net : Net ℕ) : Type 0 where
  pub network : IsNet w net
  pub from_low : low ≤ net.base
  pub from_first : m ≤ net.base
  pub to_high : net.base + 2 ^ (w - net.bits) ≤ high
  pub to_last : net.base + 2 ^ (w - net.bits) ≤ n + 1

-- a whole block is one
one_part : (w m n k b : ℕ) → k ≤ w → b % 2 ^ k ≡ 0 → b + 2 ^ k ≤ 2 ^ w → IsWhole m n k b → IsPart w m n b (b + 2 ^ k) (block_net w k b)
one_part w m n k b fit begins inside h =
    let free : k ≡ w - (w - k) = omega (arith, fit) in
    let size : 2 ^ k ≡ 2 ^ (w - (w - k)) = ap (λ x. 2 ^ x) free in
    let low = h.0 in
    let high = h.1 in
    record {
      network = (omega (arith, inside, pow_pos k), omega arith, subst (λ d. b % 2 ^ d ≡ 0) free begins);
      from_low = omega arith;
      from_first = low;
      to_high = omega (arith, size);
      to_last = omega (arith, size, high);
    }

pub parts : (w m n k b : ℕ) → k ≤ w → b % 2 ^ k ≡ 0 → b + 2 ^ k ≤ 2 ^ w
    → All (IsPart w m n b (b + 2 ^ k)) (networks_in w m n k b)
parts w m n zero b fit begins inside = elim (whole_or_parted m n 0 b) [
  | inl h ↦
      let P : Net ℕ → Type 0 = IsPart w m n b (b + 2 ^ 0) in
      subst (All P) (sym (whole w m n 0 b h)) (All-cons P (block_net w 0 b) [] (one_part w m n 0 b fit begins inside h) (All-nil P))
  | inr h ↦
      let P : Net ℕ → Type 0 = IsPart w m n b (b + 2 ^ 0) in
      subst (All P) (sym (parted_one w m n b h)) (All-nil P)
]
parts w m n (suc j) b fit begins inside =
    let P : Net ℕ → Type 0 = IsPart w m n b (b + 2 ^ suc j) in
    elim (whole_or_parted m n (suc j) b) [
      | inl h ↦
          subst (All P) (sym (whole w m n (suc j) b h))
          (All-cons P (block_net w (suc j) b) [] (one_part w m n (suc j) b fit begins inside h) (All-nil P))
      | inr h ↦
          let halves = half_begins j b begins in
          let lower = parts w m n j b (omega (arith, fit)) halves.0 (omega (arith, inside, pow-suc 2 j)) in
          let upper = parts w m n j (b + 2 ^ j) (omega (arith, fit)) halves.1 (omega (arith, inside, pow-suc 2 j)) in
          subst (All P) (sym (parted w m n j b h))
          (All-append P (networks_in w m n j b) (networks_in w m n j (b + 2 ^ j))
          (All-weaker (IsPart w m n b (b + 2 ^ j)) P
          (λ x p. record { network = p.network; from_low = p.from_low; from_first = p.from_first; to_high = omega (arith, p.to_high, pow-suc 2 j); to_last = p.to_last })
          (networks_in w m n j b) lower)
          (All-weaker (IsPart w m n (b + 2 ^ j) (b + 2 ^ j + 2 ^ j)) P
          (λ x p. record { network = p.network; from_low = omega (arith, p.from_low); from_first = p.from_first; to_high = omega (arith, p.to_high, pow-suc 2 j); to_last = p.to_last })
          (networks_in w m n j (b + 2 ^ j)) upper))
    ]

-- one network ends before another begins, as those of the lower half before those of the upper one
pub rising : (w m n k b : ℕ) → k ≤ w → b % 2 ^ k ≡ 0 → b + 2 ^ k ≤ 2 ^ w → AllPairs (EndsBefore w) (networks_in w m n k b)
rising w m n zero b fit begins inside = elim (whole_or_parted m n 0 b) [
  | inl h ↦ subst (AllPairs (EndsBefore w)) (sym (whole w m n 0 b h))
      (AllPairs-cons (EndsBefore w) (block_net w 0 b) [] (All-nil (EndsBefore w (block_net w 0 b))) (pairs_none (EndsBefore w)))
  | inr h ↦ subst (AllPairs (EndsBefore w)) (sym (parted_one w m n b h)) (pairs_none (EndsBefore w))
]
rising w m n (suc j) b fit begins inside =
    elim (whole_or_parted m n (suc j) b) [
      | inl h ↦ subst (AllPairs (EndsBefore w)) (sym (whole w m n (suc j) b h))
          (AllPairs-cons (EndsBefore w) (block_net w (suc j) b) [] (All-nil (EndsBefore w (block_net w (suc j) b))) (pairs_none (EndsBefore w)))
      | inr h ↦
          let halves = half_begins j b begins in
          let fits : j ≤ w = omega (arith, fit) in
          let below : b + 2 ^ j ≤ 2 ^ w = omega (arith, inside, pow-suc 2 j) in
          let above : b + 2 ^ j + 2 ^ j ≤ 2 ^ w = omega (arith, inside, pow-suc 2 j) in
          let xs = networks_in w m n j b in
          let ys = networks_in w m n j (b + 2 ^ j) in
          let lower = parts w m n j b fits halves.0 below in
          let upper = parts w m n j (b + 2 ^ j) fits halves.1 above in
          let across : All (λ x. All (EndsBefore w x) ys) xs =
          All-weaker (IsPart w m n b (b + 2 ^ j)) (λ x. All (EndsBefore w x) ys)
          (λ x p. All-weaker (IsPart w m n (b + 2 ^ j) (b + 2 ^ j + 2 ^ j)) (EndsBefore w x) (λ y q. omega (arith, p.to_high, q.from_low)) ys upper) xs lower in
          subst (AllPairs (EndsBefore w)) (sym (parted w m n j b h))
          (pairs_parts (EndsBefore w) xs ys (rising w m n j b fits halves.0 below) (rising w m n j (b + 2 ^ j) fits halves.1 above) across)
    ]

-- a number of the block that is in the range is in a network
pub found : (w m n k b a : ℕ) → k ≤ w → b % 2 ^ k ≡ 0 → b ≤ a → a < b + 2 ^ k → m ≤ a → a ≤ n → Any (HoldsAddress w a) (networks_in w m n k b)
found w m n zero b a fit begins low high p q =
    let h : IsWhole m n 0 b = (omega (arith, low, high, p), omega (arith, low, high, q)) in
    let free : 0 ≡ w - (w - 0) = omega arith in
    subst (Any (HoldsAddress w a)) (sym (whole w m n 0 b h))
    (any_here (HoldsAddress w a) (block_net w 0 b) [] (subst (λ d. b / 2 ^ d ≡ a / 2 ^ d) free (in_block b a 0 begins low high)))
found w m n (suc j) b a fit begins low high p q = elim (whole_or_parted m n (suc j) b) [
  | inl h ↦
      let free : suc j ≡ w - (w - suc j) = omega (arith, fit) in
      subst (Any (HoldsAddress w a)) (sym (whole w m n (suc j) b h))
      (any_here (HoldsAddress w a) (block_net w (suc j) b) [] (subst (λ d. b / 2 ^ d ≡ a / 2 ^ d) free (in_block b a (suc j) begins low high)))
  | inr h ↦
      let halves = half_begins j b begins in
      let xs = networks_in w m n j b in
      let ys = networks_in w m n j (b + 2 ^ j) in
      subst (Any (HoldsAddress w a)) (sym (parted w m n j b h)) (elim (cases_lt a (b + 2 ^ j)) [
        | inl lower ↦ any_left (HoldsAddress w a) xs ys (found w m n j b a (omega (arith, fit)) halves.0 low lower p q)
        | inr upper ↦ any_right (HoldsAddress w a) xs ys
            (found w m n j (b + 2 ^ j) a (omega (arith, fit)) halves.1 upper (omega (arith, high, pow-suc 2 j)) p q)
      ])
]

-- all numbers are a block
pub all_begin : (w : ℕ) → 0 % 2 ^ w ≡ 0
all_begin w = omega (arith, shr_split 0 w)

-- the networks of the range, whatever the block
pub all_parts : (w m n : ℕ) → All (IsPart w m n 0 (2 ^ w)) (networks_between w m n)
all_parts w m n =
    let same : 0 + 2 ^ w ≡ 2 ^ w = omega arith in
    subst (λ high. All (IsPart w m n 0 high) (networks_between w m n)) same (parts w m n w 0 (omega arith) (all_begin w) (omega arith))

pub all_networks : (w m n : ℕ) → All (IsNet w) (networks_between w m n)
all_networks w m n = All-weaker (IsPart w m n 0 (2 ^ w)) (IsNet w) (λ x p. p.network) (networks_between w m n) (all_parts w m n)

pub all_rise : (w m n : ℕ) → AllPairs (EndsBefore w) (networks_between w m n)
all_rise w m n = rising w m n w 0 (omega arith) (all_begin w) (omega arith)

-- what a network of the range holds is in the range
pub held_in_range : (w m n a : ℕ) (net : Net ℕ) → IsPart w m n 0 (2 ^ w) net → HoldsAddress w a net → IsInRange m n a
held_in_range w m n a net p h =
    let own = of_block net.base a (w - net.bits) p.network.2 h in
    (omega (arith, own.0, p.from_first), omega (arith, own.1, p.to_last))

pub exactly : (w m n a : ℕ) → a < 2 ^ w → IsInRange m n a ↔ Any (HoldsAddress w a) (networks_between w m n)
exactly w m n a fits = (
  λ h. found w m n w 0 a (omega arith) (all_begin w) (omega arith) (omega (arith, fits)) h.0 h.1,
  λ h.
      let one = any_of_all (HoldsAddress w a) (IsPart w m n 0 (2 ^ w)) (networks_between w m n) (all_parts w m n) h in
      held_in_range w m n a one.0 one.1 one.2,
)

pub are_networks : (w m n : ℕ) → AreNetworksOf w m n (networks_between w m n)
are_networks w m n = record { networks = all_networks w m n; exact = λ a fits. exactly w m n a fits }

pub everything : (w m n : ℕ) → m ≡ 0 → n + 1 ≡ 2 ^ w → networks_between w m n ≡ record { base = 0; bits = 0 } ∷ []
everything w m n first last =
    whole w m n w 0 (omega (arith, first), omega (arith, last))
    ∙ ap (λ k. let net : Net ℕ = record { base = 0; bits = k } in net ∷ []) (let none : w - w ≡ 0 = omega arith in none)

pub nothing : (w m n : ℕ) → n < m → networks_between w m n ≡ []
nothing w m n less = off w m n w 0 (λ a p q r s. omega (arith, less, r, s))
