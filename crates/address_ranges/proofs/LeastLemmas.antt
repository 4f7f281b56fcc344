-- No shorter list of networks has the addresses of a range and no other.
use Rattle.std.proofs.Common.{◌≡◌, ℕ, zero, suc, ◌+◌, ◌-◌, ◌*◌, ◌%◌, ◌^◌, ◌<◌, ◌≤◌, ltb, leb, cond, List, [], ◌∷◌, length, get_or, inl, inr, refl, ap, subst, ◌∙◌, arith}
use Rattle.std.specs.List.{All, Any}
use Rattle.std.proofs.lemmas.Bool.{cases_lt}
use Rattle.std.proofs.lemmas.Bool.Decides.{nat_tests}
use Rattle.std.proofs.lemmas.List.{get_or_default, length-append}
use Rattle.std.proofs.lemmas.Nat.{pow-add, pow_pos}
use Rattle.std.proofs.Math.Nat.{mul-mod_left, pow-suc}
use Rattle.radix_keys.specs.Networks.{Net}
use Rattle.address_ranges.specs.Ranges.{AreNetworksOf, HoldsAddress, IsNet, networks_in, networks_between}
use Rattle.address_ranges.proofs.BlockLemmas.{far, finer, in_block, of_block}
use Rattle.address_ranges.proofs.CutLemmas.{IsParted, half_begins, parted, parted_one, whole, whole_or_parted}
use Rattle.address_ranges.proofs.ListLemmas.{any_first, any_none}
use Rattle.address_ranges.proofs.RangeLemmas.{all_begin}

-- 1 for a number from low up and below high, and 0 for others
abbrev tally : (low high n : ℕ) → ℕ
tally low high n = cond (leb low n) (cond (ltb n high) 1 0) 0

tally_one : (low high n : ℕ) → low ≤ n → n < high → tally low high n ≡ 1
tally_one low high n p q = grind (arith, nat_tests)

tally_most : (low high n : ℕ) → tally low high n ≤ 1
tally_most low high n = grind (arith, nat_tests)

tally_parts : (low mid high n : ℕ) → low ≤ mid → mid ≤ high → tally low mid n + tally mid high n ≤ tally low high n
tally_parts low mid high n p q = grind (arith, nat_tests)

-- how many of the networks begin from low up and below high
unfoldable inside : (low high : ℕ) → List (Net ℕ) → ℕ
inside low high [] = 0
inside low high (o ∷ os) = tally low high o.base + inside low high os

inside_all : (low high : ℕ) (os : List (Net ℕ)) → inside low high os ≤ length os
unfolding inside
inside_all low high [] = omega arith
inside_all low high (o ∷ os) = omega (arith, tally_most low high o.base, inside_all low high os)

inside_parts : (low mid high : ℕ) (os : List (Net ℕ)) → low ≤ mid → mid ≤ high
    → inside low mid os + inside mid high os ≤ inside low high os
unfolding inside
inside_parts low mid high [] p q = omega arith
inside_parts low mid high (o ∷ os) p q = omega (arith, tally_parts low mid high o.base p q, inside_parts low mid high os p q)

-- the network begins from low up and below high
abbrev IsInside : (low high : ℕ) → Net ℕ → Type 0
IsInside low high o = (low ≤ o.base) × (o.base < high)

inside_some : (low high : ℕ) (os : List (Net ℕ)) → Any (IsInside low high) os → 1 ≤ inside low high os
unfolding inside
inside_some low high [] h = absurd (any_none (IsInside low high) h)
inside_some low high (o ∷ os) h = elim (any_first (IsInside low high) o os h) [
  | inl own ↦ omega (arith, tally_one low high o.base own.0 own.1)
  | inr rest ↦ omega (arith, inside_some low high os rest)
]

-- a network whose addresses are in the range
record IsOther (w m n : ℕ) (o : Net ℕ) : Type 0 where
  network : IsNet w o
  from_first : m ≤ o.base
  to_last : o.base + 2 ^ (w - o.bits) ≤ n + 1

-- the network has no more free bits than k, where it holds one of the 2 ^ k numbers from b up
abbrev IsSmall : (w k b : ℕ) → Net ℕ → Type 0
IsSmall w k b o = (a : ℕ) → b ≤ a → a < b + 2 ^ k → HoldsAddress w a o → w - o.bits ≤ k

-- one that holds the first number of a block and is no larger begins with it
begins_there : (w m n k b : ℕ) (o : Net ℕ) → b % 2 ^ k ≡ 0 → IsOther w m n o → IsSmall w k b o → HoldsAddress w b o → IsInside b (b + 2 ^ k) o
begins_there w m n k b o begins other small held =
    let e = w - o.bits in
    let le : e ≤ k = small b (omega arith) (omega (arith, pow_pos k)) held in
    let own = of_block o.base b e other.network.2 held in
    elim (cases_lt o.base b) [
      | inl less ↦ absurd (let apart = far o.base b e other.network.2 (finer b e k le begins) less in omega (arith, apart, own.1))
      | inr same ↦ (same, omega (arith, own.0, pow_pos k))
    ]

-- one within a range that a block isn't within has fewer free bits than the block
smaller : (w m n j b : ℕ) (o : Net ℕ) → IsParted m n (suc j) b → b % 2 ^ suc j ≡ 0 → IsOther w m n o → IsSmall w (suc j) b o
    → (a : ℕ) → b ≤ a → a < b + 2 ^ suc j → HoldsAddress w a o → w - o.bits ≤ j
smaller w m n j b o apart begins other small a low high held =
    let e = w - o.bits in
    let le : e ≤ suc j = small a low high held in
    elim (cases_lt j e) [
      | inr less ↦ less
      | inl more ↦
          let same : e ≡ suc j = omega (arith, le, more) in
          let size : 2 ^ e ≡ 2 ^ suc j = ap (λ x. 2 ^ x) same in
          let aligned : o.base % 2 ^ suc j ≡ 0 = subst (λ x. o.base % 2 ^ x ≡ 0) same other.network.2 in
          let own = of_block o.base a e other.network.2 held in
          elim (cases_lt o.base b) [
            | inl less ↦ absurd (let gap = far o.base b (suc j) aligned begins less in omega (arith, gap, own.1, size, low))
            | inr ge ↦ elim (cases_lt b o.base) [
              | inl less ↦ absurd (let gap = far b o.base (suc j) begins aligned less in omega (arith, gap, own.0, high))
              | inr le' ↦ elim apart [
                | inl before ↦ absurd (omega (arith, before, ge, le', other.from_first))
                | inr behind ↦ absurd (omega (arith, behind, ge, le', other.to_last, size))
              ]
            ]
          ]
    ]

-- what holds of all and of some one holds of that one
any_and : {X : Type 0} (P Q R : X → Type 0) (xs : List X) → All P xs → Any Q xs → ((x : X) → P x → Q x → R x) → Any R xs
any_and P Q R xs all h f = (h.0, h.1, h.2, h.3, f h.1 (subst P h.3 (all h.0 h.1 h.2)) h.4)

-- a block that is all in the range: some network begins in it
least_whole : (w m n k b : ℕ) (os : List (Net ℕ)) → (m ≤ b) × (b + 2 ^ k ≤ n + 1) → b % 2 ^ k ≡ 0 → b + 2 ^ k ≤ 2 ^ w → All (IsOther w m n) os
    → ((a : ℕ) → a < 2 ^ w → m ≤ a → a ≤ n → Any (HoldsAddress w a) os) → All (IsSmall w k b) os
    → length (networks_in w m n k b) ≤ inside b (b + 2 ^ k) os
least_whole w m n k b os h begins fits others covers small =
    let P : Net ℕ → Type 0 = λ o. IsOther w m n o × IsSmall w k b o in
    let all : All P os = λ i d lt. (others i d lt, small i d lt) in
    let high = h.1 in
    let held : Any (HoldsAddress w b) os = covers b (omega (arith, fits, pow_pos k)) h.0 (omega (arith, high, pow_pos k)) in
    let one = inside_some b (b + 2 ^ k) os
    (any_and P (HoldsAddress w b) (IsInside b (b + 2 ^ k)) os all held (λ o p q. begins_there w m n k b o begins p.0 p.1 q)) in
    omega (arith, ap length (whole w m n k b h), one)

-- a list of networks with the addresses of a range has as many that begin in a block as the block has largest ones
least_in : (w m n k b : ℕ) (os : List (Net ℕ)) → b % 2 ^ k ≡ 0 → b + 2 ^ k ≤ 2 ^ w → All (IsOther w m n) os
    → ((a : ℕ) → a < 2 ^ w → m ≤ a → a ≤ n → Any (HoldsAddress w a) os) → All (IsSmall w k b) os
    → length (networks_in w m n k b) ≤ inside b (b + 2 ^ k) os
least_in w m n zero b os begins fits others covers small = elim (whole_or_parted m n 0 b) [
  | inl h ↦ least_whole w m n 0 b os h begins fits others covers small
  | inr h ↦ omega (arith, ap length (parted_one w m n b h))
]
least_in w m n (suc j) b os begins fits others covers small = elim (whole_or_parted m n (suc j) b) [
  | inl h ↦ least_whole w m n (suc j) b os h begins fits others covers small
  | inr h ↦
      let halves = half_begins j b begins in
      let double = pow-suc 2 j in
      let less : (i : ℕ) (d : Net ℕ) (lt : i < length os) (a : ℕ) → b ≤ a → a < b + 2 ^ suc j → HoldsAddress w a (get_or os i d) → w - (get_or os i d).bits ≤ j =
      λ i d lt a p q held. smaller w m n j b (get_or os i d) h begins (others i d lt) (small i d lt) a p q held in
      let lower = least_in w m n j b os halves.0 (omega (arith, fits, double)) others covers
      (λ i d lt a p q held. less i d lt a p (omega (arith, q, double)) held) in
      let upper = least_in w m n j (b + 2 ^ j) os halves.1 (omega (arith, fits, double)) others covers
      (λ i d lt a p q held. less i d lt a (omega (arith, p)) (omega (arith, q, double)) held) in
      let end : b + 2 ^ j + 2 ^ j ≡ b + 2 ^ suc j = omega (arith, double) in
      let both = subst (λ high. inside b (b + 2 ^ j) os + inside (b + 2 ^ j) (b + 2 ^ j + 2 ^ j) os ≤ inside b high os) end
      (inside_parts b (b + 2 ^ j) (b + 2 ^ j + 2 ^ j) os (omega arith) (omega arith)) in
      let sum = ap length (parted w m n j b h) ∙ length-append (networks_in w m n j b) (networks_in w m n j (b + 2 ^ j)) in
      omega (arith, lower, upper, both, sum)
]

-- the addresses of each of such networks are in the range
other_of : (w m n : ℕ) (os : List (Net ℕ)) → AreNetworksOf w m n os → All (IsOther w m n) os
other_of w m n os h i d lt =
    let o = get_or os i d in
    let network : IsNet w o = h.networks i d lt in
    let e = w - o.bits in
    let some = pow_pos e in
    let whole : e + (w - e) ≡ w = omega arith in
    let power : 2 ^ w ≡ 2 ^ (w - e) * 2 ^ e = ap (λ x. 2 ^ x) (let turned : w ≡ (w - e) + e = omega arith in turned) ∙ pow-add 2 (w - e) e in
    let ends : 2 ^ w % 2 ^ e ≡ 0 = ap (λ x. x % 2 ^ e) power ∙ mul-mod_left (2 ^ (w - e)) (2 ^ e) in
    let below : o.base + 2 ^ e ≤ 2 ^ w = far o.base (2 ^ w) e network.2 ends network.0 in
    let last = o.base + 2 ^ e - 1 in
    let stored : get_or os i o ≡ o = get_or_default os i o d lt in
    let first_in = (h.exact o.base network.0).1 (i, o, lt, stored, refl) in
    let last_in = (h.exact last (omega (arith, below, some))).1
    (i, o, lt, stored, in_block o.base last e network.2 (omega (arith, some)) (omega (arith, some))) in
    record { network = network; from_first = first_in.0; to_last = (let le = last_in.1 in omega (arith, le, some)) }

-- no shorter list will do
pub least : (w m n : ℕ) (os : List (Net ℕ)) → AreNetworksOf w m n os → length (networks_between w m n) ≤ length os
least w m n os h =
    let most = least_in w m n w 0 os (all_begin w) (omega arith) (other_of w m n os h)
    (λ a fits p q. (h.exact a fits).0 (p, q)) (λ i d lt a p q held. omega arith) in
    omega (arith, most, inside_all 0 (0 + 2 ^ w) os)
