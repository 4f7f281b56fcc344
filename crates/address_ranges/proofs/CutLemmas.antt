-- The networks of a range: how a walk comes to them, one after another.
use Rattle.std.proofs.Common.{◌≡◌, ℕ, zero, suc, ◌+◌, ◌*◌, ◌/◌, ◌%◌, ◌^◌, ◌<◌, ◌≤◌, ◌⊎◌, true, false, cond, leb, [], ◌∷◌, ◌++◌, inl, inr, ap, ap₂, sym, ◌∙◌, arith}
use Rattle.std.proofs.lemmas.Bool.{cases_lt, le-leb}
use Rattle.std.proofs.lemmas.Bool.Decides.{leb_tells}
use Rattle.std.proofs.lemmas.Nat.{pow_pos, shr_split}
use Rattle.std.proofs.Math.Nat.{mul-mod_left, pow-suc}
use Rattle.address_ranges.specs.Ranges.{is_block_in, block_net, networks_in}
use Rattle.address_ranges.proofs.BlockLemmas.{IsLargest, far, finer, pow_le}

-- the 2 ^ k numbers from b up are all in the range
abbrev pub IsWhole : (m n k b : ℕ) → Type 0
IsWhole m n k b = (m ≤ b) × (b + 2 ^ k ≤ n + 1)

-- they are not all in the range
abbrev pub IsParted : (m n k b : ℕ) → Type 0
IsParted m n k b = (b < m) ⊎ (n + 1 < b + 2 ^ k)

pub whole_or_parted : (m n k b : ℕ) → IsWhole m n k b ⊎ IsParted m n k b
whole_or_parted m n k b = elim (cases_lt b m) [
  | inl lt ↦ inr (inl lt)
  | inr le ↦ elim (cases_lt (n + 1) (b + 2 ^ k)) [ inl lt ↦ inr (inr lt) | inr within ↦ inl (le, within) ]
]

within_true : (m n k b : ℕ) → IsWhole m n k b → is_block_in m n k b ≡ true
within_true m n k b h = rw (le-leb m b h.0, le-leb (b + 2 ^ k) (n + 1) h.1)

leb_false : (x y : ℕ) → y < x → leb x y ≡ false
leb_false x y lt = elim (leb_tells x y) [ inl t ↦ absurd (let le = t.1 in omega (arith, le, lt)) | inr f ↦ f.0 ]

within_false : (m n k b : ℕ) → IsParted m n k b → is_block_in m n k b ≡ false
within_false m n k b (inl lt) = rw (leb_false m b lt)
within_false m n k b (inr lt) = elim (leb_tells m b) [
  | inl t ↦ rw (t.0, leb_false (b + 2 ^ k) (n + 1) lt)
  | inr f ↦ rw f.0
]

pub whole : (w m n k b : ℕ) → IsWhole m n k b → networks_in w m n k b ≡ block_net w k b ∷ []
unfolding networks_in
whole w m n zero b h = ap (λ t. cond t (block_net w 0 b ∷ []) []) (within_true m n 0 b h)
whole w m n (suc j) b h =
    ap (λ t. cond t (block_net w (suc j) b ∷ []) (networks_in w m n j b ++ networks_in w m n j (b + 2 ^ j)))
    (within_true m n (suc j) b h)

pub parted_one : (w m n b : ℕ) → IsParted m n 0 b → networks_in w m n 0 b ≡ []
unfolding networks_in
parted_one w m n b h = ap (λ t. cond t (block_net w 0 b ∷ []) []) (within_false m n 0 b h)

pub parted : (w m n j b : ℕ) → IsParted m n (suc j) b
    → networks_in w m n (suc j) b ≡ networks_in w m n j b ++ networks_in w m n j (b + 2 ^ j)
unfolding networks_in
parted w m n j b h =
    ap (λ t. cond t (block_net w (suc j) b ∷ []) (networks_in w m n j b ++ networks_in w m n j (b + 2 ^ j)))
    (within_false m n (suc j) b h)

-- none of the 2 ^ k numbers from b up is in the range
abbrev pub IsOff : (m n k b : ℕ) → Type 0
IsOff m n k b = (a : ℕ) → b ≤ a → a < b + 2 ^ k → m ≤ a → a ≤ n → ⊥

pub off : (w m n k b : ℕ) → IsOff m n k b → networks_in w m n k b ≡ []
off w m n zero b none = elim (whole_or_parted m n 0 b) [
  | inl h ↦ absurd (let low = h.0 in let high = h.1 in none b (omega arith) (omega arith) low (omega (arith, high)))
  | inr h ↦ parted_one w m n b h
]
off w m n (suc j) b none = elim (whole_or_parted m n (suc j) b) [
  | inl h ↦
      absurd (let low = h.0 in let high = h.1 in
      none b (omega arith) (omega (arith, pow_pos (suc j))) low (omega (arith, high, pow_pos (suc j))))
  | inr h ↦
      let first : networks_in w m n j b ≡ [] = off w m n j b (λ a p q. none a p (omega (arith, q, pow-suc 2 j))) in
      let second : networks_in w m n j (b + 2 ^ j) ≡ [] =
      off w m n j (b + 2 ^ j) (λ a p q. none a (omega (arith, p)) (omega (arith, q, pow-suc 2 j))) in
      parted w m n j b h ∙ ap₂ (λ xs ys. xs ++ ys) first second
]

-- what two ranges with one last number have of the numbers from b up, where both begin no later
pub moved : (w m p n k b : ℕ) → m ≤ b → p ≤ b → networks_in w m n k b ≡ networks_in w p n k b
moved w m p n zero b x y = elim (whole_or_parted m n 0 b) [
  | inl h ↦ whole w m n 0 b h ∙ sym (whole w p n 0 b (y, h.1))
  | inr h ↦ elim h [
    | inl lt ↦ absurd (omega (arith, lt, x))
    | inr lt ↦ parted_one w m n b (inr lt) ∙ sym (parted_one w p n b (inr lt))
  ]
]
moved w m p n (suc j) b x y = elim (whole_or_parted m n (suc j) b) [
  | inl h ↦ whole w m n (suc j) b h ∙ sym (whole w p n (suc j) b (y, h.1))
  | inr h ↦ elim h [
    | inl lt ↦ absurd (omega (arith, lt, x))
    | inr lt ↦
        parted w m n j b (inr lt)
        ∙ ap₂ (λ xs ys. xs ++ ys) (moved w m p n j b x y) (moved w m p n j (b + 2 ^ j) (omega (arith, x)) (omega (arith, y)))
        ∙ sym (parted w p n j b (inr lt))
  ]
]

-- the halves of a block are blocks
pub half_begins : (j b : ℕ) → b % 2 ^ suc j ≡ 0 → (b % 2 ^ j ≡ 0) × ((b + 2 ^ j) % 2 ^ j ≡ 0)
half_begins j b h =
    let p = 2 ^ j in
    let first : b % p ≡ 0 = finer b j (suc j) (omega arith) h in
    let many : b + p ≡ (b / p + 1) * p = omega (arith, shr_split b j, first) in
    (first, ap (λ x. x % p) many ∙ mul-mod_left (b / p + 1) p)

-- the largest block at the beginning lies in a half of a block that isn't all in the range
no_larger : (m n e j b : ℕ) → IsLargest m n e → b % 2 ^ suc j ≡ 0 → b ≤ m → m < b + 2 ^ suc j → e ≤ suc j
    → IsParted m n (suc j) b → e ≤ j
no_larger m n e j b is begins low high fit apart = elim (cases_lt j e) [
  | inr le ↦ le
  | inl more ↦
      let same : e ≡ suc j = omega (arith, more, fit) in
      let size : 2 ^ e ≡ 2 ^ suc j = ap (λ x. 2 ^ x) same in
      let own : m % 2 ^ suc j ≡ 0 = ap (λ x. m % x) (sym size) ∙ is.begins in
      elim (cases_lt b m) [
        | inl less ↦ absurd (omega (arith, far b m (suc j) begins own less, high))
        | inr ge ↦ elim apart [
          | inl less ↦ absurd (omega (arith, less, ge))
          | inr less ↦ absurd (omega (arith, less, ge, low, is.within, size))
        ]
      ]
]

-- the first network of a range is its largest block at the beginning, and the others are those of what follows
pub first_net : (w m n e k b : ℕ) → IsLargest m n e → b % 2 ^ k ≡ 0 → b ≤ m → m < b + 2 ^ k → m ≤ n → e ≤ k
    → networks_in w m n k b ≡ block_net w e m ∷ networks_in w (m + 2 ^ e) n k b
first_net w m n e zero b is begins low high some fit =
    let same : b ≡ m = omega (arith, low, high) in
    let none : e ≡ 0 = omega (arith, fit) in
    let one : 2 ^ e ≡ 1 = ap (λ x. 2 ^ x) none in
    whole w m n 0 b (omega (arith, same), omega (arith, same, some))
    ∙ ap₂ (λ x y. block_net w x y ∷ []) (sym none) same
    ∙ ap (λ xs. block_net w e m ∷ xs) (sym (off w (m + 2 ^ e) n 0 b (λ a p q r s. omega (arith, p, q, r, s, same, one))))
first_net w m n e (suc j) b is begins low high some fit = elim (whole_or_parted m n (suc j) b) [
  | inl h ↦
      let same : b ≡ m = (let le = h.0 in omega (arith, low, le)) in
      let own : m % 2 ^ suc j ≡ 0 = ap (λ x. x % 2 ^ suc j) (sym same) ∙ begins in
      let inside : m + 2 ^ suc j ≤ n + 1 = (let le = h.1 in omega (arith, le, same)) in
      let most : suc j ≤ e = is.largest (suc j) own inside in
      let all : suc j ≡ e = omega (arith, most, fit) in
      let size : 2 ^ suc j ≡ 2 ^ e = ap (λ x. 2 ^ x) all in
      whole w m n (suc j) b h
      ∙ ap₂ (λ x y. block_net w x y ∷ []) all same
      ∙ ap (λ xs. block_net w e m ∷ xs) (sym (off w (m + 2 ^ e) n (suc j) b (λ a p q r s. omega (arith, p, q, r, s, same, size))))
  | inr h ↦
      let halves = half_begins j b begins in
      let less : e ≤ j = no_larger m n e j b is begins low high fit h in
      let rest = parted w (m + 2 ^ e) n j b (inl (omega (arith, low, pow_pos e))) in
      elim (cases_lt m (b + 2 ^ j)) [
        | inl lower ↦
            let begin = first_net w m n e j b is halves.0 low lower some less in
            let end = moved w m (m + 2 ^ e) n j (b + 2 ^ j) (omega (arith, lower))
            (far m (b + 2 ^ j) e is.begins (finer (b + 2 ^ j) e j less halves.1) lower) in
            parted w m n j b h ∙ ap₂ (λ xs ys. xs ++ ys) begin end ∙ ap (λ xs. block_net w e m ∷ xs) (sym rest)
        | inr upper ↦
            let before : networks_in w m n j b ≡ [] = off w m n j b (λ a p q r s. omega (arith, q, r, upper)) in
            let behind : networks_in w (m + 2 ^ e) n j b ≡ [] = off w (m + 2 ^ e) n j b (λ a p q r s. omega (arith, q, r, upper)) in
            let begin = first_net w m n e j (b + 2 ^ j) is halves.1 upper (omega (arith, high, pow-suc 2 j)) some less in
            parted w m n j b h ∙ ap₂ (λ xs ys. xs ++ ys) before begin
            ∙ ap (λ xs. block_net w e m ∷ xs) (sym (rest ∙ ap (λ xs. xs ++ networks_in w (m + 2 ^ e) n j (b + 2 ^ j)) behind))
      ]
]

-- the first network of the whole range
pub first_of_all : (w m n e : ℕ) → IsLargest m n e → m ≤ n → n < 2 ^ w
    → (e ≤ w) × (networks_in w m n w 0 ≡ block_net w e m ∷ networks_in w (m + 2 ^ e) n w 0)
first_of_all w m n e is some fits =
    let within = pow_le e w (omega (arith, is.within, fits)) in
    let nothing : 0 % 2 ^ w ≡ 0 = omega (arith, shr_split 0 w) in
    (within, first_net w m n e w 0 is nothing (omega arith) (omega (arith, some, fits)) some within)
