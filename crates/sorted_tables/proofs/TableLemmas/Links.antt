-- Where items are parted, and the links from each to the last earlier one around it.
use Rattle.std.proofs.Common.{◌≡◌, ℕ, ◌-◌, ◌<◌, ◌≤◌, ◌↔◌, inl, inr, List, [], ◌∷◌, ◌++◌, length, get_or, sym, subst, arith}
use Rattle.std.proofs.lemmas.Bool.{cases_lt}
use Rattle.std.proofs.lemmas.List.{get_or_append_left, length-append}
use Rattle.std.proofs.Math.Seq.{get_or-append_seam}
use Rattle.sorted_tables.specs.Tables.{AreLinksOf, IsLastOf, IsPartedAt}

-- where nothing in front of one parting is behind another, the first is no later
pub parted_in_order : (front behind front' behind' : ℕ → Type 0) (n c d : ℕ) → ((k : ℕ) → front k → behind' k → ⊥)
    → IsPartedAt front behind n c → IsPartedAt front' behind' n d → c ≤ d
parted_in_order front behind front' behind' n c d apart x y = elim (cases_lt d c) [
  | inl lt ↦ absurd (apart d (x.before d lt) (y.after d (omega arith) (let within = x.within in omega (arith, lt, within))))
  | inr ge ↦ ge
]

-- one link on: the item before `at` isn't sought, what is sought before it is around it, and r is its link
pub climb_on : (is_sought is_around : ℕ → Type 0) (from at r : ℕ) → 0 < at → ((k : ℕ) → k < at - 1 → is_sought k → is_around k)
    → (is_sought (at - 1) → ⊥) → ((k : ℕ) → at ≤ k → k < from → is_sought k → ⊥) → IsLastOf is_around (at - 1) r
    → (k : ℕ) → r ≤ k → k < from → is_sought k → ⊥
climb_on is_sought is_around from at r some around apart none link k l m p = elim (cases_lt k (at - 1)) [
  | inl lt ↦ link.none k l lt (around k lt p)
  | inr ge ↦ elim (cases_lt (at - 1) k) [
    | inl gt ↦ none k (omega (arith, gt)) m p
    | inr le ↦ let same : k ≡ at - 1 = omega (arith, ge, le) in apart (subst is_sought same p)
  ]
]

-- the last of the first n is the last of more, where none of these is sought
pub last_of_more : (is_sought : ℕ → Type 0) (n m r : ℕ) → n ≤ m → ((k : ℕ) → n ≤ k → k < m → is_sought k → ⊥)
    → IsLastOf is_sought n r → IsLastOf is_sought m r
last_of_more is_sought n m r within none last = record {
  within = (let le = last.within in omega (arith, le, within));
  holds = last.holds;
  none = λ k l b p. elim (cases_lt k n) [ inl lt ↦ last.none k l lt p | inr ge ↦ none k ge b p ];
}

-- and the last of those of which the same holds
pub last_of_same : (P Q : ℕ → Type 0) (n r : ℕ) → ((k : ℕ) → k < n → P k ↔ Q k) → IsLastOf P n r → IsLastOf Q n r
last_of_same P Q n r same last = record {
  within = last.within;
  holds = λ some. (same (r - 1) (let le = last.within in omega (arith, le, some))).0 (last.holds some);
  none = λ k l m q. last.none k l m ((same k m).1 q);
}

-- one link more
pub links_more : (P Q : ℕ → ℕ → Type 0) (parents : List ℕ) (r : ℕ) → ((k i : ℕ) → k < i → i < length parents → P k i ↔ Q k i)
    → AreLinksOf P parents → IsLastOf (λ k. Q k (length parents)) (length parents) r → AreLinksOf Q (parents ++ r ∷ [])
links_more P Q parents r same links last i l = elim (cases_lt i (length parents)) [
  | inl lt ↦
      subst (IsLastOf (λ k. Q k i) i) (sym (get_or_append_left parents (r ∷ []) 0 i lt))
      (last_of_same (λ k. P k i) (λ k. Q k i) i (get_or parents i 0) (λ k m. same k i m lt) (links i lt))
  | inr ge ↦
      let here : length parents ≡ i = omega (arith, ge, l, length-append parents (r ∷ [])) in
      subst (λ j. IsLastOf (λ k. Q k j) j (get_or (parents ++ r ∷ []) j 0)) here
      (subst (IsLastOf (λ k. Q k (length parents)) (length parents)) (sym (get_or-append_seam parents r [] 0)) last)
]
