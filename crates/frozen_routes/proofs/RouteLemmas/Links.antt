-- The links from each network to the last earlier one that holds its first address.
use Rattle.std.proofs.Common.{◌≡◌, ℕ, ◌-◌, ◌<◌, ◌≤◌, ◌↔◌, inl, inr, List, length, refl, sym, ap, subst, ◌∙◌, arith, get_or}
use Rattle.std.proofs.lemmas.Bool.{cases_lt}
use Rattle.radix_keys.proofs.KeyLemmas.Order.{three_ways}
use Rattle.frozen_routes.specs.Routes.{AreRising, AreUpTo, IsAroundAt, IsHolderAt, IsLastHolder}
use Rattle.sorted_tables.proofs.TableLemmas.Links.{climb_on, last_of_more}
use Rattle.frozen_routes.proofs.RouteLemmas.Blocks.{base_first, coarser, earlier_le, nested, sandwich}

-- first addresses don't fall
pub firsts_up : (w : ℕ) (fs bs : List ℕ) (j k : ℕ) → AreRising w fs bs → j < k → k < length fs → get_or fs j 0 ≤ get_or fs k 0
firsts_up w fs bs j k rising l m = earlier_le _ _ _ _ (rising.order j k l m)

-- nor up to one of them
pub firsts_to : (w : ℕ) (fs bs : List ℕ) (j k : ℕ) → AreRising w fs bs → j ≤ k → k < length fs → get_or fs j 0 ≤ get_or fs k 0
firsts_to w fs bs j k rising l m = elim (cases_lt j k) [
  | inl lt ↦ firsts_up w fs bs j k rising lt m
  | inr ge ↦ let same : j ≡ k = omega (arith, l, ge) in let e = ap (λ i. get_or fs i 0) same in omega (arith, e)
]

-- what holds an address holds the first one of each later network that begins at or before it
pub holds_first : (w : ℕ) (fs bs : List ℕ) (a j k : ℕ) → AreRising w fs bs → k < j → j < length fs → get_or fs j 0 ≤ a → IsHolderAt w fs bs a k
    → IsHolderAt w fs bs (get_or fs j 0) k
holds_first w fs bs a j k rising l m le p = sandwich (get_or fs k 0) (get_or fs j 0) a (w - get_or bs k 0) (firsts_up w fs bs k j rising l m) le p

-- of the networks up to one that holds an address those that hold the address hold the first one of the network, and back
pub same_holders : (w : ℕ) (fs bs : List ℕ) (i k a : ℕ) → AreRising w fs bs → i < length fs → IsHolderAt w fs bs a i → k ≤ i
    → IsHolderAt w fs bs a k ↔ IsHolderAt w fs bs (get_or fs i 0) k
same_holders w fs bs i k a rising inside here le = let first = base_first (get_or fs i 0) a (w - get_or bs i 0) (rising.bases i inside).2 here in (
  λ p. sandwich _ _ a (w - get_or bs k 0) (firsts_to w _ _ k i rising le inside) first p,
  λ q. elim (three_ways k i) [
    | inl lt ↦
        let more = nested w _ _ _ _ (get_or fs i 0) (rising.bases i inside) (rising.order k i lt inside) q refl in
        q ∙ coarser _ a (w - get_or bs i 0) (w - get_or bs k 0) (omega (arith, more)) here
    | inr (inl e) ↦ subst (IsHolderAt w fs bs a) (sym e) here
    | inr (inr gt) ↦ absurd (omega (arith, gt, le))
  ],
)

-- and have no more bits than it
pub fewer_bits : (w : ℕ) (fs bs : List ℕ) (i k a : ℕ) → AreRising w fs bs → i < length fs → IsHolderAt w fs bs a i → k ≤ i → IsHolderAt w fs bs a k
    → get_or bs k 0 ≤ get_or bs i 0
fewer_bits w fs bs i k a rising inside here le holds = elim (cases_lt k i) [
  | inl lt ↦ nested w _ _ _ _ a (rising.bases i inside) (rising.order k i lt inside) holds here
  | inr ge ↦ let same : k ≡ i = omega (arith, le, ge) in let e = ap (λ j. get_or bs j 0) same in omega (arith, e)
]

-- one that holds an address and has more than n bits isn't around n bits of it: its link is the next that may be
pub around_on : (w : ℕ) (fs bs : List ℕ) (a n from at r : ℕ) → AreRising w fs bs → 0 < at → at ≤ length fs → IsHolderAt w fs bs a (at - 1) → n < get_or bs (at - 1) 0
    → ((k : ℕ) → at ≤ k → k < from → IsAroundAt w fs bs a n k → ⊥) → IsLastHolder w fs bs (at - 1) (get_or fs (at - 1) 0) r
    → (0 < r → IsHolderAt w fs bs a (r - 1)) × ((k : ℕ) → r ≤ k → k < from → IsAroundAt w fs bs a n k → ⊥)
around_on w fs bs a n from at r rising some within here longer none link =
    let inside : at - 1 < length fs = omega (arith, some, within) in
    let first = base_first (get_or fs (at - 1) 0) a (w - get_or bs (at - 1) 0) (rising.bases (at - 1) inside).2 here in (
      λ more. (same_holders w fs bs (at - 1) (r - 1) a rising inside here (let le = link.within in omega (arith, le, more))).1 (link.holds more),
      climb_on (IsAroundAt w fs bs a n) (IsHolderAt w fs bs (get_or fs (at - 1) 0)) from at r some
          (λ k l p. holds_first w fs bs a (at - 1) k rising l inside first p.0) (λ p. let few = p.1 in omega (arith, few, longer)) none link,
    )

-- none holds a that begins behind it
pub among_all : (w : ℕ) (fs bs : List ℕ) (a n r : ℕ) → AreRising w fs bs → AreUpTo fs a n → IsLastHolder w fs bs n a r
    → IsLastHolder w fs bs (length fs) a r
among_all w fs bs a n r rising cut last = last_of_more (IsHolderAt w fs bs a) n (length fs) r cut.within (λ k l m p.
    let first = base_first (get_or fs k 0) a (w - get_or bs k 0) ((rising.bases k m).2) p in
    let behind = cut.after k l m in
    omega (arith, first, behind)) last
