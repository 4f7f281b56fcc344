-- Rows whose networks rise, and have their links, are columns that a search takes.
use Rattle.std.proofs.Common.{◌≡◌, ℕ, zero, suc, ◌-◌, ◌<◌, ◌≤◌, inl, inr, Bool, List, get_or, subst, arith}
use Rattle.std.proofs.lemmas.Bool.{cases_lt}
use Rattle.frozen_routes.specs.Routes.{IsEarlier, IsHolderAt, IsInFront, IsLastHolder}
use Rattle.frozen_routes.proofs.RouteLemmas.Blocks.{earlier_le, sandwich}
use Rattle.frozen_routes.proofs.RouteLemmas.Growing.{earlier_through}
use Rattle.frozen_routes.proofs.RouteLemmas.Parts.{front_down}
use Rattle.flat_routes.specs.declared.columns.Within.{Within}
use Rattle.flat_routes.specs.Images.{AreLinkedTo, IsNext, bases, links, sizes, width}

-- the first rows of bytes that may be an image
pub record FirstRows : Type 0 where
  pub wide : Bool
  pub bytes : List ℕ
  pub rows : ℕ

-- their networks rise, and each has its link
abbrev pub AreSorted : FirstRows → Type 0
AreSorted c = AreLinkedTo (width c.wide) (bases c.wide c.bytes) (sizes c.wide c.bytes) (links c.wide c.bytes) c.rows

-- the network at the index k holds the address a
abbrev pub IsHolderIn : FirstRows → (a k : ℕ) → Type 0
IsHolderIn c a k = IsHolderAt (width c.wide) (bases c.wide c.bytes) (sizes c.wide c.bytes) a k

-- the network at the index k comes in front of those that a search is for
abbrev pub IsFrontIn : FirstRows → Within → ℕ → Type 0
IsFrontIn c q k = IsInFront (width c.wide) q.is_through q.bits q.quotient (get_or (bases c.wide c.bytes) k 0) (get_or (sizes c.wide c.bytes) k 0)

-- the first n networks rise
module _ (w : ℕ) (fs bs : List ℕ) (n : ℕ) (next : (k : ℕ) → k < n → IsNext w fs bs k) where
  -- one comes after the one before it
  step : (k : ℕ) → suc k < n → IsEarlier (get_or fs k 0) (get_or bs k 0) (get_or fs (suc k) 0) (get_or bs (suc k) 0)
  step k l =
      let back : suc k - 1 ≡ k = omega arith in
      subst (λ j. IsEarlier (get_or fs j 0) (get_or bs j 0) (get_or fs (suc k) 0) (get_or bs (suc k) 0)) back ((next (suc k) l).after (omega arith))

  -- and after each before it
  pub ordered : (j k : ℕ) → j < k → k < n → IsEarlier (get_or fs j 0) (get_or bs j 0) (get_or fs k 0) (get_or bs k 0)
  ordered j zero l m = absurd (omega (arith, l))
  ordered j (suc k) l m = elim (cases_lt j k) [
    | inl lt ↦ earlier_through _ _ _ _ _ _ (ordered j k lt (omega (arith, m))) (step k m)
    | inr ge ↦
        let same : k ≡ j = omega (arith, l, ge) in
        subst (λ i. IsEarlier (get_or fs i 0) (get_or bs i 0) (get_or fs (suc k) 0) (get_or bs (suc k) 0)) same (step k m)
  ]

  -- what holds an address holds the first one of each later network that begins at or before it
  pub around_first : (a j k : ℕ) → k < j → j < n → get_or fs j 0 ≤ a → IsHolderAt w fs bs a k → IsHolderAt w fs bs (get_or fs j 0) k
  around_first a j k l m le p = sandwich (get_or fs k 0) (get_or fs j 0) a (w - get_or bs k 0) (earlier_le _ _ _ _ (ordered k j l m)) le p

-- what holds an address is around each later network that begins at or before it
pub rows_nest : (c : FirstRows) (a j k : ℕ) → AreSorted c → k < j → j < c.rows → get_or (bases c.wide c.bytes) j 0 ≤ a → IsHolderIn c a k
    → IsHolderIn c (get_or (bases c.wide c.bytes) j 0) k
rows_nest c a j k sorted = around_first (width c.wide) (bases c.wide c.bytes) (sizes c.wide c.bytes) c.rows sorted.next a j k

-- each has its link
pub rows_linked : (c : FirstRows) (i : ℕ) → AreSorted c → i < c.rows
    → IsLastHolder (width c.wide) (bases c.wide c.bytes) (sizes c.wide c.bytes) i (get_or (bases c.wide c.bytes) i 0) (get_or (links c.wide c.bytes) i 0)
rows_linked c i sorted l = sorted.links i l

-- where one comes in front all up to it do
pub fronts_rise : (c : FirstRows) (q : Within) (j k : ℕ) → AreSorted c → j ≤ k → k < c.rows → IsFrontIn c q k → IsFrontIn c q j
fronts_rise c q j k sorted l m front = elim (cases_lt j k) [
  | inl lt ↦ front_down (width c.wide) q.is_through q.bits q.quotient _ _ _ _ ((sorted.next k m).base)
      (ordered (width c.wide) (bases c.wide c.bytes) (sizes c.wide c.bytes) c.rows sorted.next j k lt m) front
  | inr ge ↦ let same : k ≡ j = omega (arith, l, ge) in subst (IsFrontIn c q) same front
]
