-- Ranges, each with a value, and the rows that are made of them.
use Rattle.std.specs.Prelude.{◌≡◌, ℕ, ◌-◌, ◌^◌, ◌<◌, ◌≤◌, ◌↔◌, List, length, map as each, slice_index_or, take}
use Rattle.std.specs.List.{All, AllPairs, Any}
use Rattle.radix_keys.specs.Networks.{Net}
use Rattle.address_ranges.specs.declared.errors.RangesError.{RangesError}
use Rattle.address_ranges.specs.declared.errors.RangesError.TheVariants.{Memory, Reversed, OutOfOrder}
use Rattle.address_ranges.specs.Ranges.{IsInRange, IsNet, HoldsAddress, EndsBefore, net_by_number, networks_between}

-- addresses have these numbers
module _ {A V : Type 0} (number : A → ℕ) where
  -- the range doesn't end before it begins
  abbrev pub IsUpward : A × A × V → Type 0
  IsUpward range = number range.0 ≤ number range.1

  -- one range ends before another begins
  abbrev pub ComesBefore : (x y : A × A × V) → Type 0
  ComesBefore x y = number x.1 < number y.0

  -- ranges that rise and are apart
  pub record AreInTurn (ranges : List (A × A × V)) : Type 0 where
    pub upward : All IsUpward ranges
    pub order : AllPairs ComesBefore ranges

  -- the range at i is the first fault: it ends before it begins
  pub record IsFirstReversed (ranges : List (A × A × V)) (i : ℕ) : Type 0 where
    pub within : i < length ranges
    pub before : AreInTurn (take i ranges)
    pub reversed : (d : A × A × V) → number (slice_index_or ranges i d).1 < number (slice_index_or ranges i d).0

  -- the range at i is the first fault: it begins at or before the end of the one before it
  pub record IsFirstOverlap (ranges : List (A × A × V)) (i : ℕ) : Type 0 where
    pub within : i < length ranges
    pub before : AreInTurn (take i ranges)
    pub upward : (d : A × A × V) → IsUpward (slice_index_or ranges i d)
    pub follows : 0 < i
    pub overlap : (d : A × A × V) → number (slice_index_or ranges i d).0 ≤ number (slice_index_or ranges (i - 1) d).1

  -- what an error says of the ranges: where memory fails, they are as they should be
  abbrev pub IsTrueReason : List (A × A × V) → RangesError → Type 0
  IsTrueReason ranges Memory = AreInTurn ranges
  IsTrueReason ranges (Reversed i) = IsFirstReversed ranges i
  IsTrueReason ranges (OutOfOrder i) = IsFirstOverlap ranges i

  -- a range that the address n is in has the value
  abbrev pub IsValueInRanges : List (A × A × V) → (n : ℕ) → V → Type 0
  IsValueInRanges ranges n value = Any (λ range. IsInRange (number range.0) (number range.1) n × (range.2 ≡ value)) ranges

  -- a row by the number of its network's base
  abbrev pub row_by_number : Net A × V → Net ℕ × V
  row_by_number row = (net_by_number number row.0, row.1)

  -- addresses have w bits
  module _ (w : ℕ) where
    -- a row whose network holds the address n has the value
    abbrev pub IsValueInRows : List (Net A × V) → (n : ℕ) → V → Type 0
    IsValueInRows rows n value = Any (λ row. HoldsAddress w n (net_by_number number row.0) × (row.1 ≡ value)) rows

    -- an address has the same value by the ranges and by the rows, if it has one
    abbrev pub HaveSameValues : List (A × A × V) → List (Net A × V) → Type 0
    HaveSameValues ranges rows =
        (n : ℕ) (value : V) → n < 2 ^ w → IsValueInRanges ranges n value ↔ IsValueInRows rows n value

    -- rows of networks that rise and are apart
    pub record AreRowsInTurn (rows : List (Net A × V)) : Type 0 where
      pub networks : All (λ row. IsNet w (net_by_number number row.0)) rows
      pub order : AllPairs (λ x y. EndsBefore w (net_by_number number x.0) (net_by_number number y.0)) rows

    -- the networks of a range, each with the value of the range
    abbrev pub range_rows : A × A × V → List (Net ℕ × V)
    range_rows range = each (λ net. (net, range.2)) (networks_between w (number range.0) (number range.1))
