-- Networks in order by their lists of bits.
use Rattle.std.proofs.Common.{ℕ, zero, suc, ◌<◌, List, [], ◌∷◌, length, get_or, inl, inr, sym, ap, subst, arith}
use Rattle.std.specs.Ordering.{is_lt}
use Rattle.nibble_map.specs.Lists.{Each, IsBefore, IsRising}
use Rattle.nibble_map.proofs.ListLemmas.Unique.{before_not_itself}
use Rattle.nibble_map.proofs.TreeLemmas.SomePrefixes.{before_through}
use Rattle.radix_keys.specs.Bits.{first_bits}
use Rattle.radix_keys.specs.Networks.{IsBase, Net}
use Rattle.radix_keys.specs.Order.{Precedes}
use Rattle.radix_keys.proofs.BitLemmas.{network_order}
use Rattle.radix_keys.proofs.KeyLemmas.Order.{three_ways}
use Rattle.frozen_routes.specs.Routes.{AreRowsInOrder, IsEarlier, base_numbers, bit_counts}
use Rattle.frozen_trie.specs.Frozen.{codes_of}
use Rattle.encoded_keys.proofs.CodeLemmas.Order.{before_by_test}
use Rattle.frozen_networks.specs.Networks.{IsNetwork, network_code}

-- a list that precedes another comes before it
precedes_before : (x y : List ℕ) → Precedes x y → IsBefore x y
precedes_before x y h = before_by_test x y (ap is_lt h)

-- of two networks the earlier one's list of bits comes before the other's
pub earlier_before : (w m k n j : ℕ) → IsBase w k m → IsBase w j n → IsEarlier m k n j → IsBefore (first_bits w m k) (first_bits w n j)
earlier_before w m k n j p q (inl less) = precedes_before _ _ ((network_order w).by_base m k n j p q less)
earlier_before w m k n j p q (inr (same, fewer)) =
    subst (λ b. IsBefore (first_bits w m k) (first_bits w b j)) same (precedes_before _ _ ((network_order w).by_bits m k j fewer q.1))

-- of two lists one comes before the other at most
before_once : (x y : List ℕ) → IsBefore x y → IsBefore y x → ⊥
before_once x y h back = before_not_itself x (before_through x y x h back)

-- of two networks the one whose list comes before is the earlier one
pub before_earlier : (w m k n j : ℕ) → IsBase w k m → IsBase w j n → IsBefore (first_bits w m k) (first_bits w n j) → IsEarlier m k n j
before_earlier w m k n j p q h = elim (three_ways m n) [
  | inl less ↦ inl less
  | inr (inl same) ↦ elim (three_ways k j) [
    | inl fewer ↦ inr (same, fewer)
    | inr (inl even) ↦ absurd (before_not_itself (first_bits w m k)
        (subst (λ i. IsBefore (first_bits w m k) (first_bits w m i)) (sym even) (subst (λ b. IsBefore (first_bits w m k) (first_bits w b j)) (sym same) h)))
    | inr (inr more) ↦ absurd (before_once _ _ h (earlier_before w n j m k q p (inr (sym same, more))))
  ]
  | inr (inr greater) ↦ absurd (before_once _ _ h (earlier_before w n j m k q p (inl greater)))
]

module _ {A V : Type 0} (w : ℕ) (number : A → ℕ) where
  -- the rows behind the first are in order
  rest_in_order : (r : Net A × V) (rows : List (Net A × V)) → AreRowsInOrder w number (r ∷ rows) → AreRowsInOrder w number rows
  rest_in_order r rows h = record {
    bases = λ k l. h.bases (suc k) (omega (arith, l));
    order = λ j k l m. h.order (suc j) (suc k) (omega (arith, l)) (omega (arith, m));
  }

  -- rows in order are of networks
  pub rows_of_networks : (rows : List (Net A × V)) → AreRowsInOrder w number rows → Each (λ r. IsNetwork w number r.0) rows
  rows_of_networks [] h = tt
  rows_of_networks (r ∷ rows) h = (h.bases 0 (omega arith), rows_of_networks rows (rest_in_order r rows h))

  -- what comes before each row's list comes before all of them
  before_rows : (x : List ℕ) (rows : List (Net A × V))
      → ((k : ℕ) → k < length (base_numbers number rows) → IsBefore x (first_bits w (get_or (base_numbers number rows) k 0) (get_or (bit_counts rows) k 0)))
      → Each (IsBefore x) (codes_of (network_code w number) rows)
  before_rows x [] h = tt
  before_rows x (r ∷ rows) h = (h 0 (omega arith), before_rows x rows (λ k l. h (suc k) (omega (arith, l))))

  -- the lists of rows in order rise
  pub rows_rise : (rows : List (Net A × V)) → AreRowsInOrder w number rows → IsRising (codes_of (network_code w number) rows)
  rows_rise [] h = tt
  rows_rise (r ∷ rows) h = (
    before_rows (network_code w number r.0) rows (λ k l.
        earlier_before w _ _ _ _ (h.bases 0 (omega arith)) (h.bases (suc k) (omega (arith, l))) (h.order 0 (suc k) (omega arith) (omega (arith, l)))),
    rows_rise rows (rest_in_order r rows h),
  )

  -- the row at an index is of a network
  network_at : (rows : List (Net A × V)) (k : ℕ) → k < length (base_numbers number rows) → Each (λ r. IsNetwork w number r.0) rows
      → IsBase w (get_or (bit_counts rows) k 0) (get_or (base_numbers number rows) k 0)
  network_at [] k l h = absurd (omega (arith, l))
  network_at (r ∷ rows) zero l h = h.0
  network_at (r ∷ rows) (suc k) l h = network_at rows k (omega (arith, l)) h.1

  -- what comes before all lists comes before the one at an index
  before_row : (x : List ℕ) (rows : List (Net A × V)) (k : ℕ) → k < length (base_numbers number rows) → Each (IsBefore x) (codes_of (network_code w number) rows)
      → IsBefore x (first_bits w (get_or (base_numbers number rows) k 0) (get_or (bit_counts rows) k 0))
  before_row x [] k l h = absurd (omega (arith, l))
  before_row x (r ∷ rows) zero l h = h.0
  before_row x (r ∷ rows) (suc k) l h = before_row x rows k (omega (arith, l)) h.1

  -- of networks whose lists rise each is earlier than those behind it
  earlier_rows : (rows : List (Net A × V)) → Each (λ r. IsNetwork w number r.0) rows → IsRising (codes_of (network_code w number) rows)
      → (j k : ℕ) → j < k → k < length (base_numbers number rows)
      → IsEarlier (get_or (base_numbers number rows) j 0) (get_or (bit_counts rows) j 0) (get_or (base_numbers number rows) k 0) (get_or (bit_counts rows) k 0)
  earlier_rows [] nets rises j k l m = absurd (omega (arith, m))
  earlier_rows (r ∷ rows) nets rises j zero l m = absurd (omega (arith, l))
  earlier_rows (r ∷ rows) nets rises zero (suc k) l m =
      let inside : k < length (base_numbers number rows) = omega (arith, m) in
      before_earlier w _ _ _ _ nets.0 (network_at rows k inside nets.1) (before_row (network_code w number r.0) rows k inside rises.0)
  earlier_rows (r ∷ rows) nets rises (suc j) (suc k) l m = earlier_rows rows nets.1 rises.1 j k (omega (arith, l)) (omega (arith, m))

  -- networks whose lists rise are in order
  pub rising_rows : (rows : List (Net A × V)) → Each (λ r. IsNetwork w number r.0) rows → IsRising (codes_of (network_code w number) rows) → AreRowsInOrder w number rows
  rising_rows rows nets rises = record { bases = λ k l. network_at rows k l nets; order = earlier_rows rows nets rises }
