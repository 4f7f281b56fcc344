-- What the numbers of rows say of the rows.
use Rattle.std.proofs.Common.{◌≡◌, ℕ, zero, suc, ◌-◌, ◌<◌, ◌≤◌, inl, inr, List, [], ◌∷◌, Some, length, map as each, subst, sym, ap, arith, get_or, slice_get}
use Rattle.std.proofs.lemmas.Bool.{cases_lt}
use Rattle.std.proofs.lemmas.List.{length-map}
use Rattle.radix_keys.specs.Networks.{Net, AgreeIn}
use Rattle.frozen_routes.specs.Routes.{IsHolderAt, IsHoldingRow, IsLastAround, IsLastHolder, IsRowAround, AreRowsInOrder, base_numbers, bit_counts}
use Rattle.frozen_routes.proofs.RouteLemmas.Links.{fewer_bits}

-- a stored row has its number at its index
pub stored_at : {X : Type 0} (f : X → ℕ) (xs : List X) (i : ℕ) (x : X) → slice_get xs i ≡ Some x
    → (i < length xs) × (get_or (each f xs) i 0 ≡ f x)
stored_at f [] i x e = absurd (cc)
stored_at f (y ∷ ys) zero x e = (let same : y ≡ x = cc in (omega arith, ap f same))
stored_at f (y ∷ ys) (suc i) x e = let r = stored_at f ys i x e in (let l = r.0 in omega (arith, l), r.1)

module _ {A V : Type 0} (w : ℕ) (number : A → ℕ) (rows : List (Net A × V)) (rising : AreRowsInOrder w number rows) where
  -- what a stored row's numbers are
  holder_at : (a : ℕ) (s : Net A × V) (h : IsHoldingRow w number rows a s) → (h.at < length rows) × AgreeIn w (get_or (bit_counts rows) h.at 0) (get_or (base_numbers number rows) h.at 0) a
      × (get_or (bit_counts rows) h.at 0 ≡ s.0.bits)
  holder_at a s h =
      let g = stored_at (λ r. number r.0.base) rows h.at s h.stored in
      let c = stored_at (λ r. r.0.bits) rows h.at s h.stored in
      (g.0, subst (λ n. AgreeIn w (get_or (bit_counts rows) h.at 0) n a) (sym g.1) (subst (λ k. AgreeIn w k (number s.0.base) a) (sym c.1) h.holds), c.1)

  -- a row that holds an address, by its index
  row_holds : (a i : ℕ) (r : Net A × V) → slice_get rows i ≡ Some r → IsHolderAt w (base_numbers number rows) (bit_counts rows) a i → IsHoldingRow w number rows a r
  row_holds a i r here holds =
      let f = stored_at (λ s. number s.0.base) rows i r here in
      let b = stored_at (λ s. s.0.bits) rows i r here in
      record { at = i; stored = here; holds = subst (λ n. AgreeIn w r.0.bits n a) f.1 (subst (λ k. AgreeIn w k (get_or (base_numbers number rows) i 0) a) b.1 holds) }

  -- none up to it that holds the address has more bits
  no_longer : (a i : ℕ) (r s : Net A × V) → slice_get rows i ≡ Some r → IsHolderAt w (base_numbers number rows) (bit_counts rows) a i
      → (h : IsHoldingRow w number rows a s) → h.at ≤ i → s.0.bits ≤ r.0.bits
  no_longer a i r s here holds h le =
      let f = stored_at (λ x. number x.0.base) rows i r here in
      let b = stored_at (λ x. x.0.bits) rows i r here in
      let it = holder_at a s h in
      let inside : i < length (base_numbers number rows) = (let l = f.0 in omega (arith, l, length-map rows (λ x. number x.0.base))) in
      let few = fewer_bits w (base_numbers number rows) (bit_counts rows) i h.at a rising inside holds le it.1 in
      let x = it.2 in
      let y = b.1 in
      omega (arith, few, x, y)

  -- the last holder is the longest
  pub last_is_longest : (a found : ℕ) (r : Net A × V) → 0 < found → IsLastHolder w (base_numbers number rows) (bit_counts rows) (length rows) a found
      → slice_get rows (found - 1) ≡ Some r → IsHoldingRow w number rows a r × ((s : Net A × V) → IsHoldingRow w number rows a s → s.0.bits ≤ r.0.bits)
  last_is_longest a found r some last here = (
    row_holds a (found - 1) r here (last.holds some),
    λ s h. elim (cases_lt (found - 1) h.at) [
      | inl gt ↦ let it = holder_at a s h in absurd (last.none h.at (omega (arith, some, gt)) it.0 it.1)
      | inr le ↦ no_longer a (found - 1) r s here (last.holds some) h le
    ],
  )

  -- where no network is the last to hold an address none holds it
  pub none_holds : (a found : ℕ) → found ≡ 0 → IsLastHolder w (base_numbers number rows) (bit_counts rows) (length rows) a found
      → (r : Net A × V) → IsHoldingRow w number rows a r → ⊥
  none_holds a found none last s h = let it = holder_at a s h in last.none h.at (omega (arith, none)) (it.0) (it.1)

  -- none from the last on that holds all of a network does so
  none_behind : (net : Net A) (found : ℕ) (s : Net A × V) (h : IsRowAround w number rows net s)
      → IsLastAround w (base_numbers number rows) (bit_counts rows) (length rows) (number net.base) net.bits found → found ≤ h.0.at → ⊥
  none_behind net found s h last le =
      let it = holder_at (number net.base) s h.0 in
      let x = it.2 in
      let few = h.1 in
      last.none h.0.at le it.0 (it.1, omega (arith, x, few))

  -- the last that holds all of a network is the longest of those
  pub last_around_is_longest : (net : Net A) (found : ℕ) (r : Net A × V) → 0 < found
      → IsLastAround w (base_numbers number rows) (bit_counts rows) (length rows) (number net.base) net.bits found → slice_get rows (found - 1) ≡ Some r
      → IsRowAround w number rows net r × ((s : Net A × V) → IsRowAround w number rows net s → s.0.bits ≤ r.0.bits)
  last_around_is_longest net found r some last here =
      let a = number net.base in
      let holds = last.holds some in (
        (row_holds a (found - 1) r here holds.0, let b = (stored_at (λ s. s.0.bits) rows (found - 1) r here).1 in let most = holds.1 in omega (arith, b, most)),
        λ s h. elim (cases_lt (found - 1) h.0.at) [
          | inl gt ↦ absurd (none_behind net found s h last (omega (arith, some, gt)))
          | inr le ↦ no_longer a (found - 1) r s here holds.0 h.0 le
        ],
      )

  -- where none is the last none holds all of it
  pub none_around : (net : Net A) (found : ℕ) → found ≡ 0 → IsLastAround w (base_numbers number rows) (bit_counts rows) (length rows) (number net.base) net.bits found
      → (r : Net A × V) → IsRowAround w number rows net r → ⊥
  none_around net found none last s h = none_behind net found s h last (omega (arith, none))
