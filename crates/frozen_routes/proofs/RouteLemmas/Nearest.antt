-- Rows by the lists of bits that a trie stores them at.
use Rattle.std.proofs.Common.{◌≡◌, ℕ, zero, suc, ◌-◌, ◌/◌, ◌%◌, ◌^◌, ◌<◌, ◌≤◌, ◌↔◌, inl, inr, List, [], ◌∷◌, Option, Some, None, length, refl, sym, ap, subst, ◌∙◌, arith, get_or, slice_get}
use Rattle.std.proofs.lemmas.List.{length-map}
use Rattle.nibble_map.specs.Lists.{Has, IsPrefix}
use Rattle.nibble_map.proofs.ListLemmas.Parted.{prefix_length}
use Rattle.radix_keys.specs.Bits.{first_bits}
use Rattle.radix_keys.specs.Networks.{AgreeIn, IsBase, Net}
use Rattle.radix_keys.proofs.BitLemmas.{first_bits_prefix, length-first_bits}
use Rattle.radix_keys.proofs.KeyLemmas.Order.{three_ways}
use Rattle.frozen_routes.specs.Nearest.{IsNearestRow, shared_bits}
use Rattle.frozen_routes.specs.Routes.{AreRowsInOrder, IsHoldingRow, IsLongestAround, IsLongestWhere, IsLongestRow, IsRowAround, base_numbers}
use Rattle.frozen_routes.proofs.RouteLemmas.Blocks.{base_first}
use Rattle.frozen_routes.proofs.RouteLemmas.Rows.{stored_at}

-- a network holds a number where its bits begin the number's
pub holds_by_prefix : (w k m n : ℕ) → IsBase w k m → n < 2 ^ w → AgreeIn w k m n ↔ IsPrefix (first_bits w m k) (first_bits w n w)
holds_by_prefix w k m n base fits =
    let both = first_bits_prefix w m n k w base.0 fits base.1 (omega arith) in
    (both.1, both.0)

-- a network has as many bits as its list
pub as_many_bits : (w k m : ℕ) → IsBase w k m → length (first_bits w m k) ≡ k
as_many_bits w k m base = let within = base.1 in omega (arith, length-first_bits w m k, within)

-- it holds all of another network where its bits begin that network's
pub around_by_prefix : (w k m j n : ℕ) → IsBase w k m → n < 2 ^ w → j ≤ w → (AgreeIn w k m n × (k ≤ j)) ↔ IsPrefix (first_bits w m k) (first_bits w n j)
around_by_prefix w k m j n base fits within = (
  λ h. (first_bits_prefix w m n k j base.0 fits h.1 within).1 h.0,
  λ begun.
      let fewer : k ≤ j = (let longer = prefix_length (first_bits w m k) (first_bits w n j) begun in omega (arith, longer, as_many_bits w k m base, length-first_bits w n j, within)) in
      ((first_bits_prefix w m n k j base.0 fits fewer within).0 begun, fewer),
)

-- a stored item is one of the list
has_stored : {X : Type 0} (xs : List X) (i : ℕ) (x : X) → slice_get xs i ≡ Some x → Has xs x
has_stored [] i x e = absurd (cc e)
has_stored (y ∷ ys) zero x e = (let same : x ≡ y = cc e in inl same)
has_stored (y ∷ ys) (suc i) x e = inr (has_stored ys i x e)

-- and back
stored_has : {X : Type 0} (xs : List X) (x : X) → Has xs x → (i : ℕ) × (slice_get xs i ≡ Some x)
stored_has [] x h = absurd h
stored_has (y ∷ ys) x (inl e) = (0, ap Some (sym e))
stored_has (y ∷ ys) x (inr h) = let at = stored_has ys x h in (suc at.0, at.1)

-- one place stores one item
stored_once : {X : Type 0} (xs : List X) (i j : ℕ) (x y : X) → slice_get xs i ≡ Some x → slice_get xs j ≡ Some y → i ≡ j → x ≡ y
stored_once xs i j x y p q e = cc (p, q, e)

-- the longest of two lots of rows that are the same
same_longest : {A V : Type 0} (Holds Also : Net A × V → Type 0) → ((r : Net A × V) → Holds r → Also r) → ((r : Net A × V) → Also r → Holds r) → (found : Option (Net A × V))
    → IsLongestWhere Holds found ↔ IsLongestWhere Also found
same_longest Holds Also there back None = (λ none r h. none r (back r h), λ none r h. none r (there r h))
same_longest Holds Also there back (Some r) = (λ h. (there r h.0, λ s also. h.1 s (back s also)), λ h. (back r h.0, λ s holds. h.1 s (there s holds)))

module _ {A V : Type 0} (w : ℕ) (number : A → ℕ) (rows : List (Net A × V)) (rising : AreRowsInOrder w number rows) where
  -- a stored row is of a network
  base_of : (i : ℕ) (r : Net A × V) → slice_get rows i ≡ Some r → IsBase w r.0.bits (number r.0.base)
  base_of i r is =
      let f = stored_at (λ s. number s.0.base) rows i r is in
      let b = stored_at (λ s. s.0.bits) rows i r is in
      let inside : i < length (base_numbers number rows) = (let l = f.0 in omega (arith, l, length-map rows (λ s. number s.0.base))) in
      subst (IsBase w r.0.bits) f.1 (subst (λ k. IsBase w k (get_or (base_numbers number rows) i 0)) b.1 (rising.bases i inside))

  -- a stored row has as many bits as its list
  bits_of_row : (i : ℕ) (r : Net A × V) → slice_get rows i ≡ Some r → length (shared_bits w number r) ≡ r.0.bits
  bits_of_row i r is = as_many_bits w _ _ (base_of i r is)

  module _ (Holds : Net A × V → Type 0) (q : List ℕ)
      (begins : (i : ℕ) (r : Net A × V) → slice_get rows i ≡ Some r → Holds r ↔ IsPrefix (shared_bits w number r) q)
      (stored : (r : Net A × V) → Holds r → (i : ℕ) × (slice_get rows i ≡ Some r)) where
    -- rows that are those whose lists begin another one
    row_begins : (r : Net A × V) → Holds r → Has rows r × IsPrefix (shared_bits w number r) q
    row_begins r h = let at = stored r h in (has_stored rows at.0 r at.1, (begins at.0 r at.1).0 h)

    -- and back
    begun_holds : (r : Net A × V) → Has rows r → IsPrefix (shared_bits w number r) q → Holds r
    begun_holds r has begun = let at = stored_has rows r has in (begins at.0 r at.1).1 begun

    -- the longest of them is the nearest row
    longest_by_lists : (found : Option (Net A × V)) → IsLongestWhere Holds found ↔ IsNearestRow w number rows q found
    longest_by_lists None = (λ none r has begun. none r (begun_holds r has begun), λ none r h. let b = row_begins r h in none r b.0 b.1)
    longest_by_lists (Some r) = (
      λ h. let b = row_begins r h.0 in let own = stored r h.0 in (
        b.0,
        b.1,
        λ s has begun.
            let other = begun_holds s has begun in
            let at = stored s other in
            let most = h.1 s other in
            omega (arith, most, bits_of_row own.0 r own.1, bits_of_row at.0 s at.1),
      ),
      λ h. let here = begun_holds r h.0 h.1 in let own = stored r here in (
        here,
        λ s holds.
            let b = row_begins s holds in
            let at = stored s holds in
            let most = h.2 s b.0 b.1 in
            omega (arith, most, bits_of_row own.0 r own.1, bits_of_row at.0 s at.1),
      ),
    )

  -- the longest row is the nearest one
  pub longest_is_nearest : (n : ℕ) → n < 2 ^ w → (found : Option (Net A × V)) → IsLongestRow w number rows n found ↔ IsNearestRow w number rows (first_bits w n w) found
  longest_is_nearest n fits found =
      longest_by_lists (IsHoldingRow w number rows n) (first_bits w n w)
      (λ i r is. (λ h. (holds_by_prefix w _ _ n (base_of i r is) fits).0 h.holds, λ begun. record { at = i; stored = is; holds = (holds_by_prefix w _ _ n (base_of i r is) fits).1 begun }))
      (λ r h. (h.at, h.stored)) found

  -- and so is the longest of those around a network
  pub around_is_nearest : (net : Net A) → IsBase w net.bits (number net.base) → (found : Option (Net A × V))
      → IsLongestAround w number rows net found ↔ IsNearestRow w number rows (first_bits w (number net.base) net.bits) found
  around_is_nearest net base found =
      let q = first_bits w (number net.base) net.bits in
      longest_by_lists (IsRowAround w number rows net) q
      (λ i r is. let both = around_by_prefix w r.0.bits (number r.0.base) net.bits (number net.base) (base_of i r is) base.0 base.1 in (
        λ h. both.0 (h.0.holds, h.1),
        λ begun. let held = both.1 begun in (record { at = i; stored = is; holds = held.0 }, held.1),
      )) (λ r h. (h.0.at, h.0.stored)) found

  -- of two rows of one length that hold an address neither is later
  not_later : (n : ℕ) (r s : Net A × V) (h : IsHoldingRow w number rows n r) (k : IsHoldingRow w number rows n s) → r.0.bits ≡ s.0.bits → h.at < k.at → ⊥
  not_later n r s h k same less =
      let f = stored_at (λ x. number x.0.base) rows h.at r h.stored in
      let g = stored_at (λ x. number x.0.base) rows k.at s k.stored in
      let b = stored_at (λ x. x.0.bits) rows h.at r h.stored in
      let d = stored_at (λ x. x.0.bits) rows k.at s k.stored in
      let inside : k.at < length (base_numbers number rows) = (let l = g.0 in omega (arith, l, length-map rows (λ x. number x.0.base))) in
      let one = h.holds ∙ sym (subst (λ e. number s.0.base / 2 ^ (w - e) ≡ n / 2 ^ (w - e)) (sym same) k.holds) in
      let le = base_first (number r.0.base) (number s.0.base) (w - r.0.bits) (base_of h.at r h.stored).2 one in
      let zero = subst (λ e. number s.0.base % 2 ^ (w - e) ≡ 0) (sym same) (base_of k.at s k.stored).2 in
      let ge = base_first (number s.0.base) (number r.0.base) (w - r.0.bits) zero (sym one) in
      let fr = f.1 in let gs = g.1 in let br = b.1 in let ds = d.1 in
      elim (rising.order h.at k.at less inside) [
        | inl l ↦ omega (arith, l, ge, fr, gs)
        | inr e ↦ let l = e.1 in omega (arith, l, same, br, ds)
      ]

  -- there is one longest row of some that hold an address
  one_longest_of : (Holds : Net A × V → Type 0) (n : ℕ) → ((r : Net A × V) → Holds r → IsHoldingRow w number rows n r) → (found other : Option (Net A × V))
      → IsLongestWhere Holds found → IsLongestWhere Holds other → found ≡ other
  one_longest_of Holds n holding None None p q = refl
  one_longest_of Holds n holding None (Some s) p q = absurd (p s q.0)
  one_longest_of Holds n holding (Some r) None p q = absurd (q r p.0)
  one_longest_of Holds n holding (Some r) (Some s) p q =
      let same : r.0.bits ≡ s.0.bits = (let x = p.1 s q.0 in let y = q.1 r p.0 in omega (arith, x, y)) in
      let h = holding r p.0 in
      let k = holding s q.0 in
      ap Some (elim (three_ways h.at k.at) [
        | inl lt ↦ absurd (not_later n r s h k same lt)
        | inr (inl e) ↦ stored_once rows h.at k.at r s h.stored k.stored e
        | inr (inr gt) ↦ absurd (not_later n s r k h (sym same) gt)
      ])

  -- so there is one of all that hold it
  pub one_longest : (n : ℕ) (found other : Option (Net A × V)) → IsLongestRow w number rows n found → IsLongestRow w number rows n other → found ≡ other
  one_longest n found other p q = one_longest_of (IsHoldingRow w number rows n) n (λ r h. h) found other p q

  -- and one of those around a network
  pub one_around : (net : Net A) (found other : Option (Net A × V)) → IsLongestAround w number rows net found → IsLongestAround w number rows net other → found ≡ other
  one_around net found other p q = one_longest_of (IsRowAround w number rows net) (number net.base) (λ r h. h.0) found other p q

  -- of an address alone the rows around it are those that hold it
  pub longest_of_address : (net : Net A) (found : Option (Net A × V)) → net.bits ≡ w → IsLongestAround w number rows net found ↔ IsLongestRow w number rows (number net.base) found
  longest_of_address net found all = same_longest (IsRowAround w number rows net) (IsHoldingRow w number rows (number net.base)) (λ r h. h.0)
      (λ r h. let base = base_of h.at r h.stored in let most = base.1 in (h, omega (arith, most, all))) found
