-- When networks are equal, and their order.
use Rattle.std.specs.Prelude.{◌≡◌, ℕ, Bool, ◌&&◌, ◌≤◌, ◌<◌, nat_eq, Some, refl}
use Rattle.std.specs.Cmp.{IsEquivalence, IsPartialOrder, IsTotalOrder, and_equiv, on_equiv, nat_eq_equiv, nat_cmp_total, on_total, then_total, unsigned_ties, both_tied, partial_order_from_agreeing_total}
use Rattle.std.specs.Ordering.{nat_cmp, on, then_cmp, eq_by_cmp}
use Rattle.std.specs.declared.cmp.Ordering.{Ordering}
use Rattle.radix_keys.specs.Bits.{first_bits}
use Rattle.radix_keys.specs.Networks.{Net, IsBase}
use Rattle.radix_keys.specs.Order.{Precedes}

-- Of two networks of addresses of w bits the one with the lesser base has the lesser encoding, and
-- of two with one base the one with fewer bits.
pub record KeepsNetworkOrder (w : ℕ) : Type 0 where
  pub by_base : (m k n j : ℕ) → IsBase w k m → IsBase w j n → m < n
      → Precedes (first_bits w m k) (first_bits w n j)
  pub by_bits : (m k j : ℕ) → k < j → j ≤ w → Precedes (first_bits w m k) (first_bits w m j)

module _ {A : Type 0} (number : A → ℕ) where
  -- networks are equal where their bases and their bits are
  abbrev pub network_eq : Net A → Net A → Bool
  network_eq x y = nat_eq (number x.base) (number y.base) && nat_eq x.bits y.bits

  -- the base decides, and then the bits
  abbrev pub network_cmp : Net A → Net A → Ordering
  network_cmp = then_cmp (on (λ n. number n.base) nat_cmp) (on (λ n. n.bits) nat_cmp)

  pub network_equiv : IsEquivalence network_eq
  network_equiv = and_equiv (on_equiv (λ n. number n.base) nat_eq_equiv) (on_equiv (λ n. n.bits) nat_eq_equiv)

  pub network_total : IsTotalOrder network_cmp
  network_total = then_total (on_total (λ n. number n.base) nat_cmp_total) (on_total (λ n. n.bits) nat_cmp_total)

  pub network_ties : (x y : Net A) → network_eq x y ≡ eq_by_cmp network_cmp x y
  network_ties x y =
      both_tied _ _ (nat_cmp (number x.base) (number y.base)) (nat_cmp x.bits y.bits)
      (unsigned_ties (number x.base) (number y.base)) (unsigned_ties x.bits y.bits)

  pub network_po : IsPartialOrder network_eq (λ x y. Some (network_cmp x y))
  network_po = partial_order_from_agreeing_total network_cmp network_total (λ x y. refl) network_ties
