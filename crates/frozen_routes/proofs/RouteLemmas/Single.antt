-- The row of one network.
use Rattle.std.proofs.Common.{◌≡◌, ℕ, ◌-◌, ◌/◌, ◌%◌, ◌^◌, ◌<◌, ◌≤◌, ◌↔◌, inl, inr, true, false, Option, Some, None, List, length, refl, ap, subst, ◌∙◌, arith, get_or}
use Rattle.std.specs.Prelude.{MatchOption, is_some, option_map}
use Rattle.std.proofs.lemmas.Bool.{cases_lt}
use Rattle.std.proofs.lemmas.List.{length-map}
use Rattle.radix_keys.proofs.KeyLemmas.Order.{three_ways}
use Rattle.radix_keys.specs.Networks.{Net}
use Rattle.frozen_routes.specs.Routes.{AreInFront, AreRising, AreRowsInOrder, IsOwnRow, base_numbers, bit_counts}
use Rattle.frozen_routes.proofs.RouteLemmas.Blocks.{div_up, earlier_le, start_is_least}
use Rattle.frozen_routes.proofs.RouteLemmas.Rows.{stored_at}

-- what is found is there where anything is
pub some_own : {X Y : Type 0} (f : X → Y) (found : Option X) (P : Y → Type 0) → MatchOption (option_map f found) ((y : Y) → P y → ⊥) P
    → (is_some found ≡ true) ↔ ((y : Y) × P y)
some_own f None P none = (λ e. absurd (cc e), λ own. absurd (none own.0 own.1))
some_own f (Some x) P own = (λ e. (f x, own), λ _. refl)

-- a search for a network ends at it, where it is one of those that rise
at_cut : (w : ℕ) (fs bs : List ℕ) (c i m n : ℕ) → AreRising w fs bs → AreInFront w false n (m / 2 ^ (w - n)) fs bs c → i < length fs → get_or fs i 0 ≡ m → get_or bs i 0 ≡ n
    → i ≡ c
at_cut w fs bs c i m n rising cut within first size = elim (three_ways i c) [
  | inl lt ↦ absurd (elim (cut.before i lt) [
    | inl less ↦ let same = ap (λ x. x / 2 ^ (w - n)) first in omega (arith, less, same)
    | inr here ↦ elim (here.1) [
      | inl t ↦ let no : false ≡ true = t in cc no
      | inr few ↦ omega (arith, few, size)
    ]
  ])
  | inr (inl e) ↦ e
  | inr (inr gt) ↦
      let inside : c < length fs = omega (arith, gt, within) in
      let earlier = rising.order c i gt within in
      let le : get_or fs c 0 ≤ m = (let l = earlier_le _ _ _ _ earlier in omega (arith, l, first)) in
      let parents = div_up (get_or fs c 0) m (w - n) le in
      absurd (cut.after c (omega arith) inside (elim (cases_lt (get_or fs c 0 / 2 ^ (w - n)) (m / 2 ^ (w - n))) [
        | inl less ↦ inl less
        | inr ge ↦
            let same : get_or fs c 0 / 2 ^ (w - n) ≡ m / 2 ^ (w - n) = omega (arith, parents, ge) in
            let zero = subst (λ k. m % 2 ^ (w - k) ≡ 0) size (subst (λ x. x % 2 ^ (w - get_or bs i 0) ≡ 0) first (rising.bases i within).2) in
            let equal = start_is_least (get_or fs c 0) m (w - n) le zero same in
            inr (
              same,
              inr (elim earlier [
                | inl l ↦ absurd (omega (arith, l, equal, first))
                | inr e ↦ let l = e.1 in omega (arith, l, size)
              ]),
            )
      ]))
]

module _ {A V : Type 0} (w : ℕ) (number : A → ℕ) (rows : List (Net A × V)) (net : Net A) (c : ℕ) (rising : AreRowsInOrder w number rows)
    (cut : AreInFront w false net.bits (number net.base / 2 ^ (w - net.bits)) (base_numbers number rows) (bit_counts rows) c) where
  -- the row of the network stands where the search ends
  pub row_at_cut : (r : Net A × V) → IsOwnRow number rows net r → (c < length rows) × (get_or (base_numbers number rows) c 0 ≡ number net.base) × (get_or (bit_counts rows) c 0 ≡ net.bits)
  row_at_cut r of =
      let f = stored_at (λ s. number s.0.base) rows of.at r of.stored in
      let b = stored_at (λ s. s.0.bits) rows of.at r of.stored in
      let first = f.1 ∙ of.base in
      let size = b.1 ∙ of.bits in
      let inside : of.at < length (base_numbers number rows) = (let l = f.0 in omega (arith, l, length-map rows (λ s. number s.0.base))) in
      let here = at_cut w (base_numbers number rows) (bit_counts rows) c of.at (number net.base) net.bits rising cut inside first size in
      subst (λ i. (i < length rows) × (get_or (base_numbers number rows) i 0 ≡ number net.base) × (get_or (bit_counts rows) i 0 ≡ net.bits)) here (f.0, first, size)
