-- The networks that hold an address, by the links.
use Rattle.std.proofs.Common.{◌≡◌, ℕ, zero, suc, ◌+◌, ◌-◌, ◌/◌, ◌^◌, ◌<◌, ◌≤◌, ◌&&◌, inl, inr, Bool, true, false, not, ltb, List, [], ◌∷◌, length, map as each, reverse, take, get_or, refl, sym, ap, ◌∙◌, arith}
use Rattle.std.specs.Prelude.{nat_eq}
use Rattle.std.specs.List.{filter}
use Rattle.std.proofs.lemmas.Bool.{cases_lt, eq-eqb, eqb-true, le-ltb, lt-ltb, ne_eqb}
use Rattle.std.proofs.lemmas.List.{length-map, take_all}
use Rattle.nibble_map.proofs.MapLemmas.SameTests.{equal_tests}
use Rattle.radix_keys.specs.Networks.{Net, AgreeIn}
use Rattle.frozen_routes.specs.Routes.{AreRowsInOrder, IsAroundAt, IsLastAround, IsLastHolder, base_numbers, bit_counts, is_around, is_holder, rows_up}
use Rattle.frozen_routes.proofs.RouteLemmas.Links.{fewer_bits, same_holders}
use Rattle.sorted_tables.proofs.TableLemmas.Parts.{same_filter}
use Rattle.sorted_tables.proofs.TableLemmas.Walks.{walk_up as walk_by_links, one_up as step_by_links}

-- the test of two numbers that are equal, where a third is at most another
abbrev both : (x y n k : ℕ) → Bool
both x y n k = not (ltb n k) && nat_eq x y

-- what it says
are_both : (x y n k : ℕ) → both x y n k ≡ true → (x ≡ y) × (k ≤ n)
are_both x y n k t = elim (cases_lt n k) [
  | inl lt ↦ absurd (let no = ap (λ b. not b && nat_eq x y) (lt-ltb n k lt) in cc (no, t))
  | inr ge ↦ (eqb-true x y (sym (ap (λ b. not b && nat_eq x y) (le-ltb n k ge)) ∙ t), ge)
]

-- and back
test_both : (x y n k : ℕ) → (x ≡ y) × (k ≤ n) → both x y n k ≡ true
test_both x y n k h = ap (λ b. not b && nat_eq x y) (le-ltb n k h.1) ∙ eq-eqb x y h.0

-- where not both hold it fails
not_both : (x y n k : ℕ) → ((x ≡ y) × (k ≤ n) → ⊥) → both x y n k ≡ false
not_both x y n k apart = elim (cases_lt n k) [
  | inl lt ↦ ap (λ b. not b && nat_eq x y) (lt-ltb n k lt)
  | inr ge ↦ ap (λ b. not b && nat_eq x y) (le-ltb n k ge) ∙ ne_eqb x y (λ e. apart (e, ge))
]

module _ {A V : Type 0} (w : ℕ) (number : A → ℕ) where
  -- the test of a row by its numbers
  holder_at : (n : ℕ) (rows : List (Net A × V)) (k : ℕ) → k < length rows
      → get_or (each (is_holder w number n) rows) k false
      ≡ nat_eq (get_or (base_numbers number rows) k 0 / 2 ^ (w - get_or (bit_counts rows) k 0)) (n / 2 ^ (w - get_or (bit_counts rows) k 0))
  holder_at n [] k l = absurd (omega (arith, l))
  holder_at n (r ∷ rs) zero l = refl
  holder_at n (r ∷ rs) (suc k) l = holder_at n rs k (omega (arith, l))

  -- and whether it holds all of another network
  around_at : (net : Net A) (rows : List (Net A × V)) (k : ℕ) → k < length rows
      → get_or (each (is_around w number net) rows) k false
      ≡ both (get_or (base_numbers number rows) k 0 / 2 ^ (w - get_or (bit_counts rows) k 0)) (number net.base / 2 ^ (w - get_or (bit_counts rows) k 0)) net.bits (get_or (bit_counts rows) k 0)
  around_at net [] k l = absurd (omega (arith, l))
  around_at net (r ∷ rs) zero l = refl
  around_at net (r ∷ rs) (suc k) l = around_at net rs k (omega (arith, l))

module _ {A V : Type 0} (w : ℕ) (number : A → ℕ) (rows : List (Net A × V)) (rising : AreRowsInOrder w number rows) where
  -- the network at an index holds a number
  abbrev Holds : ℕ → ℕ → Type 0
  Holds k a = AgreeIn w (get_or (bit_counts rows) k 0) (get_or (base_numbers number rows) k 0) a

  -- as many numbers as rows
  count_of : length (base_numbers number rows) ≡ length rows
  count_of = length-map rows (λ r. number r.0.base)

  -- a test of a network that doesn't hold the number
  not_holder : (k a : ℕ) → k < length rows → (Holds k a → ⊥) → get_or (each (is_holder w number a) rows) k false ≡ false
  not_holder k a l apart = holder_at w number a rows k l ∙ ne_eqb _ _ apart

  -- the walk up from the last of the first n networks that holds a number
  pub walk_up : (a n r : ℕ) → n ≤ length rows → IsLastHolder w (base_numbers number rows) (bit_counts rows) n a r
      → reverse (filter (is_holder w number a) (take n rows)) ≡ rows_up w number rows r
  walk_up a n r l last = walk_by_links (λ i. is_holder w number (get_or (base_numbers number rows) i 0)) rows (is_holder w number a) (λ k. Holds k a) n r l (λ k within apart. not_holder k a within apart)
      (λ i k within here le.
      let both = same_holders w (base_numbers number rows) (bit_counts rows) i k a rising (omega (arith, within, count_of)) here le in
      let before : k < length rows = omega (arith, le, within) in
      holder_at w number a rows k before
      ∙ equal_tests _ _ (λ t. eq-eqb _ _ (both.0 (eqb-true _ _ t))) (λ t. eq-eqb _ _ (both.1 (eqb-true _ _ t)))
      ∙ sym (holder_at w number (get_or (base_numbers number rows) i 0) rows k before)) last

  -- the walk up from the last network that holds all of another one
  pub whole_walk_up : (net : Net A) (r : ℕ) → IsLastAround w (base_numbers number rows) (bit_counts rows) (length rows) (number net.base) net.bits r
      → rows_up w number rows r ≡ reverse (filter (is_around w number net) rows)
  whole_walk_up net r last =
      let a = number net.base in
      sym (walk_by_links (λ i. is_holder w number (get_or (base_numbers number rows) i 0)) rows (is_around w number net) (IsAroundAt w (base_numbers number rows) (bit_counts rows) a net.bits)
      (length rows) r (omega arith) (λ k within apart. around_at w number net rows k within ∙ not_both _ _ _ _ apart)
      (λ i k within here le.
      let inside : i < length (base_numbers number rows) = omega (arith, within, count_of) in
      let both = same_holders w (base_numbers number rows) (bit_counts rows) i k a rising inside here.0 le in
      let before : k < length rows = omega (arith, le, within) in
      around_at w number net rows k before
      ∙ equal_tests _ _ (λ t. let p = are_both _ _ _ _ t in eq-eqb _ _ (both.0 p.0)) (λ t.
      let q = both.1 (eqb-true _ _ t) in
      let fewer = fewer_bits w (base_numbers number rows) (bit_counts rows) i k a rising inside here.0 le q in
      let most = here.1 in
      test_both _ _ _ _ (q, omega (arith, fewer, most)))
      ∙ sym (holder_at w number (get_or (base_numbers number rows) i 0) rows k before)) last)
      ∙ ap (λ xs. reverse (filter (is_around w number net) xs)) (take_all (length rows) rows (omega arith))

  -- one step up: a row, and the walk from its link on
  pub one_up : (i r : ℕ) (p : Net A × V) → i < length rows → p ≡ get_or rows i p → get_or (base_numbers number rows) i 0 ≡ number p.0.base
      → IsLastHolder w (base_numbers number rows) (bit_counts rows) i (get_or (base_numbers number rows) i 0) r
      → rows_up w number rows (i + 1) ≡ p ∷ rows_up w number rows r
  one_up i r p l at first last =
      step_by_links (λ j. is_holder w number (get_or (base_numbers number rows) j 0)) rows i r p l at (eq-eqb _ _ (ap (λ n. n / 2 ^ (w - p.0.bits)) (sym first)))
      (walk_up (get_or (base_numbers number rows) i 0) i r (omega (arith, l)) last)

  -- of an address alone the test is whether a network holds it
  pub holders_of_address : (net : Net A) → net.bits ≡ w → filter (is_around w number net) rows ≡ filter (is_holder w number (number net.base)) rows
  holders_of_address net all =
      let whole = take_all (length rows) rows (omega arith) in
      ap (filter (is_around w number net)) (sym whole)
      ∙ same_filter (is_around w number net) (is_holder w number (number net.base)) (length rows) rows (λ k l within.
      let base = rising.bases k (omega (arith, within, count_of)) in
      let most = base.1 in
      around_at w number net rows k within
      ∙ ap (λ b. not b && nat_eq (get_or (base_numbers number rows) k 0 / 2 ^ (w - get_or (bit_counts rows) k 0)) (number net.base / 2 ^ (w - get_or (bit_counts rows) k 0)))
      (le-ltb net.bits (get_or (bit_counts rows) k 0) (omega (arith, most, all)))
      ∙ sym (holder_at w number (number net.base) rows k within))
      ∙ ap (filter (is_holder w number (number net.base))) whole
