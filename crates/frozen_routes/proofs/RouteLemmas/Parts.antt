-- The networks within another one.
use Rattle.std.proofs.Common.{◌≡◌, ℕ, zero, suc, ◌+◌, ◌-◌, ◌/◌, ◌^◌, ◌<◌, ◌≤◌, ◌&&◌, ◌↔◌, inl, inr, Bool, true, false, not, ltb, List, [], ◌∷◌, length, take, drop, map as each, refl, subst, sym, ap, ◌∙◌, arith, get_or}
use Rattle.std.specs.Prelude.{nat_eq}
use Rattle.std.specs.List.{filter}
use Rattle.std.proofs.lemmas.Bool.{cases_lt, eq-eqb, le-ltb, lt-ltb, ltb-true, ne_eqb}
use Rattle.std.proofs.lemmas.List.{length-map}
use Rattle.radix_keys.specs.Networks.{Net, IsBase}
use Rattle.frozen_routes.specs.Routes.{AreInFront, AreRising, IsEarlier, IsInFront, base_numbers, is_inside, bit_counts}
use Rattle.frozen_routes.proofs.RouteLemmas.Blocks.{div_up, earlier_le, finer, start_is_least}
use Rattle.sorted_tables.proofs.TableLemmas.Links.{parted_in_order}
use Rattle.sorted_tables.proofs.TableLemmas.Parts.{filter_part}

-- the first bits of a network by those of calls
pub own_is : (w n m m' own rest b : ℕ) → rest ≡ b - n → b ≡ w → m' ≡ m → own ≡ m' / 2 ^ rest → own ≡ m / 2 ^ (w - n)
own_is w n m m' own rest b p q r s = s ∙ ap (λ x. x / 2 ^ rest) r ∙ ap (λ e. m / 2 ^ e) (p ∙ ap (λ x. x - n) q)

-- the test of one with other first bits
pub front_apart : (w : ℕ) (t : Bool) (n q m k own : ℕ) → own ≡ m / 2 ^ (w - n) → (own ≡ q → ⊥) → (ltb own q ≡ true) ↔ IsInFront w t n q m k
front_apart w t n q m k own is apart = (
  λ e. inl (let l = ltb-true own q e in omega (arith, is, l)),
  λ f. elim f [ inl l ↦ lt-ltb own q (omega (arith, is, l)) | inr e ↦ absurd (apart (is ∙ e.0)) ],
)

-- the test of one with the same first bits, of a search through them
pub front_through : (w : ℕ) (t : Bool) (n q m k own : ℕ) → own ≡ m / 2 ^ (w - n) → own ≡ q → t ≡ true → (t ≡ true) ↔ IsInFront w t n q m k
front_through w t n q m k own is same e = (λ e'. inr (sym is ∙ same, inl e), λ f. e)

-- and of one that isn't
pub front_same : (w : ℕ) (t : Bool) (n q m k own k' : ℕ) → own ≡ m / 2 ^ (w - n) → own ≡ q → t ≡ false → k' ≡ k → (ltb k' n ≡ true) ↔ IsInFront w t n q m k
front_same w t n q m k own k' is same apart size = (
  λ e. inr (sym is ∙ same, inr (let l = ltb-true k' n e in omega (arith, size, l))),
  λ f. elim f [
    | inl l ↦ absurd (omega (arith, is, same, l))
    | inr at ↦ elim (at.1) [ inl also ↦ absurd (cc (also, apart)) | inr l ↦ lt-ltb k' n (omega (arith, size, l)) ]
  ],
)

-- whatever comes before one in front is in front
pub front_down : (w : ℕ) (t : Bool) (n q m k m' k' : ℕ) → IsBase w k m → IsEarlier m' k' m k → IsInFront w t n q m k → IsInFront w t n q m' k'
front_down w t n q m k m' k' base earlier front =
    let le = earlier_le m' k' m k earlier in
    let parents = div_up m' m (w - n) le in
    elim front [
      | inl less ↦ inl (omega (arith, parents, less))
      | inr at ↦ elim (cases_lt (m' / 2 ^ (w - n)) q) [
        | inl less ↦ inl less
        | inr ge ↦
            let here = at.0 in
            let same : m' / 2 ^ (w - n) ≡ q = omega (arith, parents, here, ge) in
            elim (at.1) [
              | inl through ↦ inr (same, inl through)
              | inr few ↦
                  let none = finer m (w - n) (w - k) (omega (arith, few)) base.2 in
                  let equal = start_is_least m' m (w - n) le none (same ∙ sym here) in
                  elim earlier [
                    | inl l ↦ absurd (omega (arith, l, equal))
                    | inr e ↦ inr (same, inr (let l = e.1 in omega (arith, l, few)))
                  ]
            ]
      ]
    ]

-- where one is in front all up to it are
pub front_to : (w : ℕ) (t : Bool) (n q : ℕ) (fs bs : List ℕ) (j k : ℕ) → AreRising w fs bs → j < k + 1 → k < length fs
    → IsInFront w t n q (get_or fs k 0) (get_or bs k 0) → IsInFront w t n q (get_or fs j 0) (get_or bs j 0)
front_to w t n q fs bs j k rising l m front = elim (cases_lt j k) [
  | inl lt ↦ front_down w t n q _ _ _ _ (rising.bases k m) (rising.order j k lt m) front
  | inr ge ↦ let same : k ≡ j = omega (arith, l, ge) in subst (λ i. IsInFront w t n q (get_or fs i 0) (get_or bs i 0)) same front
]

-- whether a network of these numbers lies within the one of n bits whose addresses have q for these
abbrev inside : (w n q m k : ℕ) → Bool
inside w n q m k = not (ltb k n) && nat_eq (m / 2 ^ (w - n)) q

-- one that is in front isn't within
front_outside : (w n q m k : ℕ) → IsInFront w false n q m k → inside w n q m k ≡ false
front_outside w n q m k front = elim (cases_lt k n) [
  | inl lt ↦ ap (λ b. not b && nat_eq (m / 2 ^ (w - n)) q) (lt-ltb k n lt)
  | inr ge ↦ ap (λ b. not b && nat_eq (m / 2 ^ (w - n)) q) (le-ltb k n ge) ∙ elim front [
    | inl less ↦ ne_eqb _ _ (λ e. absurd (omega (arith, less, e)))
    | inr at ↦ elim (at.1) [
      | inl f ↦ absurd (let no : false ≡ true = f in cc no)
      | inr l ↦ absurd (omega (arith, l, ge))
    ]
  ]
]

-- nor is one that is behind
behind_outside : (w n q m k : ℕ) → (IsInFront w true n q m k → ⊥) → inside w n q m k ≡ false
behind_outside w n q m k apart = elim (cases_lt k n) [
  | inl lt ↦ ap (λ b. not b && nat_eq (m / 2 ^ (w - n)) q) (lt-ltb k n lt)
  | inr ge ↦ ap (λ b. not b && nat_eq (m / 2 ^ (w - n)) q) (le-ltb k n ge) ∙ ne_eqb _ _ (λ e. apart (inr (e, inl refl)))
]

-- and one that is neither is
between_inside : (w n q m k : ℕ) → (IsInFront w false n q m k → ⊥) → IsInFront w true n q m k → inside w n q m k ≡ true
between_inside w n q m k apart front = elim front [
  | inl less ↦ absurd (apart (inl less))
  | inr at ↦ elim (cases_lt k n) [
    | inl lt ↦ absurd (apart (inr (at.0, inr lt)))
    | inr ge ↦ ap (λ b. not b && nat_eq (m / 2 ^ (w - n)) q) (le-ltb k n ge) ∙ eq-eqb _ _ (at.0)
  ]
]

-- the test of a row by its numbers
test_at : {A V : Type 0} (w : ℕ) (number : A → ℕ) (net : Net A) (rows : List (Net A × V)) (k : ℕ) → k < length rows
    → get_or (each (is_inside w number net) rows) k false
    ≡ inside w net.bits (number net.base / 2 ^ (w - net.bits)) (get_or (base_numbers number rows) k 0) (get_or (bit_counts rows) k 0)
test_at w number net [] k l = absurd (omega (arith, l))
test_at w number net (r ∷ rs) zero l = refl
test_at w number net (r ∷ rs) (suc k) l = test_at w number net rs k (omega (arith, l))

-- in front of those within is in front of those behind
through : (w n q m k : ℕ) → IsInFront w false n q m k → IsInFront w true n q m k
through w n q m k front = elim front [ inl less ↦ inl less | inr at ↦ inr (at.0, inl refl) ]

-- those in front of the networks within another come before those behind
pub cuts_in_order : (w n q : ℕ) (fs bs : List ℕ) (from to : ℕ) → AreInFront w false n q fs bs from → AreInFront w true n q fs bs to → from ≤ to
cuts_in_order w n q fs bs from to x y = parted_in_order _ _ _ _ (length fs) from to (λ k p apart. apart (through w n q _ _ p)) x y

-- the rows between are those within
pub part_within : {A V : Type 0} (w : ℕ) (number : A → ℕ) (net : Net A) (rows : List (Net A × V)) (from to : ℕ)
    → AreInFront w false net.bits (number net.base / 2 ^ (w - net.bits)) (base_numbers number rows) (bit_counts rows) from
    → AreInFront w true net.bits (number net.base / 2 ^ (w - net.bits)) (base_numbers number rows) (bit_counts rows) to
    → take (to - from) (drop from rows) ≡ filter (is_inside w number net) rows
part_within w number net rows from to x y =
    let all = length-map rows (λ r. number r.0.base) in
    let order = cuts_in_order w net.bits (number net.base / 2 ^ (w - net.bits)) _ _ from to x y in
    let end = y.within in
    filter_part (is_inside w number net) rows from to order (omega (arith, end, all))
    (λ k l. test_at w number net rows k (omega (arith, l, order, end, all)) ∙ front_outside w _ _ _ _ (x.before k l))
    (λ k l m. test_at w number net rows k (omega (arith, m, end, all)) ∙ between_inside w _ _ _ _ (x.after k l (omega (arith, m, end))) (y.before k m))
    (λ k l m. test_at w number net rows k m ∙ behind_outside w _ _ _ _ (y.after k l (omega (arith, m, all))))
