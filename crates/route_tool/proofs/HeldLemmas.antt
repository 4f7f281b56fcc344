-- Routes that stand in order, with a trie of them or with none.
use Rattle.std.proofs.Common.{◌≡◌, ◌∙◌, ℕ, zero, suc, ◌-◌, ◌/◌, ◌^◌, ◌≤◌, Bool, true, false, ◌&&◌, not, cond, true≢false, List, [], ◌∷◌, length, length-append, map as each, refl, sym, ap, subst, inl, inr, arith}
use Rattle.std.specs.Cmp.Lexicographic.{slice_cmp}
use Rattle.std.specs.FinMap as map
use Rattle.std.specs.List.{filter}
use Rattle.std.specs.Ordering.{nat_cmp}
use Rattle.std.specs.Prelude.{nat_eq}
use Rattle.std.proofs.lemmas.Bool.{cases_lt, eq-eqb, le-ltb, lt-ltb, eqb-true}
use Rattle.frozen_networks.specs.Networks.{IsNetwork, network_code, network_map}
use Rattle.frozen_networks.proofs.MapLemmas.{rows_again, rows_stored}
use Rattle.frozen_networks.proofs.OrderLemmas.{rows_of_networks}
use Rattle.frozen_routes.specs.Routes.{AreRowsInOrder, is_inside}
use Rattle.nibble_map.specs.Lists.{Each, Has, IsPrefix, is_prefix}
use Rattle.nibble_map.specs.Maps.{walk}
use Rattle.nibble_map.proofs.ListLemmas.Parted.{is_prefix_true, prefix_by_test}
use Rattle.nibble_map.proofs.MapLemmas.Bridge.{from_sorted-nil}
use Rattle.nibble_map.proofs.MapLemmas.Edits.{walk-by_entries}
use Rattle.nibble_map.proofs.MapLemmas.SameTests.{equal_tests}
use Rattle.radix_keys.specs.Networks.{Net, IsBase}
use Rattle.radix_keys.proofs.BitLemmas.{first_bits_prefix, length-first_bits}
use Rattle.radix_trie.specs.Building.{with_pairs}
use Rattle.radix_trie.proofs.PathLemmas.Loci.{below-nil, no_pairs_below}
use Rattle.route_tool.specs.Routes.{Route, Routes, AreAllOrNone, AreNetworks, AreHeldRoutes, held_routes, held_by, in_order, place, routes_within, with_route}
use Rattle.route_tool.proofs.ListedLemmas.{entry_stored}

-- the empty map has no pair
pub no_pair : {A : Type 0} (m : Routes A) → m ≡ map.empty → map.len m ≡ 0
no_pair {A} m empty = ap map.len empty ∙ map.len-empty (slice_cmp nat_cmp) (Route A)

module _ {A : Type 0} (w : ℕ) (number : A → ℕ) (m : Routes A) where
  -- where the trie holds none, the rows are the routes
  pub of_rows : (rows : List (Route A)) → map.len m ≡ 0 → held_routes w number m rows ≡ network_map w number rows
  of_rows rows none = ap (λ n. held_by w number n m rows) none

  some_held : (n : ℕ) (rows : List (Route A)) → (n ≡ 0 → ⊥) → held_by w number n m rows ≡ m
  some_held zero rows some = absurd (some refl)
  some_held (suc n) rows some = refl

  -- where it holds some, they are the routes
  pub of_trie : (rows : List (Route A)) → (map.len m ≡ 0 → ⊥) → held_routes w number m rows ≡ m
  of_trie rows some = some_held (map.len m) rows some

  no_rows : (n : ℕ) → map.len m ≡ n → held_by w number n m [] ≡ m
  no_rows zero none = from_sorted-nil (slice_cmp nat_cmp) ∙ sym (map.empty_of_len m none)
  no_rows (suc n) some = refl

  -- where there are no rows, so they are too
  pub with_no_rows : (rows : List (Route A)) → rows ≡ [] → held_routes w number m rows ≡ m
  with_no_rows rows none = ap (held_routes w number m) none ∙ no_rows (map.len m) refl

  -- a trie with no pair lists none
  pub none_listed : map.len m ≡ 0 → in_order m ≡ []
  none_listed none = no_pairs_below m [] (ap map.len (below-nil m) ∙ none)

  -- where the trie holds none, the rows are all routes in order
  pub all_rows : (rows : List (Route A)) → map.len m ≡ 0 → AreAllOrNone (held_routes w number m rows) rows → in_order (held_routes w number m rows) ≡ rows
  all_rows rows none (inl empty) = ap in_order (with_no_rows rows empty) ∙ none_listed none ∙ sym empty
  all_rows rows none (inr same) = sym same

  -- a trie with all its routes as rows is a table
  pub held_by_both : (rows more : List (Route A)) → (map.len m ≡ 0 → ⊥) → AreNetworks w number (held_routes w number m rows) → more ≡ in_order m → AreHeldRoutes w number m more
  held_by_both rows more some networks all =
      (subst (AreNetworks w number) (of_trie rows some ∙ sym (of_trie more some)) networks, inr (all ∙ ap in_order (sym (of_trie more some))))

  -- a trie of networks without rows is a table
  pub held_by_trie : (rows : List (Route A)) → AreNetworks w number m → rows ≡ [] → AreHeldRoutes w number m rows
  held_by_trie rows networks none = (subst (AreNetworks w number) (sym (with_no_rows rows none)) networks, inl none)

-- networks that are stored one after the other are networks
keyed_all : {A : Type 0} (w : ℕ) (number : A → ℕ)
    → ((m : Routes A) (net : Net A) (hop : List ℕ) → AreNetworks w number m → IsNetwork w number net → AreNetworks w number (with_route w number m net hop))
    → (rows : List (Route A)) → Each (λ r. IsNetwork w number r.0) rows → (m : Routes A) → AreNetworks w number m → AreNetworks w number (with_pairs (network_code w number) m rows)
keyed_all w number one [] is m networks = networks
keyed_all w number one (r ∷ rows) is m networks = keyed_all w number one rows is.1 (with_route w number m r.0 r.1) (one m r.0 r.1 networks is.0)

-- rows in order are a table
pub held_by_rows : {A : Type 0} (w : ℕ) (number : A → ℕ)
    → ((m : Routes A) (net : Net A) (hop : List ℕ) → AreNetworks w number m → IsNetwork w number net → AreNetworks w number (with_route w number m net hop))
    → AreNetworks w number map.empty → (m : Routes A) (rows : List (Route A)) → map.len m ≡ 0 → AreRowsInOrder w number rows → AreHeldRoutes w number m rows
held_by_rows w number one empty m rows none order =
    let same = of_rows w number m rows none in (
      subst (AreNetworks w number) (rows_stored w number rows order ∙ sym same) (keyed_all w number one rows (rows_of_networks w number rows order) map.empty empty),
      inr (sym (ap in_order same ∙ rows_again w number rows order)),
    )

-- what is kept as it is, is a table as it was
pub held_still : {A : Type 0} (w : ℕ) (number : A → ℕ) (m n : Routes A) (rows more : List (Route A)) → n ≡ m → more ≡ rows → AreHeldRoutes w number m rows → AreHeldRoutes w number n more
held_still w number m n rows more same alike h = subst (λ k. AreHeldRoutes w number k more) (sym same) (subst (AreHeldRoutes w number m) (sym alike) h)

-- an entry passes a test of its list where its pair passes one that says the same
same_part : {A : Type 0} (test : Route A → Bool) (q : List ℕ) (es : List (List ℕ × Route A)) → ((e : List ℕ × Route A) → Has es e → test e.1 ≡ is_prefix q e.0)
    → filter test (each (λ e. e.1) es) ≡ each (λ e. e.1) (filter (λ e. is_prefix q e.0) es)
same_part test q [] same = refl
same_part test q (e ∷ es) same =
    ap (λ b. cond b (e.1 ∷ filter test (each (λ e. e.1) es)) (filter test (each (λ e. e.1) es))) (same e (inl refl))
    ∙ by (is_prefix q e.0) (same_part test q es (λ f has. same f (inr has)))
  where
    by : (b : Bool) → filter test (each (λ e. e.1) es) ≡ each (λ e. e.1) (filter (λ e. is_prefix q e.0) es)
        → cond b (e.1 ∷ filter test (each (λ e. e.1) es)) (filter test (each (λ e. e.1) es))
        ≡ each (λ e. e.1) (cond b (e ∷ filter (λ e. is_prefix q e.0) es) (filter (λ e. is_prefix q e.0) es))
    by true rest = ap (λ l. e.1 ∷ l) rest
    by false rest = rest

all_begun : {P : Type 0} (es : List (List ℕ × P)) → filter (λ e. is_prefix [] e.0) es ≡ es
all_begun [] = refl
all_begun (e ∷ es) = ap (λ l. e ∷ l) (all_begun es)

module _ {A : Type 0} (w : ℕ) (number : A → ℕ) (net : Net A) (is : IsBase w net.bits (number net.base)) where
  -- a network of fewer bits lies in none of more
  too_wide : (r : Route A) → r.0.bits ≤ w → IsPrefix (place w number net) (place w number r.0) → net.bits ≤ r.0.bits
  too_wide r within (rest, e) =
      omega (arith, is.1, within, ap length e, length-append (place w number net) rest, length-first_bits w (number net.base) net.bits, length-first_bits w (number r.0.base) r.0.bits)

  -- whether a network lies within another one, the bits tell
  inside_by_bits : (r : Route A) → IsBase w r.0.bits (number r.0.base) → is_inside w number net r ≡ is_prefix (place w number net) (place w number r.0)
  inside_by_bits r base =
      elim (cases_lt r.0.bits net.bits) [
        | inl lt ↦
            (let no : is_inside w number net r ≡ false = ap (λ b. not b && nat_eq (number r.0.base / 2 ^ (w - net.bits)) (number net.base / 2 ^ (w - net.bits))) (lt-ltb r.0.bits net.bits lt) in
            equal_tests _ _ (λ t. absurd (true≢false (sym t ∙ no))) (λ t. absurd (let le = too_wide r base.1 (prefix_by_test _ _ t) in omega (arith, le, lt))))
        | inr ge ↦
            (let quotients = first_bits_prefix w (number net.base) (number r.0.base) net.bits r.0.bits is.0 base.0 ge base.1 in
            let same : is_inside w number net r ≡ nat_eq (number r.0.base / 2 ^ (w - net.bits)) (number net.base / 2 ^ (w - net.bits)) =
            ap (λ b. not b && nat_eq (number r.0.base / 2 ^ (w - net.bits)) (number net.base / 2 ^ (w - net.bits))) (le-ltb r.0.bits net.bits ge) in
            equal_tests _ _ (λ t. is_prefix_true _ _ (quotients.1 (sym (eqb-true _ _ (sym same ∙ t)))))
            (λ t. same ∙ eq-eqb _ _ (sym (quotients.0 (prefix_by_test _ _ t)))))
      ]

  -- the rows within a network are the routes within it
  pub rows_within : (m : Routes A) → AreNetworks w number m → filter (is_inside w number net) (in_order m) ≡ routes_within w number m net
  rows_within m networks =
      same_part (is_inside w number net) (place w number net) (walk m [])
      (λ e has. let key = networks e.0 e.1 (entry_stored w number m networks e.0 e.1 has) in inside_by_bits e.1 key.1 ∙ ap (is_prefix (place w number net)) (sym key.0))
      ∙ ap (each (λ e. e.1)) (ap (filter (λ e. is_prefix (place w number net) e.0)) (walk-by_entries m [] ∙ all_begun (map.entries m)) ∙ sym (walk-by_entries m (place w number net)))
