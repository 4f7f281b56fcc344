-- What the map of rows answers, by the words of tables.
use Rattle.std.proofs.Common.{◌≡◌, ℕ, zero, suc, ◌-◌, ◌/◌, ◌^◌, ◌<◌, ◌≤◌, ◌↔◌, inl, inr, Bool, ◌&&◌, cond, not, T, List, [], ◌∷◌, length, map as each, Option, Some, None, is_some, slice_get, refl, sym, ap, subst, ◌∙◌, arith}
use Rattle.std.specs.Prelude.{nat_eq}
use Rattle.std.specs.FinMap as fin
use Rattle.std.specs.List.{filter}
use Rattle.std.specs.Option.{option_map}
use Rattle.std.proofs.lemmas.Bool.{cases_lt, eq-eqb, eqb-true, le-ltb, lt-ltb}
use Rattle.std.proofs.lemmas.Cmp.{nat_list_cmp_total}
use Rattle.std.proofs.lemmas.Option.{get_or_from_slice_get}
use Rattle.nibble_map.specs.Lists.{Each, Has, IsPrefix, IsRising, is_prefix}
use Rattle.nibble_map.specs.MapQueries.{IsAncestor}
use Rattle.nibble_map.specs.Maps.{IsStored, PairMap, value_at}
use Rattle.nibble_map.proofs.ListLemmas.Parted.{is_prefix_true, prefix_by_test, prefix_length}
use Rattle.nibble_map.proofs.ListLemmas.Sorted.{tied_lists_equal}
use Rattle.nibble_map.proofs.MapLemmas.Bridge.{entries-retain_keys}
use Rattle.nibble_map.proofs.MapLemmas.Edits.{walk-by_entries}
use Rattle.nibble_map.proofs.MapLemmas.SameTests.{both_true, equal_tests}
use Rattle.radix_keys.specs.Bits.{first_bits}
use Rattle.radix_keys.specs.FirstBits.{first_bits-distinct}
use Rattle.radix_keys.specs.Networks.{Net}
use Rattle.radix_keys.proofs.BitLemmas.{first_bits_prefix}
use Rattle.radix_trie.specs.Views.{IsPairAbove, pair_of_list, pairs_above, pairs_below}
use Rattle.frozen_routes.specs.Nearest.{IsNearestRow}
use Rattle.frozen_routes.specs.Routes.{AreRowsInOrder, IsFoundRow, IsLongestAround, IsLongestRow, IsOwnRow, IsValueOf, is_around, is_holder, is_inside}
use Rattle.frozen_routes.proofs.RouteLemmas.Nearest.{around_is_nearest, as_many_bits, longest_is_nearest}
use Rattle.frozen_trie.specs.Frozen.{codes_of}
use Rattle.frozen_trie.proofs.FrozenLemmas.Queries.{as_many, not_true, stored_index}
use Rattle.frozen_trie.proofs.FrozenLemmas.Rows.{code_of_pair, entries_are_rows, filter_rows, get_at, len_is}
use Rattle.frozen_networks.specs.Networks.{IsNetwork, network_code, network_map}
use Rattle.frozen_networks.proofs.OrderLemmas.{rows_of_networks, rows_rise}

module _ {X : Type 0} where
  -- tests that say the same of each item keep the same items
  filter_alike : (s t : X → Bool) (xs : List X) → Each (λ x. s x ≡ t x) xs → filter s xs ≡ filter t xs
  filter_alike s t [] h = refl
  filter_alike s t (x ∷ xs) h = ap (λ b. cond b (x ∷ filter s xs) (filter s xs)) h.0 ∙ ap (λ l. cond (t x) (x ∷ l) l) (filter_alike s t xs h.1)

  -- what follows of each item holds of each
  each_follows : (P Q : X → Type 0) (xs : List X) → ((x : X) → P x → Q x) → Each P xs → Each Q xs
  each_follows P Q [] f h = tt
  each_follows P Q (x ∷ xs) f h = (f x h.0, each_follows P Q xs f h.1)

  -- the item at an index, of which what holds of each holds
  item_at : (P : X → Type 0) (xs : List X) (i : ℕ) → Each P xs → i < length xs → (x : X) × (slice_get xs i ≡ Some x) × P x × Has xs x
  item_at P [] i h l = absurd (omega (arith, l))
  item_at P (x ∷ xs) zero h l = (x, refl, h.0, inl refl)
  item_at P (x ∷ xs) (suc i) h l = let r = item_at P xs i h.1 (omega (arith, l)) in (r.0, r.1, r.2, inr r.3)

  -- a stored item is within the list
  item_within : (xs : List X) (i : ℕ) (x : X) → slice_get xs i ≡ Some x → i < length xs
  item_within [] i x e = absurd (cc e)
  item_within (y ∷ ys) zero x e = omega arith
  item_within (y ∷ ys) (suc i) x e = let l = item_within ys i x e in omega (arith, l)

  -- an item of a list is stored at an index
  item_stored : (xs : List X) (x : X) → Has xs x → (i : ℕ) × (slice_get xs i ≡ Some x)
  item_stored [] x h = absurd h
  item_stored (y ∷ ys) x (inl e) = (0, ap Some (sym e))
  item_stored (y ∷ ys) x (inr h) = let r = item_stored ys x h in (suc r.0, r.1)

-- where a value is found something is stored
value_stored : {K V : Type 0} (o : Option (K × V)) (v : V) → Some v ≡ option_map (λ p. p.1) o → T (is_some o)
value_stored None v e = absurd (cc e)
value_stored (Some p) v e = tt

-- one thing is found at most
found_once : {X : Type 0} (x y : X) → Some x ≡ Some y → x ≡ y
found_once x y e = cc e

-- what is found isn't absent
found_not_absent : {X : Type 0} (x : X) → None ≡ Some x → ⊥
found_not_absent x e = cc e

module _ {A : Type 0} (w : ℕ) (number : A → ℕ) where
  -- networks of one list are of one base and as many bits
  one_network : (x y : Net A) → IsNetwork w number x → IsNetwork w number y → network_code w number x ≡ network_code w number y
      → (number x.base ≡ number y.base) × (x.bits ≡ y.bits)
  one_network x y p q e =
      let both = both_true _ _ (first_bits-distinct w (number x.base) x.bits (number y.base) y.bits p q e) in
      (eqb-true _ _ both.0, eqb-true _ _ both.1)

module _ {A V : Type 0} (w : ℕ) (number : A → ℕ) where
  -- whether a row's network agrees with another one in all the bits of that
  abbrev same_first : Net A → Net A × V → Bool
  same_first net r = nat_eq (number r.0.base / 2 ^ (w - net.bits)) (number net.base / 2 ^ (w - net.bits))

  -- and another network's where that lies within it
  inside_by_prefix : (net : Net A) → IsNetwork w number net → (r : Net A × V) → IsNetwork w number r.0
      → is_prefix (network_code w number net) (network_code w number r.0) ≡ is_inside w number net r
  inside_by_prefix net is r at = elim (cases_lt r.0.bits net.bits) [
    | inl lt ↦
        not_true (is_prefix (network_code w number net) (network_code w number r.0)) (λ t.
        let longer = prefix_length (network_code w number net) (network_code w number r.0) (prefix_by_test _ _ t) in
        omega (arith, lt, longer, as_many_bits w net.bits (number net.base) is, as_many_bits w r.0.bits (number r.0.base) at))
        ∙ sym (ap (λ b. not b && same_first net r) (lt-ltb r.0.bits net.bits lt))
    | inr ge ↦
        let both = first_bits_prefix w (number net.base) (number r.0.base) net.bits r.0.bits is.0 at.0 ge at.1 in
        equal_tests (is_prefix (network_code w number net) (network_code w number r.0)) (same_first net r)
        (λ t. eq-eqb _ _ (sym (both.0 (prefix_by_test _ _ t)))) (λ t. is_prefix_true _ _ (both.1 (sym (eqb-true _ _ t))))
        ∙ sym (ap (λ b. not b && same_first net r) (le-ltb r.0.bits net.bits ge))
  ]

  -- it begins another network's where it holds all of that
  around_by_prefix : (net : Net A) → IsNetwork w number net → (r : Net A × V) → IsNetwork w number r.0
      → is_prefix (network_code w number r.0) (network_code w number net) ≡ is_around w number net r
  around_by_prefix net is r at = elim (cases_lt net.bits r.0.bits) [
    | inl lt ↦
        not_true (is_prefix (network_code w number r.0) (network_code w number net)) (λ t.
        let longer = prefix_length (network_code w number r.0) (network_code w number net) (prefix_by_test _ _ t) in
        omega (arith, lt, longer, as_many_bits w net.bits (number net.base) is, as_many_bits w r.0.bits (number r.0.base) at))
        ∙ sym (ap (λ b. not b && is_holder w number (number net.base) r) (lt-ltb net.bits r.0.bits lt))
    | inr ge ↦
        let both = first_bits_prefix w (number r.0.base) (number net.base) r.0.bits net.bits at.0 is.0 ge is.1 in
        equal_tests (is_prefix (network_code w number r.0) (network_code w number net)) (is_holder w number (number net.base) r)
        (λ t. eq-eqb _ _ (both.0 (prefix_by_test _ _ t))) (λ t. is_prefix_true _ _ (both.1 (eqb-true _ _ t)))
        ∙ sym (ap (λ b. not b && is_holder w number (number net.base) r) (le-ltb net.bits r.0.bits ge))
  ]

module _ {A V : Type 0} (w : ℕ) (number : A → ℕ) (rows : List (Net A × V)) (rising : AreRowsInOrder w number rows) where
  -- the bits of a network
  abbrev code : Net A → List ℕ
  code net = network_code w number net

  -- the map of the rows
  abbrev mapped : PairMap (Net A) V
  mapped = network_map w number rows

  -- the lists rise
  rise : IsRising (codes_of code rows)
  rise = rows_rise w number rows rising

  -- the rows are of networks
  networks : Each (λ r. IsNetwork w number r.0) rows
  networks = rows_of_networks w number rows rising

  -- the map has as many pairs as there are rows
  pub count_is : fin.len mapped ≡ length rows
  count_is = sym (len_is code rows rise)

  -- what the map has below a network are the rows within it
  pub below_is_inside : (net : Net A) → IsNetwork w number net → pairs_below mapped (code net) ≡ filter (is_inside w number net) rows
  below_is_inside net is =
      ap (each (λ e. e.1)) (walk-by_entries mapped (code net) ∙ ap (filter (λ e. is_prefix (code net) e.0)) (entries_are_rows code rows rise))
      ∙ filter_rows code (is_prefix (code net)) rows
      ∙ filter_alike _ _ rows (each_follows _ _ rows (inside_by_prefix w number net is) networks)

  -- what it has above a network are the rows whose networks hold all of it
  pub above_is_around : (net : Net A) → IsNetwork w number net → pairs_above mapped (code net) ≡ filter (is_around w number net) rows
  above_is_around net is =
      let q = code net in
      ap (each (λ e. e.1)) (entries-retain_keys _ nat_list_cmp_total tied_lists_equal mapped (λ p. is_prefix p q) ∙ ap (filter (λ e. is_prefix e.0 q)) (entries_are_rows code rows rise))
      ∙ filter_rows code (λ c. is_prefix c q) rows
      ∙ filter_alike _ _ rows (each_follows _ _ rows (around_by_prefix w number net is) networks)

  -- a row is found at its list
  row_found : (i : ℕ) (r : Net A × V) (q : List ℕ) → slice_get rows i ≡ Some r → code r.0 ≡ q → fin.get mapped q ≡ Some r
  row_found i r q stored same =
      let within = item_within rows i r stored in
      let at = sym (get_or_from_slice_get rows i r r stored) in
      get_at code rows q i r rise within at (code_of_pair code rows i r within at ∙ same)

  -- what is stored is a row at its list
  stored_row : (x : List ℕ) → IsStored mapped x
      → (r : Net A × V) × (i : ℕ) × (slice_get rows i ≡ Some r) × (code r.0 ≡ x) × IsNetwork w number r.0 × Has rows r
  stored_row x s =
      let at = stored_index code rows rise x s in
      let within : at.0 < length rows = (let l = at.1 in omega (arith, l, as_many code rows rise)) in
      let row = item_at (λ r. IsNetwork w number r.0) rows at.0 networks within in
      let same = code_of_pair code rows at.0 row.0 within (sym (get_or_from_slice_get rows at.0 row.0 row.0 row.1)) in
      (row.0, at.0, row.1, sym same ∙ at.2, row.2, row.3)

  -- a pair of the map stands at its network's list
  pub stands_at_bits : (q : List ℕ) (r : Net A × V) → fin.get mapped q ≡ Some r → q ≡ code r.0
  stands_at_bits q r found =
      let row = stored_row q (subst (λ o. T (is_some o)) (sym found) tt) in
      let same : r ≡ row.0 = found_once r row.0 (sym found ∙ row_found row.1 row.0 q row.2 row.3) in
      sym row.3 ∙ ap (λ s. code s.0) (sym same)

  -- a row of the network is found at its list
  own_found : (net : Net A) (r : Net A × V) → IsOwnRow number rows net r → fin.get mapped (code net) ≡ Some r
  own_found net r own =
      row_found own.at r (code net) own.stored (ap (λ b. first_bits w b r.0.bits) own.base ∙ ap (λ k. first_bits w (number net.base) k) own.bits)

  -- what is stored at a network's list is its row
  stored_own : (net : Net A) → IsNetwork w number net → IsStored mapped (code net) → (r : Net A × V) × IsOwnRow number rows net r
  stored_own net is s =
      let row = stored_row (code net) s in
      let same = one_network w number row.0.0 net row.4 is row.3 in
      (row.0, record { at = row.1; stored = row.2; base = same.0; bits = same.1 })

  -- the row of a network is the pair at its list
  pub row_is_stored : (net : Net A) → IsNetwork w number net → (found : Option (Net A × V)) → IsFoundRow number rows net found ↔ (found ≡ fin.get mapped (code net))
  row_is_stored net is None = (λ none. absent (fin.get mapped (code net)) refl none, λ e r own. found_not_absent r (e ∙ own_found net r own))
    where
      absent : (o : Option (Net A × V)) → fin.get mapped (code net) ≡ o → ((r : Net A × V) → IsOwnRow number rows net r → ⊥) → None ≡ fin.get mapped (code net)
      absent None e none = sym e
      absent (Some p) e none = (let own = stored_own net is (subst (λ o. T (is_some o)) (sym e) tt) in absurd (none own.0 own.1))
  row_is_stored net is (Some r) = (
    λ own. sym (own_found net r own),
    λ e.
        let own = stored_own net is (subst (λ o. T (is_some o)) e tt) in
        subst (IsOwnRow number rows net) (sym (found_once r own.0 (e ∙ own_found net own.0 own.1))) own.1,
  )

  -- the value of a network is the one at its list
  pub value_is_stored : (net : Net A) → IsNetwork w number net → (found : Option V) → IsValueOf number rows net found ↔ (found ≡ value_at mapped (code net))
  value_is_stored net is None = (
    λ none. absent (fin.get mapped (code net)) refl none,
    λ e r own. found_not_absent r.1 (e ∙ ap (option_map (λ p. p.1)) (own_found net r own)),
  )
    where
      absent : (o : Option (Net A × V)) → fin.get mapped (code net) ≡ o → ((r : Net A × V) → IsOwnRow number rows net r → ⊥) → None ≡ option_map (λ p. p.1) (fin.get mapped (code net))
      absent None e none = sym (ap (option_map (λ p. p.1)) e)
      absent (Some p) e none = (let own = stored_own net is (subst (λ o. T (is_some o)) (sym e) tt) in absurd (none own.0 own.1))
  value_is_stored net is (Some v) = (
    λ own. ap Some own.2 ∙ sym (ap (option_map (λ p. p.1)) (own_found net own.0 own.1)),
    λ e.
        let own = stored_own net is (value_stored (fin.get mapped (code net)) v e) in
        (own.0, own.1, found_once v own.0.1 (e ∙ ap (option_map (λ p. p.1)) (own_found net own.0 own.1))),
  )

  module _ (q : List ℕ) where
    -- a row is stored at its list
    row_stored : (r : Net A × V) → Has rows r → IsStored mapped (code r.0) × (fin.get mapped (code r.0) ≡ Some r)
    row_stored r has =
        let at = item_stored rows r has in
        let found = row_found at.0 r (code r.0) at.1 refl in
        (subst (λ o. T (is_some o)) (sym found) tt, found)

    -- the pair above a list is the row nearest to it
    above_is_nearest : (found : Option (Net A × V)) (a : Option (List ℕ)) → IsAncestor mapped q a → found ≡ pair_of_list mapped a → IsNearestRow w number rows q found
    above_is_nearest None None above e = λ r has begun. above (code r.0) (row_stored r has).0 begun
    above_is_nearest (Some r) None above e = absurd (found_not_absent r (sym e))
    above_is_nearest None (Some x) above e = (let row = stored_row x above.member in absurd (found_not_absent row.0 (e ∙ row_found row.1 row.0 x row.2 row.3)))
    above_is_nearest (Some r) (Some x) above e =
        let row = stored_row x above.member in
        let same : row.0 ≡ r = sym (found_once r row.0 (e ∙ row_found row.1 row.0 x row.2 row.3)) in
        subst (λ s. IsNearestRow w number rows q (Some s)) same (
          row.5,
          subst (λ l. IsPrefix l q) (sym row.3) above.above,
          λ s has begun. subst (λ l. length (code s.0) ≤ length l) (sym row.3) (above.longest (code s.0) (row_stored s has).0 begun),
        )

    -- and back
    nearest_is_above : (found : Option (Net A × V)) → IsNearestRow w number rows q found → IsPairAbove mapped q found
    nearest_is_above None h = (None, λ x s begun. let row = stored_row x s in h row.0 row.5 (subst (λ l. IsPrefix l q) (sym row.3) begun), refl)
    nearest_is_above (Some r) h = (
      Some (code r.0),
      record {
        member = (row_stored r h.0).0;
        above = h.1;
        longest = λ x s begun.
            let row = stored_row x s in
            subst (λ l. length l ≤ length (code r.0)) row.3 (h.2 row.0 row.5 (subst (λ l. IsPrefix l q) (sym row.3) begun));
      },
      sym (row_stored r h.0).1,
    )

  -- the row of the longest network around another one is the pair above that
  pub longest_is_above : (net : Net A) → IsNetwork w number net → (found : Option (Net A × V)) → IsLongestAround w number rows net found ↔ IsPairAbove mapped (code net) found
  longest_is_above net is found =
      let both = around_is_nearest w number rows rising net is found in
      (λ h. nearest_is_above (code net) found (both.0 h), λ h. both.1 (above_is_nearest (code net) found h.0 h.1 h.2))

  -- and so is the longest that holds an address
  pub address_is_above : (n : ℕ) → n < 2 ^ w → (found : Option (Net A × V)) → IsLongestRow w number rows n found ↔ IsPairAbove mapped (first_bits w n w) found
  address_is_above n fits found =
      let both = longest_is_nearest w number rows rising n fits found in
      (λ h. nearest_is_above (first_bits w n w) found (both.0 h), λ h. both.1 (above_is_nearest (first_bits w n w) found h.0 h.1 h.2))
