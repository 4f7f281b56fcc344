-- Lists of routes, with their hops as texts and as numbers.
use Rattle.std.proofs.Common.{◌≡◌, ◌∙◌, ℕ, zero, suc, ◌<◌, ◌≤◌, ◌^◌, ◌↔◌, List, [], ◌∷◌, ◌++◌, ◌+◌, length, take, get_or, map as each, Option, Some, None, option_map, T, refl, sym, ap, subst, inl, inr, arith}
use Rattle.std.specs.Borrow.{Bor}
use Rattle.std.specs.Cmp.Lexicographic.{slice_cmp}
use Rattle.std.specs.FinMap as map
use Rattle.std.specs.FinMap.Entries.{below_all}
use Rattle.std.specs.List.{All, AllPairs, AllZip, Contains, HoldsAt}
use Rattle.std.specs.Ordering.{is_lt, nat_cmp}
use Rattle.std.specs.declared.cmp.Ordering.TheVariants.{Less, Greater}
use Rattle.std.proofs.lemmas.Bool.{cases_lt}
use Rattle.std.proofs.lemmas.Cmp.{nat_list_cmp_total}
use Rattle.std.proofs.lemmas.List.{get_or-map, length-map, take_more}
use Rattle.std.proofs.lemmas.List.Elements.{All-nil, All-cons, All-head, All-tail, All-map, All-weaker, All-contains, All-contains_itself}
use Rattle.std.proofs.lemmas.List.Kept.{AllPairs-cons}
use Rattle.least_routes.specs.Routes as numbers
use Rattle.least_routes.specs.declared.routes.Route as chosen
use Rattle.least_routes.proofs.LeastLemmas.{IsLeast}
use Rattle.nibble_map.specs.Lists.{Has}
use Rattle.nibble_map.specs.Maps.{walk, below}
use Rattle.nibble_map.proofs.MapLemmas.Bridge.{first_of_both, second_of_both, less_by_test, greater_by_less}
use Rattle.radix_keys.specs.Bits.{first_bits}
use Rattle.radix_keys.specs.Networks.{Net}
use Rattle.radix_keys.specs.Order as lists
use Rattle.radix_keys.proofs.BitLemmas.{network_order}
use Rattle.route_tool.specs.Aggregates.{Holds, IsAggregate, IsToNetwork, ListGives, IsRouteBefore, TableGives, route_of}
use Rattle.route_tool.specs.Numbers.{AreNumbered, IsRowOf, numbered}
use Rattle.route_tool.specs.Routes.{Route, Routes, AreNetworks, IsHolder, in_order, place}
use Rattle.route_tool.proofs.ListedLemmas.{changed_has, entry_stored, has_changed, listed, stored}

-- what holds of each of a changed list
all_changed : {X Y : Type 0} (P : Y → Type 0) (f : X → Y) (xs : List X) → All P (each f xs) → All (λ x. P (f x)) xs
all_changed P f xs all k d lt = subst P (get_or-map f xs k d (f d) lt) (all k (f d) (subst (λ n. k < n) (sym (length-map xs f)) lt))

-- what holds of each two of a changed list
pairs_changed : {X Y : Type 0} (R : Y → Y → Type 0) (f : X → Y) (xs : List X) → AllPairs R (each f xs) → AllPairs (λ x y. R (f x) (f y)) xs
pairs_changed R f xs all i j d lt le =
    let before : i < length xs = omega arith in
    subst (λ y. R (f (get_or xs i d)) y) (get_or-map f xs j d (f d) le)
    (subst (λ x. R x (get_or (each f xs) j (f d))) (get_or-map f xs i d (f d) before)
    (all i j (f d) lt (subst (λ n. j < n) (sym (length-map xs f)) le)))

changed_pairs : {X Y : Type 0} (R : Y → Y → Type 0) (f : X → Y) (xs : List X) → AllPairs (λ x y. R (f x) (f y)) xs → AllPairs R (each f xs)
changed_pairs R f [] all = λ i j d lt le. absurd (omega arith)
changed_pairs R f (x ∷ xs) all = λ i j d lt le.
    let within : j < length (x ∷ xs) = subst (λ n. j < n) (length-map (x ∷ xs) f) le in
    let before : i < length (x ∷ xs) = omega arith in
    subst (R (get_or (each f (x ∷ xs)) i d)) (sym (get_or-map f (x ∷ xs) j x d within))
    (subst (λ y. R y (f (get_or (x ∷ xs) j x))) (sym (get_or-map f (x ∷ xs) i x d before)) (all i j x lt within))

-- of two lists one precedes the other at most
one_way : (p q : List ℕ) → lists.Precedes p q → lists.Precedes q p → ⊥
one_way p q h back =
    let more : slice_cmp nat_cmp p q ≡ Greater = greater_by_less (slice_cmp nat_cmp) nat_list_cmp_total q p (subst (λ o. T (is_lt o)) (sym back) tt) in
    let both : Less ≡ Greater = sym h ∙ more in
    cc

-- the text at a place of some hops
text_at : List (Bor (List ℕ)) → ℕ → List ℕ
text_at hops n = get_or (each (λ h. h.now) hops) n []

-- it is the hop that stands there
text_is : (hops : List (Bor (List ℕ))) (n : ℕ) (hop : List ℕ) → n < length hops → HoldsAt (λ h. h.now ≡ hop) hops n → text_at hops n ≡ hop
unfolding text_at
text_is [] n hop lt at = absurd (omega arith)
text_is (h ∷ hops) zero hop lt at = at h
text_is (h ∷ hops) (suc n) hop lt at = text_is hops n hop (omega arith) at

module _ {A : Type 0} (w : ℕ) (number : A → ℕ) where
  module _ (code : List ℕ → ℕ) where
    -- what a list gives, the numbers answer
    answers : (rs : List (Route A)) (n : ℕ) (hop : Option (List ℕ)) → ListGives w number rs n hop → numbers.IsHopOf w (each (numbered number code) rs) n (option_map code hop)
    answers rs n hop (None, none, is) =
        subst (λ h. numbers.IsHopOf w (each (numbered number code) rs) n (option_map code h)) (sym is) (All-map (λ x. ¬ (numbers.HoldsNumber w x n)) (numbered number code) rs none)
    answers rs n hop (Some r, (at, holds, most), is) =
        let (k, lt, e) = changed_has (numbered number code) rs r at in
        subst (λ h. numbers.IsHopOf w (each (numbered number code) rs) n (option_map code h)) (sym is)
        (k, numbered number code r, lt, e, ((holds, All-map (λ x. numbers.HoldsNumber w x n → x.bits ≤ r.0.bits) (numbered number code) rs most), refl))

    -- what the numbers answer, the list gives
    gives : (rs : List (Route A)) (n : ℕ) (o : Option ℕ) → numbers.IsHopOf w (each (numbered number code) rs) n o
        → (hop : Option (List ℕ)) × ListGives w number rs n hop × (o ≡ option_map code hop)
    gives rs n None none = (None, (None, all_changed (λ x. ¬ (numbers.HoldsNumber w x n)) (numbered number code) rs none, refl), refl)
    gives rs n (Some h) (k, x, lt, e, ((holds, most), is)) =
        let (r, at, same) = has_changed (numbered number code) rs x (k, lt, e) in (
          Some r.1,
          (
            Some r,
            (
              at,
              subst (λ y. numbers.HoldsNumber w y n) (sym same) holds,
              all_changed (λ y. numbers.HoldsNumber w y n → y.bits ≤ r.0.bits) (numbered number code) rs
                  (subst (λ (z : chosen.Route). All (λ y. numbers.HoldsNumber w y n → y.bits ≤ z.bits) (each (numbered number code) rs)) (sym same) most),
            ),
            refl,
          ),
          ap (λ y. Some y) (sym is ∙ ap (λ (y : chosen.Route). y.hop) (sym same)),
        )

    -- what numbers answer follows from what the list gives
    carried : (rs ss : List (Route A)) (n : ℕ) (o : Option ℕ) → ((hop : Option (List ℕ)) → ListGives w number rs n hop → ListGives w number ss n hop)
        → numbers.IsHopOf w (each (numbered number code) rs) n o → numbers.IsHopOf w (each (numbered number code) ss) n o
    carried rs ss n o to answer =
        let (hop, given, is) = gives rs n o answer in
        subst (numbers.IsHopOf w (each (numbered number code) ss) n) (sym is) (answers ss n hop (to hop given))

    -- lists that give the same hops answer the same numbers
    same_numbers : (rs ss : List (Route A)) → ((n : ℕ) (hop : Option (List ℕ)) → n < 2 ^ w → ListGives w number rs n hop ↔ ListGives w number ss n hop)
        → numbers.HaveSameAnswers w (each (numbered number code) rs) (each (numbered number code) ss)
    same_numbers rs ss same n o lt = (carried rs ss n o (λ hop. (same n hop lt).0), carried ss rs n o (λ hop. (same n hop lt).1))

    module _ (text : ℕ → List ℕ) where
      -- the number of the route's hop tells the hop
      abbrev IsTold : Route A → Type 0
      IsTold r = text (code r.1) ≡ r.1

      -- a given hop is told by its number
      given_told : (rs : List (Route A)) (n : ℕ) (hop : Option (List ℕ)) → All IsTold rs → ListGives w number rs n hop → option_map text (option_map code hop) ≡ hop
      given_told rs n hop told (None, _, is) = ap (λ h. option_map text (option_map code h)) is ∙ sym is
      given_told rs n hop told (Some r, (at, _, _), is) = ap (λ h. option_map text (option_map code h)) is ∙ ap (λ h. Some h) (All-contains IsTold rs r told at) ∙ sym is

      -- where numbers tell the hops, lists that answer the same numbers give the same hops
      same_hops : (rs ss : List (Route A)) → All IsTold rs → All IsTold ss → (n : ℕ) (hop : Option (List ℕ))
          → (numbers.IsHopOf w (each (numbered number code) rs) n (option_map code hop) → numbers.IsHopOf w (each (numbered number code) ss) n (option_map code hop))
          → ListGives w number rs n hop → ListGives w number ss n hop
      same_hops rs ss told also n hop to given =
          let (found, other, is) = gives ss n (option_map code hop) (to (answers rs n hop given)) in
          subst (ListGives w number ss n) (sym (given_told ss n found also other) ∙ ap (option_map text) (sym is) ∙ given_told rs n hop told given) other

  module _ (m : Routes A) (networks : AreNetworks w number m) where
    -- a holder is a listed route that holds the address
    holder : (n : ℕ) (r : Route A) → Contains (in_order m) r → Holds w number n r → IsHolder w number m n r
    holder n r at holds = let (got, base) = stored w number m networks r at in record { stored = got; base = base; holds = sym holds }

    -- what is so of each listed route
    all_listed : (P : Route A → Type 0) → ((r : Route A) → Contains (in_order m) r → P r) → All P (in_order m)
    all_listed P each = All-weaker (Contains (in_order m)) P each (in_order m) (All-contains_itself (in_order m))

    -- the table gives what the list of its routes gives
    table_gives : (n : ℕ) (hop : Option (List ℕ)) → ListGives w number (in_order m) n hop ↔ TableGives w number m n hop
    table_gives n hop = (to, from)
      where
        to : ListGives w number (in_order m) n hop → TableGives w number m n hop
        to (None, none, is) = (None, (λ r h. All-contains (λ r. ¬ (Holds w number n r)) (in_order m) r none (listed w number m networks r h.stored) (sym h.holds)), is)
        to (Some r, (at, holds, most), is) = (
          Some r,
          (holder n r at holds, λ s h. All-contains (λ s. Holds w number n s → s.0.bits ≤ r.0.bits) (in_order m) s most (listed w number m networks s h.stored) (sym h.holds)),
          is,
        )

        from : TableGives w number m n hop → ListGives w number (in_order m) n hop
        from (None, none, is) = (None, all_listed (λ r. ¬ (Holds w number n r)) (λ r at holds. none r (holder n r at holds)), is)
        from (Some r, (h, most), is) = (
          Some r,
          (listed w number m networks r h.stored, sym h.holds, all_listed (λ s. Holds w number n s → s.0.bits ≤ r.0.bits) (λ s at holds. most s (holder n s at holds))),
          is,
        )

    -- of two routes the one whose network's first bits come first precedes the other
    precedes : (r s : Route A) → IsToNetwork w number r → IsToNetwork w number s → lists.Precedes (place w number r.0) (place w number s.0) → IsRouteBefore w number r s
    precedes r s p q h =
        let order = network_order w in
        elim (cases_lt (number r.0.base) (number s.0.base)) [
          | inl lt ↦ inl lt
          | inr ge ↦ elim (cases_lt (number s.0.base) (number r.0.base)) [
            | inl more ↦ absurd (one_way (place w number r.0) (place w number s.0) h (order.by_base (number s.0.base) s.0.bits (number r.0.base) r.0.bits q p more))
            | inr le ↦ (let same : number r.0.base ≡ number s.0.base = omega arith in elim (cases_lt r.0.bits s.0.bits) [
              | inl lt ↦ inr (same, lt)
              | inr wide ↦ absurd (narrower same wide)
            ])
          ]
        ]
      where
        narrower : number r.0.base ≡ number s.0.base → s.0.bits ≤ r.0.bits → ⊥
        narrower same wide =
            elim (cases_lt s.0.bits r.0.bits) [
              | inl lt ↦ one_way (place w number r.0) (place w number s.0) h
                  (subst (λ b. lists.Precedes (place w number s.0) (first_bits w b r.0.bits)) (sym same) ((network_order w).by_bits (number s.0.base) s.0.bits r.0.bits lt p.1))
              | inr ge ↦ (let bits : r.0.bits ≡ s.0.bits = omega arith in let one : place w number r.0 ≡ place w number s.0 = cc in one_way (place w number r.0) (place w number r.0)
                  (subst (lists.Precedes (place w number r.0)) (sym one) h) (subst (lists.Precedes (place w number r.0)) (sym one) h))
            ]

    -- a sorted entry precedes those behind it
    first_precedes : (e : List ℕ) (r : Route A) (es : List (List ℕ × Route A)) → (e ≡ place w number r.0) × IsToNetwork w number r
        → ((f : List ℕ) (s : Route A) → Has es (f, s) → (f ≡ place w number s.0) × IsToNetwork w number s)
        → T (below_all (slice_cmp nat_cmp) e es) → All (λ x. IsRouteBefore w number r x.1) es
    first_precedes e r [] own at sorted = All-nil (λ (x : List ℕ × Route A). IsRouteBefore w number r x.1)
    first_precedes e r (x ∷ es) own at sorted =
        let there = at x.0 x.1 (inl refl) in
        All-cons (λ (x : List ℕ × Route A). IsRouteBefore w number r x.1) x es
        (precedes r x.1 own.1 there.1 (subst (λ p. lists.Precedes p (place w number x.1.0)) own.0 (subst (lists.Precedes e) there.0 (less_by_test _ (first_of_both _ _ sorted)))))
        (first_precedes e r es own (λ f s has. at f s (inr has)) (second_of_both _ _ sorted))

    -- the routes of sorted entries are in order
    entries_order : (es : List (List ℕ × Route A)) → ((f : List ℕ) (s : Route A) → Has es (f, s) → (f ≡ place w number s.0) × IsToNetwork w number s)
        → T (map.is_sorted (slice_cmp nat_cmp) es) → AllPairs (IsRouteBefore w number) (each (λ e. e.1) es)
    entries_order [] at sorted = λ i j d lt le. absurd (omega arith)
    entries_order (x ∷ es) at sorted =
        AllPairs-cons (IsRouteBefore w number) x.1 (each (λ e. e.1) es)
        (All-map (IsRouteBefore w number x.1) (λ (e : List ℕ × Route A). e.1) es (first_precedes x.0 x.1 es (at x.0 x.1 (inl refl)) (λ f s has. at f s (inr has)) (first_of_both _ _ sorted)))
        (entries_order es (λ f s has. at f s (inr has)) (second_of_both _ _ sorted))

    -- the routes are in order
    in_order_rises : AllPairs (IsRouteBefore w number) (in_order m)
    in_order_rises =
        entries_order (walk m []) (λ f s has. networks f s (entry_stored w number m networks f s has)) (map.entries_sorted (below m []))

    -- with numbers for hops they are a table
    pub is_table : (code : List ℕ → ℕ) → numbers.IsTable w (each (numbered number code) (in_order m))
    is_table code = (
      All-map (numbers.IsOfWidth w) (numbered number code) (in_order m) (all_listed (IsToNetwork w number) (λ r at. (stored w number m networks r at).1)),
      changed_pairs numbers.IsSortedBefore (numbered number code) (in_order m) in_order_rises,
    )

  module _ (rs : List (Route A)) (xs : List chosen.Route) (hops : List (Bor (List ℕ))) (code : List ℕ → ℕ) (are : xs ≡ each (numbered number code) rs)
      (places : All (λ r. (code r.1 < length hops) × HoldsAt (λ h. h.now ≡ r.1) hops (code r.1)) rs) where
    -- a hop of the numbered routes is a route's
    hop_source : (n : ℕ) → numbers.HasHop xs n → (r : Route A) × Contains rs r × (code r.1 ≡ n)
    hop_source n (k, x, lt, e, is) =
        let (r, at, same) = has_changed (numbered number code) rs x (subst (λ ys. Contains ys x) are (k, lt, e)) in
        (r, at, ap (λ (y : chosen.Route). y.hop) same ∙ is)

    -- so it is a place of the hops
    hop_fits : (n : ℕ) → numbers.HasHop xs n → n < length hops
    hop_fits n has =
        let (r, at, is) = hop_source n has in
        subst (λ k. k < length hops) is (All-contains (λ r. (code r.1 < length hops) × HoldsAt (λ h. h.now ≡ r.1) hops (code r.1)) rs r places at).0

    -- the routes' hops are told by their numbers
    routes_told : All (IsTold code (text_at hops)) rs
    routes_told = All-weaker (λ r. (code r.1 < length hops) × HoldsAt (λ h. h.now ≡ r.1) hops (code r.1)) (IsTold code (text_at hops))
        (λ r at. text_is hops (code r.1) r.1 at.0 at.1) rs places

    -- the row of a route with one of their hops has that hop's number
    row_hop : (row : Net A × Bor (List ℕ)) (x : chosen.Route) → IsRowOf number hops row x → numbers.HasHop xs x.hop
        → (code row.1.now ≡ x.hop) × IsTold code (text_at hops) (route_of row)
    row_hop row x is has =
        let (r, at, same) = hop_source x.hop has in
        let place = All-contains (λ r. (code r.1 < length hops) × HoldsAt (λ h. h.now ≡ r.1) hops (code r.1)) rs r places at in
        let hop : row.1.now ≡ r.1 = is.hop row.1 ∙ subst (λ n. (get_or hops n row.1).now ≡ r.1) same (place.1 row.1) in
        (ap code hop ∙ same, ap (λ h. text_at hops (code h)) hop ∙ text_is hops (code r.1) r.1 place.0 place.1 ∙ sym hop)

    -- the rows of routes with their hops are these routes, by the hops' numbers
    rows_are : (rows : List (Net A × Bor (List ℕ))) (out : List chosen.Route) → AllZip (IsRowOf number hops) rows out → All (λ x. numbers.HasHop xs x.hop) out
        → (out ≡ each (numbered number code) (each route_of rows)) × All (IsTold code (text_at hops)) (each route_of rows)
    rows_are [] [] zip has = (refl, All-nil (IsTold code (text_at hops)))
    rows_are [] (x ∷ out) zip has = absurd zip
    rows_are (row ∷ rows) [] zip has = absurd zip
    rows_are (row ∷ rows) (x ∷ out) zip has =
        let hop = row_hop row x zip.0 (All-head (λ x. numbers.HasHop xs x.hop) x out has) in
        let others = rows_are rows out zip.1 (All-tail (λ x. numbers.HasHop xs x.hop) x out has) in
        let base = zip.0.base in
        let bits = zip.0.bits in
        let first : numbered number code (route_of row) ≡ x = λ i. record { base = base i; bits = bits i; hop = hop.0 i } in
        let later = others.0 in
        (λ i. sym first i ∷ later i, All-cons (IsTold code (text_at hops)) (route_of row) (each route_of rows) hop.1 others.1)

module _ {A : Type 0} (w : ℕ) (number : A → ℕ) (m : Routes A) (networks : AreNetworks w number m) (xs out : List chosen.Route) (hops : List (Bor (List ℕ)))
    (are : AreNumbered number (in_order m) xs hops) where
  -- the numbered routes of a table are one
  pub numbered_table : numbers.IsTable w xs
  numbered_table = subst (numbers.IsTable w) (sym are.1) (is_table w number m networks are.0)

  -- the hops of the least list are places
  pub chosen_fit : All (λ x. numbers.HasHop xs x.hop) out → All (λ x. x.hop < length hops) out
  chosen_fit has = All-weaker (λ x. numbers.HasHop xs x.hop) (λ x. x.hop < length hops) (λ x one. hop_fits w number (in_order m) xs hops are.0 are.1 are.2 x.hop one) out has

  -- the rows of the least list are the least list of routes
  pub is_aggregate : (rows : List (Net A × Bor (List ℕ))) → IsLeast w xs out → AllZip (IsRowOf number hops) rows out → IsAggregate w number m (each route_of rows)
  is_aggregate rows found zip =
      let code = are.0 in
      let rs = in_order m in
      let ss = each route_of rows in
      let told = routes_told w number rs xs hops code are.1 are.2 in
      let (out_is, also) = rows_are w number rs xs hops code are.1 are.2 rows out zip found.hops in
      let same : numbers.HaveSameAnswers w (each (numbered number code) ss) (each (numbered number code) rs) =
      subst (λ ys. numbers.HaveSameAnswers w ys (each (numbered number code) rs)) out_is (subst (numbers.HaveSameAnswers w out) are.1 found.same) in
      let table : numbers.IsTable w (each (numbered number code) ss) = subst (numbers.IsTable w) out_is found.table in
      record {
        networks = all_changed (numbers.IsOfWidth w) (numbered number code) ss table.0;
        order = pairs_changed numbers.IsSortedBefore (numbered number code) ss table.1;
        same = λ n hop lt. (
          λ given. (table_gives w number m networks n hop).0 (same_hops w number code (text_at hops) ss rs also told n hop (same n (option_map code hop) lt).0 given),
          λ given. same_hops w number code (text_at hops) rs ss told also n hop (same n (option_map code hop) lt).1 ((table_gives w number m networks n hop).1 given),
        );
        least = λ other gives.
            let others = same_numbers w number code other rs
            (λ n hop lt. (λ given. (table_gives w number m networks n hop).1 ((gives n hop lt).0 given), λ given. (gives n hop lt).1 ((table_gives w number m networks n hop).0 given))) in
            omega (
              arith,
              found.least (each (numbered number code) other) (subst (numbers.HaveSameAnswers w (each (numbered number code) other)) (sym are.1) others),
              ap length out_is,
              length-map ss (numbered number code),
              length-map other (numbered number code),
            );
      }

-- one more pair of each list
pub zip_more : {X Y : Type 0} (R : Y → X → Type 0) (ys : List Y) (xs : List X) (y : Y) (x : X) → AllZip R ys xs → R y x → AllZip R (ys ++ y ∷ []) (xs ++ x ∷ [])
zip_more R [] [] y x zip is = (is, tt)
zip_more R [] (b ∷ xs) y x zip is = absurd zip
zip_more R (a ∷ ys) [] y x zip is = absurd zip
zip_more R (a ∷ ys) (b ∷ xs) y x zip is = (zip.0, zip_more R ys xs y x zip.1 is)

-- one more row, of one more route
pub rows_more : {X Y : Type 0} (R : Y → X → Type 0) (ys new : List Y) (xs : List X) (i : ℕ) (y : Y) (d : X) → i < length xs → new ≡ ys ++ y ∷ [] → AllZip R ys (take i xs) → R y (get_or xs i d)
    → AllZip R new (take (i + 1) xs)
rows_more R ys new xs i y d lt pushed zip is =
    subst (λ zs. AllZip R zs (take (i + 1) xs)) (sym pushed)
    (subst (AllZip R (ys ++ y ∷ [])) (sym (take_more xs i d lt)) (zip_more R ys (take i xs) y (get_or xs i d) zip is))
