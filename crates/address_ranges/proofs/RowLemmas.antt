-- Ranges in turn, and the rows that are made of them.
use Rattle.std.proofs.Common.{◌≡◌, ℕ, ◌+◌, ◌-◌, ◌*◌, ◌^◌, ◌<◌, ◌≤◌, List, [], ◌∷◌, ◌++◌, length, get_or, map, take, inl, inr, ap, sym, subst, ◌∙◌, arith}
use Rattle.std.specs.List.{All, AllPairs, Any, flat_map}
use Rattle.std.proofs.lemmas.Bool.{cases_lt}
use Rattle.std.proofs.lemmas.List.{get_or-take, length-append, length-map, length-take, take_more}
use Rattle.std.proofs.lemmas.List.Elements.{All-append, All-head, All-map, All-nil, All-push, All-tail, All-weaker}
use Rattle.std.proofs.lemmas.List.Quantifiers.{all_pairs_push}
use Rattle.radix_keys.specs.Networks.{Net}
use Rattle.address_ranges.specs.Ranges.{IsInRange, IsNet, HoldsAddress, EndsBefore, networks_between}
use Rattle.address_ranges.specs.Rows.{AreInTurn, AreRowsInTurn, ComesBefore, HaveSameValues, IsUpward, row_by_number, range_rows}
use Rattle.address_ranges.proofs.CountLemmas.{few}
use Rattle.address_ranges.proofs.ListLemmas.{all_unmapped, any_first, any_here, any_later, any_left, any_mapped, any_none, any_parts, any_right, any_unmapped, any_weaker, pairs_head, pairs_mapped, pairs_none, pairs_parts, pairs_tail, pairs_unmapped}
use Rattle.address_ranges.proofs.RangeLemmas.{IsPart, all_networks, all_parts, all_rise, exactly}

module _ {A V : Type 0} (number : A → ℕ) where
  -- one more range that comes after the last
  pub in_turn_more : (xs : List (A × A × V)) (i : ℕ) (r : A × A × V) → i < length xs → r ≡ get_or xs i r
      → AreInTurn number (take i xs) → number r.0 ≤ number r.1
      → (0 < i → (d : A × A × V) → number (get_or xs (i - 1) d).1 < number r.0)
      → AreInTurn number (take (i + 1) xs)
  in_turn_more xs i r lt is before upward behind =
      let front = take i xs in
      let more : take (i + 1) xs ≡ front ++ r ∷ [] = take_more xs i r lt ∙ ap (λ x. front ++ x ∷ []) (sym is) in
      let after : (k : ℕ) (d : A × A × V) → k < length front → ComesBefore number (get_or front k d) r = λ k d less.
      let inside : k < i = omega (arith, less, length-take i xs) in
      let whole : i - 1 < length front = omega (arith, inside, lt, length-take i xs) in
      let last : get_or front (i - 1) d ≡ get_or xs (i - 1) d = get_or-take i xs (i - 1) d (omega (arith, inside)) in
      let end : number (get_or front (i - 1) d).1 < number r.0 =
      subst (λ (x : A × A × V). number x.1 < number r.0) (sym last) (behind (omega (arith, inside)) d) in
      elim (cases_lt k (i - 1)) [
        | inl earlier ↦
            let a = before.order k (i - 1) d earlier whole in
            let b = before.upward (i - 1) d whole in
            omega (arith, a, b, end)
        | inr latest ↦
            let same : k ≡ i - 1 = omega (arith, latest, inside) in
            subst (λ j. number (get_or front j d).1 < number r.0) (sym same) end
      ] in
      subst (AreInTurn number) (sym more) (record {
        upward = All-push (IsUpward number) front r before.upward upward;
        order = all_pairs_push (ComesBefore number) front r before.order after;
      })

  module _ (w : ℕ) where
    -- the rows of ranges, by the numbers of their bases
    abbrev rows_in : List (A × A × V) → List (Net ℕ × V)
    rows_in ranges = flat_map (range_rows number w) ranges

    -- the network of a row holds the address, and the row has the value
    abbrev Gives : ℕ → V → Net ℕ × V → Type 0
    Gives n value row = HoldsAddress w n row.0 × (row.1 ≡ value)

    -- the range has the address, and the value
    abbrev Has : ℕ → V → A × A × V → Type 0
    Has n value range = IsInRange (number range.0) (number range.1) n × (range.2 ≡ value)

    given : (n : ℕ) (value : V) (ranges : List (A × A × V)) → n < 2 ^ w → Any (Has n value) ranges → Any (Gives n value) (rows_in ranges)
    given n value [] fits h = absurd (any_none (Has n value) h)
    given n value (r ∷ rs) fits h =
        let nets = networks_between w (number r.0) (number r.1) in
        elim (any_first (Has n value) r rs h) [
          | inl own ↦
              let one = (exactly w (number r.0) (number r.1) n fits).0 own.0 in
              let rows = any_weaker (HoldsAddress w n) (λ net. HoldsAddress w n net × (r.2 ≡ value)) (λ x held. (held, own.1)) nets one in
              any_left (Gives n value) (range_rows number w r) (rows_in rs) (any_mapped (Gives n value) (λ net. (net, r.2)) nets rows)
          | inr rest ↦ any_right (Gives n value) (range_rows number w r) (rows_in rs) (given n value rs fits rest)
        ]

    taken : (n : ℕ) (value : V) (ranges : List (A × A × V)) → n < 2 ^ w → Any (Gives n value) (rows_in ranges) → Any (Has n value) ranges
    taken n value [] fits h = absurd (any_none (Gives n value) h)
    taken n value (r ∷ rs) fits h =
        let nets = networks_between w (number r.0) (number r.1) in
        elim (any_parts (Gives n value) (range_rows number w r) (rows_in rs) h) [
          | inl own ↦
              let one = any_unmapped (Gives n value) (λ net. (net, r.2)) nets own in
              let held = any_weaker (λ net. HoldsAddress w n net × (r.2 ≡ value)) (HoldsAddress w n) (λ x p. p.0) nets one in
              any_here (Has n value) r rs ((exactly w (number r.0) (number r.1) n fits).1 held, one.4.1)
          | inr rest ↦ any_later (Has n value) r rs (taken n value rs fits rest)
        ]

    nets_in : (ranges : List (A × A × V)) → All (λ row. IsNet w row.0) (rows_in ranges)
    nets_in [] = All-nil (λ row. IsNet w row.0)
    nets_in (r ∷ rs) =
        let P : Net ℕ × V → Type 0 = λ row. IsNet w row.0 in
        let nets = networks_between w (number r.0) (number r.1) in
        All-append P (range_rows number w r) (rows_in rs)
        (All-map P (λ net. (net, r.2)) nets (all_networks w (number r.0) (number r.1))) (nets_in rs)

    -- the rows of ranges that begin behind a number begin behind it
    behind : (last : ℕ) (ranges : List (A × A × V)) → All (λ r. last < number r.0) ranges → All (λ row. last < row.0.base) (rows_in ranges)
    behind last [] h = All-nil (λ row. last < row.0.base)
    behind last (r ∷ rs) h =
        let P : Net ℕ × V → Type 0 = λ row. last < row.0.base in
        let nets = networks_between w (number r.0) (number r.1) in
        let own : last < number r.0 = All-head (λ s. last < number s.0) r rs h in
        All-append P (range_rows number w r) (rows_in rs)
        (All-map P (λ net. (net, r.2)) nets
        (All-weaker (IsPart w (number r.0) (number r.1) 0 (2 ^ w)) (λ net. last < net.base) (λ x p. omega (arith, own, p.from_first)) nets
        (all_parts w (number r.0) (number r.1))))
        (behind last rs (All-tail (λ s. last < number s.0) r rs h))

    -- one row's network ends before another's begins
    abbrev IsBefore : (x y : Net ℕ × V) → Type 0
    IsBefore x y = EndsBefore w x.0 y.0

    rising : (ranges : List (A × A × V)) → AllPairs (ComesBefore number) ranges → AllPairs IsBefore (rows_in ranges)
    rising [] h = pairs_none IsBefore
    rising (r ∷ rs) h =
        let nets = networks_between w (number r.0) (number r.1) in
        let own = range_rows number w r in
        let rest = rows_in rs in
        let after : All (λ row. number r.1 < row.0.base) rest = behind (number r.1) rs (pairs_head (ComesBefore number) r rs h) in
        let across : All (λ x. All (IsBefore x) rest) own =
        All-map (λ x. All (IsBefore x) rest) (λ net. (net, r.2)) nets
        (All-weaker (IsPart w (number r.0) (number r.1) 0 (2 ^ w)) (λ net. All (IsBefore (net, r.2)) rest)
        (λ x p. All-weaker (λ row. number r.1 < row.0.base) (IsBefore (x, r.2)) (λ y q. omega (arith, p.to_last, q)) rest after)
        nets (all_parts w (number r.0) (number r.1))) in
        pairs_parts IsBefore own rest
        (pairs_mapped IsBefore (λ net. (net, r.2)) nets (all_rise w (number r.0) (number r.1)))
        (rising rs (pairs_tail (ComesBefore number) r rs h)) across

    counted : (k : ℕ) (ranges : List (A × A × V)) → ((m n : ℕ) → length (networks_between w m n) ≤ k) → length (rows_in ranges) ≤ k * length ranges
    counted k [] most = omega arith
    counted k (r ∷ rs) most =
        let nets = networks_between w (number r.0) (number r.1) in
        let sum = length-append (range_rows number w r) (rows_in rs) in
        let own = length-map {B = Net ℕ × V} nets (λ net. (net, r.2)) in
        let rest = counted k rs most in
        omega (arith, sum, own, most (number r.0) (number r.1), rest)

    -- rows by the numbers of their bases
    pub are_values : (rows : List (Net A × V)) (ranges : List (A × A × V)) → map (row_by_number number) rows ≡ rows_in ranges
        → HaveSameValues number w ranges rows
    are_values rows ranges is n value fits = (
      λ h. any_unmapped (Gives n value) (row_by_number number) rows (subst (Any (Gives n value)) (sym is) (given n value ranges fits h)),
      λ h. taken n value ranges fits (subst (Any (Gives n value)) is (any_mapped (Gives n value) (row_by_number number) rows h)),
    )

    pub are_in_turn : (rows : List (Net A × V)) (ranges : List (A × A × V)) → map (row_by_number number) rows ≡ rows_in ranges
        → AreInTurn number ranges → AreRowsInTurn number w rows
    are_in_turn rows ranges is h = record {
      networks = all_unmapped (λ row. IsNet w row.0) (row_by_number number) rows (subst (All (λ row. IsNet w row.0)) (sym is) (nets_in ranges));
      order = pairs_unmapped IsBefore (row_by_number number) rows (subst (AllPairs IsBefore) (sym is) (rising ranges h.order));
    }

    pub are_few : (rows : List (Net A × V)) (ranges : List (A × A × V)) → map (row_by_number number) rows ≡ rows_in ranges
        → 1 < w → length rows ≤ (2 * w - 2) * length ranges
    are_few rows ranges is some =
        let all = counted (2 * w - 2) ranges (λ m n. few w m n some) in
        let same : length rows ≡ length (rows_in ranges) = sym (length-map rows (row_by_number number)) ∙ ap length is in
        subst (λ n. n ≤ (2 * w - 2) * length ranges) (sym same) all
