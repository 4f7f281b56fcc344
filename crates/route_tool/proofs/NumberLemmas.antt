-- Hops as numbers, one after another.
use Rattle.std.proofs.Common.{◌≡◌, ◌∙◌, ℕ, zero, suc, ◌<◌, ◌⊎◌, Bool, true, false, cond, List, [], ◌∷◌, ◌++◌, length, get_or, map as each, Some, None, option_map, T, refl, sym, ap, subst, inl, inr, arith, length-append}
use Rattle.std.specs.Borrow.{Bor}
use Rattle.std.specs.Cmp.Lexicographic.{slice_cmp}
use Rattle.std.specs.FinMap as map
use Rattle.std.specs.List.{All, AllZip, HoldsAt}
use Rattle.std.specs.Option.{unwrap_or}
use Rattle.std.specs.Ordering.{eq_by_cmp, nat_cmp}
use Rattle.std.proofs.Math.Seq.{get_or-append_seam}
use Rattle.std.proofs.lemmas.Cmp.{nat_list_cmp_total}
use Rattle.std.proofs.lemmas.List.{append-nil, append_assoc}
use Rattle.std.proofs.lemmas.List.Elements.{All-nil, All-cons}
use Rattle.least_routes.specs.declared.routes.Route as least
use Rattle.nibble_map.specs.Maps.{value_at}
use Rattle.nibble_map.specs.Nibbles.{nibbles}
use Rattle.nibble_map.proofs.ListLemmas.Sorted.{tied_lists_equal}
use Rattle.nibble_map.proofs.MapLemmas.Bridge.{equal_by_test}
use Rattle.nibble_map.proofs.MapLemmas.Edits.{same_Some}
use Rattle.nibble_map.proofs.MapLemmas.Walks.{get-inserted}
use Rattle.radix_keys.specs.Distinct.{nibbles-injective}
use Rattle.route_tool.specs.Numbers.{Numbers, IsNumberOf, ArePlaces, AreKept, AreNumbered, numbered}
use Rattle.route_tool.specs.Routes.{Route}

-- no numbers are places
pub no_places : (m : Numbers) (hops : List (Bor (List ℕ))) → m ≡ map.empty → ArePlaces m hops
no_places m hops empty hop n is =
    let both : None ≡ Some n = sym (ap (option_map (λ p. p.1)) (map.get-empty (slice_cmp nat_cmp) (nibbles hop))) ∙ ap (λ k. value_at k (nibbles hop)) (sym empty) ∙ is in
    cc

-- what a number is of, among the numbers with one more: the new hop, or one from before
pub number_among : (m : Numbers) (key h : Bor (List ℕ)) (n : ℕ) → key.now ≡ h.now → (hop : List ℕ)
    → ((hop ≡ h.now) × (value_at (map.insert m (nibbles key.now) (key, n)) (nibbles hop) ≡ Some n))
    ⊎ (value_at (map.insert m (nibbles key.now) (key, n)) (nibbles hop) ≡ value_at m (nibbles hop))
number_among m key h n same hop = by (eq_by_cmp (slice_cmp nat_cmp) (nibbles hop) (nibbles key.now)) refl
  where
    more : Numbers
    more = map.insert m (nibbles key.now) (key, n)

    got : value_at more (nibbles hop) ≡ option_map (λ p. p.1) (cond (eq_by_cmp (slice_cmp nat_cmp) (nibbles hop) (nibbles key.now)) (Some (key, n)) (map.get m (nibbles hop)))
    got = ap (option_map (λ p. p.1)) (map.get-insert nat_list_cmp_total m (nibbles key.now) (key, n) (nibbles hop))

    by : (b : Bool) → eq_by_cmp (slice_cmp nat_cmp) (nibbles hop) (nibbles key.now) ≡ b
        → ((hop ≡ h.now) × (value_at more (nibbles hop) ≡ Some n)) ⊎ (value_at more (nibbles hop) ≡ value_at m (nibbles hop))
    by true t = inl (
      nibbles-injective hop key.now (tied_lists_equal (nibbles hop) (nibbles key.now) (equal_by_test _ (subst T (sym t) tt))) ∙ same,
      got ∙ ap (λ b. option_map (λ p. p.1) (cond b (Some (key, n)) (map.get m (nibbles hop)))) t,
    )
    by false t = inr (got ∙ ap (λ b. option_map (λ p. p.1) (cond b (Some (key, n)) (map.get m (nibbles hop)))) t)

module _ (m : Numbers) (hops : List (Bor (List ℕ))) (key h : Bor (List ℕ)) (same : key.now ≡ h.now) (none : value_at m (nibbles key.now) ≡ None) where
  -- the numbers with one more, of the next place
  abbrev more : Numbers
  more = map.insert m (nibbles key.now) (key, length hops)

  -- the new hop has its number
  new_number : IsNumberOf more h.now (length hops)
  new_number = subst (λ hop. value_at more (nibbles hop) ≡ Some (length hops)) same (ap (option_map (λ p. p.1)) (get-inserted m (nibbles key.now) (key, length hops)))

  -- each hop from before keeps its number
  numbers_kept : AreKept m more
  numbers_kept hop n is =
      elim (number_among m key h (length hops) same hop) [
        | inl new ↦ (let both : None ≡ Some n = sym none ∙ ap (λ k. value_at m (nibbles k)) (same ∙ sym new.0) ∙ is in cc)
        | inr old ↦ old ∙ is
      ]

  -- each number is a place still
  places_kept : ArePlaces m hops → ArePlaces more (hops ++ h ∷ [])
  places_kept places hop n is =
      elim (number_among m key h (length hops) same hop) [
        | inl new ↦ (
            let at : length hops ≡ n = same_Some (length hops) n (sym new.1 ∙ is) in (
              omega (arith, length-append hops (h ∷ [])),
              λ d. ap (λ k. (get_or (hops ++ h ∷ []) k d).now) (sym at) ∙ ap (λ x. x.now) (get_or-append_seam hops h [] d) ∙ sym new.0,
            )
            )
        | inr old ↦ (
            let at = places hop n (sym old ∙ is) in
            (omega (arith, at.0, length-append hops (h ∷ [])), λ d. ap (λ x. x.now) (front hops (h ∷ []) n d at.0) ∙ at.1 d)
            )
      ]
    where
      front : (xs ys : List (Bor (List ℕ))) (n : ℕ) (d : Bor (List ℕ)) → n < length xs → get_or (xs ++ ys) n d ≡ get_or xs n d
      front [] ys n d lt = absurd (omega arith)
      front (x ∷ xs) ys zero d lt = refl
      front (x ∷ xs) ys (suc n) d lt = front xs ys n d (omega arith)

-- the hop has the next number, and all others keep theirs
pub record IsNext (m new : Numbers) (hops later : List (Bor (List ℕ))) (hop : List ℕ) (n : ℕ) : Type 0 where
  pub number : IsNumberOf new hop n
  pub kept : AreKept m new
  pub places : ArePlaces m hops → ArePlaces new later

-- what a hop with no number is given
pub is_next : (m new : Numbers) (hops later : List (Bor (List ℕ))) (key h : Bor (List ℕ)) (n : ℕ) → key.now ≡ h.now → value_at m (nibbles key.now) ≡ None → n ≡ length hops
    → new ≡ map.insert m (nibbles key.now) (key, n) → later ≡ hops ++ h ∷ [] → IsNext m new hops later h.now n
is_next m new hops later key h n same none at stored pushed =
    let made : map.insert m (nibbles key.now) (key, length hops) ≡ new = ap (λ k. map.insert m (nibbles key.now) (key, k)) (sym at) ∙ sym stored in
    record {
      number = subst (λ k. IsNumberOf k h.now n) made (subst (IsNumberOf (map.insert m (nibbles key.now) (key, length hops)) h.now) (sym at) (new_number m hops key h same none));
      kept = subst (AreKept m) made (numbers_kept m hops key h same none);
      places = λ places. subst (ArePlaces new) (sym pushed) (subst (λ k. ArePlaces k (hops ++ h ∷ [])) made (places_kept m hops key h same none places));
    }

module _ {A : Type 0} (number : A → ℕ) where
  -- the route, and its hop's number
  pub record IsWithNumber (m : Numbers) (r : Route A) (x : least.Route) : Type 0 where
    pub base : number r.0.base ≡ x.base
    pub bits : r.0.bits ≡ x.bits
    pub hop : IsNumberOf m r.1 x.hop

  -- some first routes have their numbers, and the rest are still to come
  abbrev pub AreBegun : Numbers → (whole rest : List (Route A)) → List least.Route → Type 0
  AreBegun m whole rest xs = (done : List (Route A)) × (whole ≡ done ++ rest) × AllZip (IsWithNumber m) done xs

  -- of no routes
  pub none_begun : (m : Numbers) (whole rest : List (Route A)) (xs : List least.Route) → whole ≡ rest → xs ≡ [] → AreBegun m whole rest xs
  none_begun m whole rest xs same none = ([], same, subst (AllZip (IsWithNumber m) []) (sym none) tt)

  -- kept numbers are those of the routes still
  still_numbers : (m n : Numbers) (rs : List (Route A)) (xs : List least.Route) → AreKept m n → AllZip (IsWithNumber m) rs xs → AllZip (IsWithNumber n) rs xs
  still_numbers m n [] [] kept zip = tt
  still_numbers m n [] (x ∷ xs) kept zip = absurd zip
  still_numbers m n (r ∷ rs) [] kept zip = absurd zip
  still_numbers m n (r ∷ rs) (x ∷ xs) kept zip = (record { base = zip.0.base; bits = zip.0.bits; hop = kept r.1 x.hop zip.0.hop }, still_numbers m n rs xs kept zip.1)

  -- and one more
  zip_more : (m : Numbers) (rs : List (Route A)) (xs : List least.Route) (r : Route A) (x : least.Route) → AllZip (IsWithNumber m) rs xs → IsWithNumber m r x
      → AllZip (IsWithNumber m) (rs ++ r ∷ []) (xs ++ x ∷ [])
  zip_more m [] [] r x zip is = (is, tt)
  zip_more m [] (y ∷ xs) r x zip is = absurd zip
  zip_more m (s ∷ rs) [] r x zip is = absurd zip
  zip_more m (s ∷ rs) (y ∷ xs) r x zip is = (zip.0, zip_more m rs xs r x zip.1 is)

  -- one more route has its number
  pub one_more : (m n : Numbers) (whole rest later : List (Route A)) (r : Route A) (x : least.Route) (xs ys : List least.Route) → AreBegun m whole rest xs → AreKept m n → rest ≡ r ∷ later
      → IsWithNumber n r x → ys ≡ xs ++ x ∷ [] → AreBegun n whole later ys
  one_more m n whole rest later r x xs ys (done, is, zip) kept next with pushed = (
    done ++ r ∷ [],
    is ∙ ap (λ l. done ++ l) next ∙ sym (append_assoc done (r ∷ []) later),
    subst (AllZip (IsWithNumber n) (done ++ r ∷ [])) (sym pushed) (zip_more n done xs r x (still_numbers m n done xs kept zip) with),
  )

  -- the number of a hop, where it has one
  code_of : Numbers → List ℕ → ℕ
  code_of m hop = unwrap_or (value_at m (nibbles hop)) 0

  code_is : (m : Numbers) (hop : List ℕ) (n : ℕ) → IsNumberOf m hop n → code_of m hop ≡ n
  unfolding code_of
  code_is m hop n is = ap (λ o. unwrap_or o 0) is

  -- routes with their numbers are numbered by them
  all_numbered : (m : Numbers) (hops : List (Bor (List ℕ))) → ArePlaces m hops → (rs : List (Route A)) (xs : List least.Route) → AllZip (IsWithNumber m) rs xs
      → (xs ≡ each (numbered number (code_of m)) rs) × All (λ r. (code_of m r.1 < length hops) × HoldsAt (λ h. h.now ≡ r.1) hops (code_of m r.1)) rs
  all_numbered m hops places [] [] zip = (refl, All-nil (λ (r : Route A). (code_of m r.1 < length hops) × HoldsAt (λ h. h.now ≡ r.1) hops (code_of m r.1)))
  all_numbered m hops places [] (x ∷ xs) zip = absurd zip
  all_numbered m hops places (r ∷ rs) [] zip = absurd zip
  all_numbered m hops places (r ∷ rs) (x ∷ xs) zip =
      let others = all_numbered m hops places rs xs zip.1 in
      let base = zip.0.base in
      let bits = zip.0.bits in
      let hop = code_is m r.1 x.hop zip.0.hop in
      let first : numbered number (code_of m) r ≡ x = λ i. record { base = base i; bits = bits i; hop = hop i } in
      let later = others.0 in
      let at = places r.1 x.hop zip.0.hop in (
        λ i. sym first i ∷ later i,
        All-cons (λ (r : Route A). (code_of m r.1 < length hops) × HoldsAt (λ h. h.now ≡ r.1) hops (code_of m r.1)) r rs
            (subst (λ n. (n < length hops) × HoldsAt (λ h. h.now ≡ r.1) hops n) (sym hop) at) others.1,
      )

  -- so all routes are, where none is to come
  pub are_numbered : (m : Numbers) (hops : List (Bor (List ℕ))) (whole : List (Route A)) (xs : List least.Route) → ArePlaces m hops → AreBegun m whole [] xs → AreNumbered number whole xs hops
  are_numbered m hops whole xs places (done, is, zip) =
      let same : whole ≡ done = is ∙ append-nil done in
      let all = all_numbered m hops places done xs zip in
      subst (λ rs. AreNumbered number rs xs hops) (sym same) (code_of m, all.0, all.1)

  -- of equal lists
  pub still_numbered : (rs ss : List (Route A)) (xs ys : List least.Route) (hops : List (Bor (List ℕ))) → rs ≡ ss → ys ≡ xs → AreNumbered number rs xs hops → AreNumbered number ss ys hops
  still_numbered rs ss xs ys hops same at are = subst (λ l. AreNumbered number l ys hops) same (subst (λ l. AreNumbered number rs l hops) (sym at) are)
