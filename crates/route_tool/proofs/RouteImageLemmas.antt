-- The places of hops in an image, and what is read there.
use Rattle.std.proofs.Common.{◌≡◌, ◌∙◌, ◌==◌, inl, inr, ℕ, suc, ◌+◌, ◌-◌, ◌<◌, ◌≤◌, false, List, [], ◌∷◌, ◌++◌, length, drop, take, get_or, slice_get, map as each, Some, None, arith, refl, sym, ap, subst, Bool, true, cond, T, Result, Ok, Err, IfErr, IfOk, option_map, not, ◌^◌}
use Rattle.std.specs.Borrow.{Bor}
use Rattle.std.specs.Cmp.Lexicographic.{slice_cmp}
use Rattle.std.specs.FinMap as map
use Rattle.std.specs.Int.{w64}
use Rattle.std.specs.List.{All, AllZip, flat_map}
use Rattle.std.specs.Ordering.{eq_by_cmp, nat_cmp}
use Rattle.std.proofs.lemmas.Bool.Decides.{eqb_tells}
use Rattle.std.proofs.lemmas.Bool.{cases_lt, eqb-true}
use Rattle.std.proofs.lemmas.Cmp.{nat_list_cmp_total}
use Rattle.std.proofs.lemmas.List.Elements.{All-cons, All-nil, All-head, All-tail}
use Rattle.std.proofs.lemmas.List.{append_assoc, drop-append-le, drop_at, get_or_append_left, length-append, length-map, length-drop, get_or-map, get_or_push}
use Rattle.std.proofs.lemmas.Option.{slice_get_read}
use Rattle.flat_routes.specs.Images.{numbered_row}
use Rattle.flat_routes.specs.Written.{IsImageOf}
use Rattle.nibble_map.proofs.ListLemmas.Sorted.{tied_lists_equal}
use Rattle.nibble_map.proofs.MapLemmas.Bridge.{equal_by_test}
use Rattle.nibble_map.proofs.MapLemmas.Edits.{same_Some}
use Rattle.nibble_map.specs.Lists.{IsPrefix}
use Rattle.nibble_map.specs.Maps.{PairMap, value_at}
use Rattle.nibble_map.specs.Nibbles.{nibbles}
use Rattle.radix_keys.specs.Distinct.{unsigned_key-distinct}
use Rattle.radix_keys.specs.Integers.{unsigned_key}
use Rattle.radix_keys.specs.Networks.{Net}
use Rattle.route_tool.proofs.AggregateLemmas.{rows_more, zip_more}
use Rattle.route_tool.proofs.LoadLemmas.{part_before}
use Rattle.route_tool.proofs.NumberLemmas.{number_among}
use Rattle.route_tool.specs.Loads.{lines_in}
use Rattle.route_tool.specs.Numbers.{Numbers, IsNumberOf}
use Rattle.route_tool.specs.RouteImages.{AreHopsOf, AreOpened, IsLineStart, IsHopAt, HasHopAt, IsFirstHopless, IsOpenedOf, IsLineHop, IsWrittenAt, IsWrittenRow, AreLaidAt, AreTooMany, AreTooLong, hops_size}
use Rattle.route_tool.specs.Routes.{Route}

-- no hops have been made
pub no_hops : (own : List ℕ) (m : PairMap ℕ (List ℕ)) → m ≡ map.empty → AreHopsOf own m
no_hops own m empty place hop within is =
    let both : None ≡ Some hop = sym (ap (option_map (λ p. p.1)) (map.get-empty (slice_cmp nat_cmp) (unsigned_key w64 place))) ∙ ap (λ k. value_at k (unsigned_key w64 place)) (sym empty) ∙ is in
    cc

-- one more has
pub hops_more : (own : List ℕ) (m new : PairMap ℕ (List ℕ)) (place : ℕ) (hop : List ℕ) → place < 2 ^ 64 → IsHopAt own place hop → new ≡ map.insert m (unsigned_key w64 place) (place, hop)
    → AreHopsOf own m → AreHopsOf own new
hops_more own m new place hop within is stored before other found inside at = by (eq_by_cmp (slice_cmp nat_cmp) (unsigned_key w64 other) (unsigned_key w64 place)) refl
  where
    got : value_at new (unsigned_key w64 other) ≡ option_map (λ p. p.1) (cond (eq_by_cmp (slice_cmp nat_cmp) (unsigned_key w64 other) (unsigned_key w64 place)) (Some (place, hop)) (map.get m (unsigned_key w64 other)))
    got = ap (λ k. value_at k (unsigned_key w64 other)) stored ∙ ap (option_map (λ p. p.1)) (map.get-insert nat_list_cmp_total m (unsigned_key w64 place) (place, hop) (unsigned_key w64 other))

    by : (b : Bool) → eq_by_cmp (slice_cmp nat_cmp) (unsigned_key w64 other) (unsigned_key w64 place) ≡ b → IsHopAt own other found
    by true t =
        let key : unsigned_key w64 other ≡ unsigned_key w64 place = tied_lists_equal (unsigned_key w64 other) (unsigned_key w64 place) (equal_by_test _ (subst T (sym t) tt)) in
        let same : other ≡ place = eqb-true other place (unsigned_key-distinct w64 other place inside within key) in
        let text : hop ≡ found = same_Some hop found (sym (got ∙ ap (λ b. option_map (λ p. p.1) (cond b (Some (place, hop)) (map.get m (unsigned_key w64 other)))) t) ∙ at) in
        subst (λ p. IsHopAt own p found) (sym same) (subst (IsHopAt own place) text is)
    by false t = before other found inside (sym (got ∙ ap (λ b. option_map (λ p. p.1) (cond b (Some (place, hop)) (map.get m (unsigned_key w64 other)))) t) ∙ at)

-- routes with their hops have hops
pub have_hops : {A : Type 0} (number : A → ℕ) (own : List ℕ) (routes : List (Route A)) (rows : List (Net ℕ × ℕ)) → AllZip (IsOpenedOf number own) routes rows → All (λ r. HasHopAt own r.1) rows
have_hops number own [] [] zip = All-nil (λ (r : Net ℕ × ℕ). HasHopAt own r.1)
have_hops number own [] (r ∷ rs) zip = absurd zip
have_hops number own (x ∷ xs) [] zip = absurd zip
have_hops number own (x ∷ xs) (r ∷ rs) zip = All-cons (λ (r : Net ℕ × ℕ). HasHopAt own r.1) r rs (x.1, zip.0.hop) (have_hops number own xs rs zip.1)

-- a hop that is written is read, where it is a line
pub hop_written : (own : List ℕ) (place : ℕ) (hop : List ℕ) → IsLineHop hop → IsWrittenAt own place hop → IsHopAt own place hop
hop_written own place hop is at = record {
  begins = at.begins;
  left = lines_in at.rest;
  lines = part_before (drop place own) hop at.rest at.line is.free;
  text = is.text;
  is_hop = is.is_hop;
}

-- so are all
pub rows_written : {A : Type 0} (number : A → ℕ) (own : List ℕ) (routes : List (Route A)) (rows : List (Net A × ℕ)) → All (λ r. IsLineHop r.1) routes → AllZip (IsWrittenRow own) routes rows
    → AllZip (IsOpenedOf number own) routes (each (numbered_row number) rows)
rows_written {A} number own [] [] hops zip = tt
rows_written {A} number own [] (r ∷ rs) hops zip = absurd zip
rows_written {A} number own (x ∷ xs) [] hops zip = absurd zip
rows_written {A} number own (x ∷ xs) (r ∷ rs) hops zip = (
  record {
    base = ap (λ (n : Net A). number n.base) (sym zip.0.network);
    bits = ap (λ (n : Net A). n.bits) (sym zip.0.network);
    hop = hop_written own r.1 x.1 (All-head (λ (r : Route A). IsLineHop r.1) x xs hops) zip.0.hop;
  },
  rows_written number own xs rs (All-tail (λ (r : Route A). IsLineHop r.1) x xs hops) zip.1,
)

-- so an image of the rows is opened as the routes
pub opened_again : {A : Type 0} (number : A → ℕ) (wide : Bool) (image own : List ℕ) (routes : List (Route A)) (rows : List (Net A × ℕ)) → IsImageOf wide (each (numbered_row number) rows) own image
    → AllZip (IsWrittenRow own) routes rows → All (λ r. IsLineHop r.1) routes → AreOpened number wide image routes
opened_again number wide image own routes rows made zip hops = record {
  is_image = made.image;
  own = own;
  are_own = inl made.payload;
  rows = subst (AllZip (IsOpenedOf number own) routes) (sym made.rows) (rows_written number own routes rows hops zip);
}

-- a place at which a hop stands is one of a byte
place_within : (own : List ℕ) (place : ℕ) (hop : List ℕ) → IsWrittenAt own place hop → place < length own
place_within own place hop at =
    let long = ap length at.line in
    omega (arith, long, length-drop place own, length-append hop (10 ∷ at.rest))

-- what is written stays where more is
pub still_written : (own more : List ℕ) (place : ℕ) (hop : List ℕ) → IsWrittenAt own place hop → IsWrittenAt (own ++ more) place hop
still_written own more place hop at =
    let inside = place_within own place hop at in
    record {
      begins = elim at.begins [
        | inl first ↦ inl first
        | inr fed ↦ inr (get_or_append_left own more 0 (place - 1) (omega (arith, inside)) ∙ fed)
      ];
      rest = at.rest ++ more;
      line = drop-append-le place own more (omega (arith, inside)) ∙ ap (λ l. l ++ more) at.line ∙ append_assoc hop (10 ∷ at.rest) more;
    }

-- a hop behind the others is written there
new_written : (own hop : List ℕ) → IsLineStart own (length own) → IsWrittenAt (own ++ hop ++ 10 ∷ []) (length own) hop
new_written own hop starts = record {
  begins = elim starts [
    | inl first ↦ inl first
    | inr fed ↦ inr (start fed)
  ];
  rest = [];
  line = ap (drop (length own)) (append_assoc own hop (10 ∷ [])) ∙ drop_at own (hop ++ 10 ∷ []) (length own) refl;
}
  where
    start : get_or own (length own - 1) 0 ≡ 10 → get_or (own ++ hop ++ 10 ∷ []) (length own - 1) 0 ≡ 10
    start fed = ap (λ l. get_or l (length own - 1) 0) (append_assoc own hop (10 ∷ [])) ∙ get_or_append_left own (hop ++ 10 ∷ []) 0 (length own - 1) (some own fed) ∙ fed
      where
        some : (own : List ℕ) → get_or own (length own - 1) 0 ≡ 10 → length own - 1 < length own
        some [] is = absurd (cc is)
        some (x ∷ xs) is = omega arith

-- and a line begins behind it
pub ends_fed : (bytes : List ℕ) → IsLineStart (bytes ++ 10 ∷ []) (length (bytes ++ 10 ∷ []))
ends_fed bytes = inr (get_or_push bytes 10 0 (length (bytes ++ 10 ∷ []) - 1) (omega (arith, length-append bytes (10 ∷ []))))

-- no places are those of hops
pub none_laid : (m : Numbers) (own : List ℕ) → m ≡ map.empty → own ≡ [] → AreLaidAt m own
none_laid m own empty none = record {
  hops = λ hop place is.
      let both : None ≡ Some place = sym (ap (option_map (λ p. p.1)) (map.get-empty (slice_cmp nat_cmp) (nibbles hop))) ∙ ap (λ k. value_at k (nibbles hop)) (sym empty) ∙ is in
      cc;
  ended = inl (ap length none);
}

-- a hop that is added behind the others is written there
pub one_written : (own more hop : List ℕ) (place : ℕ) → IsLineStart own (length own) → place ≡ length own → more ≡ own ++ hop ++ 10 ∷ [] → IsWrittenAt more place hop
one_written own more hop place starts at added = subst (λ k. IsWrittenAt more k hop) (sym at) (subst (λ l. IsWrittenAt l (length own) hop) (sym added) (new_written own hop starts))

-- the place of one more hop
pub one_laid : (m new : Numbers) (own more : List ℕ) (key : Bor (List ℕ)) (place : ℕ) → AreLaidAt m own → place ≡ length own → new ≡ map.insert m (nibbles key.now) (key, place)
    → more ≡ own ++ key.now ++ 10 ∷ [] → AreLaidAt new more
one_laid m new own more key place laid at stored added = record {
  hops = λ hop n is.
      let all = subst (λ k. IsNumberOf k hop n) stored is in
      elim (number_among m key key place refl hop) [
        | inl its ↦ (
            let number : place ≡ n = same_Some place n (sym its.1 ∙ all) in
            subst (λ k. IsWrittenAt more k hop) number (subst (IsWrittenAt more place) (sym its.0) (one_written own more key.now place laid.ended at added))
            )
        | inr old ↦ (
            let before = still_written own (key.now ++ 10 ∷ []) n hop (laid.hops hop n (sym old ∙ all)) in
            subst (λ l. IsWrittenAt l n hop) (sym (append_assoc own key.now (10 ∷ [])) ∙ sym added) before
            )
      ];
  ended = subst (λ l. IsLineStart l (length l)) (sym added) (ends_fed (own ++ key.now));
}

-- some first routes have their rows, and the rest are still to come
abbrev pub AreBegunRows : {A : Type 0} → (own : List ℕ) (whole rest : List (Route A)) → List (Net A × ℕ) → Type 0
AreBegunRows {A} own whole rest rows = (done : List (Route A)) × (whole ≡ done ++ rest) × AllZip (IsWrittenRow own) done rows

-- rows stay where more is written
rows_stay : {A : Type 0} (own more : List ℕ) (routes : List (Route A)) (rows : List (Net A × ℕ)) → IsPrefix own more → AllZip (IsWrittenRow own) routes rows → AllZip (IsWrittenRow more) routes rows
rows_stay {A} own more [] [] longer zip = tt
rows_stay {A} own more [] (r ∷ rs) longer zip = absurd zip
rows_stay {A} own more (x ∷ xs) [] longer zip = absurd zip
rows_stay {A} own more (x ∷ xs) (r ∷ rs) longer zip = (
  record { network = zip.0.network; hop = subst (λ l. IsWrittenAt l r.1 x.1) (sym longer.1) (still_written own longer.0 r.1 x.1 zip.0.hop) },
  rows_stay own more xs rs longer zip.1,
)

-- one more route has its row
pub one_row : {A : Type 0} (own more : List ℕ) (whole rest later : List (Route A)) (route : Route A) (row : Net A × ℕ) (rows pushed : List (Net A × ℕ)) → AreBegunRows own whole rest rows → IsPrefix own more
    → rest ≡ route ∷ later → IsWrittenRow more route row → pushed ≡ rows ++ row ∷ [] → AreBegunRows more whole later pushed
one_row {A} own more whole rest later route row rows pushed (done, is, zip) longer next with push = (
  done ++ route ∷ [],
  is ∙ ap (λ l. done ++ l) next ∙ sym (append_assoc done (route ∷ []) later),
  subst (AllZip (IsWrittenRow more) (done ++ route ∷ [])) (sym push) (zip_more (IsWrittenRow more) done rows route row (rows_stay own more done rows longer zip) with),
)

-- what is left behind the first
pub first_is : {X : Type 0} (rest later : List X) (x : X) → slice_get rest 0 ≡ Some x → later ≡ drop 1 rest → rest ≡ x ∷ later
first_is [] later x at is = absurd (cc at)
first_is (y ∷ ys) later x at is = let same : y ≡ x = cc at in ap (λ z. z ∷ ys) same ∙ ap (λ zs. x ∷ zs) (sym is)

-- what is read at an index is there in the changed list
read_there : {X Y : Type 0} (f : X → Y) (xs : List X) (i : ℕ) (x : X) → i < length xs → x ≡ get_or xs i x → f x ≡ get_or (each f xs) i (f x)
read_there f xs i x lt at = ap f at ∙ sym (get_or-map f xs i x (f x) lt)

module _ {A : Type 0} (number : A → ℕ) (own : List ℕ) (rows : List (Net A × ℕ)) (i : ℕ) (row : Net A × ℕ) (lt : i < length rows) (at : row ≡ get_or rows i row) (routes : List (Route A))
    (zip : AllZip (IsOpenedOf number own) routes (take i (each (numbered_row number) rows))) where
  -- one more row has its hop
  pub one_opened : (pushed : List (Route A)) (hop : List ℕ) → IsHopAt own row.1 hop → pushed ≡ routes ++ (row.0, hop) ∷ []
      → AllZip (IsOpenedOf number own) pushed (take (i + 1) (each (numbered_row number) rows))
  one_opened pushed hop is push =
      let opened : IsOpenedOf number own (row.0, hop) (numbered_row number row) = record { base = refl; bits = refl; hop = is } in
      rows_more (IsOpenedOf number own) routes pushed (each (numbered_row number) rows) i (row.0, hop) (numbered_row number row) (omega (arith, lt, length-map rows (numbered_row number))) push zip
      (subst (IsOpenedOf number own (row.0, hop)) (read_there (numbered_row number) rows i row lt at) opened)

  -- or is the first that has none
  pub first_hopless : (HasHopAt own row.1 → ⊥) → IsFirstHopless own (each (numbered_row number) rows) i
  first_hopless lacks = record {
    row = numbered_row number row;
    stored = slice_get_read (each (numbered_row number) rows) (length rows) i (numbered_row number row) (sym (length-map rows (numbered_row number))) lt (read_there (numbered_row number) rows i row lt at);
    lacks = lacks;
    before = have_hops number own routes (take i (each (numbered_row number) rows)) zip;
  }

-- what the test of a line feed says
pub fed_before : (x : ℕ) → not (x == 10) ≡ false → x ≡ 10
fed_before x is = elim (eqb_tells x 10) [ inl same ↦ same.1 | inr differs ↦ absurd (let other = differs.0 in cc) ]

-- places are below the count of all bytes
rows_within : {A : Type 0} (own : List ℕ) (n : ℕ) (routes : List (Route A)) (rows : List (Net A × ℕ)) → length own ≤ n → AllZip (IsWrittenRow own) routes rows → All (λ r. r.1 < n) rows
rows_within {A} own n [] [] few zip = All-nil (λ (r : Net A × ℕ). r.1 < n)
rows_within {A} own n [] (r ∷ rs) few zip = absurd zip
rows_within {A} own n (x ∷ xs) [] few zip = absurd zip
rows_within {A} own n (x ∷ xs) (r ∷ rs) few zip =
    let inside = place_within own r.1 x.1 zip.0.hop in
    All-cons (λ (r : Net A × ℕ). r.1 < n) r rs (omega (arith, inside, few)) (rows_within own n xs rs few zip.1)

-- there are as many rows as routes
rows_count : {A : Type 0} (own : List ℕ) (routes : List (Route A)) (rows : List (Net A × ℕ)) → AllZip (IsWrittenRow own) routes rows → length rows ≡ length routes
rows_count {A} own [] [] zip = refl
rows_count {A} own [] (r ∷ rs) zip = absurd zip
rows_count {A} own (x ∷ xs) [] zip = absurd zip
rows_count {A} own (x ∷ xs) (r ∷ rs) zip = ap suc (rows_count own xs rs zip.1)

-- where there are too many rows there are too many routes, or too many bytes of their hops
pub too_long : {A : Type 0} (wide : Bool) (own : List ℕ) (routes : List (Route A)) (rows : List (Net A × ℕ)) → length own ≤ hops_size routes → AllZip (IsWrittenRow own) routes rows → AreTooMany wide rows
    → AreTooLong wide routes
too_long wide own routes rows size zip (inl many) = inl (omega (arith, many, rows_count own routes rows zip))
too_long wide own routes rows size zip (inr (narrow, over)) =
    elim (cases_lt (hops_size routes) (2 ^ 32)) [
      | inl few ↦ absurd (over (rows_within own (2 ^ 32) routes rows (omega (arith, size, few)) zip))
      | inr many ↦ inr (narrow, many)
    ]

-- the bytes of one more hop
pub size_after : {A : Type 0} (rest later : List (Route A)) (route : Route A) → rest ≡ route ∷ later → hops_size rest ≡ length route.1 + 1 + hops_size later
size_after rest later route is =
    let long = length-append (route.1 ++ 10 ∷ []) (flat_map (λ (r : Route _). r.1 ++ 10 ∷ []) later) in
    let one = length-append route.1 (10 ∷ []) in
    omega (arith, ap hops_size is, long, one)

-- what follows from what holds of a result, or of an error
pub ok_weaker : {X E : Type 0} (r : Result X E) (P Q : X → Type 0) → ((x : X) → P x → Q x) → IfOk r P → IfOk r Q
ok_weaker (Ok x) P Q to p = to x p
ok_weaker (Err e) P Q to p = p

pub err_weaker : {X E : Type 0} (r : Result X E) (P Q : E → Type 0) → ((e : E) → P e → Q e) → IfErr r P → IfErr r Q
err_weaker (Ok x) P Q to p = p
err_weaker (Err e) P Q to p = to e p
