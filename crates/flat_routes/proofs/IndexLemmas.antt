-- What is known of the spans and cells of an image while they are written, and of the image when all of it is.
use Rattle.std.proofs.Common.{◌≡◌, ℕ, zero, suc, ◌+◌, ◌*◌, ◌/◌, ◌^◌, ◌<◌, ◌≤◌, inl, inr, Bool, true, false, List, length, get_or, slice_index, nat_eq, take, drop, refl, ap, sym, subst, ◌∙◌, arith}
use Rattle.std.proofs.lemmas.Bool.{cases_lt}
use Rattle.std.proofs.lemmas.Nat.{mul-le}
use Rattle.std.proofs.Math.Nat.{mul-add, mul-div_cancel_left}
use Rattle.radix_keys.specs.Networks.{Net}
use Rattle.image_parts.specs.Parts.{IsEntry, u128_in, u32_in, u64_in}
use Rattle.image_parts.proofs.ByteLemmas.{entry_kept}
use Rattle.frozen_routes.specs.Routes.{IsLastHolder, base_numbers, bit_counts}
use Rattle.flat_routes.specs.declared.head.CellPlan.{CellPlan}
use Rattle.flat_routes.specs.declared.head.RowPlan.{RowPlan}
use Rattle.flat_routes.specs.declared.head.SpanPlan.{SpanPlan}
use Rattle.flat_routes.specs.declared.turns.Begun.{Begun}
use Rattle.flat_routes.specs.Images.{AreCells, AreLinkedTo, AreSpans, HasHead, HasNoTurn, IsKnownAt, IsImage, IsRowPlan, IsSpanOf, IsTurn, answer_in, answer_of, bases, cell_count, cell_in, image_rows, is_half, links, low_of, rest_of, row_size, sizes, span_count, span_plan, start_from, start_in, begin_of, start_size, width}
use Rattle.flat_routes.specs.SpanLaws.{AreStarts}
use Rattle.flat_routes.specs.Written.{AreListed, ChangesWithin, IsImageOf, IsRowHead, most_span}
use Rattle.flat_routes.proofs.ImageLemmas.{all_rise, length-firsts, length-links}
use Rattle.flat_routes.proofs.WriteLemmas.{head_kept, linked_kept, plan_kept, rows_same, u32_stays, u64_stays}

-- spans from a place on
abbrev pub spans_at : ℕ → Bool → SpanPlan
spans_at at half = record { count = 0; at = at; is_half = half }

-- the next item of some that have s bytes lies s bytes on
pub place_next : (s i : ℕ) → s * (i + 1) ≡ s * i + s
place_next s i = omega (arith, mul-add s i 1)

-- and no later one lies before it
pub place_up : (s i j : ℕ) → i ≤ j → s * i ≤ s * j
place_up s i j le = mul-le s i s j (omega arith) le

-- a start of 16 bytes
pub full_start : (wide half : Bool) (bs : List ℕ) (a : ℕ) → wide ≡ true → half ≡ false → start_from wide half bs a ≡ u128_in bs a
full_start false half bs a e f = absurd (cc e)
full_start true true bs a e f = absurd (cc f)
full_start true false bs a e f = refl

-- a start stays where its bytes do
pub start_kept : (wide half : Bool) (xs ys : List ℕ) (lo hi a : ℕ) → ((k : ℕ) → lo ≤ k → k < hi → slice_index ys k ≡ slice_index xs k) → lo ≤ a → a + start_size wide half ≤ hi
    → start_from wide half ys a ≡ start_from wide half xs a
start_kept false half xs ys lo hi a same least most = u32_stays xs ys lo hi same a least most
start_kept true true xs ys lo hi a same least most = ap (λ n. 2 ^ 64 * n) (u64_stays xs ys lo hi same a least most)
start_kept true false xs ys lo hi a same least most =
    let low = u64_stays xs ys lo hi same a least (omega (arith, most)) in
    let high = u64_stays xs ys lo hi same (a + 8) (omega (arith, least)) (omega (arith, most)) in
    cc (low, high)

-- a span takes no more bytes than the most
pub span_most : (wide half : Bool) → start_size wide half + 4 ≤ most_span wide
span_most false half = omega arith
span_most true true = omega arith
span_most true false = omega arith

-- rows stay where all bytes before their end do
pub rows_before : (wide : Bool) (old new : List ℕ) (plan : RowPlan) (at : ℕ) → plan.rows_at ≡ 112 → at ≡ plan.rows_at + row_size wide * plan.rows
    → ((k : ℕ) → k < at → slice_index new k ≡ slice_index old k) → plan.rows_at + row_size wide * plan.rows ≤ length new → IsRowPlan wide old plan
    → image_rows wide new ≡ image_rows wide old
rows_before wide old new plan at place end same room of =
    rows_same wide old new plan of (plan_kept wide old new plan (λ k l. same k (omega (arith, l, place, end))) room of) (λ j _ l. same j (omega (arith, l, end)))

-- what is known at an address by the rows of other bytes is known by the same rows
pub begun_there : (wide : Bool) (old out : List ℕ) (before new : Begun) (start : ℕ) → image_rows wide out ≡ image_rows wide old
    → ((a : ℕ) → a ≤ start → ((k : ℕ) → k < before.count → get_or (bases wide out) k 0 ≤ a)
    → IsLastHolder (width wide) (bases wide out) (sizes wide out) before.count a before.around → IsKnownAt (width wide) (bases wide out) (sizes wide out) start new)
    → ((a : ℕ) × (a ≤ start) × ((k : ℕ) → k < before.count → get_or (bases wide old) k 0 ≤ a) × IsLastHolder (width wide) (bases wide old) (sizes wide old) before.count a before.around)
    → IsKnownAt (width wide) (bases wide old) (sizes wide old) start new
begun_there wide old out before new start same made known =
    subst (λ (rs : List (Net ℕ × ℕ)). (a : ℕ) → a ≤ start → ((k : ℕ) → k < before.count → get_or (base_numbers (λ n. n) rs) k 0 ≤ a)
    → IsLastHolder (width wide) (base_numbers (λ n. n) rs) (bit_counts rs) before.count a before.around → IsKnownAt (width wide) (base_numbers (λ n. n) rs) (bit_counts rs) start new)
    same made known.0 known.1 known.2 known.3

-- the first n spans with these starts and answers are right, and the start of the next one is put
pub record ArePut (w : ℕ) (fs bs : List ℕ) (starts answers : ℕ → ℕ) (n : ℕ) : Type 0 where
  pub first : starts 0 ≡ 0
  pub rising : (i : ℕ) → i < n → starts i < starts (i + 1)
  pub right : (i a : ℕ) → i < n → starts i ≤ a → a < starts (i + 1) → IsLastHolder w fs bs (length fs) a (answers i)

module _ (w : ℕ) (fs bs : List ℕ) (starts answers : ℕ → ℕ) (n : ℕ) (put : ArePut w fs bs starts answers n) where
  -- the same numbers say the same
  pub put_same : (others told : ℕ → ℕ) → ((i : ℕ) → i ≤ n → others i ≡ starts i) → ((i : ℕ) → i < n → told i ≡ answers i) → ArePut w fs bs others told n
  put_same others told s t = record {
    first = s 0 (omega arith) ∙ put.first;
    rising = λ i l. let less = put.rising i l in omega (arith, less, s i (omega (arith, l)), s (i + 1) (omega (arith, l)));
    right = λ i a l from to. subst (IsLastHolder w fs bs (length fs) a) (sym (t i l))
        (put.right i a l (omega (arith, from, s i (omega (arith, l)))) (omega (arith, to, s (i + 1) (omega (arith, l)))));
  }

  -- one more is put up to where another network is the last holder
  pub put_more : IsTurn w fs bs (starts n) (answers n) (starts (n + 1)) → ArePut w fs bs starts answers (n + 1)
  put_more turn = record {
    first = put.first;
    rising = λ i l. elim (cases_lt i n) [
      | inl lt ↦ put.rising i lt
      | inr ge ↦ let is : n ≡ i = omega (arith, l, ge) in subst (λ j. starts j < starts (j + 1)) is turn.behind
    ];
    right = λ i a l from to. elim (cases_lt i n) [
      | inl lt ↦ put.right i a lt from to
      | inr ge ↦
          let is : i ≡ n = omega (arith, l, ge) in
          let x = ap starts is in
          let y = ap (λ j. starts (j + 1)) is in
          subst (IsLastHolder w fs bs (length fs) a) (sym (ap answers is)) (turn.same a (omega (arith, from, x)) (omega (arith, to, y)))
    ];
  }

  -- and the last where there is none
  pub put_last : HasNoTurn w fs bs (starts n) (answers n) → AreSpans w fs bs starts answers (n + 1)
  put_last none = record {
    some = omega arith;
    each = λ i l. record {
      first = λ _. put.first;
      next = λ more. put.rising i (omega (arith, more));
      answer = λ a lt of. elim (cases_lt i n) [
        | inl less ↦ put.right i a less of.from (of.to (omega (arith, less)))
        | inr ge ↦
            let is : i ≡ n = omega (arith, l, ge) in
            let from = of.from in
            let x = ap starts is in
            subst (IsLastHolder w fs bs (length fs) a) (sym (ap answers is)) (none a (omega (arith, from, x)) lt)
      ];
    };
  }

-- right spans rise from 0
pub spans_start : (w : ℕ) (fs bs : List ℕ) (starts answers : ℕ → ℕ) (m : ℕ) → AreSpans w fs bs starts answers m → AreStarts starts m
spans_start w fs bs starts answers m spans = record {
  some = spans.some;
  first = (spans.each 0 spans.some).first refl;
  rising = λ i l. (spans.each i (omega (arith, l))).next l;
}

-- the same numbers are those of right spans
pub spans_same : (w : ℕ) (fs bs : List ℕ) (starts answers others told : ℕ → ℕ) (m : ℕ) → ((i : ℕ) → i < m → others i ≡ starts i) → ((i : ℕ) → i < m → told i ≡ answers i)
    → AreSpans w fs bs starts answers m → AreSpans w fs bs others told m
spans_same w fs bs starts answers others told m s t spans = record {
  some = spans.some;
  each = λ i l.
      let right = spans.each i l in
      record {
        first = λ is. s 0 spans.some ∙ right.first is;
        next = λ more. let less = right.next more in omega (arith, less, s i l, s (i + 1) more);
        answer = λ a lt of. subst (IsLastHolder w fs bs (length fs) a) (sym (t i l)) (right.answer a lt (span_same starts others m a i (λ j k. sym (s j k)) of));
      };
} where
  span_same : (ss os : ℕ → ℕ) (n a i : ℕ) → ((j : ℕ) → j < n → ss j ≡ os j) → IsSpanOf os n a i → IsSpanOf ss n a i
  span_same ss os n a i e of = record {
    within = of.within;
    from = (let from = of.from in omega (arith, from, e i of.within));
    to = λ more. let to = of.to more in omega (arith, to, e (i + 1) more);
  }

-- the same is the span of an address
pub span_there : (starts others : ℕ → ℕ) (m a i : ℕ) → ((j : ℕ) → j < m → others j ≡ starts j) → IsSpanOf starts m a i → IsSpanOf others m a i
span_there starts others m a i e of = record {
  within = of.within;
  from = (let from = of.from in omega (arith, from, e i of.within));
  to = λ more. let to = of.to more in omega (arith, to, e (i + 1) more);
}

-- of the spans from the place `at` on, n are put, and the start of that at n; then its answer r is put
module _ (wide half : Bool) (fs bs : List ℕ) (at n r start : ℕ) (out mid : List ℕ) (same : (k : ℕ) → k < at + (start_size wide half + 4) * n + start_size wide half → slice_index mid k ≡ slice_index out k)
    (put : ArePut (width wide) fs bs (begin_of wide (spans_at at half) out) (answer_of wide (spans_at at half) out) n)
    (first : begin_of wide (spans_at at half) out n ≡ start) (answer : u32_in mid (at + (start_size wide half + 4) * n + start_size wide half) ≡ r) where
  -- the starts up to it stay
  starts_stay : (i : ℕ) → i ≤ n → begin_of wide (spans_at at half) mid i ≡ begin_of wide (spans_at at half) out i
  starts_stay i le =
      start_kept wide half out mid at (at + (start_size wide half + 4) * n + start_size wide half) (at + (start_size wide half + 4) * i) (λ k _ l. same k l) (omega arith)
      (omega (arith, place_up (start_size wide half + 4) i n le))

  -- and the answers before it
  answers_stay : (i : ℕ) → i < n → answer_of wide (spans_at at half) mid i ≡ answer_of wide (spans_at at half) out i
  answers_stay i lt =
      u32_stays out mid at (at + (start_size wide half + 4) * n + start_size wide half) (λ k _ l. same k l) (at + (start_size wide half + 4) * i + start_size wide half) (omega arith)
      (omega (arith, place_next (start_size wide half + 4) i, place_up (start_size wide half + 4) (i + 1) n (omega (arith, lt))))

  -- so the first n are right
  put_there : ArePut (width wide) fs bs (begin_of wide (spans_at at half) mid) (answer_of wide (spans_at at half) mid) n
  put_there = put_same (width wide) fs bs _ _ n put (begin_of wide (spans_at at half) mid) (answer_of wide (spans_at at half) mid) starts_stay answers_stay

  -- and it is the last where no other network is the last holder from there on
  pub one_last_put : HasNoTurn (width wide) fs bs start r
      → AreSpans (width wide) fs bs (begin_of wide (spans_at at half) mid) (answer_of wide (spans_at at half) mid) (n + 1)
  one_last_put none =
      put_last (width wide) fs bs _ _ n put_there
      (subst (λ a. HasNoTurn (width wide) fs bs a (answer_of wide (spans_at at half) mid n)) (sym (starts_stay n (omega arith) ∙ first))
      (subst (HasNoTurn (width wide) fs bs start) (sym answer) none))

  module _ (new : List ℕ) (also : (k : ℕ) → k < at + (start_size wide half + 4) * n + start_size wide half + 4 → slice_index new k ≡ slice_index mid k) (next : ℕ)
      (follows : start_from wide half new (at + (start_size wide half + 4) * n + start_size wide half + 4) ≡ next) where
    -- the start of the next one is there
    pub next_start : begin_of wide (spans_at at half) new (n + 1) ≡ next
    next_start =
        let place : at + (start_size wide half + 4) * (n + 1) ≡ at + (start_size wide half + 4) * n + start_size wide half + 4 = omega (arith, place_next (start_size wide half + 4) n) in
        ap (start_from wide half new) place ∙ follows

    -- and one more is right where it begins at the next turn
    pub one_more_put : IsTurn (width wide) fs bs start r next
        → ArePut (width wide) fs bs (begin_of wide (spans_at at half) new) (answer_of wide (spans_at at half) new) (n + 1)
    one_more_put turn =
        let own = λ (i : ℕ) (le : i ≤ n). start_kept wide half mid new at (at + (start_size wide half + 4) * n + start_size wide half + 4) (at + (start_size wide half + 4) * i) (λ k _ l. also k l) (omega arith)
        (omega (arith, place_up (start_size wide half + 4) i n le)) in
        let told = λ (i : ℕ) (le : i ≤ n). u32_stays mid new at (at + (start_size wide half + 4) * n + start_size wide half + 4) (λ k _ l. also k l) (at + (start_size wide half + 4) * i + start_size wide half)
        (omega arith) (omega (arith, place_up (start_size wide half + 4) i n le)) in
        let kept = put_same (width wide) fs bs _ _ n put_there (begin_of wide (spans_at at half) new) (answer_of wide (spans_at at half) new)
        own (λ i l. told i (omega (arith, l))) in
        put_more (width wide) fs bs _ _ n kept
        (subst (λ a. IsTurn (width wide) fs bs a (answer_of wide (spans_at at half) new n) (begin_of wide (spans_at at half) new (n + 1)))
        (sym (own n (omega arith) ∙ starts_stay n (omega arith) ∙ first))
        (subst (λ t. IsTurn (width wide) fs bs start t (begin_of wide (spans_at at half) new (n + 1))) (sym (told n (omega arith) ∙ answer))
        (subst (IsTurn (width wide) fs bs start r) (sym next_start) turn)))

-- plans that say the same are the same
same_fields : (p q : SpanPlan) → p.count ≡ q.count → p.at ≡ q.at → p.is_half ≡ q.is_half → p ≡ q
same_fields p q n a h =
    ap (λ k. let r : SpanPlan = record { count = k; at = p.at; is_half = p.is_half } in r) n ∙ ap (λ k. let r : SpanPlan = record { count = q.count; at = k; is_half = p.is_half } in r) a
    ∙ ap (λ b. let r : SpanPlan = record { count = q.count; at = q.at; is_half = b } in r) h

-- half of an address is told by the bytes of a start
half_told : (wide half : Bool) → (half ≡ true → wide ≡ true) → nat_eq (start_size wide half) 8 ≡ half
half_told false false h = refl
half_told false true h = absurd (let e = h refl in cc e)
half_told true false h = refl
half_told true true h = refl

-- all parts are put in behind the rows, one behind another, and listed; ys has the same bytes up to their end
module _ (wide : Bool) (plan : RowPlan) (spans : SpanPlan) (cells : CellPlan) (payload b0 b1 b2 b3 ys : List ℕ) (end : ℕ)
    (place : plan.rows_at ≡ 112) (of : IsRowPlan wide b0 plan) (head : IsRowHead wide b0 plan) (linked : AreLinkedTo (width wide) (bases wide b0) (sizes wide b0) (links wide b0) plan.rows)
    (spans_at : spans.at ≡ plan.rows_at + row_size wide * plan.rows) (is_wide : spans.is_half ≡ true → wide ≡ true)
    (right : AreSpans (width wide) (bases wide b0) (sizes wide b0) (begin_of wide spans b1) (answer_of wide spans b1) spans.count)
    (spans_put : ChangesWithin spans.at (spans.at + (start_size wide spans.is_half + 4) * spans.count) b0 b1)
    (cells_at : cells.at ≡ spans.at + (start_size wide spans.is_half + 4) * spans.count) (rest : cells.rest < 128) (low : cells.low ≡ low_of wide b0)
    (led : AreCells (begin_of wide spans b1) spans.count cells.low cells.rest (λ t. u32_in b2 (cells.at + 4 * t)) cells.count)
    (cells_put : ChangesWithin cells.at (cells.at + 4 * cells.count) b1 b2) (listed : AreListed wide b3 spans cells (length payload)) (parts_put : ChangesWithin 40 112 b2 b3)
    (is_end : end ≡ cells.at + 4 * cells.count + length payload) (room : end ≤ length ys)
    (same : (k : ℕ) → k < cells.at + 4 * cells.count → slice_index ys k ≡ slice_index b3 k) (own : take (length payload) (drop (cells.at + 4 * cells.count) ys) ≡ payload) where
  -- the bytes of each part
  front : (k : ℕ) → k < 40 → slice_index ys k ≡ slice_index b0 k
  front k l =
      same k (omega (arith, l, cells_at, spans_at, place)) ∙ parts_put.before k l ∙ cells_put.before k (omega (arith, l, cells_at, spans_at, place))
      ∙ spans_put.before k (omega (arith, l, spans_at, place))

  list : (k : ℕ) → 40 ≤ k → k < 112 → slice_index ys k ≡ slice_index b3 k
  list k l m = same k (omega (arith, m, cells_at, spans_at, place))

  rows : (k : ℕ) → plan.rows_at ≤ k → k < plan.rows_at + row_size wide * plan.rows → slice_index ys k ≡ slice_index b0 k
  rows k l m =
      same k (omega (arith, m, cells_at, spans_at)) ∙ parts_put.behind k (omega (arith, l, place)) ∙ cells_put.before k (omega (arith, m, cells_at, spans_at))
      ∙ spans_put.before k (omega (arith, m, spans_at))

  starts : (k : ℕ) → spans.at ≤ k → k < cells.at → slice_index ys k ≡ slice_index b1 k
  starts k l m = same k (omega (arith, m)) ∙ parts_put.behind k (omega (arith, l, spans_at, place)) ∙ cells_put.before k m

  leads : (k : ℕ) → cells.at ≤ k → k < cells.at + 4 * cells.count → slice_index ys k ≡ slice_index b2 k
  leads k l m = same k m ∙ parts_put.behind k (omega (arith, l, cells_at, spans_at, place))

  -- what the head says at last
  row_head : IsRowHead wide ys plan
  row_head = head_kept wide b0 ys plan front head

  row_plan : IsRowPlan wide ys plan
  row_plan = plan_kept wide b0 ys plan front (omega (arith, room, is_end, cells_at, spans_at)) of

  spans_listed : IsEntry ys 40 2 (start_size wide spans.is_half) spans.at ((start_size wide spans.is_half + 4) * spans.count)
  spans_listed = entry_kept b3 ys 40 _ _ _ _ (λ k l m. list k l (omega (arith, m))) listed.spans_part

  cells_listed : IsEntry ys 64 5 cells.rest cells.at (4 * cells.count)
  cells_listed = entry_kept b3 ys 64 _ _ _ _ (λ k l m. list k (omega (arith, l)) (omega (arith, m))) listed.cells_part

  own_listed : IsEntry ys 88 3 0 (cells.at + 4 * cells.count) (length payload)
  own_listed = entry_kept b3 ys 88 _ _ _ _ (λ k l m. list k (omega (arith, l)) (omega (arith, m))) listed.own_part

  -- the rows are those that stood there, and so are their links
  same_rows : image_rows wide ys ≡ image_rows wide b0
  same_rows = rows_same wide b0 ys plan of row_plan rows

  linked_last : AreLinkedTo (width wide) (bases wide ys) (sizes wide ys) (links wide ys) plan.rows
  linked_last = linked_kept wide b0 ys plan of row_plan rows plan.rows linked

  -- the head says of the spans what their plan does
  is_same_half : is_half ys ≡ spans.is_half
  is_same_half = ap (λ n. nat_eq n 8) spans_listed.detail_is ∙ half_told wide spans.is_half is_wide

  same_count : span_count wide ys ≡ spans.count
  same_count =
      ap (λ h. u64_in ys 56 / (start_size wide h + 4)) is_same_half ∙ ap (λ n. n / (start_size wide spans.is_half + 4)) spans_listed.size_is
      ∙ mul-div_cancel_left spans.count (omega arith)

  same_plan : span_plan wide ys ≡ spans
  same_plan = same_fields (span_plan wide ys) spans same_count spans_listed.place_is is_same_half

  -- and each span stays
  same_start : (i : ℕ) → i < spans.count → start_in wide ys i ≡ begin_of wide spans b1 i
  same_start i l =
      ap (λ s. begin_of wide s ys i) same_plan
      ∙ start_kept wide spans.is_half b1 ys spans.at cells.at _ starts (omega arith)
      (omega (arith, cells_at, place_next (start_size wide spans.is_half + 4) i, place_up (start_size wide spans.is_half + 4) (i + 1) spans.count (omega (arith, l))))

  same_answer : (i : ℕ) → i < spans.count → answer_in wide ys i ≡ answer_of wide spans b1 i
  same_answer i l =
      ap (λ s. answer_of wide s ys i) same_plan
      ∙ u32_stays b1 ys spans.at cells.at starts _ (omega arith)
      (omega (arith, cells_at, place_next (start_size wide spans.is_half + 4) i, place_up (start_size wide spans.is_half + 4) (i + 1) spans.count (omega (arith, l))))

  same_spans : AreSpans (width wide) (bases wide ys) (sizes wide ys) (start_in wide ys) (answer_in wide ys) (span_count wide ys)
  same_spans =
      subst (AreSpans (width wide) (bases wide ys) (sizes wide ys) (start_in wide ys) (answer_in wide ys)) (sym same_count)
      (subst (λ (rs : List (Net ℕ × ℕ)). AreSpans (width wide) (base_numbers (λ n. n) rs) (bit_counts rs) (start_in wide ys) (answer_in wide ys) spans.count) (sym same_rows)
      (spans_same (width wide) (bases wide b0) (sizes wide b0) (begin_of wide spans b1) (answer_of wide spans b1) (start_in wide ys) (answer_in wide ys) spans.count same_start same_answer right))

  -- and each cell
  same_cells : AreCells (start_in wide ys) (span_count wide ys) (low_of wide ys) (rest_of ys) (cell_in ys) (cell_count ys)
  same_cells t l =
      let few : t < cells.count = (let size = cells_listed.size_is in omega (arith, l, size)) in
      let there = span_there (begin_of wide spans b1) (start_in wide ys) spans.count _ _ same_start (led t few) in
      let own_low : cells.low ≡ low_of wide ys = low ∙ ap (λ (rs : List (Net ℕ × ℕ)). get_or (base_numbers (λ n. n) rs) 0 0) (sym same_rows) in
      let cell : u32_in b2 (cells.at + 4 * t) ≡ cell_in ys t =
      sym (ap (λ p. u32_in ys (p + 4 * t)) cells_listed.place_is ∙ u32_stays b2 ys cells.at (cells.at + 4 * cells.count) leads (cells.at + 4 * t) (omega arith) (omega (arith, few))) in
      subst (λ m. IsSpanOf (start_in wide ys) m (low_of wide ys + t * 2 ^ rest_of ys) (cell_in ys t)) (sym same_count)
      (subst (λ n. IsSpanOf (start_in wide ys) spans.count (n + t * 2 ^ rest_of ys) (cell_in ys t)) own_low
      (subst (λ e. IsSpanOf (start_in wide ys) spans.count (cells.low + t * 2 ^ e) (cell_in ys t)) (sym cells_listed.detail_is)
      (subst (IsSpanOf (start_in wide ys) spans.count (cells.low + t * 2 ^ cells.rest)) cell there)))

  -- the head is one
  whole_head : HasHead wide ys
  whole_head =
      let parts = row_head.parts in
      let place1 = row_head.rows.place_is in
      let size1 = row_head.rows.size_is in
      let place2 = spans_listed.place_is in
      let size2 = spans_listed.size_is in
      let place3 = cells_listed.place_is in
      let size3 = cells_listed.size_is in
      record {
        marked = row_head.marked;
        some = omega (arith, parts);
        fits = omega (arith, parts, room, is_end, cells_at, spans_at, place);
        rows = record { of_kind = row_head.rows.kind_is; inside = omega (arith, place1, size1, room, is_end, cells_at, spans_at) };
        rows_size = size1 ∙ ap (λ n. row_size wide * n) (sym row_head.count);
        spans = record { of_kind = spans_listed.kind_is; inside = omega (arith, place2, size2, room, is_end, cells_at) };
        start = spans_listed.detail_is ∙ ap (start_size wide) (sym is_same_half);
        cells = record { of_kind = cells_listed.kind_is; inside = omega (arith, place3, size3, room, is_end) };
        shift = (let detail = cells_listed.detail_is in omega (arith, detail, rest));
      }

  -- so the bytes are an image
  whole_image : IsImage wide ys
  whole_image =
      let counted = row_plan.rows in
      let size = cells_listed.size_is in
      record {
        head = whole_head;
        plain = row_head.rows.detail_is;
        whole_spans = spans_listed.size_is ∙ ap (λ n. (start_size wide spans.is_half + 4) * n) (sym same_count) ∙ ap (λ h. (start_size wide h + 4) * span_count wide ys) (sym is_same_half);
        whole_cells = omega (arith, size);
        rising = all_rise (width wide) (bases wide ys) (sizes wide ys) plan.rows linked_last.next (omega (arith, length-firsts wide ys, counted));
        linked = λ k l. linked_last.links k (omega (arith, l, length-links wide ys, counted));
        spans = same_spans;
        cells = same_cells;
      }

  -- of these rows, which holds the user's own bytes
  pub image_of_all : IsImageOf wide (image_rows wide b0) payload ys
  image_of_all =
      let parts = row_head.parts in
      let at = own_listed.place_is in
      let size = own_listed.size_is in
      record {
        image = whole_image;
        rows = same_rows;
        payload = record {
          place = cells.at + 4 * cells.count;
          part = record {
            at = 3;
            within = omega (arith, parts);
            early = omega arith;
            list = omega (arith, parts, room, is_end, cells_at, spans_at, place);
            listed = record { of_kind = own_listed.kind_is; inside = omega (arith, at, size, room, is_end) };
            first = λ k l kind. not_own k l kind;
            place_is = at;
            size_is = size;
          };
          bytes = own;
        };
      }
    where
      not_own : (k : ℕ) → k < 3 → u32_in ys (16 + 24 * k) ≡ 3 → ⊥
      not_own zero l kind = let other = row_head.rows.kind_is in omega (arith, kind, other)
      not_own (suc zero) l kind = let other = spans_listed.kind_is in omega (arith, kind, other)
      not_own (suc (suc zero)) l kind = let other = cells_listed.kind_is in omega (arith, kind, other)
      not_own (suc (suc (suc k))) l kind = omega (arith, l)
