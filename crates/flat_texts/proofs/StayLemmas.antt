-- What stays of an image while it is written.
use Rattle.std.proofs.Common.{◌≡◌, ℕ, zero, suc, ◌+◌, ◌-◌, ◌*◌, ◌<◌, ◌≤◌, inl, inr, List, length, get_or, slice_index, take, drop, refl, ap, sym, subst, ◌∙◌, arith}
use Rattle.std.proofs.lemmas.Bool.{cases_lt}
use Rattle.std.proofs.lemmas.Grind.{same_number_lists}
use Rattle.std.proofs.lemmas.List.{get_or-drop, get_or-take, length-drop, length-take}
use Rattle.nibble_map.specs.Lists.{IsBefore, IsPrefix}
use Rattle.nibble_map.specs.Nibbles.{nibbles}
use Rattle.sorted_tables.specs.Tables.{IsLastOf}
use Rattle.sorted_tables.proofs.TableLemmas.Links.{last_of_same}
use Rattle.image_parts.specs.Parts.{u32_in, u64_in}
use Rattle.image_parts.proofs.ByteLemmas.{u32_kept, u64_kept}
use Rattle.flat_texts.specs.declared.head.Plan.{Plan}
use Rattle.flat_texts.specs.TextImages.{AreRightPairs, IsTextPlan, key_code, key_end, key_head, key_in, key_start, keys_place, keys_size, pair_in, stored_head, stored_link, stored_value}
use Rattle.flat_texts.specs.TextWritten.{IsTextLayout, IsWrittenTextHead, PairsStay}

-- the numbers of bytes that stay
module _ (xs ys : List ℕ) (n : ℕ) (same : (k : ℕ) → k < n → slice_index ys k ≡ slice_index xs k) where
  u32_front : (a : ℕ) → a + 4 ≤ n → u32_in ys a ≡ u32_in xs a
  u32_front a le = u32_kept xs ys a (λ k l m. same k (omega (arith, m, le)))

  u64_front : (a : ℕ) → a + 8 ≤ n → u64_in ys a ≡ u64_in xs a
  u64_front a le = u64_kept xs ys a (λ k l m. same k (omega (arith, m, le)))

-- a head that stays says the same
pub plan_kept : (xs ys : List ℕ) (plan : Plan) → ((k : ℕ) → k < 64 → slice_index ys k ≡ slice_index xs k) → length ys ≡ length xs → IsTextPlan xs plan → IsTextPlan ys plan
plan_kept xs ys plan same long of =
    let count = u32_front xs ys 64 same 8 (omega arith) in
    let parts = u32_front xs ys 64 same 12 (omega arith) in
    let kind = u32_front xs ys 64 same 16 (omega arith) in
    let detail = u32_front xs ys 64 same 20 (omega arith) in
    let place = u64_front xs ys 64 same 24 (omega arith) in
    let size = u64_front xs ys 64 same 32 (omega arith) in
    let head = of.head in
    let some = head.some in
    let fits = head.fits in
    let inside = head.part.inside in
    let room = head.room in
    record {
      head = record {
        marked = u64_front xs ys 64 same 0 (omega arith) ∙ head.marked;
        some = omega (arith, some, parts);
        fits = omega (arith, fits, parts, long);
        part = record { of_kind = kind ∙ head.part.of_kind; inside = omega (arith, inside, place, size, long) };
        room = omega (arith, room, count, detail, size);
      };
      pairs = of.pairs ∙ sym count;
      few = of.few;
      heads_at = of.heads_at ∙ sym place;
      pairs_at = omega (arith, of.pairs_at, place, count);
      counts = of.counts ∙ sym detail;
      counts_at = omega (arith, of.counts_at, place, count);
      keys_at = omega (arith, of.keys_at, place, count, detail);
      keys_len = omega (arith, of.keys_len, size, count, detail);
    }

-- a written head says what its plan does
pub head_plan : (bs : List ℕ) (plan : Plan) (payload : ℕ) → IsTextLayout plan.pairs plan.keys_len plan → plan.keys_at + plan.keys_len + payload ≤ length bs
    → IsWrittenTextHead bs plan payload → IsTextPlan bs plan
head_plan bs plan payload laid fits head =
    let count = head.count in
    let parts = head.parts in
    let detail = head.part.detail_is in
    let place = head.part.place_is in
    let size = head.part.size_is in
    let heads_at = laid.heads_at in
    let pairs_at = laid.pairs_at in
    let counts_at = laid.counts_at in
    let keys_at = laid.keys_at in
    record {
      head = record {
        marked = head.marked;
        some = omega (arith, parts);
        fits = omega (arith, parts, fits, keys_at);
        part = record { of_kind = head.part.kind_is; inside = omega (arith, place, size, heads_at, keys_at, fits) };
        room = omega (arith, count, detail, size, heads_at, keys_at);
      };
      pairs = sym count;
      few = laid.few;
      heads_at = sym place;
      pairs_at = omega (arith, pairs_at, place, heads_at, count);
      counts = sym detail;
      counts_at = omega (arith, counts_at, place, heads_at, count);
      keys_at = omega (arith, keys_at, place, heads_at, count, detail);
      keys_len = omega (arith, size, keys_at, heads_at, count, detail);
    }

-- a byte of a key, by its place
key_byte : (bs : List ℕ) (p z s e j : ℕ) → e ≤ z → j < e - s → get_or (take (e - s) (drop s (take z (drop p bs)))) j 0 ≡ get_or bs (p + (s + j)) 0
key_byte bs p z s e j within l =
    get_or-take (e - s) (drop s (take z (drop p bs))) j 0 l ∙ get_or-drop s (take z (drop p bs)) j 0
    ∙ get_or-take z (drop p bs) (s + j) 0 (omega (arith, l, within)) ∙ get_or-drop p bs (s + j) 0

-- how many bytes a key has
key_length : (bs : List ℕ) (p z s e : ℕ) → p + z ≤ length bs → e ≤ z → s ≤ e → length (take (e - s) (drop s (take z (drop p bs)))) ≡ e - s
key_length bs p z s e fits within order =
    omega (arith, length-take (e - s) (drop s (take z (drop p bs))), length-drop s (take z (drop p bs)), length-take z (drop p bs), length-drop p bs, fits, within, order)

-- ends of right pairs don't fall
pub ends_rise : (bs : List ℕ) (n i j : ℕ) → AreRightPairs bs n → i ≤ j → j < n → key_end bs i ≤ key_end bs j
ends_rise bs n i zero right l m = let none : i ≡ 0 = omega (arith, l) in let e = ap (key_end bs) none in omega (arith, e)
ends_rise bs n i (suc j) right l m = elim (cases_lt i (suc j)) [
  | inl lt ↦
      let parents = ends_rise bs n i j right (omega (arith, lt)) (omega (arith, m)) in
      let own = (right (suc j) m).order in
      omega (arith, parents, own)
  | inr ge ↦ let same : i ≡ suc j = omega (arith, l, ge) in let e = ap (key_end bs) same in omega (arith, e)
]

-- a key begins where the one before it ends
start_is : (bs : List ℕ) (n : ℕ) → 0 < n → key_start bs n ≡ key_end bs (n - 1)
start_is bs zero some = absurd (omega (arith, some))
start_is bs (suc n) some = let back : n ≡ suc n - 1 = omega arith in ap (key_end bs) back

-- so they end by where the next one begins
ends_by : (bs : List ℕ) (n k : ℕ) → AreRightPairs bs n → k < n → key_end bs k ≤ key_start bs n
ends_by bs n k right l =
    let parents = ends_rise bs n k (n - 1) right (omega (arith, l)) (omega (arith, l)) in
    omega (arith, parents, start_is bs n (omega (arith, l)))

-- a key that stands at a place
pub key_stands : (bs key : List ℕ) (plan : Plan) (i from : ℕ) → IsTextPlan bs plan → plan.keys_at + plan.keys_len ≤ length bs → key_start bs i ≡ from → key_end bs i ≡ from + length key
    → from + length key ≤ plan.keys_len → take (length key) (drop (plan.keys_at + from) bs) ≡ key → key_in bs i ≡ key
key_stands bs key plan i from of fits start end short put =
    let keys_at = of.keys_at in
    let keys_len = of.keys_len in
    let count = key_length bs (keys_place bs) (keys_size bs) (key_start bs i) (key_end bs i) (omega (arith, fits, keys_at, keys_len)) (omega (arith, end, short, keys_len)) (omega (arith, start, end)) in
    same_number_lists (key_in bs i) key (omega (arith, count, start, end)) (λ j l.
    let inside : j < length key = omega (arith, l, count, start, end) in
    let place : keys_place bs + (key_start bs i + j) ≡ plan.keys_at + from + j = omega (arith, keys_at, start) in
    key_byte bs (keys_place bs) (keys_size bs) (key_start bs i) (key_end bs i) j (omega (arith, end, short, keys_len)) (omega (arith, inside, start, end))
    ∙ ap (λ a. get_or bs a 0) place
    ∙ sym (ap (λ zs. get_or zs j 0) (sym put) ∙ get_or-take (length key) (drop (plan.keys_at + from) bs) j 0 inside ∙ get_or-drop (plan.keys_at + from) bs j 0))

module _ (xs ys : List ℕ) (plan : Plan) (n len : ℕ) (px : IsTextPlan xs plan) (py : IsTextPlan ys plan) (laid : IsTextLayout plan.pairs plan.keys_len plan) (stay : PairsStay plan n len xs ys)
    (within : n ≤ plan.pairs) where
  -- heads, ends, links and values stay
  pub head_stays : (k : ℕ) → k < n → stored_head ys k ≡ stored_head xs k
  head_stays k l =
      ap (λ a. u64_in ys (a + 8 * k)) (sym py.heads_at) ∙ u64_kept xs ys (plan.heads_at + 8 * k) (λ j a b. stay.heads j (omega (arith, b, l)))
      ∙ ap (λ a. u64_in xs (a + 8 * k)) px.heads_at

  pub end_stays : (k : ℕ) → k < n → key_end ys k ≡ key_end xs k
  end_stays k l =
      ap (λ a. u32_in ys (a + 16 * k)) (sym py.pairs_at) ∙ u32_kept xs ys (plan.pairs_at + 16 * k) (λ j a b. stay.pairs j (omega (arith, a)) (omega (arith, b, l)))
      ∙ ap (λ a. u32_in xs (a + 16 * k)) px.pairs_at

  pub link_stays : (k : ℕ) → k < n → stored_link ys k ≡ stored_link xs k
  link_stays k l =
      ap (λ a. u32_in ys (a + 16 * k + 4)) (sym py.pairs_at) ∙ u32_kept xs ys (plan.pairs_at + 16 * k + 4) (λ j a b. stay.pairs j (omega (arith, a)) (omega (arith, b, l)))
      ∙ ap (λ a. u32_in xs (a + 16 * k + 4)) px.pairs_at

  pub value_stays : (k : ℕ) → k < n → stored_value ys k ≡ stored_value xs k
  value_stays k l =
      ap (λ a. u64_in ys (a + 16 * k + 8)) (sym py.pairs_at) ∙ u64_kept xs ys (plan.pairs_at + 16 * k + 8) (λ j a b. stay.pairs j (omega (arith, a)) (omega (arith, b, l)))
      ∙ ap (λ a. u64_in xs (a + 16 * k + 8)) px.pairs_at

  pub start_stays : (k : ℕ) → k ≤ n → key_start ys k ≡ key_start xs k
  start_stays zero l = refl
  start_stays (suc k) l = end_stays k (omega (arith, l))

  module _ (right : AreRightPairs xs n) (ends : key_start xs n ≤ len) (fits : plan.keys_at + plan.keys_len ≤ length xs) where
    -- and so do the keys
    pub key_stays : (k : ℕ) → k < n → key_in ys k ≡ key_in xs k
    key_stays k l =
        let own = right k l in
        let order = own.order in
        let inside = own.within in
        let start = start_stays k (omega (arith, l)) in
        let end = end_stays k l in
        let by = ends_by xs n k right l in
        let here : keys_place ys ≡ plan.keys_at = sym py.keys_at in
        let there : keys_place xs ≡ plan.keys_at = sym px.keys_at in
        let size : keys_size ys ≡ plan.keys_len = sym py.keys_len in
        let other : keys_size xs ≡ plan.keys_len = sym px.keys_len in
        let long = stay.long in
        let new = key_length ys (keys_place ys) (keys_size ys) (key_start ys k) (key_end ys k) (omega (arith, here, size, fits, long)) (omega (arith, end, inside, size, other)) (omega (arith, start, end, order)) in
        let old = key_length xs (keys_place xs) (keys_size xs) (key_start xs k) (key_end xs k) (omega (arith, there, other, fits)) inside order in
        same_number_lists (key_in ys k) (key_in xs k) (omega (arith, new, old, start, end)) (λ j m.
        let place : keys_place ys + (key_start ys k + j) ≡ keys_place xs + (key_start xs k + j) = omega (arith, here, there, start) in
        key_byte ys (keys_place ys) (keys_size ys) (key_start ys k) (key_end ys k) j (omega (arith, end, inside, size, other)) (omega (arith, m, new))
        ∙ ap (λ a. get_or ys a 0) place
        ∙ stay.keys (keys_place xs + (key_start xs k + j)) (omega (arith, there)) (omega (arith, there, m, new, start, end, by, ends))
        ∙ sym (key_byte xs (keys_place xs) (keys_size xs) (key_start xs k) (key_end xs k) j inside (omega (arith, m, new, start, end))))

    code_stays : (k : ℕ) → k < n → key_code ys k ≡ key_code xs k
    code_stays k l = ap nibbles (key_stays k l)

    pub pair_stays : (k : ℕ) → k < n → pair_in ys k ≡ pair_in xs k
    pair_stays k l = ap (λ b. (b, stored_value ys k)) (key_stays k l) ∙ ap (λ v. (key_in xs k, v)) (value_stays k l)

    -- so right pairs stay right
    pub right_stays : AreRightPairs ys n
    right_stays k l =
        let own = right k l in
        let order = own.order in
        let inside = own.within in
        let start = start_stays k (omega (arith, l)) in
        let end = end_stays k l in
        let size : keys_size ys ≡ plan.keys_len = sym py.keys_len in
        let other : keys_size xs ≡ plan.keys_len = sym px.keys_len in
        record {
          order = omega (arith, order, start, end);
          within = omega (arith, inside, end, size, other);
          head = head_stays k l ∙ own.head ∙ ap key_head (sym (key_stays k l));
          after = λ some. subst (λ c. IsBefore c (key_code ys k)) (sym (code_stays (k - 1) (omega (arith, l)))) (subst (IsBefore (key_code xs (k - 1))) (sym (code_stays k l)) (own.after some));
          link = subst (IsLastOf (λ j. IsPrefix (key_code ys j) (key_code ys k)) k) (sym (link_stays k l))
              (last_of_same (λ j. IsPrefix (key_code xs j) (key_code xs k)) (λ j. IsPrefix (key_code ys j) (key_code ys k)) k (stored_link xs k) (λ j m.
              let one = code_stays j (omega (arith, m, l)) in
              let two = code_stays k l in (
                λ p. subst (λ c. IsPrefix c (key_code ys k)) (sym one) (subst (IsPrefix (key_code xs j)) (sym two) p),
                λ p. subst (λ c. IsPrefix c (key_code xs k)) one (subst (IsPrefix (key_code ys j)) two p),
              )) own.link);
        }
