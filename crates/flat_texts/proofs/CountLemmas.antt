-- Counts that stand in an image which is being written, and all of it.
use Rattle.std.proofs.Common.{◌≡◌, ℕ, zero, suc, ◌+◌, ◌*◌, ◌<◌, ◌≤◌, List, [], ◌∷◌, Some, length, map as each, slice_index, take, drop, ap, sym, subst, ◌∙◌, arith}
use Rattle.std.proofs.lemmas.List.{length-map}
use Rattle.nibble_map.specs.Lists.{Each, IsBefore, IsRising}
use Rattle.nibble_map.specs.Nibbles.{nibbles}
use Rattle.frozen_trie.specs.Frozen.{IsFirstListOutOfOrder, codes_of}
use Rattle.image_parts.specs.Parts.{HoldsPayload, row_count, u32_in}
use Rattle.image_parts.proofs.ByteLemmas.{entry_kept, listed_all, u32_kept}
use Rattle.flat_texts.specs.declared.head.Plan.{Plan}
use Rattle.flat_texts.specs.declared.pair.Pair.{Pair}
use Rattle.flat_texts.specs.TextImages.{AreRightPairs, IsTextImage, IsTextPlan, image_pairs, key_start, pair_in, given_pair, stored_count, stored_head}
use Rattle.flat_texts.specs.TextWritten.{AreKeysRising, HoldsPairs, IsHeadCount, IsTextLayout, IsWrittenTextHead, PairsStay, keys_len}
use Rattle.flat_texts.proofs.ImageLemmas.{count_right}
use Rattle.flat_texts.proofs.StayLemmas.{head_plan, head_stays, pair_stays, plan_kept, right_stays, start_stays}

-- what stays through two changes
pub stay_through : (plan : Plan) (n len : ℕ) (xs ys zs : List ℕ) → PairsStay plan n len xs ys → PairsStay plan n len ys zs → PairsStay plan n len xs zs
stay_through plan n len xs ys zs one two = record {
  heads = λ k l. two.heads k l ∙ one.heads k l;
  pairs = λ k l m. two.pairs k l m ∙ one.pairs k l m;
  keys = λ k l m. two.keys k l m ∙ one.keys k l m;
  long = two.long ∙ one.long;
}

-- all pairs stay where only the counts change
pub stay_by_counts : (plan : Plan) (xs ys : List ℕ) (a b : ℕ) → IsTextLayout plan.pairs plan.keys_len plan → plan.counts_at ≤ a → b ≤ plan.keys_at
    → ((k : ℕ) → k < a → slice_index ys k ≡ slice_index xs k) → ((k : ℕ) → b ≤ k → slice_index ys k ≡ slice_index xs k) → length ys ≡ length xs
    → PairsStay plan plan.pairs plan.keys_len xs ys
stay_by_counts plan xs ys a b laid from to before behind long =
    let heads_at = laid.heads_at in
    let pairs_at = laid.pairs_at in
    let counts_at = laid.counts_at in
    record {
      heads = λ k l. before k (omega (arith, l, heads_at, counts_at, from));
      pairs = λ k l m. before k (omega (arith, m, pairs_at, counts_at, from));
      keys = λ k l m. behind k (omega (arith, l, to));
      long = long;
    }

-- and where only what is behind the keys changes
pub stay_by_end : (plan : Plan) (xs ys : List ℕ) → IsTextLayout plan.pairs plan.keys_len plan
    → ((k : ℕ) → k < plan.keys_at + plan.keys_len → slice_index ys k ≡ slice_index xs k) → length ys ≡ length xs → PairsStay plan plan.pairs plan.keys_len xs ys
stay_by_end plan xs ys laid before long =
    let heads_at = laid.heads_at in
    let pairs_at = laid.pairs_at in
    let keys_at = laid.keys_at in
    record {
      heads = λ k l. before k (omega (arith, l, heads_at, keys_at));
      pairs = λ k l m. before k (omega (arith, m, pairs_at, keys_at));
      keys = λ k l m. before k m;
      long = long;
    }

-- the head stays too
pub stay_plan : (plan : Plan) (xs ys : List ℕ) → IsTextLayout plan.pairs plan.keys_len plan → PairsStay plan plan.pairs plan.keys_len xs ys → IsTextPlan xs plan → IsTextPlan ys plan
stay_plan plan xs ys laid stay of =
    let heads_at = laid.heads_at in
    plan_kept xs ys plan (λ k l. stay.heads k (omega (arith, l, heads_at))) stay.long of

module _ (plan : Plan) (xs ys : List ℕ) (laid : IsTextLayout plan.pairs plan.keys_len plan) (stay : PairsStay plan plan.pairs plan.keys_len xs ys) (px : IsTextPlan xs plan) where
  -- what is counted stays counted
  pub counted_still : (t c : ℕ) → IsHeadCount xs t c → IsHeadCount ys t c
  counted_still t c counted =
      let py = stay_plan plan xs ys laid stay px in
      let same : (k : ℕ) → k < plan.pairs → stored_head ys k ≡ stored_head xs k = head_stays xs ys plan plan.pairs plan.keys_len px py laid stay (omega arith) in
      let most = counted.within in
      record {
        within = omega (arith, most, px.pairs, py.pairs);
        below = λ k l. let own = counted.below k l in omega (arith, own, same k (omega (arith, l, most, px.pairs)));
        others = λ k l m. let own = counted.others k l (omega (arith, m, px.pairs, py.pairs)) in omega (arith, own, same k (omega (arith, m, py.pairs)));
      }

  -- also the other way round
  pub counted_then : (t c : ℕ) → IsHeadCount ys t c → IsHeadCount xs t c
  counted_then t c counted =
      let py = stay_plan plan xs ys laid stay px in
      let same : (k : ℕ) → k < plan.pairs → stored_head ys k ≡ stored_head xs k = head_stays xs ys plan plan.pairs plan.keys_len px py laid stay (omega arith) in
      let most = counted.within in
      record {
        within = omega (arith, most, px.pairs, py.pairs);
        below = λ k l. let own = counted.below k l in omega (arith, own, same k (omega (arith, l, most, py.pairs)));
        others = λ k l m. let own = counted.others k l (omega (arith, m, px.pairs, py.pairs)) in omega (arith, own, same k (omega (arith, m, px.pairs)));
      }

  module _ (right : AreRightPairs xs plan.pairs) (ends : key_start xs plan.pairs ≤ plan.keys_len) (fits : plan.keys_at + plan.keys_len ≤ length xs) where
    -- right pairs stay right
    pub right_still : AreRightPairs ys plan.pairs
    right_still = right_stays xs ys plan plan.pairs plan.keys_len px (stay_plan plan xs ys laid stay px) laid stay (omega arith) right ends fits

    -- those of a list stay those
    pub holds_still : (ps : List Pair) (len : ℕ) → HoldsPairs xs ps plan.pairs len → HoldsPairs ys ps plan.pairs len
    holds_still ps len holds =
        let py = stay_plan plan xs ys laid stay px in
        record {
          stored = λ k l. holds.stored k l ∙ ap (λ p. Some p) (sym (pair_stays xs ys plan plan.pairs plan.keys_len px py laid stay (omega arith) right ends fits k l));
          right = right_still;
          ends = start_stays xs ys plan plan.pairs plan.keys_len px py laid stay (omega arith) plan.pairs (omega arith) ∙ holds.ends;
        }

-- a count that stands at a place
pub count_placed : (bs : List ℕ) (plan : Plan) (t : ℕ) → IsTextPlan bs plan → stored_count bs t ≡ u32_in bs (plan.counts_at + 4 * t)
count_placed bs plan t of = ap (λ a. u32_in bs (a + 4 * t)) (sym of.counts_at)

-- it stays where its bytes do
pub count_kept : (xs ys : List ℕ) (plan : Plan) (t : ℕ) → IsTextPlan xs plan → IsTextPlan ys plan
    → ((k : ℕ) → plan.counts_at + 4 * t ≤ k → k < plan.counts_at + 4 * t + 4 → slice_index ys k ≡ slice_index xs k) → stored_count ys t ≡ stored_count xs t
count_kept xs ys plan t px py same = count_placed ys plan t py ∙ u32_kept xs ys (plan.counts_at + 4 * t) same ∙ sym (count_placed xs plan t px)

-- the first lists of rising ones rise
taken_each : {A : Type 0} (P : A → Type 0) (n : ℕ) (xs : List A) → Each P xs → Each P (take n xs)
taken_each P zero xs h = tt
taken_each P (suc n) [] h = tt
taken_each P (suc n) (x ∷ xs) h = (h.0, taken_each P n xs h.1)

taken_rise : (n : ℕ) (cs : List (List ℕ)) → IsRising cs → IsRising (take n cs)
taken_rise zero cs h = tt
taken_rise (suc n) [] h = tt
taken_rise (suc n) (c ∷ cs) h = (taken_each (IsBefore c) n cs h.0, taken_rise n cs h.1)

-- so none of them is the first out of order
pub none_unsorted : (ps : List Pair) (i : ℕ) → AreKeysRising ps → IsFirstListOutOfOrder (codes_of nibbles (each given_pair ps)) i → ⊥
none_unsorted ps i rising first = first.unsorted (taken_rise (i + 1) (codes_of nibbles (each given_pair ps)) rising)

-- a layout says how many pairs and bytes of keys there are
pub own_layout : (n len : ℕ) (plan : Plan) → IsTextLayout n len plan → IsTextLayout plan.pairs plan.keys_len plan
own_layout n len plan laid =
    subst (λ m. IsTextLayout m plan.keys_len plan) (sym laid.pairs) (subst (λ m. IsTextLayout n m plan) (sym laid.keys_len) laid)

-- the bytes after each step: the head, the pairs, the counts, and the user's own bytes
module _ (ps : List Pair) (own : List ℕ) (plan : Plan) (a b : List ℕ) (laid : IsTextLayout (length ps) (keys_len ps) plan)
    (room : plan.keys_at + plan.keys_len + length own ≤ length a) (head : IsWrittenTextHead a plan (length own))
    (headed : (k : ℕ) → k < 64 → slice_index b k ≡ slice_index a k) (long : length b ≡ length a) where
  its_layout : IsTextLayout plan.pairs plan.keys_len plan
  its_layout = own_layout (length ps) (keys_len ps) plan laid

  pub plan_then : IsTextPlan b plan
  plan_then = plan_kept a b plan headed long (head_plan a plan (length own) its_layout room head)

  module _ (c d : List ℕ) (holds : HoldsPairs b ps plan.pairs plan.keys_len) (stay : PairsStay plan plan.pairs plan.keys_len b c)
      (counts : (t : ℕ) → t < plan.counts → IsHeadCount b t (stored_count c t)) (before : (k : ℕ) → k < plan.keys_at + plan.keys_len → slice_index d k ≡ slice_index c k)
      (same : length d ≡ length c) (put : take (length own) (drop (plan.keys_at + plan.keys_len) d) ≡ own) where
    plan_c : IsTextPlan c plan
    plan_c = stay_plan plan b c its_layout stay plan_then

    end_stay : PairsStay plan plan.pairs plan.keys_len c d
    end_stay = stay_by_end plan c d its_layout before same

    plan_d : IsTextPlan d plan
    plan_d = stay_plan plan c d its_layout end_stay plan_c

    all_through : PairsStay plan plan.pairs plan.keys_len b d
    all_through = stay_through plan plan.pairs plan.keys_len b c d stay end_stay

    held : HoldsPairs d ps plan.pairs plan.keys_len
    held =
        let ends = holds.ends in
        holds_still plan b d its_layout all_through plan_then holds.right (omega (arith, ends)) (omega (arith, room, long)) ps plan.keys_len holds

    -- are an image
    pub image_then : IsTextImage d
    image_then = record {
      head = plan_d.head;
      pairs = λ i l. held.right i (omega (arith, l, plan_d.pairs));
      counts = λ t l.
          let listed : t < plan.counts = omega (arith, l, plan_d.counts) in
          let counted = counted_still plan b d its_layout all_through plan_then t (stored_count c t) (counts t listed) in
          let keys_at = its_layout.keys_at in
          let counts_at = its_layout.counts_at in
          let kept = count_kept c d plan t plan_c plan_d (λ k x y. before k (omega (arith, y, listed, counts_at, keys_at))) in
          count_right d t (stored_count c t) (sym kept) counted.within counted.below counted.others;
    }

    -- of these pairs
    pub pairs_then : image_pairs d ≡ each given_pair ps
    pairs_then =
        let many = laid.pairs in
        listed_all (pair_in d) (each given_pair ps) (row_count d) (omega (arith, length-map ps given_pair, many, plan_d.pairs)) (λ k l. held.stored k (omega (arith, l, plan_d.pairs)))

    still : (k : ℕ) → k < 64 → slice_index d k ≡ slice_index a k
    still k l =
        let heads_at = its_layout.heads_at in
        all_through.heads k (omega (arith, l, heads_at)) ∙ headed k l

    -- which holds these bytes of the user's own
    pub payload_then : HoldsPayload d own
    payload_then =
        let parts = u32_kept a d 12 (λ k l m. still k (omega (arith, m))) in
        let two = head.parts in
        let entry = entry_kept a d 40 _ _ _ _ (λ k l m. still k (omega (arith, m))) head.own in
        let first = entry_kept a d 16 _ _ _ _ (λ k l m. still k (omega (arith, m))) head.part in
        let place = entry.place_is in
        let size = entry.size_is in
        let keys_at = its_layout.keys_at in
        let long_c = stay.long in
        record {
          place = plan.keys_at + plan.keys_len;
          part = record {
            at = 1;
            within = omega (arith, parts, two);
            early = omega arith;
            list = omega (arith, parts, two, room, keys_at, long, long_c, same);
            listed = record { of_kind = entry.kind_is; inside = omega (arith, place, size, room, long, long_c, same) };
            first = λ k l kind.
                let none : k ≡ 0 = omega (arith, l) in
                let three = subst (λ j. u32_in d (16 + 24 * j) ≡ 3) none kind in
                let four = first.kind_is in
                omega (arith, three, four);
            place_is = place;
            size_is = size;
          };
          bytes = put;
        }
