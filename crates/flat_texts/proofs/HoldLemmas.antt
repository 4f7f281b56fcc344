-- Pairs that stand in an image which is being written.
use Rattle.std.proofs.Common.{◌≡◌, ℕ, zero, suc, ◌+◌, ◌-◌, ◌*◌, ◌<◌, ◌≤◌, inl, inr, List, [], ◌∷◌, Some, length, map as each, get_or, slice_get, take, drop, refl, ap, sym, subst, ◌∙◌, arith}
use Rattle.std.proofs.lemmas.Bool.{cases_lt}
use Rattle.nibble_map.specs.Lists.{IsBefore, IsPrefix}
use Rattle.nibble_map.specs.Nibbles.{nibbles}
use Rattle.sorted_tables.specs.Tables.{IsLastOf}
use Rattle.sorted_tables.proofs.TableLemmas.Links.{last_of_same}
use Rattle.encoded_keys.specs.Codes.{code_at}
use Rattle.frozen_trie.specs.Frozen.{codes_of}
use Rattle.encoded_keys.proofs.CodeLemmas.Parts.{rising_at}
use Rattle.image_parts.specs.Parts.{u32_in, u64_in}
use Rattle.flat_texts.specs.declared.head.Plan.{Plan}
use Rattle.flat_texts.specs.declared.pair.Pair.{Pair}
use Rattle.flat_texts.specs.TextImages.{IsRightPair, IsTextPlan, key_code, key_end, key_head, key_in, key_start, keys_size, pair_in, given_pair, stored_link, stored_value}
use Rattle.flat_texts.specs.TextWritten.{AreKeysRising, HoldsPairs, IsTextLayout, PairsStay}
use Rattle.flat_texts.proofs.StayLemmas.{key_stands, key_stays, pair_stays, right_stays, start_stays}
use Rattle.flat_texts.proofs.WriteLemmas.{code_of, length-pair_codes}

-- a value of an item
value_of : {A B : Type 0} (f : A → B) (xs : List A) (i : ℕ) (d : A) → i < length xs → slice_get (each f xs) i ≡ Some (f (get_or xs i d))
value_of f [] i d l = absurd (omega (arith, l))
value_of f (x ∷ xs) zero d l = refl
value_of f (x ∷ xs) (suc i) d l = value_of f xs i d (omega (arith, l))

-- of rising keys an earlier one comes before a later one
keys_before : (ps : List Pair) (i j : ℕ) (d : Pair) → AreKeysRising ps → i < j → j < length ps → IsBefore (nibbles ((get_or ps i d).key.now)) (nibbles ((get_or ps j d).key.now))
keys_before ps i j d rising l m =
    subst (IsBefore (nibbles ((get_or ps i d).key.now))) (code_of ps j d m)
    (subst (λ c. IsBefore c (code_at (codes_of nibbles (each given_pair ps)) j)) (code_of ps i d (omega (arith, l, m)))
    (rising_at (codes_of nibbles (each given_pair ps)) rising i j l (omega (arith, m, length-pair_codes ps))))

module _ (bs : List ℕ) (ps : List Pair) (n len : ℕ) (holds : HoldsPairs bs ps n len) (d : Pair) (within : n ≤ length ps) where
  -- a key that stands there is that of its pair
  pub key_held : (k : ℕ) → k < n → key_in bs k ≡ (get_or ps k d).key.now
  key_held k l =
      let stored = holds.stored k l in
      let own = value_of given_pair ps k d (omega (arith, l, within)) in
      let same : pair_in bs k ≡ given_pair (get_or ps k d) = cc (stored, own) in
      ap (λ p. p.0) same

  -- so it comes before the next one
  pub held_before : AreKeysRising ps → n < length ps → (k : ℕ) → k < n → IsBefore (key_code bs k) (nibbles ((get_or ps n d).key.now))
  held_before rising more k l =
      subst (λ b. IsBefore (nibbles b) (nibbles ((get_or ps n d).key.now))) (sym (key_held k l)) (keys_before ps k n d rising l more)

module _ (xs ys : List ℕ) (plan : Plan) (ps : List Pair) (at from link : ℕ) (d : Pair) (px : IsTextPlan xs plan) (py : IsTextPlan ys plan) (laid : IsTextLayout plan.pairs plan.keys_len plan)
    (many : plan.pairs ≡ length ps) (within : at < plan.pairs) (fits : plan.keys_at + plan.keys_len ≤ length xs) (stay : PairsStay plan at from xs ys) (holds : HoldsPairs xs ps at from)
    (rising : AreKeysRising ps) (head : u64_in ys (plan.heads_at + 8 * at) ≡ key_head ((get_or ps at d).key.now))
    (end : u32_in ys (plan.pairs_at + 16 * at) ≡ from + length ((get_or ps at d).key.now)) (linked : u32_in ys (plan.pairs_at + 16 * at + 4) ≡ link)
    (value : u64_in ys (plan.pairs_at + 16 * at + 8) ≡ (get_or ps at d).value)
    (put : take (length ((get_or ps at d).key.now)) (drop (plan.keys_at + from) ys) ≡ (get_or ps at d).key.now)
    (short : from + length ((get_or ps at d).key.now) ≤ plan.keys_len)
    (last : IsLastOf (λ k. IsPrefix (key_code xs k) (nibbles ((get_or ps at d).key.now))) at link) where
  -- one more pair
  own_end : key_end ys at ≡ from + length ((get_or ps at d).key.now)
  own_end = ap (λ a. u32_in ys (a + 16 * at)) (sym py.pairs_at) ∙ end

  own_start : key_start ys at ≡ from
  own_start = start_stays xs ys plan at from px py laid stay (omega (arith, within)) at (omega arith) ∙ holds.ends

  own_key : key_in ys at ≡ (get_or ps at d).key.now
  own_key = key_stands ys ((get_or ps at d).key.now) plan at from py (let long = stay.long in omega (arith, fits, long)) own_start own_end short put

  own_link : stored_link ys at ≡ link
  own_link = ap (λ a. u32_in ys (a + 16 * at + 4)) (sym py.pairs_at) ∙ linked

  own_pair : pair_in ys at ≡ given_pair (get_or ps at d)
  own_pair = ap (λ b. (b, stored_value ys at)) own_key ∙ ap (λ v. ((get_or ps at d).key.now, v)) (ap (λ a. u64_in ys (a + 16 * at + 8)) (sym py.pairs_at) ∙ value)

  kept_key : (k : ℕ) → k < at → key_in ys k ≡ key_in xs k
  kept_key = key_stays xs ys plan at from px py laid stay (omega (arith, within)) holds.right (let e = holds.ends in omega (arith, e)) fits

  -- is right
  own_right : IsRightPair ys at
  own_right =
      let size : keys_size ys ≡ plan.keys_len = sym py.keys_len in
      record {
        order = omega (arith, own_start, own_end);
        within = omega (arith, own_end, short, size);
        head = ap (λ a. u64_in ys (a + 8 * at)) (sym py.heads_at) ∙ head ∙ ap key_head (sym own_key);
        after = λ some.
            subst (λ b. IsBefore (key_code ys (at - 1)) (nibbles b)) (sym own_key)
            (subst (λ b. IsBefore (nibbles b) (nibbles ((get_or ps at d).key.now))) (sym (kept_key (at - 1) (omega (arith, some))))
            (held_before xs ps at from holds d (omega (arith, within, many)) rising (omega (arith, within, many)) (at - 1) (omega (arith, some))));
        link = subst (IsLastOf (λ k. IsPrefix (key_code ys k) (key_code ys at)) at) (sym own_link)
            (last_of_same (λ k. IsPrefix (key_code xs k) (nibbles ((get_or ps at d).key.now))) (λ k. IsPrefix (key_code ys k) (key_code ys at)) at link (λ k l.
            let one = ap nibbles (kept_key k l) in
            let two = ap nibbles own_key in (
              λ p. subst (λ c. IsPrefix c (key_code ys at)) (sym one) (subst (IsPrefix (key_code xs k)) (sym two) p),
              λ p. subst (λ c. IsPrefix c (nibbles ((get_or ps at d).key.now))) one (subst (IsPrefix (key_code ys k)) two p),
            )) last);
      }

  -- and stands with those before it
  pub holds_more : HoldsPairs ys ps (at + 1) (from + length ((get_or ps at d).key.now))
  holds_more = record {
    stored = λ k l. elim (cases_lt k at) [
      | inl lt ↦ holds.stored k lt
          ∙ ap (λ p. Some p) (sym (pair_stays xs ys plan at from px py laid stay (omega (arith, within)) holds.right (let e = holds.ends in omega (arith, e)) fits k lt))
      | inr ge ↦ let is : at ≡ k = omega (arith, l, ge) in
          subst (λ j. slice_get (each given_pair ps) j ≡ Some (pair_in ys j)) is (value_of given_pair ps at d (omega (arith, within, many)) ∙ ap (λ p. Some p) (sym own_pair))
    ];
    right = λ k l. elim (cases_lt k at) [
      | inl lt ↦ right_stays xs ys plan at from px py laid stay (omega (arith, within)) holds.right (let e = holds.ends in omega (arith, e)) fits k lt
      | inr ge ↦ let is : at ≡ k = omega (arith, l, ge) in subst (IsRightPair ys) is own_right
    ];
    ends = let next : at + 1 ≡ suc at = omega arith in ap (key_start ys) next ∙ own_end;
  }
