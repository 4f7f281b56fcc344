-- No byte string, and one more behind all others.
use Rattle.std.proofs.Common.{◌≡◌, ℕ, List, [], ◌∷◌, ◌++◌, length, map, refl, sym, ap, subst, ◌∙◌, arith}
use Rattle.std.proofs.lemmas.List.{length-append, map-append}
use Rattle.std.specs.Cmp.Lexicographic.{slice_cmp}
use Rattle.std.specs.FinMap as fin
use Rattle.std.specs.Ordering.{nat_cmp}
use Rattle.nibble_map.specs.Lists.{IsRising}
use Rattle.nibble_map.specs.Nibbles.{nibbles}
use Rattle.nibble_map.proofs.MapLemmas.Bridge.{from_sorted-nil}
use Rattle.radix_trie.specs.Views.{pairs_below}
use Rattle.encoded_keys.specs.Codes.{IsLinked}
use Rattle.frozen_trie.specs.Frozen.{codes_of, map_of_pairs}
use Rattle.encoded_keys.specs.Laid.{packed_bytes}
use Rattle.frozen_trie.specs.Texts.{AreTexts, IsBehindAll, text_map, text_pairs}
use Rattle.encoded_keys.proofs.CodeLemmas.Appended.{linked_none}
use Rattle.frozen_trie.proofs.FrozenLemmas.Queries.{whole_is}
use Rattle.frozen_trie.proofs.TextLemmas.Appended.{behind_if_rising, inserted_last, rising_if_behind}
use Rattle.encoded_keys.proofs.CodeLemmas.Bytes.{packed_bytes-nibbles}
use Rattle.frozen_trie.proofs.TextLemmas.Pairs.{all_texts, texts_rise}

module _ {V : Type 0} where
  -- no list is no pair
  pub no_texts : (cs : List (List ℕ)) (vs : List V) (parents : List ℕ) → cs ≡ [] → vs ≡ [] → parents ≡ [] → AreTexts cs vs parents
  no_texts cs vs parents e f g =
      let none : AreTexts [] vs parents = record { frozen = record { keyed = refl; linked = linked_none [] parents refl g }; valued = ap length f } in
      subst (λ ds. AreTexts ds vs parents) (sym e) none

  -- its map is empty
  pub no_text_map : (cs : List (List ℕ)) (vs : List V) → cs ≡ [] → text_map cs vs ≡ fin.empty
  no_text_map cs vs e = ap (λ ds. text_map ds vs) e ∙ from_sorted-nil (slice_cmp nat_cmp)

  -- the pairs of one list more
  text_pairs-more : (cs : List (List ℕ)) (vs : List V) (c : List ℕ) (v : V) → length vs ≡ length cs
      → text_pairs (cs ++ c ∷ []) (vs ++ v ∷ []) ≡ text_pairs cs vs ++ (packed_bytes c, v) ∷ []
  text_pairs-more [] [] c v e = refl
  text_pairs-more [] (w ∷ vs) c v e = absurd (omega (arith, e))
  text_pairs-more (d ∷ cs) [] c v e = absurd (omega (arith, e))
  text_pairs-more (d ∷ cs) (w ∷ vs) c v e = ap (λ ps. (packed_bytes d, w) ∷ ps) (text_pairs-more cs vs c v (omega (arith, e)))

-- the second parts of pairs
abbrev pub values_of : {A V : Type 0} → List (A × V) → List V
values_of ps = map (λ p. p.1) ps

module _ {V : Type 0} (cs : List (List ℕ)) (vs : List V) (parents : List ℕ) (kept : AreTexts cs vs parents) where
  -- the pairs of one byte string more
  pairs_more : (bs : List ℕ) (v : V) → text_pairs (cs ++ nibbles bs ∷ []) (vs ++ v ∷ []) ≡ text_pairs cs vs ++ (bs, v) ∷ []
  pairs_more bs v = text_pairs-more cs vs (nibbles bs) v kept.valued ∙ ap (λ b. text_pairs cs vs ++ (b, v) ∷ []) (packed_bytes-nibbles bs)

  -- their nibbles
  codes_more : (bs : List ℕ) (v : V) → cs ++ nibbles bs ∷ [] ≡ codes_of nibbles (text_pairs cs vs ++ (bs, v) ∷ [])
  codes_more bs v =
      ap (λ ds. ds ++ nibbles bs ∷ []) kept.frozen.keyed ∙ sym (map-append (λ (p : List ℕ × V). nibbles p.0) (text_pairs cs vs) ((bs, v) ∷ []))

  -- one byte string more, with its value and its link
  pub texts_more : (bs : List ℕ) (v : V) (links : List ℕ) → IsLinked (cs ++ nibbles bs ∷ []) links → AreTexts (cs ++ nibbles bs ∷ []) (vs ++ v ∷ []) links
  texts_more bs v links linked = record {
    frozen = record {
      keyed = codes_more bs v ∙ ap (codes_of nibbles) (sym (pairs_more bs v));
      linked = linked;
    };
    valued = omega (arith, length-append vs (v ∷ []), length-append cs (nibbles bs ∷ []), kept.valued);
  }

  -- the map with it
  pub text_map_more : (bs : List ℕ) (v : V) → IsRising (cs ++ nibbles bs ∷ [])
      → text_map (cs ++ nibbles bs ∷ []) (vs ++ v ∷ []) ≡ fin.insert (text_map cs vs) (nibbles bs) (bs, v)
  text_map_more bs v rises =
      ap (map_of_pairs nibbles) (pairs_more bs v)
      ∙ sym (inserted_last nibbles (text_pairs cs vs) (texts_rise cs vs parents kept) (bs, v) (subst IsRising (codes_more bs v) rises))

  -- its pairs
  pub all_texts_more : (bs : List ℕ) (v : V) → IsRising (cs ++ nibbles bs ∷ [])
      → pairs_below (text_map (cs ++ nibbles bs ∷ []) (vs ++ v ∷ [])) [] ≡ pairs_below (text_map cs vs) [] ++ (bs, v) ∷ []
  all_texts_more bs v rises =
      ap (λ ps. pairs_below (map_of_pairs nibbles ps) []) (pairs_more bs v)
      ∙ whole_is nibbles (text_pairs cs vs ++ (bs, v) ∷ []) (subst IsRising (codes_more bs v) rises)
      ∙ ap (λ ps. ps ++ (bs, v) ∷ []) (sym (all_texts cs vs parents kept))

  -- what comes behind all that is stored keeps the lists rising
  pub lists_rise : (e : List ℕ) → IsBehindAll (text_map cs vs) e → IsRising (cs ++ e ∷ [])
  lists_rise e behind =
      subst (λ ds. IsRising (ds ++ e ∷ [])) (sym kept.frozen.keyed) (rising_if_behind nibbles (text_pairs cs vs) (texts_rise cs vs parents kept) e behind)

  -- and what keeps them rising comes behind all that is stored
  pub list_behind : (e : List ℕ) → IsRising (cs ++ e ∷ []) → IsBehindAll (text_map cs vs) e
  list_behind e rises =
      behind_if_rising nibbles (text_pairs cs vs) (texts_rise cs vs parents kept) e (subst (λ ds. IsRising (ds ++ e ∷ [])) kept.frozen.keyed rises)
