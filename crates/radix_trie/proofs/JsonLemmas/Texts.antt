-- The order of texts is that of their encodings.
use Rattle.std.proofs.Common.{◌≡◌, T, ℕ, List, [], ◌∷◌, map, refl, sym, ◌∙◌, ap, subst, string_bytes, String, Global, Ordering, Less, Equal, Greater, nat_cmp, string_cmp}
use Rattle.std.proofs.lemmas.Cmp.{nat_list_cmp_total, tied_itself}
use Rattle.std.specs.Cmp.Lexicographic.{slice_cmp}
use Rattle.std.specs.FinMap.{is_sorted}
use Rattle.std.specs.FinMap.Entries.{below_all}
use Rattle.std.specs.List.{AllByRecursion}
use Rattle.std.specs.List.Sorted.{IsStrictlySortedBy}
use Rattle.std.specs.Map.{keys_of}
use Rattle.std.specs.Ordering.{ordering_reverse}
use Rattle.nibble_map.specs.Lists.{Each}
use Rattle.nibble_map.specs.Nibbles.{nibbles}
use Rattle.nibble_map.proofs.MapLemmas.Bridge.{first_of_both, second_of_both, less_by_test}
use Rattle.nibble_map.proofs.ListLemmas.Sorted.{tied_lists_equal}
use Rattle.radix_keys.proofs.KeyLemmas.Order.{byte_order}

-- a text's encoding: the nibbles of its bytes
abbrev pub text_encoding : String Global → List ℕ
text_encoding s = nibbles (string_bytes s)

-- the nibbles of two lists of bytes compare as the lists do
pub slice_cmp-nibbles : (a b : List ℕ) → slice_cmp nat_cmp (nibbles a) (nibbles b) ≡ slice_cmp nat_cmp a b
slice_cmp-nibbles a b = by (slice_cmp nat_cmp a b) refl
  where
    by : (o : Ordering) → slice_cmp nat_cmp a b ≡ o → slice_cmp nat_cmp (nibbles a) (nibbles b) ≡ slice_cmp nat_cmp a b
    by Less i = byte_order.precedes a b i ∙ sym i
    by Equal i = ap (λ x. slice_cmp nat_cmp (nibbles a) (nibbles x)) (sym (tied_lists_equal a b i)) ∙ tied_itself nat_list_cmp_total (nibbles a) ∙ sym i
    by Greater i =
        let turned : slice_cmp nat_cmp b a ≡ Less = nat_list_cmp_total.antisymm b a ∙ ap ordering_reverse i in
        nat_list_cmp_total.antisymm (nibbles a) (nibbles b) ∙ ap ordering_reverse (byte_order.precedes b a turned) ∙ sym i

module _ {V : Type 0} where
  -- each pair stands at its text's encoding
  abbrev pub AreTexts : List (List ℕ × (String Global × V)) → Type 0
  AreTexts es = Each (λ e. e.0 ≡ text_encoding e.1.0) es

  -- a text whose encoding is below all lists of the rows is before all their texts
  above_all : (t : String Global) (es : List (List ℕ × (String Global × V))) → T (below_all (slice_cmp nat_cmp) (text_encoding t) es) → AreTexts es
      → AllByRecursion (λ k. string_cmp t k ≡ Less) (keys_of (map (λ e. e.1) es))
  above_all t [] b h = tt
  above_all t (e ∷ es) b h = (
    sym (slice_cmp-nibbles (string_bytes t) (string_bytes e.1.0)) ∙ ap (slice_cmp nat_cmp (text_encoding t)) (sym h.0) ∙ less_by_test _ (first_of_both _ _ b),
    above_all t es (second_of_both _ _ b) h.1,
  )

  -- the pairs stand in the order of their texts
  pub texts_rise : (es : List (List ℕ × (String Global × V))) → T (is_sorted (slice_cmp nat_cmp) es) → AreTexts es
      → IsStrictlySortedBy string_cmp (keys_of (map (λ e. e.1) es))
  unfolding IsStrictlySortedBy
  texts_rise [] s h = tt
  texts_rise (e ∷ es) s h = (
    above_all e.1.0 es (subst (λ p. T (below_all (slice_cmp nat_cmp) p es)) h.0 (first_of_both _ _ s)) h.1,
    texts_rise es (second_of_both _ _ s) h.1,
  )
