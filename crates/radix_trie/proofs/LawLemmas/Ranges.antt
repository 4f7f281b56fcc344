-- The keys of a range: those that lie within its bounds in an order that the encodings keep.
use Rattle.std.proofs.Common.{◌≡◌, ◌↔◌, ℕ, Bool, true, false, cond, T, IsTrue, List, Less, Ordering, is_le, is_lt, nat_cmp, subst, sym}
use Rattle.std.specs.Cmp.Lexicographic.{slice_cmp}
use Rattle.std.specs.List.{Contains}
use Rattle.std.specs.declared.ops.Bound.{Bound}
use Rattle.std.specs.declared.ops.Bound.TheVariants.{Included, Excluded, Unbounded}
use Rattle.nibble_map.specs.Maps.{PairMap}
use Rattle.nibble_map.proofs.MapLemmas.Bridge.{less_by_test}
use Rattle.radix_trie.specs.Keys.{IsAboveBound, IsBelowBound, IsBoundValue, IsKeptOrder, IsKeyed}
use Rattle.radix_trie.specs.Views.{encoded_bound, is_above, is_below, is_within, pairs_below, pairs_within}
use Rattle.radix_trie.proofs.LawLemmas.Asked.{AreAtEncodings, below_holds, passed, true_by_test}

-- a test that both of two tests make
both_tests : (above below : Bool) → T (cond below above false) ↔ (T above × T below)
both_tests above true = (λ h. (h, tt), λ h. h.0)
both_tests above false = (λ h. absurd h, λ h. absurd h.1)

-- an order is less or equal as its test says, and less as its test says
le_tells : (o r : Ordering) → o ≡ r → T (is_le o) ↔ IsTrue (is_le r)
le_tells o r same = (λ h. true_by_test (is_le r) (subst (λ q. T (is_le q)) same h), λ h. subst (λ q. T (is_le q)) (sym same) (subst T (sym h) tt))

lt_tells : (o r : Ordering) → o ≡ r → T (is_lt o) ↔ (r ≡ Less)
lt_tells o r same = (λ h. less_by_test r (subst (λ q. T (is_lt q)) same h), λ h. subst (λ q. T (is_lt q)) (sym same) (subst (λ q. T (is_lt q)) (sym h) tt))

module _ {K : Type 0} (enc : K → List ℕ) (is : K → Type 0) (cmp : K → K → Ordering) (kept : IsKeptOrder enc is cmp) where
  -- the encoding of a key comes after that of a lower bound where the key comes after the bound
  above_tells : (low : Bound K) → IsBoundValue is low → (k : K) → is k → T (is_above (encoded_bound enc low) (enc k)) ↔ IsAboveBound cmp low k
  above_tells (Included a) value k h = le_tells (slice_cmp nat_cmp (enc a) (enc k)) (cmp a k) (kept a k value h)
  above_tells (Excluded a) value k h = lt_tells (slice_cmp nat_cmp (enc a) (enc k)) (cmp a k) (kept a k value h)
  above_tells Unbounded value k h = (λ t. tt, λ t. tt)

  -- and before that of an upper bound where the key comes before the bound
  below_tells : (high : Bound K) → IsBoundValue is high → (k : K) → is k → T (is_below (encoded_bound enc high) (enc k)) ↔ IsBelowBound cmp high k
  below_tells (Included b) value k h = le_tells (slice_cmp nat_cmp (enc k) (enc b)) (cmp k b) (kept k b h value)
  below_tells (Excluded b) value k h = lt_tells (slice_cmp nat_cmp (enc k) (enc b)) (cmp k b) (kept k b h value)
  below_tells Unbounded value k h = (λ t. tt, λ t. tt)

  -- the pairs of a range are those below the path whose keys lie within its bounds
  pub keys_in_range : {V : Type 0} (m : PairMap K V) → IsKeyed enc is m → (e : List ℕ) (low high : Bound K) → IsBoundValue is low → IsBoundValue is high → (p : K × V)
      → Contains (pairs_within m e (encoded_bound enc low) (encoded_bound enc high)) p ↔ (Contains (pairs_below m e) p × IsAboveBound cmp low p.0 × IsBelowBound cmp high p.0)
  keys_in_range {V} m keyed e low high from to p =
      let at : AreAtEncodings enc m = λ x q h. (keyed x q h).0 in
      let lower = encoded_bound enc low in
      let upper = encoded_bound enc high in
      let held = passed enc m at e (is_within lower upper) (λ x. T (is_above lower x) × T (is_below upper x)) (λ x. both_tests (is_above lower x) (is_below upper x)) p in
      let value : Contains (pairs_below m e) p → is p.0 = λ h. (keyed (enc p.0) p ((below_holds enc m at e p).0 h).1).1 in (
        λ h. (
            let both = held.0 h in
            (both.0, (above_tells low from p.0 (value both.0)).0 both.1.0, (below_tells high to p.0 (value both.0)).0 both.1.1)
            ),
        λ h. held.1 (h.0, ((above_tells low from p.0 (value h.0)).1 h.1, (below_tells high to p.0 (value h.0)).1 h.2)),
      )
