-- The nearest stored prefix, by keys.
use Rattle.std.proofs.Common.{◌≡◌, ◌≤◌, ℕ, T, List, [], ◌∷◌, ◌++◌, length, Option, Some, None, is_some, refl, ap, sym, subst, ◌∙◌, arith}
use Rattle.std.specs.FinMap as map
use Rattle.nibble_map.specs.Lists.{IsPrefix}
use Rattle.nibble_map.specs.Maps.{IsStored, PairMap, value_at}
use Rattle.nibble_map.proofs.MapLemmas.Edits.{not_None}
use Rattle.radix_trie.specs.Views.{IsValueAbove}
use Rattle.radix_trie.proofs.LawLemmas.Asked.{AreAtEncodings}
use Rattle.keyed_maps.specs.KeyedMaps.{keyed_map}
use Rattle.keyed_maps.proofs.KeyLemmas.{keyed-get, value_none, value_pair}

-- of two prefixes of one list the shorter is a prefix of the other
shorter_is_prefix : (x y e : List ℕ) → IsPrefix x e → IsPrefix y e → length x ≤ length y → IsPrefix x y
shorter_is_prefix [] y e h k le = (y, refl)
shorter_is_prefix (a ∷ x) [] e h k le = absurd (omega (arith, le))
shorter_is_prefix (a ∷ x) (b ∷ y) e (r, h) (s, k) le =
    let same : a ∷ (x ++ r) ≡ b ∷ (y ++ s) = sym h ∙ k in
    let head : a ≡ b = cc same in
    let tail : x ++ r ≡ y ++ s = cc same in
    let rest = shorter_is_prefix x y (x ++ r) (r, refl) (s, tail) (omega (arith, le)) in
    (rest.0, (let end : y ≡ x ++ rest.0 = rest.1 in cc (head, end)))

module _ {K V : Type 0} (enc : K → List ℕ) (m : PairMap K V) where
  is_stored : (k : K) (v : V) → keyed_map enc m k ≡ Some v → IsStored m (enc k)
  is_stored k v h = subst (λ o. T (is_some o)) (sym (value_pair (map.get m (enc k)) v h).1) tt

  pub get_nearest : AreAtEncodings enc m → (e : List ℕ) (v : V) → IsValueAbove m e (Some v)
      → (k : K) × IsPrefix (enc k) e × (keyed_map enc m k ≡ Some v) × ((j : K) (w : V) → IsPrefix (enc j) e → keyed_map enc m j ≡ Some w → IsPrefix (enc j) (enc k))
  get_nearest keyed e v (None, is, none) = absurd (not_None v (sym none))
  get_nearest keyed e v (Some a, is, here) =
      let at = value_pair (map.get m a) v (sym here) in
      let same = keyed a at.0 at.1 in (
        at.0.0,
        subst (λ l. IsPrefix l e) same is.above,
        ap (value_at m) (sym same) ∙ sym here,
        λ j w begins has. subst (IsPrefix (enc j)) same (shorter_is_prefix (enc j) a e begins is.above (is.longest (enc j) (is_stored j w has) begins)),
      )

  pub nearest_none : (e : List ℕ) → IsValueAbove m e None → (k : K) → IsPrefix (enc k) e → keyed_map enc m k ≡ None
  nearest_none e (None, never, none) k begins = by (map.get m (enc k)) refl
    where
      by : (o : Option (K × V)) → map.get m (enc k) ≡ o → keyed_map enc m k ≡ None
      by None at = keyed-get enc m k None at
      by (Some p) at = absurd (never (enc k) (is_stored k p.1 (keyed-get enc m k (Some p) at)) begins)
  nearest_none e (Some a, is, gone) k begins = absurd (subst (λ o. T (is_some o)) (value_none (map.get m a) (sym gone)) is.member)
