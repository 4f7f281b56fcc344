-- Maps whose pairs are stored into others, one map after another.
use Rattle.std.proofs.Common.{◌≡◌, ◌⊎◌, inl, inr, ℕ, cond, List, Option, Some, None, is_some, refl, ap, sym, ◌∙◌}
use Rattle.std.proofs.lemmas.Cmp.{nat_list_cmp_total}
use Rattle.std.specs.FinMap as map
use Rattle.nibble_map.specs.Maps.{PairMap}
use Rattle.nibble_map.proofs.ListLemmas.Sorted.{tied_lists_equal}
use Rattle.radix_trie.proofs.LawLemmas.Asked.{AreAtEncodings}
use Rattle.keyed_maps.specs.KeyedMaps.{keyed_map}
use Rattle.keyed_maps.proofs.KeyLemmas.{keyed-get}
use Rattle.keyed_maps.proofs.PartLemmas.{get-merged, merged}

module _ {P : Type 0} where
  -- what two maps answer together, the first one first
  abbrev either_of : Option P → Option P → Option P
  either_of o u = cond (is_some o) o u

  either_of_three : (o u w : Option P) → either_of o (either_of u w) ≡ either_of (either_of o u) w
  either_of_three None u w = refl
  either_of_three (Some p) u w = refl

  either_twice : (o u : Option P) → either_of o (either_of o u) ≡ either_of o u
  either_twice None u = refl
  either_twice (Some p) u = refl

  of_either : (o u : Option P) (p : P) → either_of o u ≡ Some p → (o ≡ Some p) ⊎ (u ≡ Some p)
  of_either None u p h = inr h
  of_either (Some x) u p h = inl h

  -- where not both answer, either may come first
  turned : (o u : Option P) → ((p q : P) → o ≡ Some p → u ≡ Some q → ⊥) → either_of o u ≡ either_of u o
  turned None None not_both = refl
  turned None (Some q) not_both = refl
  turned (Some p) None not_both = refl
  turned (Some p) (Some q) not_both = absurd (not_both p q refl refl)

module _ {K V : Type 0} (enc : K → List ℕ) (n : PairMap K V) (ours : AreAtEncodings enc n) where
  pub merge_merge : (m : PairMap K V) → merged enc (merged enc m n) n ≡ merged enc m n
  merge_merge m = map.same_map nat_list_cmp_total tied_lists_equal _ _ (λ q.
      get-merged enc n ours (merged enc m n) q ∙ ap (either_of (map.get n q)) (get-merged enc n ours m q)
      ∙ either_twice (map.get n q) (map.get m q) ∙ sym (get-merged enc n ours m q))

  -- another map
  module _ (r : PairMap K V) (theirs : AreAtEncodings enc r) where
    together : AreAtEncodings enc (merged enc n r)
    together q p at = by (of_either (map.get r q) (map.get n q) p (sym (get-merged enc r theirs n q) ∙ at))
      where
        by : (map.get r q ≡ Some p) ⊎ (map.get n q ≡ Some p) → q ≡ enc p.0
        by (inl h) = theirs q p h
        by (inr h) = ours q p h

    pub merges_associate : (m : PairMap K V) → merged enc (merged enc m n) r ≡ merged enc m (merged enc n r)
    merges_associate m = map.same_map nat_list_cmp_total tied_lists_equal _ _ (λ q.
        get-merged enc r theirs (merged enc m n) q ∙ ap (either_of (map.get r q)) (get-merged enc n ours m q)
        ∙ either_of_three (map.get r q) (map.get n q) (map.get m q)
        ∙ sym (get-merged enc (merged enc n r) together m q ∙ ap (λ o. either_of o (map.get m q)) (get-merged enc r theirs n q)))

    -- no key has a value in both
    module _ (apart : (k : K) (v w : V) → keyed_map enc n k ≡ Some v → keyed_map enc r k ≡ Some w → ⊥) where
      not_both : (q : List ℕ) (x y : K × V) → map.get r q ≡ Some x → map.get n q ≡ Some y → ⊥
      not_both q x y other at =
          let here = ours q y at in
          apart y.0 y.1 x.1 (keyed-get enc n y.0 (Some y) (ap (map.get n) (sym here) ∙ at)) (keyed-get enc r y.0 (Some x) (ap (map.get r) (sym here) ∙ other))

      pub merges_commute : merged enc n r ≡ merged enc r n
      merges_commute = map.same_map nat_list_cmp_total tied_lists_equal _ _ (λ q.
          get-merged enc r theirs n q ∙ turned (map.get r q) (map.get n q) (not_both q) ∙ sym (get-merged enc n ours r q))
