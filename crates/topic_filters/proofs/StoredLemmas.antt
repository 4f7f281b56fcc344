-- What is stored at filters that begin with one path.
use Rattle.std.proofs.Common.{◌≡◌, ◌≢◌, ◌↔◌, ◌∙◌, inl, inr, ℕ, All, List, [], ◌∷◌, ◌++◌, map, flat_map, Option, Some, None, refl, sym, ap, subst, append_assoc, arith}
use Rattle.std.proofs.lemmas.Grind.{flat_map-append}
use Rattle.std.proofs.lemmas.List.{map-append}
use Rattle.std.proofs.lemmas.List.Elements.{All-cons, All-nil}
use Rattle.std.proofs.lemmas.List.Kept.{AllPairs-cons}
use Rattle.std.specs.List.{AllPairs}
use Rattle.std.specs.FinMap as finite
use Rattle.std.specs.Prelude.{option_to_list}
use Rattle.nibble_map.specs.Lists.{Has}
use Rattle.nibble_map.specs.Maps.{PairMap}
use Rattle.nibble_map.specs.Nibbles.{nibbles}
use Rattle.nibble_map.proofs.ListLemmas.Members.{Has-cases, Has-left, Has-right}
use Rattle.radix_keys.specs.Distinct.{nibbles-injective}
use Rattle.radix_keys.specs.PartBytes.{parts_of-part_bytes}
use Rattle.radix_keys.specs.Parts.{AreParts, part_bytes, parts_of}
use Rattle.radix_trie.specs.Keys.{IsKeyed}
use Rattle.topic_filters.proofs.FilterLemmas.{AreApart, filters_listed, matched_parts, topic_filters_apart}
use Rattle.topic_filters.specs.Filters.{IsTopic, Levels, Matches, any_level, any_rest, filters_of, filters_of_levels, stored_at}

module _ {A B : Type 0} (h : A → List B) where
  -- what comes from a list comes from one of its elements
  from_one : (xs : List A) (y : B) → Has (flat_map h xs) y → (x : A) × Has xs x × Has (h x) y
  from_one [] y has = absurd has
  from_one (x ∷ xs) y has = elim (Has-cases (h x) (flat_map h xs) y has) [
    | inl own ↦ (x, inl refl, own)
    | inr other ↦ (let of = from_one xs y other in (of.0, inr of.1, of.2))
  ]

  -- and what comes from one of its elements comes from the list
  from_each : (xs : List A) (x : A) (y : B) → Has xs x → Has (h x) y → Has (flat_map h xs) y
  from_each [] x y here has = absurd here
  from_each (z ∷ xs) x y (inl same) has = Has-left (h z) (flat_map h xs) y (subst (λ w. Has (h w) y) same has)
  from_each (z ∷ xs) x y (inr there) has = Has-right (h z) (flat_map h xs) y (from_each xs x y there has)

-- the item of an option is the one that is there
optional_has : {P : Type 0} (o : Option P) (p : P) → Has (option_to_list o) p ↔ (o ≡ Some p)
optional_has None p = (λ h. absurd h, λ e. let never : None ≡ Some p = e in cc)
optional_has (Some q) p = (λ h. elim h [ inl e ↦ ap Some (sym e) | inr none ↦ absurd none ], λ e. inl (sym (let is : Some q ≡ Some p = e in let same : q ≡ p = cc in same)))

-- the pairs at the filters that match a topic are those of the stored filters that match
pub stored_match : {K V : Type 0} (m : PairMap K V) (topic : Levels) (p : K × V)
    → Has (stored_at m (filters_of topic)) p ↔ ((f : Levels) × Matches f topic × (finite.get m (nibbles (part_bytes f)) ≡ Some p))
stored_match m topic p = (
  λ h. let of = from_one (λ f. option_to_list (finite.get m (nibbles (part_bytes f)))) (filters_of topic) p h in
      (of.0, (filters_listed of.0 topic).0 of.1, (optional_has (finite.get m (nibbles (part_bytes of.0))) p).0 of.2),
  λ k. from_each (λ f. option_to_list (finite.get m (nibbles (part_bytes f)))) (filters_of topic) k.0 p ((filters_listed k.0 topic).1 k.1)
      ((optional_has (finite.get m (nibbles (part_bytes k.0))) p).1 k.2),
)

-- where each stored filter stands at its own encoding
module _ {V : Type 0} (m : PairMap Levels V) (keyed : IsKeyed (λ f. nibbles (part_bytes f)) AreParts m) where
  -- a filter of parts at which a pair is stored is the pair's own
  own_filter : (f : Levels) (p : Levels × V) → AreParts f → finite.get m (nibbles (part_bytes f)) ≡ Some p → f ≡ p.0
  own_filter f p parts at =
      let k = keyed (nibbles (part_bytes f)) p at in
      sym (parts_of-part_bytes f parts) ∙ ap parts_of (nibbles-injective (part_bytes f) (part_bytes p.0) k.0) ∙ parts_of-part_bytes p.0 k.1

  -- what is stored at filters of parts that are apart is apart too
  stored_apart : (fs : List Levels) → AreApart fs → ((f : Levels) → Has fs f → AreParts f) → AllPairs (λ p q. p.0 ≢ q.0) (stored_at m fs)
  stored_apart [] apart parts = λ i j d lt within. absurd (omega (arith, lt, within))
  stored_apart (f ∷ fs) apart parts = by (finite.get m (nibbles (part_bytes f))) refl (stored_apart fs apart.1 (λ g h. parts g (inr h)))
    where
      differs : (p : Levels × V) → f ≡ p.0 → (qs : List (Levels × V)) → ((q : Levels × V) → Has qs q → Has (stored_at m fs) q) → All (λ q. p.0 ≢ q.0) qs
      differs p own [] within = All-nil (λ q. p.0 ≢ q.0)
      differs p own (q ∷ qs) within = All-cons (λ q. p.0 ≢ q.0) q qs
          (λ same. let of = from_one (λ f. option_to_list (finite.get m (nibbles (part_bytes f)))) fs q (within q (inl refl)) in
          let its = own_filter of.0 q (parts of.0 (inr of.1)) ((optional_has (finite.get m (nibbles (part_bytes of.0))) q).0 of.2) in
          apart.0 (subst (Has fs) (its ∙ sym same ∙ sym own) of.1))
          (differs p own qs (λ r h. within r (inr h)))

      by : (o : Option (Levels × V)) → finite.get m (nibbles (part_bytes f)) ≡ o → AllPairs (λ p q. p.0 ≢ q.0) (stored_at m fs) → AllPairs (λ p q. p.0 ≢ q.0) (option_to_list o ++ stored_at m fs)
      by None none rest = rest
      by (Some p) at rest = AllPairs-cons (λ p q. p.0 ≢ q.0) p (stored_at m fs) (differs p (own_filter f p (parts f (inl refl)) at) (stored_at m fs) (λ q h. h)) rest

  module _ (topic : Levels) (levels : AreParts topic) where
    -- the pairs at the filters that match are those whose own filters match
    pub stored_match-own : (p : Levels × V) → Has (stored_at m (filters_of topic)) p ↔ (Matches p.0 topic × (finite.get m (nibbles (part_bytes p.0)) ≡ Some p))
    stored_match-own p = (
      λ h. let k = (stored_match m topic p).0 h in
          let own = own_filter k.0 p (matched_parts k.0 topic k.1.levels levels) k.2 in
          (subst (λ f. Matches f topic) own k.1, subst (λ f. finite.get m (nibbles (part_bytes f)) ≡ Some p) own k.2),
      λ k. (stored_match m topic p).1 (p.0, k.0, k.1),
    )

    -- of a topic each comes once
    pub stored_once : IsTopic topic → AllPairs (λ p q. p.0 ≢ q.0) (stored_at m (filters_of topic))
    stored_once is = stored_apart (filters_of topic) (topic_filters_apart topic is) (λ f h. matched_parts f topic ((filters_listed f topic).0 h).levels levels)

module _ {K V : Type 0} (m : PairMap K V) where
  -- the pairs at filters behind a path
  abbrev pub stored_behind : Levels → List Levels → List (K × V)
  stored_behind p fs = stored_at m (map (λ f. p ++ f) fs)

  -- those at some filters and at others
  pub stored_behind-append : (p : Levels) (fs gs : List Levels) → stored_behind p (fs ++ gs) ≡ stored_behind p fs ++ stored_behind p gs
  stored_behind-append p fs gs =
      ap (stored_at m) (map-append (λ f. p ++ f) fs gs)
      ∙ flat_map-append (λ f. option_to_list (finite.get m (nibbles (part_bytes f)))) (map (λ f. p ++ f) fs) (map (λ f. p ++ f) gs)

  -- those behind the path and one level more
  pub stored_behind-longer : (p : Levels) (t : List ℕ) (fs : List Levels) → stored_behind p (map (λ f. t ∷ f) fs) ≡ stored_behind (p ++ t ∷ []) fs
  stored_behind-longer p t [] = refl
  stored_behind-longer p t (f ∷ fs) =
      (λ i. option_to_list (finite.get m (nibbles (part_bytes (sym (append_assoc p (t ∷ []) f) i)))) ++ stored_behind-longer p t fs i)

  -- behind no level these are those at the filters themselves
  pub stored_behind-top : (fs : List Levels) → stored_behind [] fs ≡ stored_at m fs
  stored_behind-top [] = refl
  stored_behind-top (f ∷ fs) = ap (λ xs. option_to_list (finite.get m (nibbles (part_bytes f))) ++ xs) (stored_behind-top fs)

  -- where a level is left: the filters that go on by it, by any level, and the one by any rest
  pub stored_behind-step : (p : Levels) (t : List ℕ) (ts : Levels) → stored_behind p (filters_of_levels (t ∷ ts))
      ≡ (stored_behind (p ++ t ∷ []) (filters_of_levels ts) ++ stored_behind (p ++ any_level ∷ []) (filters_of_levels ts)) ++ stored_at m ((p ++ any_rest ∷ []) ∷ [])
  stored_behind-step p t ts =
      let fs = filters_of_levels ts in
      let same = map (λ f. t ∷ f) fs in
      let any = map (λ f. any_level ∷ f) fs in
      let rest = stored_at m ((p ++ any_rest ∷ []) ∷ []) in
      stored_behind-append p same (any ++ (any_rest ∷ []) ∷ [])
      ∙ ap (λ xs. stored_behind p same ++ xs) (stored_behind-append p any ((any_rest ∷ []) ∷ []))
      ∙ (λ i. stored_behind-longer p t fs i ++ (stored_behind-longer p any_level fs i ++ rest))
      ∙ sym (append_assoc (stored_behind (p ++ t ∷ []) fs) (stored_behind (p ++ any_level ∷ []) fs) rest)
