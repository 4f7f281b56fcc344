-- Which filters match a topic: those that are listed, each once.
use Rattle.std.proofs.Common.{◌≡◌, ◌≢◌, ◌↔◌, ◌==◌, ◌⊎◌, inl, inr, ℕ, zero, suc, Bool, true, false, T, cond, List, [], ◌∷◌, ◌++◌, All, Contains, map, refl, sym, subst, ◌∙◌, arith}
use Rattle.std.proofs.lemmas.Bool.{eqb-true}
use Rattle.std.proofs.lemmas.List.Elements.{All-cons, All-nil, All-head, All-tail}
use Rattle.std.proofs.lemmas.List.Kept.{AllPairs-cons}
use Rattle.std.specs.List.{AllPairs}
use Rattle.nibble_map.specs.Lists.{Has}
use Rattle.nibble_map.proofs.ListLemmas.Members.{Has-left, Has-right, Has-cases, map_has, has_map}
use Rattle.radix_keys.specs.Parts.{AreParts, IsPart}
use Rattle.topic_filters.proofs.FormLemmas.{no_hash, no_plus}
use Rattle.topic_filters.specs.Filters.{Levels, HasNoWildcard, IsTopic, Matches, MatchesLevels, any_level, any_rest, filters_of, filters_of_levels, is_reserved}

-- the level stands for itself
abbrev IsPlain : List ℕ → Type 0
IsPlain level = (level ≢ any_level) × (level ≢ any_rest)

-- each level stands for itself
abbrev ArePlain : Levels → Type 0
ArePlain = All IsPlain

-- a level without a wildcard does
plain_level : (level : List ℕ) → HasNoWildcard level → IsPlain level
plain_level level h = (
  λ e. no_plus level h (subst (λ l. Contains l 43) (sym e) (0, omega arith, refl)),
  λ e. no_hash level h (subst (λ l. Contains l 35) (sym e) (0, omega arith, refl)),
)

module _ {A : Type 0} where
  -- no element stands twice
  abbrev pub AreApart : List A → Type 0
  AreApart [] = Unit {0}
  AreApart (x ∷ xs) = (Has xs x → ⊥) × AreApart xs

  -- what isn't among others differs from each
  All-apart : (xs : List A) (x : A) → (Has xs x → ⊥) → All (λ y. x ≢ y) xs
  All-apart [] x apart = All-nil (λ y. x ≢ y)
  All-apart (y ∷ ys) x apart = All-cons (λ y. x ≢ y) y ys (λ e. apart (inl e)) (All-apart ys x (λ h. apart (inr h)))

  -- each differs from each later one
  AllPairs-apart : (xs : List A) → AreApart xs → AllPairs (λ x y. x ≢ y) xs
  AllPairs-apart [] apart = λ i j d lt within. absurd (omega (arith, lt, within))
  AllPairs-apart (x ∷ xs) apart = AllPairs-cons (λ x y. x ≢ y) x xs (All-apart xs x apart.0) (AllPairs-apart xs apart.1)

  -- two lists that have nothing in common
  apart-append : (xs ys : List A) → AreApart xs → AreApart ys → ((x : A) → Has xs x → Has ys x → ⊥) → AreApart (xs ++ ys)
  apart-append [] ys a b c = b
  apart-append (x ∷ xs) ys a b c = (
    λ h. elim (Has-cases xs ys x h) [ inl in_first ↦ a.0 in_first | inr in_second ↦ c x (inl refl) in_second ],
    apart-append xs ys a.1 b (λ y h. c y (inr h)),
  )

-- the same filters behind one level
apart-behind : (t : List ℕ) (fs : List Levels) → AreApart fs → AreApart (map (λ f. t ∷ f) fs)
apart-behind t [] a = tt
apart-behind t (f ∷ fs) a = (
  λ h. let g = map_has (λ f. t ∷ f) fs (t ∷ f) h in let e : t ∷ f ≡ t ∷ g.0 = g.1 in let same : f ≡ g.0 = cc in a.0 (subst (Has fs) (sym same) g.2),
  apart-behind t fs a.1,
)

-- the filters of levels that are plain are apart
apart_filters : (ts : Levels) → ArePlain ts → AreApart (filters_of_levels ts)
apart_filters [] plain = (λ h. elim h [ inl e ↦ (let never : [] ≡ any_rest ∷ [] = e in cc) | inr none ↦ none ], ((λ none. none), tt))
apart_filters (t ∷ ts) plain =
    let fs = filters_of_levels ts in
    let rest = apart_filters ts (All-tail IsPlain t ts plain) in
    let is = All-head IsPlain t ts plain in
    apart-append (map (λ f. t ∷ f) fs) (map (λ f. any_level ∷ f) fs ++ (any_rest ∷ []) ∷ [])
    (apart-behind t fs rest)
    (apart-append (map (λ f. any_level ∷ f) fs) ((any_rest ∷ []) ∷ []) (apart-behind any_level fs rest) ((λ none. none), tt)
    (λ x h k. elim k [ inl e ↦ not_rest x e (map_has (λ f. any_level ∷ f) fs x h).1 | inr none ↦ none ]))
    (λ x h k. let a = map_has (λ f. t ∷ f) fs x h in elim (Has-cases (map (λ f. any_level ∷ f) fs) ((any_rest ∷ []) ∷ []) x k) [
      | inl b ↦ (let g = map_has (λ f. any_level ∷ f) fs x b in let e : t ∷ a.0 ≡ any_level ∷ g.0 = sym a.1 ∙ g.1 in let same : t ≡ any_level = cc in is.0 same)
      | inr c ↦ elim c [ inl d ↦ (let e : t ∷ a.0 ≡ any_rest ∷ [] = sym a.1 ∙ d in let same : t ≡ any_rest = cc in is.1 same) | inr none ↦ none ]
    ])
  where
    not_rest : (x : Levels) → x ≡ any_rest ∷ [] → {g : Levels} → x ≡ any_level ∷ g → ⊥
    not_rest x d {g} e = let never : any_rest ∷ [] ≡ any_level ∷ g = sym d ∙ e in cc

-- a filter that is listed matches
listed_matches : (ts fs : Levels) → Has (filters_of_levels ts) fs → MatchesLevels fs ts
listed_matches [] fs (inl e) = subst (λ g. MatchesLevels g []) (sym e) refl
listed_matches [] fs (inr (inl e)) = subst (λ g. MatchesLevels g []) (sym e) (refl, refl)
listed_matches [] fs (inr (inr none)) = absurd none
listed_matches (t ∷ ts) fs h = elim (Has-cases (map (λ f. t ∷ f) all) (map (λ f. any_level ∷ f) all ++ (any_rest ∷ []) ∷ []) fs h) [
  | inl a ↦ (let g = map_has (λ f. t ∷ f) all fs a in subst (λ g. MatchesLevels g (t ∷ ts)) (sym g.1) (inr (inr refl, listed_matches ts g.0 g.2)))
  | inr k ↦ elim (Has-cases (map (λ f. any_level ∷ f) all) ((any_rest ∷ []) ∷ []) fs k) [
    | inl b ↦ (let g = map_has (λ f. any_level ∷ f) all fs b in subst (λ g. MatchesLevels g (t ∷ ts)) (sym g.1) (inr (inl refl, listed_matches ts g.0 g.2)))
    | inr c ↦ elim c [ inl e ↦ subst (λ g. MatchesLevels g (t ∷ ts)) (sym e) (inl (refl, refl)) | inr none ↦ absurd none ]
  ]
]
  where
    all : List Levels
    all = filters_of_levels ts

-- and one that matches is listed
matches_listed : (fs ts : Levels) → MatchesLevels fs ts → Has (filters_of_levels ts) fs
matches_listed [] ts m = subst (λ us. Has (filters_of_levels us) []) (sym m) (inl refl)
matches_listed (f ∷ fs) [] m = inr (inl (λ i. m.0 i ∷ m.1 i))
matches_listed (f ∷ fs) (t ∷ ts) (inl m) =
    Has-right (map (λ g. t ∷ g) (filters_of_levels ts)) _ (f ∷ fs) (Has-right (map (λ g. any_level ∷ g) (filters_of_levels ts)) _ (f ∷ fs) (inl (λ i. m.0 i ∷ m.1 i)))
matches_listed (f ∷ fs) (t ∷ ts) (inr (inl any, m)) =
    Has-right (map (λ g. t ∷ g) (filters_of_levels ts)) _ (f ∷ fs) (Has-left (map (λ g. any_level ∷ g) (filters_of_levels ts)) _ (f ∷ fs)
    (subst (λ l. Has (map (λ g. any_level ∷ g) (filters_of_levels ts)) (l ∷ fs)) (sym any) (has_map (λ g. any_level ∷ g) (filters_of_levels ts) fs (matches_listed fs ts m))))
matches_listed (f ∷ fs) (t ∷ ts) (inr (inr same, m)) =
    Has-left (map (λ g. t ∷ g) (filters_of_levels ts)) _ (f ∷ fs)
    (subst (λ l. Has (map (λ g. t ∷ g) (filters_of_levels ts)) (l ∷ fs)) (sym same) (has_map (λ g. t ∷ g) (filters_of_levels ts) fs (matches_listed fs ts m)))

-- of a topic that isn't reserved the filters of its levels match
plain_listed : (topic filter : Levels) → (T (is_reserved topic) → ⊥) → Has (filters_of_levels topic) filter ↔ Matches filter topic
plain_listed topic filter free =
    (λ h. record { levels = listed_matches topic filter h; reserved = λ r. absurd (free r) }, λ m. matches_listed filter topic m.levels)

-- of a reserved one those that begin with its first level
reserved_listed : (c : ℕ) (t : List ℕ) (ts filter : Levels) → c ≡ 36 → Has (map (λ f. (c ∷ t) ∷ f) (filters_of_levels ts)) filter ↔ Matches filter ((c ∷ t) ∷ ts)
reserved_listed c t ts filter dollar = (to, from filter)
  where
    never : (c ∷ t ≡ any_level) ⊎ (c ∷ t ≡ any_rest) → ⊥
    never (inl e) = let is : c ≡ 43 = cc in absurd (omega (arith, is, dollar))
    never (inr e) = let is : c ≡ 35 = cc in absurd (omega (arith, is, dollar))

    to : Has (map (λ f. (c ∷ t) ∷ f) (filters_of_levels ts)) filter → Matches filter ((c ∷ t) ∷ ts)
    to h = let g = map_has (λ f. (c ∷ t) ∷ f) (filters_of_levels ts) filter h in
        subst (λ f. Matches f ((c ∷ t) ∷ ts)) (sym g.1) record { levels = inr (inr refl, listed_matches ts g.0 g.2); reserved = λ _ any. never any }

    from : (filter : Levels) → Matches filter ((c ∷ t) ∷ ts) → Has (map (λ f. (c ∷ t) ∷ f) (filters_of_levels ts)) filter
    from [] m = let none : (c ∷ t) ∷ ts ≡ [] = m.levels in cc
    from (f ∷ fs) m = elim m.levels [
      | inl rest ↦ absurd (m.reserved is_so (inr rest.0))
      | inr one ↦ elim one.0 [
        | inl any ↦ absurd (m.reserved is_so (inl any))
        | inr same ↦ subst (λ l. Has (map (λ g. (c ∷ t) ∷ g) (filters_of_levels ts)) (l ∷ fs)) (sym same) (has_map (λ g. (c ∷ t) ∷ g) (filters_of_levels ts) fs (matches_listed fs ts one.1))
      ]
    ]
      where
        is_so : T (c == 36)
        is_so = subst (λ n. T (n == 36)) (sym dollar) tt

-- all filters that match a topic are listed, and no others
pub filters_listed : (filter topic : Levels) → Has (filters_of topic) filter ↔ Matches filter topic
filters_listed filter [] = plain_listed [] filter (λ r. r)
filters_listed filter ([] ∷ ts) = plain_listed ([] ∷ ts) filter (λ r. r)
filters_listed filter ((c ∷ t) ∷ ts) = by (c == 36) refl
  where
    by : (b : Bool) → (c == 36) ≡ b → Has (cond b (map (λ f. (c ∷ t) ∷ f) (filters_of_levels ts)) (filters_of_levels ((c ∷ t) ∷ ts))) filter ↔ Matches filter ((c ∷ t) ∷ ts)
    by true e = reserved_listed c t ts filter (eqb-true c 36 e)
    by false e = plain_listed ((c ∷ t) ∷ ts) filter (λ r. subst T e r)

-- each once, where the topic's levels are plain
apart_by_topic : (topic : Levels) → ArePlain topic → AreApart (filters_of topic)
apart_by_topic [] plain = apart_filters [] plain
apart_by_topic ([] ∷ ts) plain = apart_filters ([] ∷ ts) plain
apart_by_topic ((c ∷ t) ∷ ts) plain = by (c == 36)
  where
    by : (b : Bool) → AreApart (cond b (map (λ f. (c ∷ t) ∷ f) (filters_of_levels ts)) (filters_of_levels ((c ∷ t) ∷ ts)))
    by true = apart-behind (c ∷ t) (filters_of_levels ts) (apart_filters ts (All-tail IsPlain (c ∷ t) ts plain))
    by false = apart_filters ((c ∷ t) ∷ ts) plain

-- so of a topic
pub topic_filters_apart : (topic : Levels) → IsTopic topic → AreApart (filters_of topic)
topic_filters_apart topic is = apart_by_topic topic (λ k d lt. plain_level _ (is.2 k d lt))

pub filters_apart : (topic : Levels) → IsTopic topic → AllPairs (λ f g. f ≢ g) (filters_of topic)
filters_apart topic is = AllPairs-apart (filters_of topic) (topic_filters_apart topic is)

-- the levels with a wildcard are parts
any_level_is_part : IsPart any_level
any_level_is_part (zero, lt, e) = let never : 43 ≡ 0 = e in cc
any_level_is_part (suc k, lt, e) = absurd (omega (arith, lt))

any_rest_is_part : IsPart any_rest
any_rest_is_part (zero, lt, e) = let never : 35 ≡ 0 = e in cc
any_rest_is_part (suc k, lt, e) = absurd (omega (arith, lt))

-- so the levels of a filter are parts where those of what it matches are
pub matched_parts : (f t : Levels) → MatchesLevels f t → AreParts t → AreParts f
matched_parts [] ts m h = All-nil IsPart
matched_parts (f ∷ fs) [] m h = All-cons IsPart f fs (subst IsPart (sym m.0) any_rest_is_part) (subst AreParts (sym m.1) (All-nil IsPart))
matched_parts (f ∷ fs) (t ∷ ts) (inl m) h = All-cons IsPart f fs (subst IsPart (sym m.0) any_rest_is_part) (subst AreParts (sym m.1) (All-nil IsPart))
matched_parts (f ∷ fs) (t ∷ ts) (inr (inl any, m)) h = All-cons IsPart f fs (subst IsPart (sym any) any_level_is_part) (matched_parts fs ts m (All-tail IsPart t ts h))
matched_parts (f ∷ fs) (t ∷ ts) (inr (inr same, m)) h = All-cons IsPart f fs (subst IsPart (sym same) (All-head IsPart t ts h)) (matched_parts fs ts m (All-tail IsPart t ts h))
