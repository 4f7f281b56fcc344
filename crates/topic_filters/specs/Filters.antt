-- Filters of topics, as OASIS MQTT 5.0 has them in section 4.7: lists of levels, in which `+` stands
-- for any one level, and `#`, where it is the last one, for what is left, also for nothing.
use Rattle.std.specs.Prelude.{◌≡◌, ◌==◌, ◌⊎◌, ◌≢◌, ℕ, Bool, false, cond, List, [], ◌∷◌, ◌++◌, All, Contains, codes, flat_map, map, option_to_list, T}
use Rattle.std.specs.FinMap as finite
use Rattle.nibble_map.specs.Maps.{PairMap}
use Rattle.nibble_map.specs.Nibbles.{nibbles}
use Rattle.radix_keys.specs.Parts.{part_bytes}

-- the levels of a topic, or of a filter
abbrev pub Levels : Type 0
Levels = List (List ℕ)

-- the level of a filter that stands for any one
abbrev pub any_level : List ℕ
any_level = codes "+"

-- the last level of a filter that stands for all that is left
abbrev pub any_rest : List ℕ
any_rest = codes "#"

-- the filter matches the levels, one by one
abbrev pub MatchesLevels : Levels → Levels → Type 0
MatchesLevels [] ts = ts ≡ []
MatchesLevels (f ∷ fs) [] = (f ≡ any_rest) × (fs ≡ [])
MatchesLevels (f ∷ fs) (t ∷ ts) =
    ((f ≡ any_rest) × (fs ≡ [])) ⊎ (((f ≡ any_level) ⊎ (f ≡ t)) × MatchesLevels fs ts)

-- the first level begins with `$`, as that of a server's own topics does
abbrev pub is_reserved : Levels → Bool
is_reserved [] = false
is_reserved ([] ∷ ts) = false
is_reserved ((c ∷ t) ∷ ts) = c == 36

-- the first level is `+` or `#`
abbrev pub BeginsWithAny : Levels → Type 0
BeginsWithAny [] = ⊥
BeginsWithAny (f ∷ fs) = (f ≡ any_level) ⊎ (f ≡ any_rest)

-- the filter matches the topic: level by level, and a reserved one is matched by no filter that
-- begins with `+` or `#`
pub record Matches (filter topic : Levels) : Type 0 where
  pub levels : MatchesLevels filter topic
  pub reserved : T (is_reserved topic) → BeginsWithAny filter → ⊥

-- no byte of the level is `+` or `#`
unfoldable pub HasNoWildcard : List ℕ → Type 0
HasNoWildcard level = ¬ (Contains level 43) × ¬ (Contains level 35)

-- the level of a filter stands for one level
abbrev pub IsOneLevel : List ℕ → Type 0
IsOneLevel level = (level ≡ any_level) ⊎ HasNoWildcard level

-- the level may be the last one of a filter
abbrev pub IsLastLevel : List ℕ → Type 0
IsLastLevel level = (level ≡ any_rest) ⊎ IsOneLevel level

-- the list of levels is a filter: wildcards stand alone in their levels, and `#` in the last one
abbrev pub IsFilter : Levels → Type 0
IsFilter filter = (before : Levels) × (last : List ℕ) × (filter ≡ before ++ last ∷ [])
    × (filter ≢ [] ∷ []) × All IsOneLevel before × IsLastLevel last

-- the list of levels is a topic, and no filter for more than one
abbrev pub IsTopic : Levels → Type 0
IsTopic topic = (topic ≢ []) × (topic ≢ [] ∷ []) × All HasNoWildcard topic

-- all filters that match the levels
abbrev pub filters_of_levels : Levels → List Levels
filters_of_levels [] = [] ∷ (any_rest ∷ []) ∷ []
filters_of_levels (t ∷ ts) =
    map (λ f. t ∷ f) (filters_of_levels ts)
    ++ (map (λ f. any_level ∷ f) (filters_of_levels ts) ++ (any_rest ∷ []) ∷ [])

-- those of a reserved topic
abbrev pub filters_of_reserved : Levels → List Levels
filters_of_reserved [] = []
filters_of_reserved (t ∷ ts) = map (λ f. t ∷ f) (filters_of_levels ts)

-- all filters that match the topic
abbrev pub filters_of : Levels → List Levels
filters_of topic = cond (is_reserved topic) (filters_of_reserved topic) (filters_of_levels topic)

module _ {K V : Type 0} where
  -- the pairs that the map holds at these filters, in their order
  abbrev pub stored_at : PairMap K V → List Levels → List (K × V)
  stored_at m = flat_map (λ f. option_to_list (finite.get m (nibbles (part_bytes f))))
