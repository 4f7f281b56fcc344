-- What the search for the filters of a topic goes by: encodings of levels, and what is still to be
-- looked for.
use Rattle.std.specs.Prelude.{ℕ, ◌+◌, List, [], ◌∷◌, ◌++◌, Option, Some, None, map as each, option_to_list}
use Rattle.std.specs.Borrow.{Bor}
use Rattle.std.specs.FinMap as finite
use Rattle.nibble_map.specs.Maps.{PairMap}
use Rattle.nibble_map.specs.Nibbles.{nibbles}
use Rattle.radix_keys.specs.Parts.{part_bytes}
use Rattle.topic_filters.specs.Filters.{Levels, any_level, any_rest}
use Rattle.topic_filters.specs.declared.search.Pending.{Pending}

-- what a level is in the encoding of a filter
abbrev pub level_list : List ℕ → List ℕ
level_list level = nibbles (part_bytes (level ∷ []))

-- what each of them is
abbrev pub level_lists : Levels → List (List ℕ)
level_lists = each level_list

-- the turns that a search for so many levels takes at most
abbrev pub turns_for : List (List ℕ) → ℕ
turns_for [] = 1
turns_for (l ∷ ls) = 1 + (turns_for ls + (turns_for ls + 1))

-- the same at one place
abbrev pub turns_at : Option (Bor (List (List ℕ))) → ℕ
turns_at None = 1
turns_at (Some levels) = turns_for levels.now

module _ {K V : Type 0} where
  -- the pair at a list
  abbrev pub held : PairMap K V → List ℕ → List (K × V)
  held m q = option_to_list (finite.get m q)

  -- the pairs behind a list at the filters that match levels, by what the levels are in encodings
  abbrev pub held_behind : PairMap K V → List ℕ → List (List ℕ) → List (K × V)
  held_behind m q [] = held m q ++ held m (q ++ level_list any_rest)
  held_behind m q (l ∷ ls) = held_behind m (q ++ l) ls
      ++ (held_behind m (q ++ level_list any_level) ls ++ held m (q ++ level_list any_rest))

  -- the pairs that are looked for at one place: that of the place, or those of levels that are left
  abbrev pub wanted : PairMap K V → Option (Bor (List (List ℕ))) → List (K × V)
  wanted m None = held m []
  wanted m (Some levels) = held_behind m [] levels.now

  -- those that are looked for at all, of which the last ones come first
  abbrev pub all_wanted : List (Pending K V) → List (K × V)
  all_wanted [] = []
  all_wanted (e ∷ es) = all_wanted es ++ wanted e.at e.levels

  -- the turns that this takes at most
  abbrev pub all_turns : List (Pending K V) → ℕ
  all_turns [] = 0
  all_turns (e ∷ es) = all_turns es + turns_at e.levels
