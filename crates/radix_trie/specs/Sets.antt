-- What two tries hold together, as maps.
use Rattle.std.specs.Prelude.{ℕ, not, List, [], ◌∷◌}
use Rattle.std.specs.FinMap as map
use Rattle.nibble_map.specs.Maps.{NibbleMap}
use Rattle.radix_trie.specs.declared.iter.combination.Operation.{Operation}
use Rattle.radix_trie.specs.declared.iter.combination.Operation.TheVariants as operation

module _ {P : Type 0} where
  -- the part of m whose lists n stores too
  abbrev pub common : NibbleMap P → NibbleMap P → NibbleMap P
  common m n = map.retain_keys m (λ e. map.contains_key n e)

  -- the part of m whose lists n doesn't store
  abbrev pub lacking : NibbleMap P → NibbleMap P → NibbleMap P
  lacking m n = map.retain_keys m (λ e. not (map.contains_key n e))

  -- the map with these entries, each in place of what it holds there
  abbrev pub with_entries : List (List ℕ × P) → NibbleMap P → NibbleMap P
  with_entries [] n = n
  with_entries (e ∷ es) n = map.insert (with_entries es n) e.0 e.1

  -- all lists of m and of n; at those of both stands what m holds
  abbrev pub joined : NibbleMap P → NibbleMap P → NibbleMap P
  joined m n = with_entries (map.entries m) n

  -- what an operation makes of m and n
  abbrev pub combined : Operation → NibbleMap P → NibbleMap P → NibbleMap P
  combined operation.Union m n = joined m n
  combined operation.Intersection m n = common m n
  combined operation.Difference m n = lacking m n
  combined operation.SymmetricDifference m n = joined (lacking m n) (lacking n m)
