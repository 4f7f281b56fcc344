-- The map of pairs that are inserted one after another.
use Rattle.std.specs.Prelude.{◌≡◌, ℕ, List, [], ◌∷◌, ◌++◌, fold, ⊤}
use Rattle.std.specs.FinMap as map
use Rattle.std.specs.Vec.Iter.{into_iter_items}
use Rattle.nibble_map.specs.Maps.{PairMap}
use Rattle.radix_trie.specs.Refusals.{RefusesInsert}
use Rattle.radix_trie.specs.declared.error.BuildError.{BuildError}
use Rattle.radix_trie.specs.declared.error.BuildError.TheVariants as build
use Rattle.radix_trie.specs.Views.{pairs_below}
use Rattle.radix_trie.specs.declared.error.InsertWhy.{InsertWhy}
use Rattle.radix_trie.specs.declared.error.InsertWhy.TheVariants as why
use Rattle.radix_trie.specs.declared.error.MergeError.{MergeError}
use Rattle.radix_trie.specs.declared.error.MergeError.TheVariants as merging

-- the same reason for the insertion of one pair
abbrev pub why_of : BuildError → InsertWhy
why_of build.Memory = why.Memory
why_of build.Full = why.Full

module _ {K V : Type 0} (enc : K → List ℕ) where
  -- m with each pair at its key's encoding, a later one over an earlier one with the same encoding
  abbrev pub with_pairs : PairMap K V → List (K × V) → PairMap K V
  with_pairs m ps = fold (λ n p. map.insert n (enc p.0) p) m ps

  abbrev pub pairs_in_order : List (K × V) → PairMap K V
  pairs_in_order ps = with_pairs map.empty ps

  -- the pairs end with `last`, and n is m with those before it
  abbrev pub IsStoppedAt : PairMap K V → PairMap K V → List (K × V) → K × V → Type 0
  IsStoppedAt m n ps last =
      (others : List (K × V)) × (ps ≡ others ++ last ∷ []) × (n ≡ with_pairs m others)

  -- the pairs end with one whose insertion behind the others may be refused for this reason; `inline`
  -- says that a key is inline
  abbrev pub IsRefusedAtLast : (K → Type 0) → List (K × V) → BuildError → Type 0
  IsRefusedAtLast inline ps e =
      (others : List (K × V)) × (last : K × V) × (ps ≡ others ++ last ∷ [])
      × RefusesInsert (pairs_in_order others) (enc last.0) ⊤ (inline last.0) (why_of e)

  -- n is m with the pairs of the map `part` before one that is refused, behind which the rest is left;
  -- or the list of its pairs is refused, and n is m
  abbrev pub IsPartlyMerged : (K → Type 0) → (m part n : PairMap K V) → MergeError K V → Type 0
  IsPartlyMerged inline m part n (merging.Memory whole) = (n ≡ m) × (whole ≡ part)
  IsPartlyMerged inline m part n (merging.Stopped e rest) = (done : List (K × V))
      × (pairs_below part [] ≡ done ++ (e.key, e.value) ∷ into_iter_items rest)
      × (n ≡ with_pairs m done)
      × RefusesInsert n (enc e.key) ⊤ (inline e.key) e.why
