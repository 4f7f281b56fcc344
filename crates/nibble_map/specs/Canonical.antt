-- Which trees are canonical.
use Rattle.nibble_map.specs.Points.{IsPoint}
use Rattle.nibble_map.specs.Stored.{IsStored}
use Rattle.std.specs.Prelude.{◌≡◌, ℕ, ◌≢◌, ◌⊎◌, List, [], ◌++◌, Option, IsSome}
use Rattle.nibble_map.specs.Lists.{Lists}
use Rattle.nibble_map.specs.Maps.{NibbleMap}
use Rattle.nibble_map.specs.Maps as maps
use Rattle.nibble_map.specs.Trees.{Forest, FragmentTree, IsForestPlaced, IsFull, AreMany, nodes, nodes_at, paths, entries}
use Rattle.std.specs.FinMap as map

-- The tree is the map's canonical tree: its children stand at their places, its pairs are the
-- map's, and its paths are the map's points, each once and in order.
pub record IsCanonical {P : Type 0} (t : FragmentTree P) (m : NibbleMap P) : Type 0 where
  pub placed : IsForestPlaced 0 t.children
  pub pairs : entries (nodes t) ≡ map.entries m
  pub exact : Lists (maps.IsPoint m) (paths (nodes t))

-- of a node below the path q: the paths at and below it are the points of the pairs there; but
-- where its own path isn't empty, the empty list doesn't count
pub record IsCanonicalAt {P : Type 0} (q f : List ℕ) (o : Option P) (children : Forest P)
    : Type 0 where
  pub placed : IsForestPlaced 0 children
  pub exact : ((q ++ f ≡ [])
      × Lists (IsPoint (IsStored (entries (nodes_at q f o children))))
      (paths (nodes_at q f o children)))
      ⊎ ((f ≢ []) × Lists (λ p. IsPoint (IsStored (entries (nodes_at q f o children))) p × (p ≢ []))
      (paths (nodes_at q f o children)))

-- what is to be seen at a node and below it, without a map
abbrev pub IsLocal : {P : Type 0} → List ℕ → List ℕ → Option P → Forest P → Type 0
IsLocal q f o children = IsForestPlaced 0 children × IsFull children
    × ((q ++ f ≡ []) ⊎ ((f ≢ []) × (IsSome o ⊎ AreMany children)))
