-- What a trie's root stands for, and what a trie keeps.
use Rattle.std.specs.Prelude.{◌≡◌, ℕ, suc, ◌<◌, ◌^◌, List, [], ◌∷◌, length, option_map}
use Rattle.std.specs.FinMap as map
use Rattle.nibble_map.specs.Canonical.{IsCanonical}
use Rattle.masked_tree.specs.Tree.{Tree, Children, none, more, IsTreePlaced, IsFullBelow, nodes_in, nibbles_in}
use Rattle.nibble_map.specs.Maps.{PairMap}
use Rattle.nibble_map.specs.Trees as trees
use Rattle.nibble_map.specs.Trees.{Forest, bare, grow}
use Rattle.radix_nodes.specs.declared.trie_node.KeyValue.{KeyValue}
use Rattle.radix_nodes.specs.Pairs.{pair_of}

module _ {K V : Type 0} where
  -- children as plain data, without masks
  abbrev pub shown_children : Children (KeyValue K V) → Forest (K × V)
  shown_children none = bare
  shown_children (more f o m children others) =
      grow f (option_map pair_of o) (shown_children children) (shown_children others)

  -- the tree of fragments that a kept root is
  abbrev pub shown : Tree (KeyValue K V) → trees.FragmentTree (K × V)
  shown t = record { top = option_map pair_of t.pair; children = shown_children t.children }

  -- its pairs, each at its path
  abbrev pub entries_of : Tree (KeyValue K V) → List (List ℕ × (K × V))
  entries_of t = trees.entries (trees.nodes (shown t))

  abbrev pub map_of : Tree (KeyValue K V) → PairMap K V
  map_of t = map.from_sorted (entries_of t)

-- each pair stands at its key's encoding, whose count of nibbles is within `usize`
abbrev pub AllKeyed : {K V : Type 0} → (K → List ℕ) → List (List ℕ × (K × V)) → Type 0
AllKeyed enc [] = Unit {0}
AllKeyed enc (e ∷ es) = (e.0 ≡ enc e.1.0) × (length e.0 < 2 ^ 64) × AllKeyed enc es

-- The kept root is the canonical tree of the map: its pairs are the map's, each at its key's
-- encoding, its paths are the map's points, each once and in order, and each mask names the
-- children.
pub record IsRoot {K V : Type 0} (enc : K → List ℕ) (m : PairMap K V) (t : Tree (KeyValue K V)) :
    Type 0 where
  pub top : t.fragment ≡ []
  pub masked : IsTreePlaced t
  pub keyed : AllKeyed enc (map.entries m)
  pub canonical : IsCanonical (shown t) m

-- what every trie keeps of its root, and of its counts of pairs, of nodes, and of the fragments'
-- nibbles
pub record IsKept {K V : Type 0} (enc : K → List ℕ) (t : Tree (KeyValue K V))
    (count nodes nibbles : ℕ) : Type 0 where
  pub top : t.fragment ≡ []
  pub masked : IsTreePlaced t
  pub full : IsFullBelow t
  pub keyed : AllKeyed enc (entries_of t)
  pub counted : length (entries_of t) ≡ count
  pub noded : suc (nodes_in t.children) ≡ nodes
  pub nibbled : nibbles_in t.children ≡ nibbles
