-- Which nodes are canonical below a path, and the same as a test.
use Rattle.std.specs.Prelude.{◌≡◌, ℕ, ◌+◌, Bool, true, false, not, ◌&&◌, ◌||◌, ◌==◌, nat_lt, nat_eq, List, [], ◌∷◌, ◌++◌, length, Option, Some, None, is_some}
use Rattle.std.specs.Cmp.Lexicographic.{pointwise}
use Rattle.nibble_map.specs.Lists.{Each}
use Rattle.nibble_map.specs.Trees.{first}
use Rattle.masked_tree.specs.Mask.{marked}
use Rattle.nibble_map.specs.Canonical as forest
use Rattle.masked_tree.specs.Tree.{Tree, Children, none, more, plain, firsts, IsTreePlaced, entries_at}
use Rattle.std.specs.declared.boxed.Box.{Box}
use Rattle.std.specs.declared.alloc.Global.{Global}
use Rattle.masked_tree.specs.Sizes.{pair_count}
use Rattle.radix_nodes.specs.declared.trie_node.KeyValue.{KeyValue}
use Rattle.radix_nodes.specs.declared.trie_node.TrieNode.{TrieNode}
use Rattle.radix_nodes.specs.Nodes.{tree_of, children_of}

-- a child may stand next, after those that begin below `low`
abbrev pub starts : ℕ → List ℕ → Bool
starts low [] = false
starts low (x ∷ xs) = not (nat_lt x low) && nat_lt x 16

module _ {K V : Type 0} where
  -- A node below the path q: each pair's key has its path as its encoding; each child stands at the
  -- place that its first nibble names, and the masks name these; the paths are the points of the
  -- pairs.
  pub record IsSoundAt (encoding : K → List ℕ) (q : List ℕ) (t : Tree (KeyValue K V)) :
      Type 0 where
    pub keyed : Each (λ e. encoding e.1.key ≡ e.0) (entries_at q t)
    pub placed : IsTreePlaced t
    pub points : forest.IsCanonicalAt q t.fragment t.pair (plain t.children)

  -- the pair's key has the path as its encoding
  abbrev pub key_test : (K → List ℕ) → List ℕ → Option (KeyValue K V) → Bool
  key_test encoding path None = true
  key_test encoding path (Some x) = pointwise nat_eq (encoding x.key) path

  -- the root, or a node with a fragment and a pair or two children
  abbrev pub form_test : List ℕ → List ℕ → Option (KeyValue K V) → ℕ → Bool
  form_test path fragment pair count =
      (length path == 0) || (not (length fragment == 0) && (is_some pair || nat_lt 1 count))

  abbrev pub own_test : (K → List ℕ) → List ℕ → List ℕ → Option (KeyValue K V) → ℕ → Bool
  own_test encoding path fragment pair count = key_test encoding path pair
      && form_test path fragment pair count

  -- the children that are left, where those before begin below `low` and have the bits of `seen`
  abbrev pub children_test : (K → List ℕ) → List ℕ → ℕ → ℕ → ℕ → Children (KeyValue K V) → Bool
  children_test encoding p low seen mask none = seen == mask
  children_test encoding p low seen mask (more f o m children others) =
      starts low f &&
      ((own_test encoding (p ++ f) f o (length (firsts children))
      && children_test encoding (p ++ f) 0 0 m children)
      && children_test encoding p (first f + 1) (marked seen (first f)) mask others)

  abbrev pub node_test : (K → List ℕ) → List ℕ → Tree (KeyValue K V) → Bool
  node_test encoding q t =
      own_test encoding (q ++ t.fragment) t.fragment t.pair (length (firsts t.children))
      && children_test encoding (q ++ t.fragment) 0 0 t.mask t.children

  -- the same of a node, and of a list of children; how many pairs they hold
  unfoldable pub test_of : (K → List ℕ) → List ℕ → TrieNode K V → Bool
  test_of encoding q n = node_test encoding q (tree_of n)

  unfoldable pub tests_of : (K → List ℕ) → List ℕ → ℕ → ℕ → ℕ
      → List (Box (TrieNode K V) Global) → Bool
  tests_of encoding p low seen mask bs = children_test encoding p low seen mask (children_of bs)

  unfoldable pub pair_count_of : TrieNode K V → ℕ
  pair_count_of n = length (entries_at [] (tree_of n))

  unfoldable pub pair_count_of_all : List (Box (TrieNode K V) Global) → ℕ
  pair_count_of_all bs = pair_count (children_of bs)
