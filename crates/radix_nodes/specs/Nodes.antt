-- What a node stands for.
use Rattle.std.specs.Prelude.{◌≡◌, ℕ, ◌+◌, ◌≤◌, ◌<◌, ◌^◌, ◌⊎◌, vec_len, length, take, drop, ◌-◌, slice_index, ◌++◌, List, [], ◌∷◌, map, Option, Some, None, MatchOption, Result, Ok, Err}
use Rattle.std.specs.Vec.{vec_capacity}
use Rattle.std.specs.declared.boxed.Box.{Box}
use Rattle.std.specs.declared.alloc.Global.{Global}
use Rattle.radix_nodes.specs.declared.trie_node.KeyValue.{KeyValue}
use Rattle.radix_nodes.specs.declared.insertion.change.Change.{Change}
use Rattle.radix_nodes.specs.declared.removal.remove.Removed.{Removed}
use Rattle.radix_keys.specs.declared.nibbles.Memory.{Memory}
use Rattle.radix_nodes.specs.declared.trie_node.TrieNode.{TrieNode, out-TrieNode}
use Rattle.radix_nodes.specs.declared.trie_node.TrieNode.TheOpen.{TrieNode-F}
use Rattle.radix_nodes.specs.declared.trie_node.TrieNode.TheFolds.{fold-TrieNode}
use Rattle.masked_tree.specs.Tree.{Tree, Children, none, join, IsAt}
use Rattle.masked_tree.specs.Paths.{IsChildAt, IsNodeAt, IsPath, IsHeld}
use Rattle.nibble_map.specs.Answers.{IsLongest, IsShortest}
use Rattle.masked_tree.specs.Agreement.{Agrees}
use Rattle.masked_tree.specs.Mask.{marked}
use Rattle.radix_nodes.specs.declared.search.compare.Agreement.{Agreement}
use Rattle.nibble_map.specs.Trees.{first}
use Rattle.masked_tree.specs.Alters.{Replaces, Edits, Cuts, CutsRoot}

-- what a call by reference returns, by its result and by what it leaves in `out`
abbrev pub returned : {A B E : Type 0} → Result A E → B → Result B E
returned (Ok a) out = Ok out
returned (Err e) out = Err e

module _ {P : Type 0} where
  -- these children are v and w, in either order
  abbrev pub AreTwo : Children P → Tree P → Tree P → Type 0
  AreTwo k v w = (k ≡ join (v ∷ w ∷ [])) ⊎ (k ≡ join (w ∷ v ∷ []))

  -- without the child v at i the node t is left with no pair and the one child w, and the fragments
  -- of t and w have more than 32 nibbles together
  abbrev pub IsLongWithout : ℕ → Tree P → Type 0
  IsLongWithout i t = (t.pair ≡ None) × (v : Tree P) × (w : Tree P) × IsAt i t.children v
      × AreTwo t.children v w × (32 < length t.fragment + length w.fragment)

  -- the removal of the pair at p leaves the node u at path x with no pair and the one child w: the
  -- pair is u's own, or that of a leaf which is u's only other child
  abbrev pub IsLeftWith : List ℕ → List ℕ → Tree P → Tree P → Type 0
  IsLeftWith p x u w = ((p ≡ x) × (u.children ≡ join (w ∷ [])))
      ⊎ ((u.pair ≡ None) × (v : Tree P) × (p ≡ x ++ v.fragment) × (v.children ≡ none)
      × AreTwo u.children v w)

  -- the same, and the fragments of u and w have more than 32 nibbles together
  abbrev pub IsLongJoin : List ℕ → List ℕ → Tree P → Tree P → Type 0
  IsLongJoin p x u w = IsLeftWith p x u w × (32 < length u.fragment + length w.fragment)

  -- so it is at some node of the tree
  abbrev pub HasLongJoin : Tree P → List ℕ → Type 0
  HasLongJoin t p =
      (x : List ℕ) × (u : Tree P) × (w : Tree P) × IsNodeAt t x u × IsLongJoin p x u w

  -- so it is at some node below the tree's own
  abbrev pub HasLongJoinBelow : Tree P → List ℕ → Type 0
  HasLongJoinBelow t p = (x : List ℕ) × (u : Tree P) × (w : Tree P) × IsChildAt t.children x u
      × IsLongJoin p (t.fragment ++ x) u w

module _ {K : Type 0} {V : Type 0} where
  abbrev pub unboxed : Option (Box (KeyValue K V) Global) → Option (KeyValue K V)
  unboxed None = None
  unboxed (Some b) = Some b.value

  abbrev pub tree_step : TrieNode-F K V (Tree (KeyValue K V)) → Tree (KeyValue K V)
  tree_step x = record {
    fragment = x.fragment;
    pair = unboxed x.pair;
    mask = x.mask;
    children = join (map (λ b. b.value) x.children.items);
  }

  unfoldable pub tree_of : TrieNode K V → Tree (KeyValue K V)
  tree_of = fold-TrieNode K V (Tree (KeyValue K V)) tree_step

  abbrev pub children_of : List (Box (TrieNode K V) Global) → Children (KeyValue K V)
  children_of bs = join (map (λ b. tree_of b.value) bs)

  abbrev pub fragment_of : TrieNode K V → List ℕ
  fragment_of n = (out-TrieNode K V n).fragment

  abbrev pub out_of : TrieNode K V → TrieNode-F K V (TrieNode K V)
  out_of = out-TrieNode K V

  -- there is room for n more children
  abbrev pub HasRoom : ℕ → TrieNode K V → Type 0
  HasRoom n x = let cs = (out-TrieNode K V x).children in vec_len cs + n ≤ vec_capacity cs

  -- a node with the fragment f and nothing else, ready to stand above one with the fragment g
  abbrev pub IsUpper : List ℕ → List ℕ → TrieNode K V → Type 0
  IsUpper f g n = let x = out-TrieNode K V n in
      (x.fragment ≡ f) × (x.pair ≡ None) × (x.mask ≡ marked 0 (first g)) × (x.children.items ≡ [])
      × HasRoom 2 n × (first g < 16)

  -- what an insertion of x at p returns, and does to a tree: it is refused only where p holds
  -- nothing, and returns x then
  abbrev pub EditOutcome : Result (Change K V) (KeyValue K V) → KeyValue K V → List ℕ
      → Tree (KeyValue K V) → Tree (KeyValue K V) → Type 0
  EditOutcome (Ok made) x p old new = Edits p x made.was made.nodes made.nibbles old new
  EditOutcome (Err y) x p old new = (y ≡ x) × (new ≡ old) × (IsHeld old p → ⊥)

  abbrev pub ReplaceOutcome : Result (Change K V) (KeyValue K V) → KeyValue K V → List ℕ
      → Tree (KeyValue K V) → Tree (KeyValue K V) → Type 0
  ReplaceOutcome (Ok made) x p old new = Replaces p x made.was made.nodes made.nibbles old new
  ReplaceOutcome (Err y) x p old new = (y ≡ x) × (new ≡ old) × (IsHeld old p → ⊥)

  -- the same of one place for a pair
  abbrev pub SetOutcome : Result (Change K V) (KeyValue K V) → KeyValue K V
      → Option (Box (KeyValue K V) Global) → Option (Box (KeyValue K V) Global) → Type 0
  SetOutcome (Ok made) x old new = (unboxed old ≡ made.was) × (unboxed new ≡ Some x) × (made.nodes ≡ 0)
      × (made.nibbles ≡ 0)
  SetOutcome (Err y) x old new = (y ≡ x) × (new ≡ old) × (unboxed old ≡ None)

  -- the outcome O of a call with a pair x by value, said of a call by reference: the pair goes in
  -- through old.was, and what comes back is left there
  abbrev pub Settles : {A E : Type 0} → Result A E → Change K V → Change K V
      → (KeyValue K V → Result (Change K V) (KeyValue K V) → Type 0) → Type 0
  Settles (Ok a) old new O = MatchOption old.was ⊥ (λ x. O x (Ok new))
  Settles (Err e) old new O =
      MatchOption old.was ⊥ (λ x. MatchOption new.was ⊥ (λ y. O x (Err y)))

  -- what a removal of the pair at p returns, and does to a tree: None where p holds nothing; it is
  -- refused only where p holds a pair whose removal joins two fragments that have more than 32
  -- nibbles together
  abbrev pub CutOutcome : Result (Option (Removed K V)) Memory → List ℕ → Tree (KeyValue K V)
      → Tree (KeyValue K V) → Type 0
  CutOutcome (Ok (Some t)) p old new = Cuts p t.pair t.nodes t.nibbles old new
  CutOutcome (Ok None) p old new = (new ≡ old) × (IsHeld old p → ⊥)
  CutOutcome (Err e) p old new = (new ≡ old) × IsHeld old p × HasLongJoin old p

  -- the same at the root, which is joined with no child
  abbrev pub RootOutcome : Result (Option (Removed K V)) Memory → List ℕ → Tree (KeyValue K V)
      → Tree (KeyValue K V) → Type 0
  RootOutcome (Ok (Some t)) p old new = CutsRoot p t.pair t.nodes t.nibbles old new
  RootOutcome (Ok None) p old new = (new ≡ old) × (IsHeld old p → ⊥)
  RootOutcome (Err e) p old new = (new ≡ old) × IsHeld old p × HasLongJoinBelow old p

-- the child at i begins with the key's nibble at `depth`, and agrees with the key from there on so
-- far
pub record IsMet {K V : Type 0} (n : TrieNode K V) (key : List ℕ) (depth i : ℕ) (a : Agreement) :
    Type 0 where
  pub within : i < vec_len (out-TrieNode K V n).children
  pub fits : depth + a.same < 2 ^ 64
  pub start : (u : Tree (KeyValue K V)) → IsAt i (tree_of n).children u
      → first u.fragment ≡ slice_index key depth
  pub agrees : (u : Tree (KeyValue K V)) → IsAt i (tree_of n).children u
      → Agrees u.fragment (drop depth key) a.same a.compared

-- the key goes on to the child at i, and then has `next` nibbles behind it
pub record IsStep {K V : Type 0} (n : TrieNode K V) (key : List ℕ) (depth i next : ℕ) : Type 0 where
  pub within : i < vec_len (out-TrieNode K V n).children
  pub further : depth < next
  pub inside : next ≤ length key
  pub path : (u : Tree (KeyValue K V)) → IsAt i (tree_of n).children u → u.fragment ++ drop next key
      ≡ drop depth key

-- the path on the way to a key that ends before its nibble at `end`, from a node with the fragment
-- f that stands at `depth`
abbrev pub on_way : List ℕ → List ℕ → ℕ → ℕ → List ℕ
on_way f key depth end = f ++ take (end - depth) (drop depth key)

-- u is a node of t, its path is the longest of S that begins the key, and ends before the key's
-- nibble at `end`
pub record IsDeepest {P : Type 0} (S : List ℕ → Type 0) (t u : Tree P) (key : List ℕ)
    (depth end : ℕ) : Type 0 where
  pub further : depth ≤ end
  pub inside : end ≤ length key
  pub node : IsNodeAt t (on_way t.fragment key depth end) u
  pub longest : IsLongest S (t.fragment ++ drop depth key) (on_way t.fragment key depth end)

-- u is a node of t, and its path, which goes on from p by what its fragment has after so many
-- nibbles, is the shortest that does
pub record IsNearest {P : Type 0} (t u : Tree P) (p : List ℕ) (covered : ℕ) : Type 0 where
  pub within : covered ≤ length u.fragment
  pub node : IsNodeAt t (p ++ drop covered u.fragment) u
  pub shortest : IsShortest (IsPath t) p (p ++ drop covered u.fragment)
