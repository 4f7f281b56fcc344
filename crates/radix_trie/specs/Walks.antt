-- What a walk gives, and the room that it needs.
use Rattle.std.specs.Prelude.{◌≡◌, ℕ, suc, ◌+◌, ◌-◌, ◌<◌, ◌≤◌, IfSome, Bool, cond, List, [], ◌∷◌, ◌++◌, drop, filter, get_or, length, map, Option, Some, None, Box, ⊤}
use Rattle.std.specs.Borrow.{Bor}
use Rattle.std.specs.declared.alloc.Global.{Global}
use Rattle.std.specs.declared.cmp.Ordering.{Ordering}
use Rattle.std.specs.declared.cmp.Ordering.TheVariants.{Greater, Less}
use Rattle.std.specs.Cmp.Lexicographic.{slice_cmp}
use Rattle.std.specs.Ordering.{is_le, is_lt, nat_cmp}
use Rattle.std.specs.Range.Bound.{MatchBound, bound_map}
use Rattle.std.specs.declared.ops.Bound.{Bound}
use Rattle.std.specs.declared.ops.Bound.TheVariants.{Unbounded}
use Rattle.nibble_map.specs.Lists.{is_prefix}
use Rattle.masked_tree.specs.Tree.{Tree, Children, none, more, plain, IsFullBelow, IsTreePlaced, entries_in}
use Rattle.masked_tree.specs.Sizes.{levels}
use Rattle.nibble_map.specs.Swaps.{entry}
use Rattle.nibble_map.specs.Trees.{IsFull}
use Rattle.radix_nodes.specs.declared.trie_node.KeyValue.{KeyValue}
use Rattle.radix_nodes.specs.declared.trie_node.TrieNode.{TrieNode}
use Rattle.radix_nodes.specs.Nodes.{children_of, tree_of}
use Rattle.radix_nodes.specs.Pairs.{own_pair, pair_of, pairs_in_all, pairs_of}
use Rattle.radix_trie.specs.declared.iter.rows.Frame.{Frame}
use Rattle.radix_trie.specs.declared.iter.side.Side.{Side}
use Rattle.radix_trie.specs.declared.iter.side.Side.TheVariants as side
use Rattle.radix_trie.specs.Views.{is_within}

-- what a `(&K, &V)` points to
abbrev pub deref_pair : {K V : Type 0} → Bor K × Bor V → K × V
deref_pair p = (p.0.now, p.1.now)

-- what a list of these points to
abbrev pub deref_pairs : {K V : Type 0} → List (Bor K × Bor V) → List (K × V)
deref_pairs ps = map deref_pair ps

-- whether a list of this order to another comes after it, or is it where `itself` says so
abbrev pub passes : Bool → Ordering → Bool
passes itself order = cond itself (is_le order) (is_lt order)

-- a bound that refers to a list, as a bound
abbrev pub bound_now : {A : Type 0} → Bound (Bor A) → Bound A
bound_now b = bound_map (λ x. x.now) b

-- what is left of a bound behind `depth` nibbles
abbrev pub bound_behind : ℕ → Bound (List ℕ) → Bound (List ℕ)
bound_behind depth b = bound_map (drop depth) b

-- the bound has so many nibbles, if it is one
abbrev pub ReachesDown : ℕ → Bound (List ℕ) → Type 0
ReachesDown depth b = MatchBound b (λ q. depth ≤ length q) (λ q. depth ≤ length q) ⊤

-- where the lists that f begins stand beside what is left of a list behind `depth` nibbles
abbrev pub StandsBeside : List ℕ → List ℕ → ℕ → Side → Type 0
StandsBeside f list depth side.Before =
    (y : List ℕ) → slice_cmp nat_cmp (drop depth list) (f ++ y) ≡ Greater
StandsBeside f list depth (side.On next) =
    (next ≡ depth + length f) × (next ≤ length list) × (f ++ drop next list ≡ drop depth list)
StandsBeside f list depth side.After =
    (y : List ℕ) → slice_cmp nat_cmp (drop depth list) (f ++ y) ≡ Less

module _ {K V : Type 0} where
  abbrev pub first_pair : Option (Bor (KeyValue K V)) → List (K × V)
  first_pair None = []
  first_pair (Some p) = pair_of p.now ∷ []

  -- what a walk has left of a node, in the order of the encodings
  abbrev pub left_of : Frame K V → List (K × V)
  left_of r = first_pair r.own ++ pairs_in_all (children_of r.row.now)

  -- the same of several, the first one first
  abbrev pub left_in : List (Frame K V) → List (K × V)
  left_in [] = []
  left_in (r ∷ rs) = left_of r ++ left_in rs

  -- what a stack of these has left: its last one comes first
  abbrev pub stacked : List (Frame K V) → List (K × V)
  stacked [] = []
  stacked (r ∷ rs) = stacked rs ++ left_of r

  -- their rows
  abbrev pub left_rows : List (Frame K V) → List (Children (KeyValue K V))
  left_rows rs = map (λ r. children_of r.row.now) rs

  -- the pairs of the entries whose lists pass a test
  abbrev pub pairs_where : (List ℕ → Bool) → List (List ℕ × KeyValue K V) → List (K × V)
  pairs_where test es = pairs_of (filter (λ e. test e.0) es)

  -- the pairs at and below a node whose lists behind it stand within two bounds
  abbrev pub pairs_of_span : Bound (List ℕ) → Bound (List ℕ) → Tree (KeyValue K V) → List (K × V)
  pairs_of_span low high t =
      pairs_where (is_within low high) (entry [] t.pair ++ entries_in [] t.children)

  -- the next node has its children at their places and is full below, stands further down, and the
  -- bound has the nibbles behind it, if it is one
  abbrev pub LeadsOn : Bound (List ℕ) → Tree (KeyValue K V) → Option (Bor (TrieNode K V) × ℕ)
      → Type 0
  LeadsOn b t way = IfSome way (λ r. ReachesDown r.1 b × IsTreePlaced (tree_of r.0.now)
      × IsFullBelow (tree_of r.0.now) × (levels (tree_of r.0.now).children < levels t.children))

  -- the pairs above a lower bound, at and below the node that it goes on to
  abbrev pub way_low : Bound (List ℕ) → Option (Bor (TrieNode K V) × ℕ) → List (K × V)
  way_low low None = []
  way_low low (Some r) = pairs_of_span (bound_behind r.1 low) Unbounded (tree_of r.0.now)

  -- the pairs below an upper bound, at and below the node that it goes on to
  abbrev pub way_high : Bound (List ℕ) → Option (Bor (TrieNode K V) × ℕ) → List (K × V)
  way_high high None = []
  way_high high (Some r) = pairs_of_span Unbounded (bound_behind r.1 high) (tree_of r.0.now)

  -- so many boxes come before, and then one that is on the way, if one is
  abbrev pub past : ℕ → Option (Bor (TrieNode K V) × ℕ) → ℕ
  past before None = before
  past before (Some r) = suc before

  -- the node on the way is that of a box, and so many nibbles lie behind it
  abbrev pub IsWayOf : ℕ → Box (TrieNode K V) Global → Bor (TrieNode K V) × ℕ → Type 0
  IsWayOf depth b r = (b.value ≡ r.0.now) × (r.1 ≡ depth + length (tree_of b.value).fragment)

  -- if a node is on the way, the box at that place is its
  abbrev pub HasBoxOnWay : ℕ → List (Box (TrieNode K V) Global) → ℕ → Option (Bor (TrieNode K V) × ℕ)
      → Type 0
  HasBoxOnWay depth bs before way = IfSome way (λ r. (b : Box (TrieNode K V) Global)
      × (get_or bs before b ≡ b) × IsWayOf depth b r)

  -- a node's boxes are cut by what an order, which goes on behind so many nibbles, answers of the
  -- lists that they begin
  pub record IsCutBy {X : Type 0} (order : ℕ → List ℕ → X) (early late : X) (depth : ℕ)
      (bs : List (Box (TrieNode K V) Global)) (before : ℕ) (way : Option (Bor (TrieNode K V) × ℕ))
      : Type 0 where
    pub first : (i : ℕ) (b : Box (TrieNode K V) Global) → i < before → get_or bs i b ≡ b
        → (y : List ℕ) → order depth ((tree_of b.value).fragment ++ y) ≡ early
    pub last : (i : ℕ) (b : Box (TrieNode K V) Global) → past before way ≤ i → i < length bs
        → get_or bs i b ≡ b → (y : List ℕ) → order depth ((tree_of b.value).fragment ++ y) ≡ late
    pub between : (b : Box (TrieNode K V) Global) → before < past before way
        → get_or bs before b ≡ b → (y : List ℕ) → order depth ((tree_of b.value).fragment ++ y)
        ≡ order (depth + length (tree_of b.value).fragment) y
    pub on_way : HasBoxOnWay depth bs before way
    pub own : 0 < past before way → order depth [] ≡ early
    pub inside : past before way ≤ length bs

  -- a list cuts a node's boxes, of which so many nibbles lie behind the node
  abbrev pub IsCutByList : List ℕ → ℕ → List (Box (TrieNode K V) Global) → ℕ
      → Option (Bor (TrieNode K V) × ℕ) → Type 0
  IsCutByList list = IsCutBy (λ d. slice_cmp nat_cmp (drop d list)) Greater Less

  -- the pairs of the entries whose lists are prefixes of a list
  abbrev pub prefix_pairs : List ℕ → List (List ℕ × KeyValue K V) → List (K × V)
  prefix_pairs list es = pairs_where (λ e. is_prefix e list) es

  -- the pairs that are left on the way down to a list: those of the next node and of the nodes
  -- below whose paths are prefixes of it; so many of its nibbles lie behind that node
  abbrev pub pairs_on_way : List ℕ → Option (Bor (TrieNode K V) × ℕ) → List (K × V)
  pairs_on_way list None = []
  pairs_on_way list (Some r) = own_pair (tree_of r.0.now).pair
      ++ prefix_pairs (drop r.1 list) (entries_in [] (tree_of r.0.now).children)

  -- the next node has its children at their places, and the list has the nibbles behind it
  abbrev pub LeadsTo : List ℕ → Option (Bor (TrieNode K V) × ℕ) → Type 0
  LeadsTo list None = ⊤
  LeadsTo list (Some r) = (r.1 ≤ length list) × IsTreePlaced (tree_of r.0.now)

  -- how many nodes are left on the way at most
  abbrev pub turns_on_way : List ℕ → Option (Bor (TrieNode K V) × ℕ) → ℕ
  turns_on_way list None = 0
  turns_on_way list (Some r) = suc (length list - r.1)

module _ {P : Type 0} where
  -- the rows with one more, if it isn't empty
  abbrev pub with_row : List (Children P) → Children P → List (Children P)
  with_row rs none = rs
  with_row rs (more f o m children others) = rs ++ more f o m children others ∷ []

  -- the rows behind a turn at a node that has these others beside it: they go on where it has no
  -- child, else they are put aside, if there are any
  abbrev pub rows_at : List (Children P) → Children P → Children P → List (Children P)
  rows_at rs none others = rs ++ others ∷ []
  rows_at rs (more f o m below beside) others =
      with_row rs others ++ more f o m below beside ∷ []

  -- a stack of the capacity `most` has room for all that comes of its rows, of which the first
  -- stands at i
  abbrev pub HasRowRoom : ℕ → ℕ → List (Children P) → Type 0
  HasRowRoom most i [] = ⊤
  HasRowRoom most i (r ∷ rs) = (i + levels r ≤ most) × HasRowRoom most (suc i) rs

  -- each node in the rows, and below them, has a pair or two children
  abbrev pub HasFullRows : List (Children P) → Type 0
  HasFullRows [] = ⊤
  HasFullRows (r ∷ rs) = IsFull (plain r) × HasFullRows rs
