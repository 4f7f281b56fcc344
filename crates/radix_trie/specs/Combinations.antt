-- What a walk over two tries has left.
use Rattle.std.specs.Prelude.{◌≡◌, ◌⊎◌, ℕ, zero, suc, ◌+◌, ◌*◌, ◌≤◌, ◌<◌, Bool, true, false, cond, not, ◌&&◌, ◌||◌, List, [], ◌∷◌, ◌++◌, drop, length, take, Option, None, Some, map as each, is_some, option_map, ⊤}
use Rattle.std.specs.Borrow.{Bor}
use Rattle.std.specs.Cmp.Lexicographic.{slice_cmp}
use Rattle.std.specs.FinMap.{find, put}
use Rattle.std.specs.FinMap.Entries.{where_key}
use Rattle.std.specs.Ordering.{nat_cmp}
use Rattle.masked_tree.specs.Tree.{Tree, Children, none, more, IsPlaced, entries_in, nibbles_in}
use Rattle.nibble_map.specs.Swaps.{entry}
use Rattle.nibble_map.specs.Trees.{first}
use Rattle.radix_nodes.specs.declared.trie_node.KeyValue.{KeyValue}
use Rattle.radix_nodes.specs.Nodes.{children_of}
use Rattle.radix_nodes.specs.Pairs.{pair_of, pairs_of}
use Rattle.radix_trie.specs.declared.iter.combination.Operation.{Operation}
use Rattle.radix_trie.specs.declared.iter.combination.Operation.TheVariants as operation
use Rattle.radix_trie.specs.declared.iter.combination.branches.Branch.{Branch}
use Rattle.radix_trie.specs.declared.iter.combination.branches.Branches.{Branches}
use Rattle.radix_trie.specs.declared.iter.combination.branches.Turn.{Turn}
use Rattle.radix_trie.specs.declared.iter.combination.branches.Turn.TheVariants as turn

-- whether an operation gives a list that the first has, or hasn't, and the second
abbrev pub keeps : Operation → Bool → Bool → Bool
keeps operation.Union a b = a || b
keeps operation.Intersection a b = a && b
keeps operation.Difference a b = a && not b
keeps operation.SymmetricDifference a b = cond a (not b) b

module _ {P : Type 0} where
  -- an entry stands at the list
  abbrev pub has_entry : List (List ℕ × P) → List ℕ → Bool
  has_entry es q = is_some (find (slice_cmp nat_cmp) q es)

  -- the entries at whose lists others stand, or those at whose lists none stand
  abbrev pub picked : Bool → List (List ℕ × P) → List (List ℕ × P) → List (List ℕ × P)
  picked keeps es fs =
      where_key (slice_cmp nat_cmp) (λ q. cond keeps (has_entry fs q) (not (has_entry fs q))) es

  -- the entries of both; at a list of both stands that of es
  abbrev pub merged_entries : List (List ℕ × P) → List (List ℕ × P) → List (List ℕ × P)
  merged_entries [] fs = fs
  merged_entries (e ∷ es) fs = put (slice_cmp nat_cmp) e.0 e.1 (merged_entries es fs)

  -- what an operation makes of the entries of both
  abbrev pub combined_entries : Operation → List (List ℕ × P) → List (List ℕ × P)
      → List (List ℕ × P)
  combined_entries operation.Union es fs = merged_entries es fs
  combined_entries operation.Intersection es fs = picked true es fs
  combined_entries operation.Difference es fs = picked false es fs
  combined_entries operation.SymmetricDifference es fs =
      merged_entries (picked false es fs) (picked false fs es)

  -- the entries at and below a node, behind its path
  abbrev pub entries_of_node : Tree P → List (List ℕ × P)
  entries_of_node t = entry [] t.pair ++ entries_in [] t.children

  -- entries behind a path
  abbrev pub under : List ℕ → List (List ℕ × P) → List (List ℕ × P)
  under p es = each (λ e. (p ++ e.0, e.1)) es

  -- children of which so many nibbles of the first fragment lie above
  abbrev pub behind : ℕ → Children P → Children P
  behind n none = none
  behind n (more f o m children others) = more (drop n f) o m children others

  -- the first fragment
  abbrev pub lead : Children P → List ℕ
  lead none = []
  lead (more f o m children others) = f

  -- some nibbles of the first fragment lead to a pair and to children below them, and the other
  -- children come later
  pub record IsCutBehind (n : ℕ) (k : Children P) (own : Option P) (below beside : Children P) :
      Type 0 where
    pub entries : entries_in [] k
        ≡ under (take n (lead k)) (entry [] own ++ entries_in [] below) ++ entries_in [] beside
    pub placed : IsPlaced 0 below
    pub later : IsPlaced (suc (first (lead k))) beside
    pub fewer : nibbles_in below + nibbles_in beside < nibbles_in k

  -- the same of so many nibbles; with none nothing is cut off
  abbrev pub IsCutOff : ℕ → Children P → Option P → Children P → Children P → Type 0
  IsCutOff zero k own below beside = (own ≡ None) × (below ≡ none) × (beside ≡ k)
  IsCutOff (suc n) k own below beside = IsCutBehind (suc n) k own below beside

  -- so many nibbles of the first fragments lead on: the same of both, or those of one alone, whose
  -- first comes before all of the other
  abbrev pub LeadOn : Children P → Children P → ℕ → ℕ → Type 0
  LeadOn k l a b = (a ≤ length (lead k)) × (b ≤ length (lead l))
      × (((0 < a) × (0 < b) × (take a (lead k) ≡ take b (lead l)))
      ⊎ (((0 < a) × (b ≡ 0) × IsPlaced (suc (first (lead k))) l)
      ⊎ (((a ≡ 0) × (0 < b) × IsPlaced (suc (first (lead l))) k)
      ⊎ ((a ≡ 0) × (b ≡ 0) × (k ≡ none) × (l ≡ none)))))

  -- how many nibbles of the first fragment of each side lead on at a turn
  abbrev pub nibbles_of_first : Turn → Children P → ℕ
  nibbles_of_first turn.End k = 0
  nibbles_of_first turn.First k = length (lead k)
  nibbles_of_first turn.Second k = 0
  nibbles_of_first (turn.Both n) k = n

  abbrev pub nibbles_of_second : Turn → Children P → ℕ
  nibbles_of_second turn.End l = 0
  nibbles_of_second turn.First l = 0
  nibbles_of_second turn.Second l = length (lead l)
  nibbles_of_second (turn.Both n) l = n

module _ {K V : Type 0} where
  -- the pair at the path, if it is left
  abbrev pub own_of : Option (Bor (KeyValue K V)) → Option (KeyValue K V)
  own_of own = option_map (λ p. p.now) own

  -- the children that a branch has left
  abbrev pub row_of_branch : Branch K V → Children (KeyValue K V)
  row_of_branch b = behind b.offset (children_of b.row.now)

  -- the entries that a branch has left, behind its path
  abbrev pub entries_left : Branch K V → List (List ℕ × KeyValue K V)
  entries_left b = entry [] (own_of b.own) ++ entries_in [] (row_of_branch b)

  -- the pairs that two branches have left
  abbrev pub pairs_left : Operation → Branches K V → List (K × V)
  pairs_left op b = pairs_of (combined_entries op (entries_left b.first) (entries_left b.second))

  -- the same of a stack of these: its last ones come first
  abbrev pub all_left : Operation → List (Branches K V) → List (K × V)
  all_left op [] = []
  all_left op (b ∷ bs) = all_left op bs ++ pairs_left op b

  -- the children of both stand at their places
  abbrev pub ArePlaced : Branches K V → Type 0
  ArePlaced b = IsPlaced 0 (row_of_branch b.first) × IsPlaced 0 (row_of_branch b.second)

  -- the same of each of several
  abbrev pub AreAllPlaced : List (Branches K V) → Type 0
  AreAllPlaced [] = ⊤
  AreAllPlaced (b ∷ bs) = ArePlaced b × AreAllPlaced bs

  -- how many nibbles lie below both
  abbrev pub nibbles_left : Branches K V → ℕ
  nibbles_left b = nibbles_in (row_of_branch b.first) + nibbles_in (row_of_branch b.second)

  -- how many turns a search of them takes at most
  abbrev pub turns : List (Branches K V) → ℕ
  turns [] = 0
  turns (b ∷ bs) = turns bs + (2 * nibbles_left b + 1)

  -- the pairs that are left: the one that was found, and those behind it; none where none was found
  abbrev pub found_first : Option (Bor (KeyValue K V)) → List (K × V) → List (K × V)
  found_first None rest = []
  found_first (Some p) rest = pair_of p.now ∷ rest

  -- two branches without own pairs are parted into what lies below a path and what comes later
  pub record AreParted (b below beside : Branches K V) : Type 0 where
    pub pairs : (op : Operation) → pairs_left op b ≡ pairs_left op below ++ pairs_left op beside
    pub below_placed : ArePlaced below
    pub beside_placed : ArePlaced beside
    pub first_bare : beside.first.own ≡ None
    pub second_bare : beside.second.own ≡ None
    pub fewer : nibbles_left below + nibbles_left beside < nibbles_left b
