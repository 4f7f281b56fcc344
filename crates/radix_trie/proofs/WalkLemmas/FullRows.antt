-- The rows of a walk: each node in them has a pair or two children.
use Rattle.std.proofs.Common.{◌≡◌, ℕ, zero, suc, ◌+◌, ◌<◌, ◌≤◌, ◌⊎◌, inl, inr, List, [], ◌∷◌, ◌++◌, length, drop, get_or, false, true, Option, Some, None, IsSome, subst, arith, Box, Global}
use Rattle.masked_tree.specs.Sizes.{levels, own_count, pair_count}
use Rattle.masked_tree.specs.Tree.{Tree, Children, none, more, front, plain, IsFullBelow, entries_in}
use Rattle.masked_tree.proofs.TreeLemmas.Sizes.{length-entries_at}
use Rattle.nibble_map.specs.Trees.{AreMany, IsFull}
use Rattle.radix_nodes.specs.declared.trie_node.KeyValue.{KeyValue}
use Rattle.radix_nodes.specs.declared.trie_node.TrieNode.{TrieNode}
use Rattle.radix_nodes.specs.Nodes.{children_of, tree_of}
use Rattle.radix_nodes.specs.Pairs.{pairs_in_all}
use Rattle.radix_nodes.proofs.NodeLemmas.Pairs.{length-pairs_of}
use Rattle.radix_trie.specs.Walks.{HasFullRows, rows_at, with_row}

module _ {P : Type 0} where
  -- full rows are full with one more
  pub full-push : (rs : List (Children P)) (r : Children P) → HasFullRows rs → IsFull (plain r) → HasFullRows (rs ++ r ∷ [])
  full-push [] r h full = (full, tt)
  full-push (q ∷ rs) r h full = (h.0, full-push rs r h.1 full)

  -- full rows are full with one more, if it isn't empty
  full-with_row : (rs : List (Children P)) (r : Children P) → HasFullRows rs → IsFull (plain r) → HasFullRows (with_row rs r)
  full-with_row rs none h full = h
  full-with_row rs (more f o m children others) h full = full-push rs (more f o m children others) h full

  -- full rows are full without the last one, which is full
  pub full-pop : (rs : List (Children P)) (r : Children P) → HasFullRows (rs ++ r ∷ []) → HasFullRows rs × IsFull (plain r)
  full-pop [] r h = (tt, h.0)
  full-pop (q ∷ rs) r h = let p = full-pop rs r h.1 in ((h.0, p.0), p.1)

  -- a turn at the node t, with these others beside it, leaves full rows full
  pub full-at : (rs : List (Children P)) (t : Tree P) (others : Children P) → HasFullRows (rs ++ front t others ∷ []) → HasFullRows (rows_at rs t.children others)
  full-at rs t others h =
      let p = full-pop rs (front t others) h in by t.children p.1.1
    where
      by : (below : Children P) → IsFull (plain below) → HasFullRows (rows_at rs below others)
      by none full = full-push rs others (full-pop rs (front t others) h).0 (full-pop rs (front t others) h).1.2
      by (more f o m below beside) full =
          let p = full-pop rs (front t others) h in
          full-push (with_row rs others) (more f o m below beside) (full-with_row rs others p.0 p.1.2) full

  -- a full node has as many pairs at and below it as there are levels
  node-count : (o : Option P) (below : Children P) → IsSome o ⊎ AreMany (plain below)
      → (levels below ≤ pair_count below) × (AreMany (plain below) → suc (levels below) ≤ pair_count below) → suc (levels below) ≤ own_count o + pair_count below
  node-count (Some x) below full h = omega (arith, h.0)
  node-count None below (inl some) h = absurd (let i : false ≡ true = some in cc i)
  node-count None below (inr many) h = omega (arith, h.1 many)

  -- full nodes side by side have a pair for each level, and one more where there are two of them
  levels-count : (r : Children P) → IsFull (plain r) → (levels r ≤ pair_count r) × (AreMany (plain r) → suc (levels r) ≤ pair_count r)
  levels-count none full = (omega arith, λ many. absurd many)
  levels-count (more f o m below none) full =
      let node = node-count o below full.0 (levels-count below full.1) in (omega (arith, node), λ many. absurd many)
  levels-count (more f o m below (more g p n under beside)) full =
      let node = node-count o below full.0 (levels-count below full.1) in
      let rest = levels-count (more g p n under beside) full.2 in
      (omega (arith, node, rest.0), λ many. omega (arith, node, rest.0))

module _ {K V : Type 0} where
  -- full nodes side by side have a pair for each level
  pub levels-pairs : (r : Children (KeyValue K V)) → IsFull (plain r) → levels r ≤ length (pairs_in_all r)
  levels-pairs r full =
      let t : Tree (KeyValue K V) = record { fragment = []; pair = None; mask = 0; children = r } in
      omega (arith, (levels-count r full).0, length-pairs_of (entries_in [] r), length-entries_at [] t)

  -- the children in front of others are full where all are
  pub full-front : (bs cs : List (Box (TrieNode K V) Global)) → IsFull (plain (children_of (bs ++ cs))) → IsFull (plain (children_of bs))
  full-front [] cs full = tt
  full-front (b ∷ bs) cs full = (full.0, full.1, full-front bs cs full.2)

  -- the children from a place on are full where all are
  pub full-drop : (i : ℕ) (bs : List (Box (TrieNode K V) Global)) → IsFull (plain (children_of bs)) → IsFull (plain (children_of (drop i bs)))
  full-drop zero bs full = full
  full-drop (suc i) [] full = full
  full-drop (suc i) (b ∷ bs) full = full-drop i bs full.2

  -- the child at a place is full below where all are
  pub full_at : (bs : List (Box (TrieNode K V) Global)) (i : ℕ) (b : Box (TrieNode K V) Global) → i < length bs → get_or bs i b ≡ b
      → IsFull (plain (children_of bs)) → IsFullBelow (tree_of b.value)
  full_at [] i b lt at full = absurd (omega (arith, lt))
  full_at (c ∷ bs) zero b lt at full = subst (λ d. IsFullBelow (tree_of d.value)) at full.1
  full_at (c ∷ bs) (suc i) b lt at full = full_at bs i b (omega (arith, lt)) at full.2
