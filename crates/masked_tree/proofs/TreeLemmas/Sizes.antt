-- The count of pairs is that of the entries.
use Rattle.std.proofs.Common.{◌≡◌, ℕ, zero, suc, ◌+◌, ◌<◌, ◌≤◌, List, [], ◌++◌, length, Option, Some, None, refl, ap, arith}
use Rattle.std.proofs.lemmas.List.{length-append}
use Rattle.nibble_map.specs.Swaps.{entry}
use Rattle.masked_tree.specs.Tree.{Tree, Children, none, more, IsAt, entries_in, entries_at, nodes_in}
use Rattle.masked_tree.specs.Sizes.{own_count, pair_count}

module _ {P : Type 0} where
  -- the entry of a pair counts one, and that of no pair none
  entry_length : (q : List ℕ) (o : Option P) → length (entry q o) ≡ own_count o
  entry_length q None = refl
  entry_length q (Some x) = refl

  -- some children have as many entries as pairs
  entries_length : (q : List ℕ) (k : Children P) → length (entries_in q k) ≡ pair_count k
  entries_length q none = refl
  entries_length q (more f o m children others) =
      let a = length-append (entry (q ++ f) o ++ entries_in (q ++ f) children) (entries_in q others) in
      let b = length-append (entry (q ++ f) o) (entries_in (q ++ f) children) in
      omega (arith, a, b, entry_length (q ++ f) o, entries_length (q ++ f) children, entries_length q others)

  -- a tree has as many entries as its own pair and the pairs below it
  pub length-entries_at : (q : List ℕ) (t : Tree P) → length (entries_at q t) ≡ own_count t.pair + pair_count t.children
  length-entries_at q t =
      let a = length-append (entry (q ++ t.fragment) t.pair) (entries_in (q ++ t.fragment) t.children) in
      omega (arith, a, entry_length (q ++ t.fragment) t.pair, entries_length (q ++ t.fragment) t.children)

  -- below a child are fewer nodes than below its parent
  pub fewer_nodes : (i : ℕ) (k : Children P) (c : Tree P) → IsAt i k c → nodes_in c.children < nodes_in k
  fewer_nodes i none c a = absurd a
  fewer_nodes zero (more f o m children others) c a = let e = ap (λ (t : Tree P). nodes_in t.children) a in omega (arith, e)
  fewer_nodes (suc i) (more f o m children others) c a = omega (arith, fewer_nodes i others c a)

  -- a child's tree has no more entries than its parent has pairs below
  pub no_more_pairs : (i : ℕ) (k : Children P) (c : Tree P) → IsAt i k c → length (entries_at [] c) ≤ pair_count k
  no_more_pairs i none c a = absurd a
  no_more_pairs zero (more f o m children others) c a = let e = ap (λ (t : Tree P). own_count t.pair + pair_count t.children) a in omega (arith, e, length-entries_at [] c)
  no_more_pairs (suc i) (more f o m children others) c a = omega (arith, no_more_pairs i others c a)
