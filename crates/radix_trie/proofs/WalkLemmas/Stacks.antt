-- Stacks of what walks have left of nodes: one more is pushed, or the order is turned round.
use Rattle.std.proofs.Common.{◌≡◌, ℕ, List, [], ◌∷◌, ◌++◌, length, reverse, refl, ap, sym, ◌∙◌, append_assoc, append-nil, length-append, arith, Box, Bor, Global, Option, Some, None}
use Rattle.std.proofs.lemmas.List.{reverse-append}
use Rattle.std.specs.declared.ops.Bound.{Bound}
use Rattle.masked_tree.specs.Tree.{plain, entries_at, entries_in}
use Rattle.nibble_map.specs.Trees.{IsFull}
use Rattle.radix_nodes.specs.Nodes.{children_of, tree_of}
use Rattle.radix_nodes.specs.Pairs.{pairs_in, pairs_in_all}
use Rattle.radix_nodes.specs.declared.trie_node.KeyValue.{KeyValue}
use Rattle.radix_nodes.specs.declared.trie_node.TrieNode.{TrieNode}
use Rattle.radix_nodes.proofs.NodeLemmas.Pairs.{pairs_of-append}
use Rattle.radix_trie.specs.declared.iter.rows.Frame.{Frame}
use Rattle.radix_trie.specs.declared.iter.span.parting.Parting.{Parting}
use Rattle.radix_trie.specs.Walks.{HasFullRows, first_pair, left_in, left_of, left_rows, stacked, way_high, way_low}
use Rattle.radix_trie.proofs.WalkLemmas.Back.{full-pushed}
use Rattle.radix_trie.proofs.WalkLemmas.Ends.{full_has_pair}

module _ {K V : Type 0} where
  -- what is pushed comes before what was left
  stacked-push : (rs : List (Frame K V)) (r : Frame K V) → stacked (rs ++ r ∷ []) ≡ left_of r ++ stacked rs
  stacked-push [] r = sym (append-nil (left_of r))
  stacked-push (q ∷ rs) r = ap (λ ps. ps ++ left_of q) (stacked-push rs r) ∙ append_assoc (left_of r) (stacked rs) (left_of q)

  -- a list of nodes, each above the next one, is a stack when it is turned round
  pub stacked-reverse : (rs : List (Frame K V)) → stacked (reverse rs) ≡ left_in rs
  stacked-reverse [] = refl
  stacked-reverse (r ∷ rs) = ap stacked (reverse-append (r ∷ []) rs) ∙ stacked-push (reverse rs) r ∙ ap (λ ps. left_of r ++ ps) (stacked-reverse rs)

  -- with rows as full
  pub full-reverse : (rs : List (Frame K V)) → HasFullRows (left_rows rs) → HasFullRows (left_rows (reverse rs))
  full-reverse [] full = full
  full-reverse (r ∷ rs) full = full-pushed (reverse rs) (reverse (r ∷ rs)) r (reverse-append (r ∷ []) rs) (full-reverse rs full.1) full.0

  -- a stack with one more of a list's nodes
  pub stacked-pushed : (rs new : List (Frame K V)) (r : Frame K V) → new ≡ rs ++ r ∷ [] → stacked new ≡ left_of r ++ stacked rs
  stacked-pushed rs new r pushed = ap stacked pushed ∙ stacked-push rs r

  -- full nodes of which no pair is left have none of their own, and no row
  pub bare_rest : (own : Option (Bor (KeyValue K V))) (row : List (Box (TrieNode K V) Global)) → IsFull (plain (children_of row)) → first_pair own ++ pairs_in_all (children_of row) ≡ [] → (own ≡ None) × (row ≡ [])
  bare_rest None [] full bare = (refl, refl)
  bare_rest None (b ∷ bs) full bare =
      let t = tree_of b.value in
      absurd (omega (arith, full_has_pair t (full.0, full.1, tt), ap length (sym (pairs_of-append (entries_at [] t) (entries_in [] (children_of bs))) ∙ bare), length-append (pairs_in t) (pairs_in_all (children_of bs))))
  bare_rest (Some p) row full bare = cc

-- what stands within two bounds, by where they part
module _ {K V : Type 0} (low high : Bound (List ℕ)) (p : Parting K V) {all : List (K × V)} (is : all ≡ way_low low p.low ++ (left_of p.rest ++ way_high high p.high)) where
  -- where that is nothing, nothing is left anywhere
  pub all_bare : all ≡ [] → (way_low low p.low ≡ []) × (left_of p.rest ≡ []) × (way_high high p.high ≡ [])
  all_bare none = by (way_low low p.low) (left_of p.rest) (sym is ∙ none)
    where
      by : (xs ys : List (K × V)) → xs ++ (ys ++ way_high high p.high) ≡ [] → (xs ≡ []) × (ys ≡ []) × (way_high high p.high ≡ [])
      by [] [] bare = (refl, refl, bare)
      by [] (y ∷ ys) bare = cc
      by (x ∷ xs) ys bare = cc

  -- with the node's rest on a stack, what comes before it is still to come
  pub rest_on : (old new : List (K × V)) → p.high ≡ None → new ≡ left_of p.rest ++ old → way_low low p.low ++ new ≡ all ++ old
  rest_on old new end now =
      ap (λ ps. way_low low p.low ++ ps) now ∙ sym (append_assoc (way_low low p.low) (left_of p.rest) old)
      ∙ ap (λ ps. (way_low low p.low ++ ps) ++ old) (sym (ap (λ way. left_of p.rest ++ way_high high way) end ∙ append-nil (left_of p.rest)))
      ∙ ap (λ ps. ps ++ old) (sym is)

  -- with the node's rest in a list, what comes after it is still to come
  pub rest_in : (old new : List (K × V)) → p.low ≡ None → new ≡ old ++ left_of p.rest → new ++ way_high high p.high ≡ old ++ all
  rest_in old new start now =
      ap (λ ps. ps ++ way_high high p.high) now ∙ append_assoc old (left_of p.rest) (way_high high p.high)
      ∙ ap (λ ps. old ++ ps) (sym (is ∙ ap (λ way. way_low low way ++ (left_of p.rest ++ way_high high p.high)) start))
