-- The pairs of nodes, by their fields.
use Rattle.std.proofs.Common.{◌≡◌, ℕ, List, [], ◌++◌, length, Option, Some, None, refl, ap, sym, ◌∙◌}
use Rattle.std.proofs.lemmas.List.{map-append, length-map}
use Rattle.masked_tree.specs.Tree.{Tree, Children, none, more, entries_in, entries_at}
use Rattle.nibble_map.specs.Swaps.{entry}
use Rattle.radix_nodes.specs.declared.trie_node.KeyValue.{KeyValue}
use Rattle.radix_nodes.specs.Pairs.{pair_of, own_pair, pairs_of, pairs_in, pairs_in_all}

module _ {K V : Type 0} where
  -- the pairs of what stands at one path: the pair there, or none
  entry-pairs : (q : List ℕ) (o : Option (KeyValue K V)) → pairs_of (entry q o) ≡ own_pair o
  entry-pairs q None = refl
  entry-pairs q (Some x) = refl

  -- the pairs of two lists of entries, one behind the other
  pub pairs_of-append : (xs ys : List (List ℕ × KeyValue K V)) → pairs_of (xs ++ ys) ≡ pairs_of xs ++ pairs_of ys
  pairs_of-append xs ys = map-append (λ e. pair_of e.1) xs ys

  -- the pairs of a first child and others: its own, those below it, those of the others
  pairs_of-more : (q f : List ℕ) (o : Option (KeyValue K V)) (m : ℕ) (children others : Children (KeyValue K V))
      → pairs_of (entries_in q (more f o m children others)) ≡ (own_pair o ++ pairs_of (entries_in (q ++ f) children)) ++ pairs_of (entries_in q others)
  pairs_of-more q f o m children others =
      pairs_of-append (entry (q ++ f) o ++ entries_in (q ++ f) children) (entries_in q others)
      ∙ ap (λ x. x ++ pairs_of (entries_in q others)) (pairs_of-append (entry (q ++ f) o) (entries_in (q ++ f) children)
      ∙ ap (λ x. x ++ pairs_of (entries_in (q ++ f) children)) (entry-pairs (q ++ f) o))

  -- there are as many pairs as entries
  pub length-pairs_of : (es : List (List ℕ × KeyValue K V)) → length (pairs_of es) ≡ length es
  length-pairs_of es = length-map es (λ e. pair_of e.1)

  -- the pairs don't depend on the path above
  pairs_of-any_path : (p q : List ℕ) (children : Children (KeyValue K V)) → pairs_of (entries_in p children) ≡ pairs_of (entries_in q children)
  pairs_of-any_path p q none = refl
  pairs_of-any_path p q (more f o m children others) =
      pairs_of-more p f o m children others
      ∙ ap (λ x. (own_pair o ++ x) ++ pairs_of (entries_in p others)) (pairs_of-any_path (p ++ f) (q ++ f) children)
      ∙ ap (λ x. (own_pair o ++ pairs_of (entries_in (q ++ f) children)) ++ x) (pairs_of-any_path p q others)
      ∙ sym (pairs_of-more q f o m children others)

  -- a node's own pair, and those below it: the path above makes no difference
  pub pairs_of-entries_at : (q : List ℕ) (t : Tree (KeyValue K V)) → pairs_of (entries_at q t) ≡ own_pair t.pair ++ pairs_in_all t.children
  pairs_of-entries_at q t =
      pairs_of-append (entry (q ++ t.fragment) t.pair) (entries_in (q ++ t.fragment) t.children)
      ∙ ap (λ x. x ++ pairs_of (entries_in (q ++ t.fragment) t.children)) (entry-pairs (q ++ t.fragment) t.pair)
      ∙ ap (λ x. own_pair t.pair ++ x) (pairs_of-any_path (q ++ t.fragment) [] t.children)

  -- the same pairs at and below a node, whatever its path
  pub pairs_of-entries_of_node : (q : List ℕ) (t : Tree (KeyValue K V)) → pairs_of (entry q t.pair ++ entries_in q t.children) ≡ pairs_in t
  pairs_of-entries_of_node q t =
      pairs_of-append (entry q t.pair) (entries_in q t.children)
      ∙ ap (λ x. x ++ pairs_of (entries_in q t.children)) (entry-pairs q t.pair)
      ∙ ap (λ x. own_pair t.pair ++ x) (pairs_of-any_path q [] t.children)
      ∙ sym (pairs_of-entries_at [] t)
