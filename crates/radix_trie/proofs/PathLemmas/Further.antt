-- The locus of a path and a list behind it, by the locus of the path.
use Rattle.std.proofs.Common.{◌≡◌, ◌≢◌, inl, inr, ℕ, zero, suc, ◌+◌, ◌≤◌, ◌<◌, List, [], ◌∷◌, ◌++◌, drop, length, MatchOption, Option, Some, None, refl, ap, sym, subst, ◌∙◌, append_assoc, append-nil, arith, Bor, slice_index}
use Rattle.std.proofs.lemmas.List.{drop-drop, length-append, length-drop}
use Rattle.nibble_map.specs.Answers.{IsShortest}
use Rattle.nibble_map.specs.Lists.{IsPrefix}
use Rattle.nibble_map.specs.Maps.{PairMap}
use Rattle.nibble_map.proofs.ListLemmas.Cut.{cancel_front, cons_head}
use Rattle.nibble_map.proofs.ListLemmas.Parted.{prefix_through}
use Rattle.masked_tree.specs.Agreement.{Agrees}
use Rattle.masked_tree.specs.Tree.{Tree}
use Rattle.masked_tree.specs.Paths.{IsNodeAt, IsPath}
use Rattle.masked_tree.proofs.PathLemmas.Agreement.{append_drop-whole_fragment, append_drop-whole_list}
use Rattle.radix_nodes.specs.declared.trie_node.KeyValue.{KeyValue}
use Rattle.radix_nodes.specs.declared.trie_node.TrieNode.{TrieNode}
use Rattle.radix_nodes.specs.Nodes.{IsNearest, fragment_of, tree_of}
use Rattle.radix_nodes.specs.Searches.{FindsShortest}
use Rattle.radix_nodes.proofs.NodeLemmas.Nodes.{fragment-tree_of}
use Rattle.radix_trie.specs.Loci.{IsLocus}
use Rattle.radix_trie.proofs.PathLemmas.NodesBelow.{path_leads}
use Rattle.radix_trie.proofs.PathLemmas.Parts.{from_node, node_up}
use Rattle.radix_trie.proofs.PathLemmas.Loci.{nearest_found, no_path_found}

-- two lists that differ at a place within both begin no list together
parted_lists : (xs ys z w : List ℕ) (k : ℕ) → k < length xs → k < length ys → slice_index xs k ≢ slice_index ys k → xs ++ z ≡ ys ++ w → ⊥
parted_lists [] ys z w k l m differ e = absurd (omega arith)
parted_lists (x ∷ xs) [] z w k l m differ e = absurd (omega arith)
parted_lists (x ∷ xs) (y ∷ ys) z w zero l m differ e = differ (cons_head e)
parted_lists (x ∷ xs) (y ∷ ys) z w (suc k) l m differ e = let rest : xs ++ z ≡ ys ++ w = cc in parted_lists xs ys z w k (omega (arith, l)) (omega (arith, m)) differ rest

module _ {K V : Type 0} (enc : K → List ℕ) (m : PairMap K V) (p list : List ℕ) (found : Option (Bor (TrieNode K V) × ℕ)) (locus : IsLocus enc m p found) where
  -- the tree in which the place was found
  abbrev tree : Tree (KeyValue K V)
  tree = locus.0

  -- where nothing goes on from the path, nothing goes on from more of it
  pub further_none : found ≡ None → IsLocus enc m (p ++ list) None
  further_none e = (tree, locus.1, λ q d i. no_path_found enc m p found locus e q d (prefix_through p (p ++ list) q (list, refl) i))

  module _ (r : Bor (TrieNode K V)) (n : ℕ) (is : found ≡ Some (r, n)) where
    -- the found node
    abbrev at : Tree (KeyValue K V)
    at = tree_of r.now

    -- what its fragment has behind the path
    abbrev left : List ℕ
    left = drop n at.fragment

    -- its path is the shortest that the path begins
    near : IsNearest tree at p n
    near = nearest_found enc m p found locus r n is

    -- so many nibbles of its fragment lie within the path
    pub covered_within : n ≤ length (fragment_of r.now)
    covered_within = omega (arith, near.within, ap length (fragment-tree_of r.now))

    -- a path of the tree behind the found node's is one of the node's own tree
    path_in_node : (z : List ℕ) → IsPath tree ((p ++ left) ++ z) → IsPath at (at.fragment ++ z)
    path_in_node [] d = (at, inl (append-nil at.fragment, refl))
    path_in_node (a ∷ z) d = (d.0, inr (a ∷ z, refl, node_up tree (p ++ left) at (a ∷ z) d.0 locus.1.masked (λ e. cc e) near.node d.1))

    module _ (same compared : ℕ) (compare : Agrees list (drop n (fragment_of r.now)) same compared) where
      -- how far the list agrees with it
      agree : Agrees list left same compared
      agree = subst (λ f. Agrees list (drop n f) same compared) (sym (fragment-tree_of r.now)) compare

      -- how many nibbles it has
      length-left : n + length left ≡ length (fragment_of r.now)
      length-left = omega (arith, near.within, length-drop n at.fragment, ap length (fragment-tree_of r.now))

      -- where all of the list lies within the node's fragment, the node is the nearest still
      pub further_inside : same ≡ length list → IsLocus enc m (p ++ list) (Some (r, n + same))
      further_inside all =
          let whole : list ++ drop same left ≡ left = append_drop-whole_fragment list left same compared agree all in
          let path : p ++ left ≡ (p ++ list) ++ drop (n + same) at.fragment =
          ap (λ l. p ++ l) (sym whole) ∙ sym (append_assoc p list (drop same left)) ∙ ap (λ l. (p ++ list) ++ l) (drop-drop same n at.fragment) in (
            tree,
            locus.1,
            record {
              within = omega (arith, near.within, agree.inside, length-drop n at.fragment);
              node = subst (λ y. IsNodeAt tree y at) path near.node;
              shortest = subst (IsShortest (IsPath tree) (p ++ list)) path record {
                member = near.shortest.member;
                below = (drop same left, ap (λ l. p ++ l) (sym whole) ∙ sym (append_assoc p list (drop same left)));
                shortest = λ q d i. near.shortest.shortest q d (prefix_through p (p ++ list) q (list, refl) i);
              };
            },
          )

      -- where the list leaves the node's fragment, nothing goes on from it
      pub further_parted : same ≢ length list → n + same ≢ length (fragment_of r.now) → IsLocus enc m (p ++ list) None
      further_parted longer inside = (
        tree,
        locus.1,
        λ q d i.
            let more : same < length list = omega (arith, agree.within, longer) in
            let within : same < length left = omega (arith, agree.inside, inside, length-left) in
            let lead = path_leads enc m tree locus.1 p (p ++ left) near.shortest q d.0 d.1 (prefix_through p (p ++ list) q (list, refl) i) in
            let both : p ++ (list ++ i.0) ≡ p ++ (left ++ lead.0) = sym (append_assoc p list i.0) ∙ sym i.1 ∙ lead.1 ∙ append_assoc p left lead.0 in
            parted_lists list left i.0 lead.0 same more within (agree.apart more within) (cancel_front p (list ++ i.0) (left ++ lead.0) both),
      )

      -- where the list has all that is left of the node's fragment, it is searched for on from the node
      pub further_down : n + same ≡ length (fragment_of r.now) → (on : Option (Bor (TrieNode K V) × ℕ)) → FindsShortest on r.now list same → IsLocus enc m (p ++ list) on
      further_down all on finds = (tree, locus.1, lifted on finds)
        where
          rest : List ℕ
          rest = drop same list

          path : (p ++ left) ++ rest ≡ p ++ list
          path = append_assoc p left rest ∙ ap (λ l. p ++ l) (append_drop-whole_list list left same compared agree (omega (arith, all, length-left)))

          lifted : (on : Option (Bor (TrieNode K V) × ℕ)) → FindsShortest on r.now list same
              → MatchOption on ((q : List ℕ) → IsPath tree q → IsPrefix (p ++ list) q → ⊥) (λ s. IsNearest tree (tree_of s.0.now) (p ++ list) s.1)
          lifted None free = λ q d i.
              let j = subst (λ y. IsPrefix y q) (sym path) i in
              let e : q ≡ (p ++ left) ++ (rest ++ j.0) = j.1 ∙ append_assoc (p ++ left) rest j.0 in
              free (at.fragment ++ (rest ++ j.0)) (path_in_node (rest ++ j.0) (subst (IsPath tree) e d))
              (j.0, sym (append_assoc at.fragment rest j.0) ∙ ap (λ f. (f ++ rest) ++ j.0) (fragment-tree_of r.now))
          lifted (Some s) found_on =
              let v = tree_of s.0.now in
              let tail = drop s.1 v.fragment in
              let by : IsNearest at v (at.fragment ++ rest) s.1 = subst (λ f. IsNearest at v (f ++ rest) s.1) (sym (fragment-tree_of r.now)) found_on in
              let stands : IsNodeAt tree (((p ++ left) ++ rest) ++ tail) v =
              subst (λ y. IsNodeAt tree y v) (sym (append_assoc (p ++ left) rest tail))
              (from_node tree at (p ++ left) near.node (rest ++ tail) v (subst (λ y. IsNodeAt at y v) (append_assoc at.fragment rest tail) by.node)) in
              subst (λ y. IsNearest tree v y s.1) path record {
                within = by.within;
                node = stands;
                shortest = record {
                  member = (v, stands);
                  below = (tail, refl);
                  shortest = λ q d i.
                      let e : q ≡ (p ++ left) ++ (rest ++ i.0) = i.1 ∙ append_assoc (p ++ left) rest i.0 in
                      let least = by.shortest.shortest (at.fragment ++ (rest ++ i.0)) (path_in_node (rest ++ i.0) (subst (IsPath tree) e d)) (i.0, sym (append_assoc at.fragment rest i.0)) in
                      omega (
                        arith,
                        least,
                        ap length i.1,
                        length-append ((p ++ left) ++ rest) tail,
                        length-append ((p ++ left) ++ rest) i.0,
                        length-append (at.fragment ++ rest) tail,
                        length-append at.fragment rest,
                        length-append at.fragment (rest ++ i.0),
                        length-append rest i.0,
                      );
                };
              }
