-- The entry at an end of a tree, seen from a node and from its child.
use Rattle.std.proofs.Common.{◌≡◌, ◌≢◌, ℕ, zero, suc, ◌+◌, ◌-◌, ◌<◌, List, [], ◌∷◌, ◌++◌, length, get_or, Option, Some, None, IsSome, refl, ap, sym, subst, ◌∙◌, append_assoc, append-nil, arith, inl, inr, Result, Ok, MatchOption, ◌⊎◌, true, false}
use Rattle.std.proofs.lemmas.List.{length-append}
use Rattle.std.proofs.lemmas.Option.{slice_get_within}
use Rattle.std.specs.List.{slice_get}
use Rattle.std.specs.declared.boxed.Box.{Box}
use Rattle.std.specs.declared.alloc.Global.{Global}
use Rattle.nibble_map.specs.Lists.{Has, IsPrefix}
use Rattle.nibble_map.specs.Swaps.{entry}
use Rattle.nibble_map.specs.Trees.{AreMany, IsFull, first}
use Rattle.nibble_map.proofs.ListLemmas.Cut.{first-append, append-some}
use Rattle.masked_tree.specs.Tree.{Tree, Children, none, more, plain, IsAt, IsTreeFull, IsFullBelow, IsTreePlaced, firsts, entries_in, entries_at}
use Rattle.masked_tree.proofs.PathLemmas.Paths.{has_node}
use Rattle.radix_keys.specs.declared.nibbles.Memory.{Memory}
use Rattle.radix_nodes.specs.Ends.{at_end, IsEndEntry, HasEndEntry, EndsHere, EndsInChild, PopOutcome, RootPopOutcome}
use Rattle.radix_nodes.specs.Nodes.{tree_of, fragment_of, CutOutcome, RootOutcome}
use Rattle.radix_nodes.specs.declared.removal.pop.End.{End}
use Rattle.radix_nodes.specs.declared.removal.pop.End.TheVariants.{First, Last}
use Rattle.radix_nodes.specs.declared.removal.remove.Removed.{Removed}
use Rattle.radix_nodes.specs.declared.trie_node.KeyValue.{KeyValue}
use Rattle.radix_nodes.specs.declared.trie_node.TrieNode.{TrieNode, out-TrieNode, roll-TrieNode}
use Rattle.radix_nodes.proofs.NodeLemmas.Nodes.{fragment-tree_of}
use Rattle.std.specs.Vec.{with_item}
use Rattle.radix_nodes.proofs.EditLemmas.Removal.{cut_through_child, root_cut_through_child}
use Rattle.radix_nodes.proofs.EditLemmas.Insertion.{box_is_child, boxed_child_is_placed, path_has_fragment}

module _ {A : Type 0} where
  -- an item of a list is in it
  item_in_list : (xs : List A) (i : ℕ) (x : A) → slice_get xs i ≡ Some x → Has xs x
  item_in_list [] i x e = let n : None ≡ Some x = e in cc n
  item_in_list (y ∷ xs) zero x e = inl (let s : Some y ≡ Some x = e in cc s)
  item_in_list (y ∷ xs) (suc i) x e = inr (item_in_list xs i x e)

  -- the first item of a list that isn't empty is that of what goes on from it
  pub first_item-append : (xs ys : List A) → 0 < length xs → slice_get (xs ++ ys) 0 ≡ slice_get xs 0
  first_item-append [] ys lt = absurd (omega arith)
  first_item-append (x ∷ xs) ys lt = refl

  -- an item behind a list is one of what comes behind it
  item-append : (xs ys : List A) (i : ℕ) → slice_get (xs ++ ys) (length xs + i) ≡ slice_get ys i
  item-append [] ys i = ap (slice_get ys) (let e : 0 + i ≡ i = omega arith in e)
  item-append (x ∷ xs) ys i = ap (slice_get (x ∷ (xs ++ ys))) (let e : suc (length xs) + i ≡ suc (length xs + i) = omega arith in e) ∙ item-append xs ys i

  -- the last item of a list that isn't empty is that of a list that it ends
  pub last_item-append : (xs ys : List A) → 0 < length ys → slice_get (xs ++ ys) (length (xs ++ ys) - 1) ≡ slice_get ys (length ys - 1)
  last_item-append xs ys lt =
      let at : length (xs ++ ys) - 1 ≡ length xs + (length ys - 1) = omega (arith, length-append xs ys) in
      ap (slice_get (xs ++ ys)) at ∙ item-append xs ys (length ys - 1)

-- the item at an end of a list is in it
pub end_in_list : {A : Type 0} (end : End) (xs : List A) (x : A) → at_end end xs ≡ Some x → Has xs x
end_in_list First xs x e = item_in_list xs 0 x e
end_in_list Last xs x e = item_in_list xs (length xs - 1) x e

module _ {P : Type 0} where
  -- a child of full children is full
  child_is_full : (i : ℕ) (k : Children P) (u : Tree P) → IsAt i k u → IsFull (plain k) → IsTreeFull u
  child_is_full i none u a full = absurd a
  child_is_full zero (more f o m children others) u a full = subst IsTreeFull (sym a) (full.0, full.1)
  child_is_full (suc i) (more f o m children others) u a full = child_is_full i others u a full.2

  -- a leaf's pair is its entry at both ends
  leaf_entry : (end : End) (u : Tree P) (x : P) → u.children ≡ none → u.pair ≡ Some x → IsEndEntry end u u.fragment x
  leaf_entry First u x bare is q = λ i. slice_get (entry (q ++ u.fragment) (is i) ++ entries_in (q ++ u.fragment) (bare i)) 0
  leaf_entry Last u x bare is q = ap (λ es. slice_get es (length es - 1)) (λ i. entry (q ++ u.fragment) (is i) ++ entries_in (q ++ u.fragment) (bare i))

  -- where a tree has no children, the entry at this end is its own pair's, or there is none
  pub childless_ends_here : (end : End) (t : Tree P) → t.children ≡ none → EndsHere end t
  childless_ends_here end t bare = by t.pair refl
    where
      by : (pair : Option P) → t.pair ≡ pair → MatchOption pair (t.children ≡ none) (λ x. IsEndEntry end t t.fragment x)
      by (Some x) is = leaf_entry end t x bare is
      by None is = bare

  -- where a tree has a pair of its own, that is its first entry
  pub paired_ends_here : (t : Tree P) → IsSome t.pair → EndsHere First t
  paired_ends_here t some = by t.pair refl some
    where
      by : (pair : Option P) → t.pair ≡ pair → IsSome pair → MatchOption pair (t.children ≡ none) (λ x. IsEndEntry First t t.fragment x)
      by (Some x) is s = λ q. ap (λ o. slice_get (entry (q ++ t.fragment) o ++ entries_in (q ++ t.fragment) t.children) 0) is
      by None is s = absurd (let i : false ≡ true = s in cc i)

  -- the entries of children begin with those of the first
  first_child : (k : Children P) (u : Tree P) (q : List ℕ) → IsAt 0 k u → (es : List (List ℕ × P)) × (entries_in q k ≡ entries_at q u ++ es)
  first_child none u q a = absurd a
  first_child (more f o m children others) u q a = (entries_in q others, ap (λ t. entries_at q t ++ entries_in q others) (sym a))

  -- and end with those of the last
  last_child : (i : ℕ) (k : Children P) (u : Tree P) (q : List ℕ) → IsAt i k u → suc i ≡ length (firsts k) → (es : List (List ℕ × P)) × (entries_in q k ≡ es ++ entries_at q u)
  last_child i none u q a l = absurd a
  last_child zero (more f o m children none) u q a l = ([], append-nil (entry (q ++ f) o ++ entries_in (q ++ f) children) ∙ ap (λ t. entries_at q t) (sym a))
  last_child zero (more f o m children (more g p n ls others)) u q a l = absurd (omega (arith, l))
  last_child (suc i) (more f o m children others) u q a l =
      let own = entry (q ++ f) o ++ entries_in (q ++ f) children in
      let r = last_child i others u q a (omega (arith, l)) in
      (own ++ r.0, ap (λ es. own ++ es) r.1 ∙ sym (append_assoc own r.0 (entries_at q u)))

  -- the first entry of a tree without a pair of its own is that of its first child
  pub first_in_child : (t : Tree P) → t.pair ≡ None → EndsInChild First t 0
  first_in_child t bare u p x a e q =
      let path = q ++ t.fragment in
      let r = first_child t.children u path a in
      ap (λ es. slice_get es 0) (ap (λ o. entry path o ++ entries_in path t.children) bare ∙ r.1)
      ∙ first_item-append (entries_at path u) r.0 (slice_get_within (entries_at path u) 0 (path ++ p, x) (e path)) ∙ e path ∙ ap (λ y. Some (y, x)) (append_assoc q t.fragment p)

  -- the last entry of a tree with children is that of its last child
  pub last_in_child : (t : Tree P) (i : ℕ) → suc i ≡ length (firsts t.children) → EndsInChild Last t i
  last_in_child t i l u p x a e q =
      let path = q ++ t.fragment in
      let here = entry path t.pair in
      let es = entries_at path u in
      let r = last_child i t.children u path a l in
      let some = slice_get_within es (length es - 1) (path ++ p, x) (e path) in
      ap (λ es. slice_get es (length es - 1)) (ap (λ es. here ++ es) r.1 ∙ sym (append_assoc here r.0 es))
      ∙ last_item-append (here ++ r.0) es (omega (arith, some)) ∙ e path ∙ ap (λ y. Some (y, x)) (append_assoc q t.fragment p)

  -- the path of the entry at an end begins with the tree's fragment
  end_path : (end : End) (u : Tree P) (p : List ℕ) (x : P) → IsEndEntry end u p x → IsPrefix u.fragment p
  end_path end u p x e = let r = has_node u p x (end_in_list end (entries_at [] u) (p, x) (e [])) in path_has_fragment u p r.0 r.1

  module _ (end : End) (t : Tree P) (O : List ℕ → Type 0) where
    -- where the child with the entry at this end is a leaf, the entry is the leaf's
    pub leaf_has_end : (i : ℕ) (u : Tree P) → IsFullBelow t → IsAt i t.children u → u.children ≡ none → EndsInChild end t i → O (t.fragment ++ u.fragment) → HasEndEntry end t O
    leaf_has_end i u full a ends below o = by u.pair refl (child_is_full i t.children u a full).0
      where
        by : (pair : Option P) → u.pair ≡ pair → IsSome pair ⊎ AreMany (plain u.children) → HasEndEntry end t O
        by (Some x) is f = (t.fragment ++ u.fragment, x, below u u.fragment x a (leaf_entry end u x ends is), o)
        by None is (inl s) = absurd (let i : false ≡ true = s in cc i)
        by None is (inr m) = absurd (subst (λ k. AreMany (plain k)) ends m)

    -- where it is no child's, the tree has children, and the entry is its own
    pub own_has_end : (t.children ≢ none) → EndsHere end t → O t.fragment → HasEndEntry end t O
    own_has_end some here o = by t.pair here
      where
        by : (pair : Option P) → MatchOption pair (t.children ≡ none) (λ x. IsEndEntry end t t.fragment x) → HasEndEntry end t O
        by (Some x) e = (t.fragment, x, e, o)
        by None bare = absurd (some bare)

module _ {K V : Type 0} where
  -- the removal of the root's own pair, where there is no entry or that is the one at this end
  pub root_ends : (end : End) (t new : Tree (KeyValue K V)) (r : Option (Removed K V)) → EndsHere end t → RootOutcome (Ok r) t.fragment t new → RootPopOutcome end (Ok r) t new
  root_ends end t new r here o = by t.pair refl here r o
    where
      no_entries : t.pair ≡ None → t.children ≡ none → entries_at [] t ≡ []
      no_entries bare ends = λ i. entry t.fragment (bare i) ++ entries_in t.fragment (ends i)

      by : (pair : Option (KeyValue K V)) → t.pair ≡ pair → MatchOption pair (t.children ≡ none) (λ x. IsEndEntry end t t.fragment x) →
          (r : Option (Removed K V)) → RootOutcome (Ok r) t.fragment t new → RootPopOutcome end (Ok r) t new
      by (Some x) is e r o = inr (t.fragment, x, e, o)
      by None is ends None o = inl (no_entries is ends, refl, o.0)
      by None is ends (Some removed) o =
          let s = o.alters.swaps [] in
          absurd (omega (arith, ap length (no_entries is ends), ap length s.was, length-append s.before ((t.fragment, removed.pair) ∷ s.after)))

  -- the child in a box of a node that is full below is full below too
  pub boxed_child_is_full : (n : TrieNode K V) (i : ℕ) (b : Box (TrieNode K V) Global) → IsTreePlaced (tree_of n) → i < length (out-TrieNode K V n).children.items →
      get_or (out-TrieNode K V n).children.items i b ≡ b → IsFullBelow (tree_of n) → IsFullBelow (tree_of b.value)
  boxed_child_is_full n i b placed lt is full = (child_is_full i (tree_of n).children (tree_of b.value) (box_is_child n i b placed lt is) full).1

  -- a removal at the end of the child that has the node's
  module _ (end : End) (n : TrieNode K V) (i : ℕ) (b b' : Box (TrieNode K V) Global) (r : Result (Option (Removed K V)) Memory) (placed : IsTreePlaced (tree_of n))
      (lt : i < length (out-TrieNode K V n).children.items) (is : get_or (out-TrieNode K V n).children.items i b ≡ b) (below : EndsInChild end (tree_of n) i)
      (cut : PopOutcome end r (tree_of b.value) (tree_of b'.value)) where
    -- what follows at its path, behind the node's fragment, follows at the node's end
    through_child : (O : List ℕ → Type 0) → ((p : List ℕ) → p ≢ [] → first p ≡ first (fragment_of b.value) → CutOutcome r p (tree_of b.value) (tree_of b'.value) → O (fragment_of n ++ p)) →
        HasEndEntry end (tree_of n) O
    through_child O then' =
        let p = cut.0 in
        let z = end_path end (tree_of b.value) p cut.1 cut.2 in
        let at : p ≡ fragment_of b.value ++ z.0 = z.1 ∙ ap (λ f. f ++ z.0) (fragment-tree_of b.value) in
        let some = (boxed_child_is_placed n i b placed lt is).0 in (
          (tree_of n).fragment ++ p,
          cut.1,
          below (tree_of b.value) p cut.1 (box_is_child n i b placed lt is) cut.2,
          subst (λ f. O (f ++ p)) (sym (fragment-tree_of n))
              (then' p (λ no. append-some (fragment_of b.value) z.0 some (sym at ∙ no)) (ap first at ∙ first-append (fragment_of b.value) z.0 some) cut.3),
        )

    -- it is one at the end of the node that has the child's new box
    pub pop_through_child : let o = out-TrieNode K V n in
        PopOutcome end r (tree_of n) (tree_of (roll-TrieNode K V record { fragment = o.fragment; pair = o.pair; mask = o.mask; children = with_item o.children i b' }))
    pop_through_child = through_child _ (λ p some start c. cut_through_child n i b b' r p (fragment_of n ++ p) placed lt is refl some start c)

    -- and so at a root's
    pub root_pop_through_child : let o = out-TrieNode K V n in
        RootPopOutcome end r (tree_of n) (tree_of (roll-TrieNode K V record { fragment = o.fragment; pair = o.pair; mask = o.mask; children = with_item o.children i b' }))
    root_pop_through_child = inr (through_child _ (λ p some start c. root_cut_through_child n i b b' r p (fragment_of n ++ p) placed lt is refl some start c))
