-- What a write to a borrowed node, or to its value, does to the tree above it.
use Rattle.std.proofs.Common.{◌≡◌, ℕ, List, [], ◌∷◌, ◌++◌, length, get_or, drop, Option, Some, None, IsSome, MutBor, refl, sym, ap, subst, ◌∙◌, arith, inl, inr, append-nil}
use Rattle.std.proofs.lemmas.List.{map-append}
use Rattle.std.proofs.Math.Seq.{drop-length}
use Rattle.std.specs.Option.{IfSome}
use Rattle.std.specs.declared.boxed.Box.{Box}
use Rattle.std.specs.declared.alloc.Global.{Global}
use Rattle.nibble_map.specs.Swaps.{Swaps, entry}
use Rattle.masked_tree.specs.Tree.{Tree, Children, IsAt, IsTreePlaced, entries_at, entries_in}
use Rattle.masked_tree.specs.Paths.{IsNodeAt, IsHeld}
use Rattle.masked_tree.specs.Alters.{Rewrites}
use Rattle.masked_tree.proofs.EditLemmas.Insertion.{child_entry_alters, node_as_child}
use Rattle.masked_tree.proofs.PathLemmas.Paths.{held_node, node_is_unique}
use Rattle.radix_nodes.specs.declared.trie_node.KeyValue.{KeyValue}
use Rattle.radix_nodes.specs.declared.trie_node.TrieNode.{TrieNode, out-TrieNode, roll-TrieNode}
use Rattle.radix_nodes.specs.Nodes.{tree_of, fragment_of, unboxed, IsStep}
use Rattle.radix_nodes.specs.Lending.{IsSameKey, IsRevalued, Succeeds, Revalues, keyed, keys_of, IsLike, IsUnwritten, KeepsNode, OnNone}
use Rattle.radix_nodes.specs.Loans.{write_value, IsLentPair, with_child_box}
use Rattle.radix_nodes.proofs.NodeLemmas.Nodes.{tree_of-written_pair, pair-tree_of, fragment-tree_of}
use Rattle.radix_nodes.proofs.EditLemmas.Removal.{tree_of-with_child, tree_of-same_child}
use Rattle.radix_nodes.proofs.EditLemmas.Steps.{step_is_child}
use Rattle.radix_nodes.proofs.SearchLemmas.Deepest.{node_here, found_from_child, found_in_child, append-child_rest}

-- what follows for each value follows for an option that may hold one
pub if_some_implies : {A : Type 0} (r : Option A) {P Q : A → Type 0} → ((x : A) → P x → Q x) → IfSome r P → IfSome r Q
if_some_implies None f p = p
if_some_implies (Some x) f p = f x p

-- what follows in the case of none follows for an option that may be none
on_none_implies : {A : Type 0} (r : Option A) {P Q : Type 0} → (P → Q) → OnNone r P → OnNone r Q
on_none_implies None f p = f p
on_none_implies (Some x) f p = p

module _ {K V : Type 0} where
  -- of two places of the same key, one holds a pair if the other does
  same_some : (o p : Option (KeyValue K V)) → IsSameKey o p → IsSome o → IsSome p
  same_some None None e s = s
  same_some None (Some y) e s = absurd e
  same_some (Some x) None e s = absurd e
  same_some (Some x) (Some y) e s = refl

  -- a node itself gets another value
  revalued : (f : List ℕ) (o p : Option (KeyValue K V)) (m : ℕ) (k : Children (KeyValue K V)) → IsSameKey o p →
      let u : Tree (KeyValue K V) = record { fragment = f; pair = o; mask = m; children = k } in let w : Tree (KeyValue K V) = record { fragment = f; pair = p; mask = m; children = k } in
      IsTreePlaced u → Rewrites f o p u w
  revalued f o p m k e h = record {
    full = λ g. (elim g.0 [ inl s ↦ inl (same_some o p e s) | inr a ↦ inr a ], g.1);
    root = record {
      fragment = refl;
      below = λ g. g;
      alters = record {
        start = refl;
        some = λ s. s;
        placed = h;
        swaps = λ q. record { before = []; after = entries_in (q ++ f) k; was = refl; is = refl };
        nodes = refl;
        nibbles = refl;
      };
    };
  }

  -- a tree that gets another value of its own pair is rewritten at its own fragment
  revalued_alters : (u w : Tree (KeyValue K V)) → IsTreePlaced u → IsRevalued u w → Rewrites u.fragment u.pair w.pair u w
  revalued_alters u w h r =
      subst (λ t. Rewrites u.fragment u.pair w.pair u t)
      (sym (rebuilt w.fragment w.mask w.children r.fragment r.mask r.children))
      (revalued u.fragment u.pair w.pair u.mask u.children r.key h)
    where
      -- a tree with the fields of u but for its pair, put together from them
      rebuilt : (f : List ℕ) (m : ℕ) (k : Children (KeyValue K V)) → f ≡ u.fragment → m ≡ u.mask → k ≡ u.children →
          (let t : Tree (KeyValue K V) = record { fragment = f; pair = w.pair; mask = m; children = k } in t) ≡ record { fragment = u.fragment; pair = w.pair; mask = u.mask; children = u.children }
      rebuilt f m k ef em ek = rw (ef, em, ek) refl

  -- where the key is at its end, another node in a node's place replaces it at its path
  pub own_replaced : (n w : TrieNode K V) (key : List ℕ) (depth : ℕ) → depth ≡ length key → IsTreePlaced (tree_of n) → Succeeds (fragment_of n ++ drop depth key) (tree_of n) (tree_of w) (tree_of n) (tree_of w)
  own_replaced n w key depth e h =
      let d : IsNodeAt (tree_of n) (fragment_of n ++ drop depth key) (tree_of n) = node_here n key depth e in
      record { node = d; alters = λ r. subst (λ p. Rewrites p (tree_of n).pair (tree_of w).pair (tree_of n) (tree_of w)) (at d) (revalued_alters (tree_of n) (tree_of w) h r) }
    where
      -- the node's path is its tree's fragment
      at : IsNodeAt (tree_of n) (fragment_of n ++ drop depth key) (tree_of n) → (tree_of n).fragment ≡ fragment_of n ++ drop depth key
      at d = fragment-tree_of n ∙ sym (append-nil (fragment_of n)) ∙ ap (λ r. fragment_of n ++ r) (sym (ended e))
        where
          ended : depth ≡ length key → drop depth key ≡ []
          ended e = ap (λ d. drop d key) e ∙ drop-length key

  -- a node below a child is replaced
  module _ (n : TrieNode K V) (i : ℕ) (b : Box (TrieNode K V) Global) (key : List ℕ) (depth next : ℕ) (h : IsTreePlaced (tree_of n)) (s : IsStep n key depth i next)
      (is : get_or (out-TrieNode K V n).children.items i b ≡ b) where
    -- b holds the child that the key goes on to
    at : IsAt i (tree_of n).children (tree_of b.value)
    at = step_is_child n key depth i h next b s is

    -- the child's fragment, joined with what the key has behind it, is what was left of the key
    path : fragment_of b.value ++ drop next key ≡ drop depth key
    path = append-child_rest n b.value key depth i next h s b is refl

    -- what replaces a node in the child, the child's box written back, replaces it in the parent
    pub replaced_through_child : (b' : Box (TrieNode K V) Global) (u w : Tree (KeyValue K V)) → Succeeds (fragment_of b.value ++ drop next key) u w (tree_of b.value) (tree_of b'.value) →
        Succeeds (fragment_of n ++ drop depth key) u w (tree_of n) (tree_of (with_child_box n i b'))
    replaced_through_child b' u w r = record {
      node = found_from_child n b.value key depth i next h s b is refl u r.node;
      alters = λ v.
          let below = subst (λ p. Rewrites p u.pair w.pair (tree_of b.value) (tree_of b'.value)) path (r.alters v) in
          let e = child_entry_alters (tree_of n) (tree_of b.value) (tree_of b'.value) i (drop depth key) u.pair w.pair 0 0 0 0 h at (node_as_child _ _ _ _ _ _ _ _ below) in
          subst (λ f. Rewrites (f ++ drop depth key) u.pair w.pair (tree_of n) (tree_of (with_child_box n i b'))) (fragment-tree_of n)
          (subst (λ t. Rewrites ((tree_of n).fragment ++ drop depth key) u.pair w.pair (tree_of n) t) (sym (tree_of-with_child n i b')) e);
    }

    -- where a loan leaves the child as it was, the child's box written back leaves the parent so
    pub kept_through_child : {A : Type 0} (r : Option A) (b' : Box (TrieNode K V) Global) → KeepsNode r (fragment_of b.value ++ drop next key) (tree_of b.value) (tree_of b'.value) →
        KeepsNode r (fragment_of n ++ drop depth key) (tree_of n) (tree_of (with_child_box n i b'))
    kept_through_child r b' k = (
      tree_of-same_child n i b b' h (omega (arith, s.within, (out-TrieNode K V n).children.ok.0)) is k.0,
      on_none_implies r (λ free u d. free u (found_in_child n b.value key depth i next h s b is refl u d)) k.1,
    )

  -- a write of a value under its key
  -- two places for a pair, of the same key, give the same entry at a path but for its value
  keys_entry : (p : List ℕ) (was now : Option (KeyValue K V)) → IsSameKey was now → keys_of (entry p was) ≡ keys_of (entry p now)
  keys_entry p None None e = refl
  keys_entry p None (Some y) e = absurd e
  keys_entry p (Some x) None e = absurd e
  keys_entry p (Some x) (Some y) e = ap (λ k. (p, k) ∷ []) e

  -- a swap of two entries of one path and key leaves all entries as they were but for values
  keys_swap : (p : List ℕ) (was now : Option (KeyValue K V)) (old new : List (List ℕ × KeyValue K V)) → IsSameKey was now → Swaps (entry p was) (entry p now) old new → keys_of new ≡ keys_of old
  keys_swap p was now old new e s =
      ap keys_of s.is ∙ map-append keyed s.before (entry p now ++ s.after)
      ∙ ap (λ ks. keys_of s.before ++ ks) (map-append keyed (entry p now) s.after ∙ ap (λ ks. ks ++ keys_of s.after) (sym (keys_entry p was now e)) ∙ sym (map-append keyed (entry p was) s.after))
      ∙ sym (map-append keyed s.before (entry p was ++ s.after)) ∙ ap keys_of (sym s.was)

  -- a pair rewritten under the same key leaves a tree that differs in values at most
  like_of : (p : List ℕ) (was now : Option (KeyValue K V)) (old new : Tree (KeyValue K V)) → IsSameKey was now → Rewrites p was now old new → IsLike old new
  like_of p was now old new e a =
      let c = a.root.alters in
      let f = ap length a.root.fragment in
      record {
        fragment = a.root.fragment;
        placed = λ h. c.placed;
        below = a.root.below;
        keys = λ q. keys_swap (q ++ p) was now (entries_at q old) (entries_at q new) e (c.swaps q);
        nodes = omega (arith, c.nodes);
        nibbles = omega (arith, c.nibbles, f);
      }

  -- a pair rewritten as it was leaves a tree that differs in no value
  kept_of : (p : List ℕ) (was : Option (KeyValue K V)) (old new : Tree (KeyValue K V)) → IsSameKey was was → Rewrites p was was old new → IsUnwritten old new
  kept_of p was old new e a = record { like = like_of p was was old new e a; same = λ q. (let s = a.root.alters.swaps q in s.is ∙ sym s.was) }

  -- what a place for a pair holds has the same key as itself
  same_key_itself : (o : Option (KeyValue K V)) → IsSameKey o o
  same_key_itself None = tt
  same_key_itself (Some x) = refl

  -- a write of a pair's value keeps its key
  written_key : (o : Option (Box (KeyValue K V) Global)) (w : V) → IsSameKey (unboxed o) (unboxed (write_value o w))
  written_key None w = tt
  written_key (Some b) w = refl

  -- the node at the path gets a value
  module _ (n : TrieNode K V) (path : List ℕ) (old new : Tree (KeyValue K V)) (o : Option (Box (KeyValue K V) Global)) where
    -- the node with another box for its pair
    abbrev written : TrieNode K V
    written = let x = out-TrieNode K V n in roll-TrieNode K V record { fragment = x.fragment; pair = o; mask = x.mask; children = x.children }

    -- the tree's pair is what the new box holds
    written_pair : (tree_of written).pair ≡ unboxed o
    written_pair = ap (λ (t : Tree (KeyValue K V)). t.pair) (tree_of-written_pair n o)

    -- with a box of the same key the node's tree differs in its own value at most
    value_revalued : IsSameKey (unboxed (out-TrieNode K V n).pair) (unboxed o) → IsRevalued (tree_of n) (tree_of written)
    value_revalued e = record {
      fragment = ap (λ (t : Tree (KeyValue K V)). t.fragment) (tree_of-written_pair n o);
      mask = ap (λ (t : Tree (KeyValue K V)). t.mask) (tree_of-written_pair n o);
      children = ap (λ (t : Tree (KeyValue K V)). t.children) (tree_of-written_pair n o);
      key = subst (λ p. IsSameKey (tree_of n).pair p) (sym written_pair) (subst (λ p. IsSameKey p (unboxed o)) (sym (pair-tree_of n)) e);
    }

    -- where the node with a box of the same key replaces the node, its pair is rewritten
    pair_rewritten : IsSameKey (unboxed (out-TrieNode K V n).pair) (unboxed o) → Succeeds path (tree_of n) (tree_of written) old new → Rewrites path (unboxed (out-TrieNode K V n).pair) (unboxed o) old new
    pair_rewritten e r =
        subst (λ p. Rewrites path p (unboxed o) old new) (pair-tree_of n)
        (subst (λ p. Rewrites path (tree_of n).pair p old new) written_pair (r.alters (value_revalued e)))

  -- a value written at the node found at a path leaves a tree that differs in values at most
  pub value_like : (n : TrieNode K V) (path : List ℕ) (old new : Tree (KeyValue K V)) (w : V) →
      Succeeds path (tree_of n) (tree_of (written n path old new (write_value (out-TrieNode K V n).pair w))) old new → IsLike old new
  value_like n path old new w r =
      let o = (out-TrieNode K V n).pair in
      like_of path (unboxed o) (unboxed (write_value o w)) old new (written_key o w) (pair_rewritten n path old new (write_value o w) (written_key o w) r)

  -- the tree has the value written through what was borrowed at the path, under the same key
  pub value_written : (n : TrieNode K V) (path : List ℕ) (old new : Tree (KeyValue K V)) (r : Option (MutBor V)) (w : V) → IsLentPair r (out-TrieNode K V n).pair →
      Succeeds path (tree_of n) (tree_of (written n path old new (write_value (out-TrieNode K V n).pair w))) old new → IfSome r (λ x. Revalues path x.now w old new)
  value_written n at old new None w is s = tt
  value_written n path old new (Some x) w is s = go (out-TrieNode K V n).pair is (pair_rewritten n path old new (write_value (out-TrieNode K V n).pair w) (written_key (out-TrieNode K V n).pair w) s)
    where
      go : (o : Option (Box (KeyValue K V) Global)) → IsLentPair (Some x) o → Rewrites path (unboxed o) (unboxed (write_value o w)) old new → Revalues path x.now w old new
      go None e a = absurd e
      go (Some b) e a = record {
        key = b.value.key;
        alters = subst (λ v. Rewrites path (Some (record { key = b.value.key; value = v })) (Some (record { key = b.value.key; value = w })) old new) (sym e) a;
      }

  -- the node found at a path, put back with the pair it had, leaves every value as it was
  pub value_kept : (n : TrieNode K V) (path : List ℕ) (old new : Tree (KeyValue K V)) → Succeeds path (tree_of n) (tree_of (written n path old new (out-TrieNode K V n).pair)) old new → IsUnwritten old new
  value_kept n path old new r =
      let o = (out-TrieNode K V n).pair in
      kept_of path (unboxed o) old new (same_key_itself (unboxed o)) (pair_rewritten n path old new o (same_key_itself (unboxed o)) r)

  -- no pair at the path
  -- where nothing was borrowed of the node at the path, the tree holds no pair there
  pub no_loan_no_pair : (n : TrieNode K V) (path : List ℕ) (old : Tree (KeyValue K V)) (r : Option (MutBor V)) → IsTreePlaced old → IsNodeAt old path (tree_of n) → IsLentPair r (out-TrieNode K V n).pair → OnNone r (IsHeld old path → ⊥)
  no_loan_no_pair n path old (Some x) h d is = tt
  no_loan_no_pair n path old None h d is = λ held.
      let r = held_node old path held in
      let e = node_is_unique old path (tree_of n) r.0 h d r.2 in
      none_some (ap (λ (t : Tree (KeyValue K V)). t.pair) e ∙ r.3) (pair-tree_of n) is
    where
      none_some : {v : KeyValue K V} → (tree_of n).pair ≡ Some v → (tree_of n).pair ≡ unboxed (out-TrieNode K V n).pair → IsLentPair None (out-TrieNode K V n).pair → ⊥
      none_some {v} e p is = go (out-TrieNode K V n).pair (sym p ∙ e) is
        where
          go : (o : Option (Box (KeyValue K V) Global)) → unboxed o ≡ Some v → IsLentPair None o → ⊥
          go None e is = (let i : None ≡ Some v = e in cc i)
          go (Some b) e is = is

  -- where no node stands at the path, the tree holds no pair there
  pub no_node_no_pair : (path : List ℕ) (old : Tree (KeyValue K V)) → ((u : Tree (KeyValue K V)) → IsNodeAt old path u → ⊥) → IsHeld old path → ⊥
  no_node_no_pair path old free held = let r = held_node old path held in free r.0 r.2

  -- a tree that stays the same differs in no value
  pub same_tree_is_kept : (old new : Tree (KeyValue K V)) → new ≡ old → IsUnwritten old new
  same_tree_is_kept old new e =
      subst (λ t. IsUnwritten old t) (sym e) (record {
        like = record { fragment = refl; placed = λ h. h; below = λ f. f; keys = λ q. refl; nodes = refl; nibbles = refl };
        same = λ q. refl;
      })
