-- Each step of an insertion is an edit.
use Rattle.std.proofs.Common.{◌≡◌, ◌≢◌, ℕ, suc, ◌+◌, ◌<◌, List, [], ◌∷◌, ◌++◌, length, Option, Some, None, refl, ap, sym, subst, ◌∙◌, arith, inl, inr, append_assoc, append-nil, Err}
use Rattle.std.proofs.lemmas.List.{length-append}
use Rattle.nibble_map.specs.Trees.{AreMany, IsFull, first}
use Rattle.nibble_map.specs.Swaps.{Swaps, entry}
use Rattle.masked_tree.specs.Mask.{IsMask, IsPlaceOf, marked}
use Rattle.masked_tree.specs.Tree.{Tree, Children, none, more, IsAt, plain, firsts, IsPlaced, IsTreePlaced, IsTreeFull, entries_in, entries_at, nodes_in, nibbles_in}
use Rattle.masked_tree.specs.Edits.{insert_child, with_fragment, with_pair, with_child, with_new_child, leaf, lowered}
use Rattle.masked_tree.specs.Alters.{Run, entry_at, all_of, none_of, AltersChild, AltersNode, Replaces, Edits, Prunes, Grafts, GraftsChild}
use Rattle.masked_tree.proofs.MaskLemmas.{bit_at-marked, marked_lt, zero_is_mask}
use Rattle.masked_tree.proofs.TreeLemmas.Children.{swaps_after, firsts-set_child, set_child_placed, set_child_full, set_child_many, set_child_swaps, nodes_in-set_child, nibbles_in-set_child, child_tree_is_placed, bit_of-insert_child, insert_child_placed, insert_child_full, insert_child_many, insert_child_swaps, nodes_in-insert_child, nibbles_in-insert_child}

module _ {P : Type 0} where
  -- a node's own pair is written
  pub pair_edits : (t : Tree P) (x : P) → IsTreePlaced t → Edits t.fragment x t.pair 0 0 t (with_pair x t)
  pair_edits t x h = record {
    full = λ f. (inl refl, f.1);
    root = record {
      fragment = refl;
      below = λ f. f;
      alters = record {
        start = refl;
        some = λ s. s;
        placed = h;
        swaps = λ q. record { before = []; after = entries_in (q ++ t.fragment) t.children; was = refl; is = refl };
        nodes = omega arith;
        nibbles = omega arith;
      };
    };
  }

  -- a child is written
  -- a change of a child is a change of its parent, its runs behind the parent's fragment
  pub child_alters : (t u v : Tree P) (i : ℕ) (gone come : Run P) (n m k l : ℕ) → IsTreePlaced t → IsAt i t.children u → AltersChild gone come n m k l u v →
      AltersNode (λ q. gone (q ++ t.fragment)) (λ q. come (q ++ t.fragment)) n m k l t (with_child i v t)
  child_alters t u v i gone come n m k l h a r =
      let full = λ (f : IsFull (plain t.children)). set_child_full i t.children u v a r.full f in
      let at = child_tree_is_placed 0 i t.children u a h.1 in
      let s = r.alters in
      record {
        full = λ f. (elim f.0 [ inl s ↦ inl s | inr m ↦ inr (set_child_many i t.children v m) ], full f.1);
        root = record {
          fragment = refl;
          below = full;
          alters = record {
            start = refl;
            some = λ z. z;
            placed = (subst (λ xs. IsMask t.mask xs) (sym (firsts-set_child i t.children u v a s.start)) h.0, set_child_placed 0 i t.children u v a s.start (s.some at.0) s.placed h.1);
            swaps = λ q. swaps_after (entry (q ++ t.fragment) t.pair) _ _ _ _ (set_child_swaps i t.children u v _ _ (q ++ t.fragment) a (s.swaps (q ++ t.fragment)));
            nodes = nodes_in-set_child i t.children u v n m a s.nodes;
            nibbles = omega (arith, nibbles_in-set_child i t.children u v k l a s.nibbles);
          };
        };
      }

  -- the entry at p behind a fragment is the entry at the fragment and p
  entry_below : (f p : List ℕ) (o : Option P) → (λ (q : List ℕ). entry_at p o (q ++ f)) ≡ entry_at (f ++ p) o
  entry_below f p o = λ i q. entry (append_assoc q f p i) o

  -- one entry of a child is written
  -- a change of a child's entry at p is a change of its parent's at the fragment and p
  pub child_entry_alters : (t u v : Tree P) (i : ℕ) (p : List ℕ) (was now : Option P) (n m k l : ℕ) → IsTreePlaced t → IsAt i t.children u → AltersChild (entry_at p was) (entry_at p now) n m k l u v →
      AltersNode (entry_at (t.fragment ++ p) was) (entry_at (t.fragment ++ p) now) n m k l t (with_child i v t)
  child_entry_alters t u v i p was now n m k l h a r =
      subst (λ come. AltersNode (entry_at (t.fragment ++ p) was) come n m k l t (with_child i v t)) (entry_below t.fragment p now)
      (subst (λ gone. AltersNode gone (λ q. entry_at p now (q ++ t.fragment)) n m k l t (with_child i v t)) (entry_below t.fragment p was)
      (child_alters t u v i (entry_at p was) (entry_at p now) n m k l h a r))

  -- a branch of a child is cut
  -- a branch cut from a child is cut from its parent, its path behind the parent's fragment
  pub child_pruned : (t u v b : Tree P) (i : ℕ) (s : List ℕ) (n k : ℕ) → IsTreePlaced t → IsAt i t.children u → Prunes s b n k u v →
      AltersNode (all_of (t.fragment ++ s) b) none_of 0 n 0 k t (with_child i v t)
  child_pruned t u v b i s n k h a r =
      let below : (λ (q : List ℕ). all_of s b (q ++ t.fragment)) ≡ all_of (t.fragment ++ s) b = λ j q. entries_at (append_assoc q t.fragment s j) b in
      subst (λ gone. AltersNode gone none_of 0 n 0 k t (with_child i v t)) below (child_alters t u v i (all_of s b) none_of 0 n 0 k h a r)

  -- a change of a node that may be a root, as that of a child
  pub node_as_child : (gone come : Run P) (n m k l : ℕ) (old new : Tree P) → AltersNode gone come n m k l old new → AltersChild gone come n m k l old new
  node_as_child gone come n m k l old new e = record { full = e.full; alters = e.root.alters }

  -- children that are two or more aren't none
  no_many : (k : Children P) → AreMany (plain k) → k ≢ none
  no_many k m e = subst (λ k. AreMany (plain k)) e m

  -- a run of all entries below a fragment and a list is that of the tree with the list in front
  pub all_of-with_fragment : (s r : List ℕ) (u : Tree P) → all_of s (with_fragment (r ++ u.fragment) u) ≡ all_of (s ++ r) u
  all_of-with_fragment s r u = λ i q. (
      let path : (q ++ s) ++ (r ++ u.fragment) ≡ (q ++ (s ++ r)) ++ u.fragment = sym (append_assoc (q ++ s) r u.fragment) ∙ ap (λ z. z ++ u.fragment) (append_assoc q s r) in
      entry (path i) u.pair ++ entries_in (path i) u.children)

  -- a branch of a child comes
  -- a branch that comes to a child comes to its parent, its path behind the parent's fragment
  pub child_grafted : (t u v b : Tree P) (i : ℕ) (s : List ℕ) (n k : ℕ) → IsTreePlaced t → IsAt i t.children u → GraftsChild s b n k u v → Grafts (t.fragment ++ s) b n k t (with_child i v t)
  child_grafted t u v b i s n k h a r =
      let below : (λ (q : List ℕ). all_of s b (q ++ t.fragment)) ≡ all_of (t.fragment ++ s) b = λ j q. entries_at (append_assoc q t.fragment s j) b in
      subst (λ come. AltersNode none_of come n 0 k 0 t (with_child i v t)) below (child_alters t u v i none_of (all_of s b) n 0 k 0 h a r)

  -- a child comes
  -- a new child with a first nibble that no other has brings all its entries, nodes and nibbles
  pub child_comes : (t u : Tree P) (i : ℕ) → IsTreePlaced t → u.fragment ≢ [] → first u.fragment < 16 → IsPlaceOf (first u.fragment) (firsts t.children) (Err i) → IsTreePlaced u → IsTreeFull u →
      Grafts t.fragment u (suc (nodes_in u.children)) (length u.fragment + nibbles_in u.children) t (with_new_child i (first u.fragment) u t)
  child_comes t u i h s low at below whole =
      let y = first u.fragment in
      let mask : IsMask (marked t.mask y) (firsts (insert_child i u t.children)) = (marked_lt t.mask y h.0.0, λ n. bit_at-marked t.mask y n (firsts t.children) low h.0 ∙ sym (bit_of-insert_child i t.children u n)) in
      let placed : IsPlaced 0 (insert_child i u t.children) = subst (λ j. IsPlaced 0 (insert_child j u t.children)) (sym at.1) (insert_child_placed 0 y t.children u refl s below (omega arith) at.0 h.1) in
      record {
        full = λ g. (elim g.0 [ inl s ↦ inl s | inr m ↦ inr (insert_child_many i t.children u (no_many t.children m)) ], insert_child_full i t.children u whole g.1);
        root = record {
          fragment = refl;
          below = λ g. insert_child_full i t.children u whole g;
          alters = record {
            start = refl;
            some = λ s. s;
            placed = (mask, placed);
            swaps = λ q. swaps_after (entry (q ++ t.fragment) t.pair) _ _ _ _ (insert_child_swaps i t.children u (q ++ t.fragment));
            nodes = omega (arith, nodes_in-insert_child i t.children u);
            nibbles = omega (arith, nibbles_in-insert_child i t.children u);
          };
        };
      }

  -- all entries of a leaf with an empty fragment are the one at its path
  pub all_of-leaf : (s : List ℕ) (x : P) → all_of s (leaf [] x) ≡ entry_at s (Some x)
  all_of-leaf s x = λ i q. entry (append-nil (q ++ s) i) (Some x)

  -- a leaf is at its place, since no child is below it
  pub leaf_is_placed : (f : List ℕ) (x : P) → IsTreePlaced (leaf f x)
  leaf_is_placed f x = (zero_is_mask, tt)

  -- a leaf is full, since it has a pair
  pub leaf_is_full : (f : List ℕ) (x : P) → IsTreeFull (leaf f x)
  leaf_is_full f x = (inl refl, tt)

  -- a node put above a placed tree, to which a fragment with a first nibble is left, is placed
  pub lowered_placed : (t : Tree P) (f g : List ℕ) → g ≢ [] → first g < 16 → IsTreePlaced t → IsTreePlaced (lowered f g t)
  lowered_placed t f g end low h = ((marked_lt 0 (first g) (omega arith), λ n. bit_at-marked 0 (first g) n [] low zero_is_mask), (end, omega arith, h.0, h.1, tt))

  -- a node put above
  module _ (t : Tree P) (f g : List ℕ) (cut : t.fragment ≡ f ++ g) (top : f ≢ []) (end : g ≢ []) (low : first g < 16) (h : IsTreePlaced t) where
    -- a node put above a tree, with the front of its fragment, leaves the entries as they are
    lowered_entries : (q : List ℕ) → entries_at q (lowered f g t) ≡ entries_at q t
    lowered_entries q =
        append-nil _
        ∙ ap (λ path. entry path t.pair ++ entries_in path t.children) (append_assoc q f g ∙ ap (λ e. q ++ e) (sym cut))

    -- a list that isn't empty has its first nibble with another list behind it too
    same_start : (f g : List ℕ) → f ≢ [] → first f ≡ first (f ++ g)
    same_start [] g n = absurd (n refl)
    same_start (a ∷ f) g n = refl

    -- a fragment that is cut is as long as its two parts
    length-cut : length t.fragment ≡ length f + length g
    length-cut = ap length cut ∙ length-append f g

    -- the pair in the new node
    -- a pair in a node put above a child writes the entry at the cut, with one node more
    pub split_here : (x : P) → Replaces f x None 1 0 t (with_pair x (lowered f g t))
    split_here x = record {
      full = λ full. (inl refl, (full.0, full.1, tt));
      alters = record {
        start = same_start f g top ∙ ap first (sym cut);
        some = λ s. top;
        placed = lowered_placed t f g end low h;
        swaps = λ q. subst (λ es. Swaps [] (entry (q ++ f) (Some x)) es (entries_at q (with_pair x (lowered f g t)))) (lowered_entries q)
            ((pair_edits (lowered f g t) x (lowered_placed t f g end low h)).root.alters.swaps q);
        nodes = omega arith;
        nibbles = omega (arith, length-cut);
      };
    }

    -- a branch beside
    -- a branch beside a child, below a new node, brings all its entries, with one node more
    pub split_beside : (u : Tree P) (i : ℕ) → u.fragment ≢ [] → first u.fragment < 16 → IsPlaceOf (first u.fragment) (first g ∷ []) (Err i) → IsTreePlaced u → IsTreeFull u →
        GraftsChild f u (suc (suc (nodes_in u.children))) (length u.fragment + nibbles_in u.children) t (with_new_child i (first u.fragment) u (lowered f g t))
    split_beside u i s small at below whole =
        let e = child_comes (lowered f g t) u i (lowered_placed t f g end low h) s small at below whole in
        let c = e.root.alters in
        record {
          full = λ full. (inr (insert_child_many i (more g t.pair t.mask t.children none) u (λ z. absurd (let i : more g t.pair t.mask t.children none ≡ none = z in cc i))), e.root.below (full.0, full.1, tt));
          alters = record {
            start = same_start f g top ∙ ap first (sym cut);
            some = λ s. top;
            placed = c.placed;
            swaps = λ q. subst (λ es. Swaps [] (all_of f u q) es (entries_at q (with_new_child i (first u.fragment) u (lowered f g t)))) (lowered_entries q) (c.swaps q);
            nodes = omega (arith, c.nodes);
            nibbles = omega (arith, length-cut, c.nibbles);
          };
        }
