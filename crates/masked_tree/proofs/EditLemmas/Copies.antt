-- A branch whose copy comes in its place, seen from the nodes above it.
use Rattle.std.proofs.Common.{◌≡◌, ℕ, List, [], ◌++◌, length, ap, sym, subst, ◌∙◌, arith, append_assoc, append-nil}
use Rattle.masked_tree.specs.Alters.{all_of, AltersChild, AltersNode}
use Rattle.masked_tree.specs.Edits.{with_child}
use Rattle.masked_tree.specs.Same.{IsCopy}
use Rattle.masked_tree.specs.Tree.{Tree, IsAt, IsTreePlaced, entries_at}
use Rattle.masked_tree.proofs.EditLemmas.Insertion.{child_alters}
use Rattle.masked_tree.proofs.SameLemmas.Copies.{copy_full, copy_placed, nodes_in-copy, nibbles_in-copy}
use Rattle.nibble_map.specs.Trees.{first}

module _ {P : Type 0} where
  -- all entries of a tree that hangs below no path are its entries
  all_of-nil : (u : Tree P) (q : List ℕ) → entries_at q u ≡ all_of [] u q ++ []
  all_of-nil u q = sym (append-nil (entries_at (q ++ []) u) ∙ ap (λ p. entries_at p u) (append-nil q))

  -- where a copy comes in the place of a placed tree, its entries come in the place of the tree's
  pub copy_alters : (R : P → P → Type 0) (u w : Tree P) → IsTreePlaced u → IsCopy R u w → AltersChild (all_of [] u) (all_of [] w) 0 0 0 0 u w
  copy_alters R u w placed c = record {
    full = copy_full R u w c;
    alters = record {
      start = ap first c.fragment;
      some = λ s e. s (sym c.fragment ∙ e);
      placed = copy_placed R u w c placed;
      swaps = λ q. record { before = []; after = []; was = all_of-nil u q; is = all_of-nil w q };
      nodes = omega (arith, nodes_in-copy R u w c);
      nibbles = let f = ap length c.fragment in omega (arith, f, nibbles_in-copy R u w c);
    };
  }

  -- another branch put in a child's is put in its parent's, its path behind the parent's fragment
  pub child_branch_alters : (t u v b w : Tree P) (i : ℕ) (s : List ℕ) (n m k l : ℕ) → IsTreePlaced t → IsAt i t.children u → AltersChild (all_of s b) (all_of s w) n m k l u v →
      AltersNode (all_of (t.fragment ++ s) b) (all_of (t.fragment ++ s) w) n m k l t (with_child i v t)
  child_branch_alters t u v b w i s n m k l h a r =
      let below : (c : Tree P) → (λ (q : List ℕ). all_of s c (q ++ t.fragment)) ≡ all_of (t.fragment ++ s) c = λ c j q. entries_at (append_assoc q t.fragment s j) c in
      subst (λ come. AltersNode (all_of (t.fragment ++ s) b) come n m k l t (with_child i v t)) (below w)
      (subst (λ gone. AltersNode gone (λ q. all_of s w (q ++ t.fragment)) n m k l t (with_child i v t)) (below b)
      (child_alters t u v i (all_of s b) (all_of s w) n m k l h a r))
