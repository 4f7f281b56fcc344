-- The edits of a kept tree: of its own pair, of a child, of two nodes that become one.
use Rattle.std.specs.Prelude.{ℕ, zero, suc, List, [], ◌++◌, Some, None, ⊤}
use Rattle.nibble_map.specs.Trees.{first}
use Rattle.masked_tree.specs.Mask.{marked, cleared}
use Rattle.masked_tree.specs.Tree.{Tree, Children, none, more, front}

module _ {P : Type 0} where
  abbrev pub set_child : ℕ → Tree P → Children P → Children P
  set_child i t none = none
  set_child zero t (more f o m children others) = front t others
  set_child (suc i) t (more f o m children others) = more f o m children (set_child i t others)

  abbrev pub insert_child : ℕ → Tree P → Children P → Children P
  insert_child zero t k = front t k
  insert_child (suc i) t none = front t none
  insert_child (suc i) t (more f o m children others) =
      more f o m children (insert_child i t others)

  abbrev pub with_pair : P → Tree P → Tree P
  with_pair x t =
      record { fragment = t.fragment; pair = Some x; mask = t.mask; children = t.children }

  abbrev pub with_child : ℕ → Tree P → Tree P → Tree P
  with_child i k t =
      record {
        fragment = t.fragment;
        pair = t.pair;
        mask = t.mask;
        children = set_child i k t.children;
      }

  -- the same tree with another fragment
  abbrev pub with_fragment : List ℕ → Tree P → Tree P
  with_fragment f t =
      record { fragment = f; pair = t.pair; mask = t.mask; children = t.children }

  abbrev pub leaf : List ℕ → P → Tree P
  leaf f x = record { fragment = f; pair = Some x; mask = 0; children = none }

  -- a new child at i, which begins with y
  abbrev pub with_new_child : ℕ → ℕ → Tree P → Tree P → Tree P
  with_new_child i y k t =
      record {
        fragment = t.fragment;
        pair = t.pair;
        mask = marked t.mask y;
        children = insert_child i k t.children;
      }

  -- a node with the fragment f above t, to which the fragment g is left
  abbrev pub lowered : List ℕ → List ℕ → Tree P → Tree P
  lowered f g t =
      record {
        fragment = f;
        pair = None;
        mask = marked 0 (first g);
        children = more g t.pair t.mask t.children none;
      }

  abbrev pub empty : Tree P
  empty = record { fragment = []; pair = None; mask = 0; children = none }

  abbrev pub remove_child : ℕ → Children P → Children P
  remove_child i none = none
  remove_child zero (more f o m children others) = others
  remove_child (suc i) (more f o m children others) = more f o m children (remove_child i others)

  abbrev pub without_pair : Tree P → Tree P
  without_pair t =
      record { fragment = t.fragment; pair = None; mask = t.mask; children = t.children }

  -- the child at i, which began with y, is gone
  abbrev pub without_child : ℕ → ℕ → Tree P → Tree P
  without_child i y t =
      record {
        fragment = t.fragment;
        pair = t.pair;
        mask = cleared t.mask y;
        children = remove_child i t.children;
      }

  abbrev pub IsOne : Children P → Type 0
  IsOne none = ⊥
  IsOne (more f o m children none) = ⊤
  IsOne (more f o m children (more g p n ls others)) = ⊥

  abbrev pub merged_into : List ℕ → Children P → Tree P
  merged_into q none = record { fragment = q; pair = None; mask = 0; children = none }
  merged_into q (more f o m children others) =
      record { fragment = q ++ f; pair = o; mask = m; children = children }

  -- a node's first child in its place
  abbrev pub merged : Tree P → Tree P
  merged t = merged_into t.fragment t.children
