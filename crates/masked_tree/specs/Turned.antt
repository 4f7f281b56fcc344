-- Trees whose children's first nibbles are turned over.
use Rattle.std.specs.Prelude.{ℕ, Bool, true, false, ltb, cond}
use Rattle.std.specs.Int.{rotate_left, w16}
use Rattle.masked_tree.specs.Tree.{Tree, Children, none, more}
use Rattle.nibble_map.specs.Trees.{first}
use Rattle.nibble_map.specs.Turned.{turned}

-- whether a nibble is in the high half, or in the low half
abbrev pub in_half : Bool → ℕ → Bool
in_half true x = ltb 7 x
in_half false x = ltb x 8

module _ {P : Type 0} where
  abbrev pub turned_tree : Tree P → Tree P
  turned_tree t =
      record { fragment = turned t.fragment; pair = t.pair; mask = t.mask; children = t.children }

  -- the children whose first nibble is in a half, with that nibble turned over
  abbrev pub turned_half : Bool → Children P → Children P
  turned_half high none = none
  turned_half high (more f o m children others) =
      cond (in_half high (first f)) (more (turned f) o m children (turned_half high others))
      (turned_half high others)

  abbrev pub append : Children P → Children P → Children P
  append none l = l
  append (more f o m children others) l = more f o m children (append others l)

  abbrev pub turned_children : Children P → Children P
  turned_children k = append (turned_half true k) (turned_half false k)

  -- a root with each child's first nibble turned over, and the children in their new order
  abbrev pub turned_root : Tree P → Tree P
  turned_root t =
      record {
        fragment = t.fragment;
        pair = t.pair;
        mask = rotate_left w16 t.mask 8;
        children = turned_children t.children;
      }
