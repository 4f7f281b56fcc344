-- Trees of the same shape, and what nodes hold moved from one to another, one child after another.
use Rattle.std.proofs.Common.{◌≡◌, ℕ, ◌+◌, ◌<◌, ◌≤◌, List, [], ◌∷◌, ◌++◌, Vec, length, get_or, set, take, drop, refl, ap, sym, subst, ◌∙◌, arith}
use Rattle.std.proofs.lemmas.List.{take_more, take_all, drop_more, drop-set-lt, length-set, length-drop}
use Rattle.std.proofs.lemmas.Grind.{take-set_at}
use Rattle.std.specs.declared.boxed.Box.{Box}
use Rattle.std.specs.declared.alloc.Global.{Global}
use Rattle.masked_tree.specs.Tree.{Tree, Children, none, more, front}
use Rattle.masked_tree.specs.Turned.{append}
use Rattle.radix_nodes.specs.declared.trie_node.KeyValue.{KeyValue}
use Rattle.radix_nodes.specs.declared.trie_node.TrieNode.{TrieNode, roll-TrieNode}
use Rattle.radix_nodes.specs.Nodes.{tree_of, children_of, out_of, unboxed}
use Rattle.radix_nodes.specs.Shapes.{HaveSameShape}
use Rattle.radix_nodes.proofs.CopyLemmas.Copies.{children_of-append}
use Rattle.radix_nodes.proofs.NodeLemmas.Nodes.{tree_of-out, tree_of-roll, children-tree_of}

-- the boxes of a node's children
abbrev Boxes : Type 0 → Type 0 → Type 0
Boxes K V = List (Box (TrieNode K V) Global)

module _ {K V : Type 0} where
  -- the boxes' trees have the same shape
  abbrev pub AreShaped : Boxes K V → Boxes K V → Type 0
  AreShaped xs ys = HaveSameShape (children_of xs) (children_of ys)

  -- one more tree behind children, and one of its shape behind theirs
  shape_append : (k : Children (KeyValue K V)) (ys : Boxes K V) (t : Tree (KeyValue K V)) (y : Box (TrieNode K V) Global) → HaveSameShape k (children_of ys)
      → HaveSameShape t.children (tree_of y.value).children → HaveSameShape (append k (front t none)) (children_of (ys ++ y ∷ []))
  shape_append none [] t y h s = (s, tt)
  shape_append none (b ∷ ys) t y h s = absurd h
  shape_append (more f o m children others) [] t y h s = absurd h
  shape_append (more f o m children others) (b ∷ ys) t y h s = (h.0, shape_append others ys t y h.1 s)

  -- once a node of the shape of the child at i is put behind the others, the first i + 1 have their nodes
  pub one_more_is_shaped : (xs old new : Boxes K V) (i : ℕ) (x y : Box (TrieNode K V) Global) → i < length xs → AreShaped (take i xs) old →
      x ≡ get_or xs i x → HaveSameShape (tree_of x.value).children (tree_of y.value).children → new ≡ old ++ y ∷ [] → AreShaped (take (i + 1) xs) new
  one_more_is_shaped xs old new i x y lt h ex s pushed =
      subst (AreShaped (take (i + 1) xs)) (sym pushed)
      (subst (λ k. HaveSameShape k (children_of (old ++ y ∷ []))) (sym (ap children_of (take_more xs i x lt) ∙ children_of-append (take i xs) _))
      (shape_append (children_of (take i xs)) old _ y h (subst (λ z. HaveSameShape (tree_of z.value).children (tree_of y.value).children) ex s)))

  -- an empty list of boxes has the shape of the first 0 children
  pub none_shaped : (xs new : Boxes K V) → new ≡ [] → AreShaped (take 0 xs) new
  none_shaped xs new e = subst (AreShaped (take 0 xs)) (sym e) tt

  -- a node that is given boxes has the shape that they have
  pub given_is_shaped : (k : Children (KeyValue K V)) (m : TrieNode K V) (ys : Vec (Box (TrieNode K V) Global) Global) → HaveSameShape k (children_of ys.items) →
      HaveSameShape k (tree_of (roll-TrieNode K V record { fragment = (out_of m).fragment; pair = (out_of m).pair; mask = (out_of m).mask; children = ys })).children
  given_is_shaped k m ys h = subst (HaveSameShape k) (sym (ap (λ (t : Tree (KeyValue K V)). t.children) (tree_of-roll _))) h

  -- once each box has its node, the children have their shape
  pub all_are_shaped : (n : TrieNode K V) (ys : Boxes K V) (i : ℕ) → length (out_of n).children.items ≤ i → AreShaped (take i (out_of n).children.items) ys → HaveSameShape (tree_of n).children (children_of ys)
  all_are_shaped n ys i le h =
      subst (λ k. HaveSameShape k (children_of ys)) (sym (children-tree_of n)) (subst (λ zs. AreShaped zs ys) (take_all i (out_of n).children.items le) h)

  -- boxes of the same shape are as many
  length-shaped : (xs ys : Boxes K V) → AreShaped xs ys → length xs ≡ length ys
  length-shaped [] [] h = refl
  length-shaped [] (c ∷ ys) h = absurd h
  length-shaped (b ∷ xs) [] h = absurd h
  length-shaped (b ∷ xs) (c ∷ ys) h = let e = length-shaped xs ys h.1 in omega (arith, e)

  -- of a node n whose contents go from f to m, what it holds itself is in m, and so are the children before i; those of f from i on
  -- are n's, and m has nodes of the same shape there
  pub record MovesBefore (i : ℕ) (n f m : TrieNode K V) : Type 0 where
    pub fragment : (out_of m).fragment ≡ (out_of n).fragment
    pub pair : (out_of m).pair ≡ (out_of n).pair
    pub mask : (out_of m).mask ≡ (out_of n).mask
    pub count : length (out_of f).children.items ≡ length (out_of n).children.items
    pub moved : children_of (take i (out_of m).children.items) ≡ children_of (take i (out_of n).children.items)
    pub left : drop i (out_of f).children.items ≡ drop i (out_of n).children.items
    pub shape : AreShaped (drop i (out_of n).children.items) (drop i (out_of m).children.items)

  -- at first what the node holds itself has gone
  pub moves_start : (n o f m : TrieNode K V) → (out_of m).fragment ≡ (out_of n).fragment → (out_of m).pair ≡ (out_of n).pair → (out_of m).mask ≡ (out_of n).mask
      → (out_of f).children ≡ (out_of n).children → (out_of m).children ≡ (out_of o).children → HaveSameShape (tree_of n).children (tree_of o).children → MovesBefore 0 n f m
  moves_start n o f m fragment pair mask given removed h = record {
    fragment = fragment;
    pair = pair;
    mask = mask;
    count = ap (λ v. length v.items) given;
    moved = refl;
    left = ap (λ v. v.items) given;
    shape = subst (λ v. AreShaped (out_of n).children.items v.items) (sym removed)
        (subst (λ k. HaveSameShape k (children_of (out_of o).children.items)) (children-tree_of n) (subst (HaveSameShape (tree_of n).children) (children-tree_of o) h));
  }

  module _ (i : ℕ) (n f m : TrieNode K V) (before : MovesBefore i n f m) where
    -- the boxes of the node before, of what is left of it, and of the other
    abbrev xs : Boxes K V
    xs = (out_of n).children.items

    abbrev fs : Boxes K V
    fs = (out_of f).children.items

    abbrev ys : Boxes K V
    ys = (out_of m).children.items

    -- as many boxes of both are behind i
    as_many_left : length (drop i xs) ≡ length (drop i ys)
    as_many_left = length-shaped (drop i xs) (drop i ys) before.shape

    -- a place within the boxes that are left is one within the other's
    pub within_other : i < length fs → i < length ys
    within_other lt = let a = length-drop i xs in let b = length-drop i ys in let c = as_many_left in omega (arith, lt, a, b, c, before.count)

    -- and the end of the boxes is the end of the other's
    past_other : length fs ≤ i → length ys ≤ i
    past_other le = let a = length-drop i xs in let b = length-drop i ys in let c = as_many_left in omega (arith, le, a, b, c, before.count)

    module _ (b c : Box (TrieNode K V) Global) (lt : i < length fs) (at : get_or fs i b ≡ b) (other : get_or ys i c ≡ c) where
      -- the place is within the boxes from before
      pub within_old : i < length xs
      within_old = omega (arith, lt, before.count)

      -- the boxes from i on are the same, one by one
      from_here : get_or fs i b ∷ drop (i + 1) fs ≡ get_or xs i b ∷ drop (i + 1) xs
      from_here = sym (drop_more fs i b lt) ∙ before.left ∙ drop_more xs i b within_old

      -- the box at i is that from before
      pub old_box : get_or xs i b ≡ b
      old_box = (let e : get_or fs i b ≡ get_or xs i b = cc from_here in sym e ∙ at)

      -- the boxes from i on have the same shape, one by one
      shape_here : AreShaped (b ∷ drop (i + 1) xs) (c ∷ drop (i + 1) ys)
      shape_here =
          subst (λ x. AreShaped (x ∷ drop (i + 1) xs) (c ∷ drop (i + 1) ys)) old_box
          (subst (λ y. AreShaped (get_or xs i b ∷ drop (i + 1) xs) (y ∷ drop (i + 1) ys)) other
          (subst (AreShaped (get_or xs i b ∷ drop (i + 1) xs)) (drop_more ys i c (within_other lt)) (subst (λ zs. AreShaped zs (drop i ys)) (drop_more xs i b within_old) before.shape)))

      -- the two at i have the same shape
      pub shaped_at : HaveSameShape (tree_of b.value).children (tree_of c.value).children
      shaped_at = shape_here.0

      -- once the child at i has gone, those before i + 1 have
      pub moves_next : (g o : TrieNode K V) (d e : Box (TrieNode K V) Global) → (out_of o).fragment ≡ (out_of m).fragment → (out_of o).pair ≡ (out_of m).pair
          → (out_of o).mask ≡ (out_of m).mask → (out_of g).children.items ≡ set fs i d → (out_of o).children.items ≡ set ys i e → tree_of e.value ≡ tree_of b.value → MovesBefore (i + 1) n g o
      moves_next g o d e fragment pair mask given removed same = record {
        fragment = fragment ∙ before.fragment;
        pair = pair ∙ before.pair;
        mask = mask ∙ before.mask;
        count = ap length given ∙ length-set fs i d ∙ before.count;
        moved = ap (λ zs. children_of (take (i + 1) zs)) removed
            ∙ ap children_of (take-set_at ys i (i + 1) e refl (within_other lt))
            ∙ children_of-append (take i ys) e
            ∙ ap (λ k. append k (front (tree_of e.value) none)) before.moved
            ∙ ap (λ t. append (children_of (take i xs)) (front t none)) (same ∙ ap (λ z. tree_of z.value) (sym old_box))
            ∙ sym (children_of-append (take i xs) (get_or xs i b))
            ∙ ap children_of (sym (take_more xs i b within_old));
        left = ap (drop (i + 1)) given ∙ drop-set-lt (i + 1) fs i d (omega arith) ∙ (let z : drop (i + 1) fs ≡ drop (i + 1) xs = cc from_here in z);
        shape = subst (AreShaped (drop (i + 1) xs)) (sym (ap (drop (i + 1)) removed ∙ drop-set-lt (i + 1) ys i e (omega arith))) shape_here.1;
      }

    -- once all children have gone, the whole has
    pub moves_all : length fs ≤ i → tree_of m ≡ tree_of n
    moves_all le =
        let items : children_of ys ≡ children_of xs = ap children_of (sym (take_all i ys (past_other le))) ∙ before.moved ∙ ap children_of (take_all i xs (omega (arith, le, before.count))) in
        tree_of-out m
        ∙ ap (λ z. record { fragment = z; pair = unboxed (out_of m).pair; mask = (out_of m).mask; children = children_of ys }) before.fragment
        ∙ ap (λ z. record { fragment = (out_of n).fragment; pair = unboxed z; mask = (out_of m).mask; children = children_of ys }) before.pair
        ∙ ap (λ z. record { fragment = (out_of n).fragment; pair = unboxed (out_of n).pair; mask = z; children = children_of ys }) before.mask
        ∙ ap (λ z. record { fragment = (out_of n).fragment; pair = unboxed (out_of n).pair; mask = (out_of n).mask; children = z }) items
        ∙ sym (tree_of-out n)
