-- An only child that is taken out, and grafted into another tree or put back.
use Rattle.std.proofs.Common.{◌≡◌, ℕ, ◌<◌, ◌==◌, Bool, true, false, cond, List, [], ◌∷◌, ◌++◌, Ok, Err, refl, ap, sym, subst, ◌∙◌}
use Rattle.std.proofs.lemmas.Nat.Bits.{same_from_bits}
use Rattle.masked_tree.specs.Edits.{IsOne, merged, with_fragment, with_new_child, without_child}
use Rattle.masked_tree.specs.Mask.{IsMask, marked, cleared}
use Rattle.masked_tree.specs.Tree.{Tree, Children, none, more, IsAt, IsFullBelow, IsTreeFull, IsTreePlaced, firsts, plain}
use Rattle.masked_tree.proofs.MaskLemmas.{bit_at-cleared, bit_at-marked, cleared_lt}
use Rattle.masked_tree.specs.Alters.{Grafts}
use Rattle.masked_tree.specs.Paths.{IsOccupied, IsVacant}
use Rattle.nibble_map.specs.Trees.{IsFull, first}
use Rattle.std.specs.declared.alloc.Global.{Global}
use Rattle.std.specs.declared.boxed.Box.{Box}
use Rattle.radix_nodes.specs.Grafts.{GraftRootOutcome, GraftOutcome, nibbles_come, nodes_come}
use Rattle.radix_nodes.specs.Nodes.{tree_of}
use Rattle.radix_nodes.specs.declared.insertion.graft_root.Ungraftable.TheVariants as stays
use Rattle.radix_nodes.specs.declared.insertion.graft.Grafted.{Grafted}
use Rattle.radix_nodes.specs.declared.insertion.graft.Ungrafted.TheVariants as why
use Rattle.radix_nodes.specs.declared.trie_node.KeyValue.{KeyValue}
use Rattle.radix_nodes.specs.declared.trie_node.TrieNode.{TrieNode}

-- with bit y cleared and set again, a mask of y alone is as before
remarked : (m y : ℕ) → y < 16 → IsMask m (y ∷ []) → marked (cleared m y) y ≡ m
remarked m y low mask =
    same_from_bits (marked (cleared m y) y) m (λ n. bit_at-marked (cleared m y) y n [] low gone ∙ sym (mask.1 n))
  where
    no_bit : (b : Bool) → ◌≡◌ {A = ℕ} (cond b 0 (cond b 1 0)) 0
    no_bit true = refl
    no_bit false = refl

    gone : IsMask (cleared m y) []
    gone = (cleared_lt m y mask.0, λ n. bit_at-cleared m y n (y ∷ []) low mask ∙ no_bit (y == n))

module _ {P : Type 0} where
  -- the only child of a tree is what it is merged with, where its own fragment is empty
  pub only_is_merged : (t u : Tree P) → t.fragment ≡ [] → IsAt 0 t.children u → merged t ≡ u
  only_is_merged t u top at = by t.children at
    where
      by : (k : Children P) → IsAt 0 k u → merged (record { fragment = t.fragment; pair = t.pair; mask = t.mask; children = k }) ≡ u
      by none at = absurd at
      by (more f o m ks others) at = ap (λ q. record { fragment = q ++ f; pair = o; mask = m; children = ks }) top ∙ sym at

  -- an only child that is taken out and put back leaves the tree as it was
  pub put_back-unlinked : (t u : Tree P) → IsTreePlaced t → IsOne t.children → IsAt 0 t.children u → first u.fragment < 16
      → with_new_child 0 (first u.fragment) u (without_child 0 (first u.fragment) t) ≡ t
  put_back-unlinked t u placed one at low = by t.children placed.0 one at
    where
      by : (k : Children P) → IsMask t.mask (firsts k) → IsOne k → IsAt 0 k u
          → with_new_child 0 (first u.fragment) u (without_child 0 (first u.fragment) (record { fragment = t.fragment; pair = t.pair; mask = t.mask; children = k }))
          ≡ record { fragment = t.fragment; pair = t.pair; mask = t.mask; children = k }
      by none mask one at = absurd one
      by (more f o m ks none) mask one at = subst
          (λ u. with_new_child 0 (first u.fragment) u (without_child 0 (first u.fragment) (record { fragment = t.fragment; pair = t.pair; mask = t.mask; children = more f o m ks none }))
          ≡ record { fragment = t.fragment; pair = t.pair; mask = t.mask; children = more f o m ks none }) (sym at)
          (ap (λ mask. record { fragment = t.fragment; pair = t.pair; mask = mask; children = more f o m ks none }) (remarked t.mask (first f) (subst (λ u. first u.fragment < 16) at low) mask))
      by (more f o m ks (more g p n ls others)) mask one at = absurd one

  -- an only child of a full tree is full
  pub only_is_full : (t u : Tree P) → IsFullBelow t → IsAt 0 t.children u → IsTreeFull u
  only_is_full t u full at = by t.children full at
    where
      by : (k : Children P) → IsFull (plain k) → IsAt 0 k u → IsTreeFull u
      by none full at = absurd at
      by (more f o m ks others) full at = subst IsTreeFull (sym at) (full.0, full.1)

module _ {K V : Type 0} (t u : Tree (KeyValue K V)) (top : t.fragment ≡ []) (at : IsAt 0 t.children u) (list : List ℕ) (listed : list ≡ u.fragment)
    (branch : Box (TrieNode K V) Global) (freed : tree_of branch.value ≡ with_fragment [] u) where
  -- what is said of the list is said of the path of what the tree is merged with
  at_path : (P : List ℕ → Type 0) (p : List ℕ) → P (p ++ list) → P (p ++ (merged t).fragment)
  at_path P p = subst (λ l. P (p ++ l)) (listed ∙ ap (λ m. m.fragment) (sym (only_is_merged t u top at)))

  -- the only child comes where its branch is grafted in
  pub grafted_root : (grafted : Grafted) (p : List ℕ) (part old new : Tree (KeyValue K V)) → GraftOutcome (Ok grafted) branch (p ++ list) old new → GraftRootOutcome (Ok grafted) p t part old new
  grafted_root grafted p part old new s =
      let come = at_path (λ q. IsVacant old q × Grafts q (tree_of branch.value) (nodes_come grafted (tree_of branch.value)) (nibbles_come grafted (tree_of branch.value)) old new) p s in
      subst (λ b. IsVacant old (p ++ (merged t).fragment) × Grafts (p ++ (merged t).fragment) b (nodes_come grafted b) (nibbles_come grafted b) old new)
      (freed ∙ ap (λ m. with_fragment [] m) (sym (only_is_merged t u top at))) come

  -- what is put back after a refusal leaves both trees as they were
  module _ (placed : IsTreePlaced t) (one : IsOne t.children) (low : first u.fragment < 16) (without part : Tree (KeyValue K V)) (gone : without ≡ without_child 0 (first u.fragment) t)
      (back : Box (TrieNode K V) Global) (again : part ≡ with_new_child 0 (first list) (with_fragment list (tree_of back.value)) without) where
    is_back : back ≡ branch → part ≡ t
    is_back same =
        again
        ∙ ap (λ b. with_new_child 0 (first list) (with_fragment list b) without) (ap (λ b. tree_of b.value) same ∙ freed)
        ∙ ap (λ l. with_new_child 0 (first l) (with_fragment l (with_fragment [] u)) without) listed
        ∙ ap (λ w. with_new_child 0 (first u.fragment) u w) gone
        ∙ put_back-unlinked t u placed one at low

    pub stays_occupied : (p : List ℕ) (old new : Tree (KeyValue K V)) → GraftOutcome (Err (why.Occupied back)) branch (p ++ list) old new → GraftRootOutcome (Err stays.Occupied) p t part old new
    stays_occupied p old new s = (is_back s.0, s.1, at_path (λ q. IsOccupied old q) p s.2)

    pub stays_for_memory : (p : List ℕ) (old new : Tree (KeyValue K V)) → GraftOutcome (Err (why.Memory back)) branch (p ++ list) old new → GraftRootOutcome (Err stays.Memory) p t part old new
    stays_for_memory p old new s = (is_back s.0, s.1, at_path (λ q. IsVacant old q) p s.2)
