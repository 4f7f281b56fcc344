-- Two roots are alike exactly where their maps are the same.
use Rattle.std.proofs.Common.{◌≡◌, ℕ, suc, ◌⊎◌, ◌↔◌, Bool, true, List, [], ◌∷◌, ◌++◌, Option, Some, None, IsSome, option_map, refl, ap, sym, subst, ◌∙◌, inl, inr, nat_cmp}
use Rattle.std.specs.Prelude.{IsTrue}
use Rattle.std.specs.Cmp.Lexicographic.{slice_cmp, bytes_decides}
use Rattle.std.specs.FinMap as fin
use Rattle.std.proofs.lemmas.Bool.{and_from}
use Rattle.masked_tree.specs.Tree.{Tree, Children, none, more, plain, IsPlaced, entries_in, entries_at}
use Rattle.masked_tree.specs.Same.{IsFullRoot, read_entries, same_pair, same_children, same_tree}
use Rattle.nibble_map.specs.Lists.{Has, IsRising}
use Rattle.nibble_map.specs.MapQueries.{IsSame, AreSame}
use Rattle.nibble_map.specs.Maps.{PairMap, IsStored, value_at}
use Rattle.nibble_map.specs.Stored.{stored}
use Rattle.nibble_map.specs.Swaps.{entry}
use Rattle.nibble_map.specs.Trees.{Forest, nodes, nodes_below, entries, IsShaped, IsFull, first}
use Rattle.nibble_map.proofs.MapLemmas.Edits.{has_get, stored_by_entries}
use Rattle.nibble_map.proofs.ListLemmas.Members.{Has-left, Has-right, Has-cases, entries-append, Has-stored, Has-entry_some}
use Rattle.nibble_map.proofs.MapLemmas.Same.{same_by_entries}
use Rattle.nibble_map.proofs.ListLemmas.Sorted.{sorted_of_rising}
use Rattle.nibble_map.proofs.ListLemmas.Unique.{tree_entries_rise}
use Rattle.nibble_map.proofs.TreeLemmas.Shape.{In, In-headed}
use Rattle.masked_tree.proofs.SameLemmas.AlikeEntries.{rows_by, test, alike_tree}
use Rattle.masked_tree.proofs.SameLemmas.SharedLists.{Holds, some_is, is_some, in_holds, holds_in, has_entry, holds_has, has_holds, pairs_same, children_same}

-- the entries of a root
module _ {P : Type 0} where
  -- placed and full children are shaped
  kept_shaped : (low : ℕ) (k : Children P) → IsPlaced low k → IsFull (plain k) → IsShaped low (plain k)
  kept_shaped low none h f = tt
  kept_shaped low (more f o m children others) h g = (h.0, h.1, g.0, kept_shaped 0 children h.3 g.1, kept_shaped (suc (first f)) others h.4 g.2)

  -- the children's entries are those of the nodes that they make without masks
  entries_below : (q : List ℕ) (k : Children P) → entries (nodes_below q (plain k)) ≡ entries_in q k
  entries_below q none = refl
  entries_below q (more f None m children others) = entries-append (nodes_below (q ++ f) (plain children)) _ ∙ (λ i. entries_below (q ++ f) children i ++ entries_below q others i)
  entries_below q (more f (Some x) m children others) =
      ap (λ es. (q ++ f, x) ∷ es) (entries-append (nodes_below (q ++ f) (plain children)) _ ∙ (λ i. entries_below (q ++ f) children i ++ entries_below q others i))

  -- those of a node with an empty path
  abbrev entries_with : Option P → Children P → List (List ℕ × P)
  entries_with o k = entry [] o ++ entries_in [] k

  -- a root's entries are those of a node with an empty path
  entries_top : (t : Tree P) → t.fragment ≡ [] → entries_at [] t ≡ entries_with t.pair t.children
  entries_top t e = ap (λ f. entry f t.pair ++ entries_in f t.children) e

  -- the lists of a shaped root's entries rise
  entries_rise : (o : Option P) (k : Children P) → IsShaped 0 (plain k) → IsRising (stored (entries_with o k))
  entries_rise o k s = subst (λ es. IsRising (stored es)) (whole o) (tree_entries_rise (record { top = o; children = plain k }) s)
    where
      whole : (o : Option P) → entries (nodes (record { top = o; children = plain k })) ≡ entries_with o k
      whole None = entries_below [] k
      whole (Some x) = ap (λ es. ([], x) ∷ es) (entries_below [] k)

  -- the children of a full root are shaped
  root_shaped : (t : Tree P) → IsFullRoot t → IsShaped 0 (plain t.children)
  root_shaped t r = kept_shaped 0 t.children r.placed.1 r.full

module _ {P K V : Type 0} (row : P → K × V) where
  -- rows stand at the lists of their entries
  stored_rows : (es : List (List ℕ × P)) → stored (rows_by row es) ≡ stored es
  stored_rows [] = refl
  stored_rows (e ∷ es) = ap (λ l. e.0 ∷ l) (stored_rows es)

  -- each entry's row is among the rows
  pub has_row : (es : List (List ℕ × P)) (x : List ℕ) (v : P) → Has es (x, v) → Has (rows_by row es) (x, row v)
  has_row [] x v h = h
  has_row (e ∷ es) x v (inl i) = inl (ap (λ (z : List ℕ × P). (z.0, row z.1)) i)
  has_row (e ∷ es) x v (inr h) = inr (has_row es x v h)

  -- at each list of the rows there is an entry
  stored_has : (es : List (List ℕ × P)) (x : List ℕ) → Has (stored (rows_by row es)) x → (v : P) × Has es (x, v)
  stored_has [] x h = absurd h
  stored_has (e ∷ es) x (inl i) = (e.1, inl (λ j. (i j, e.1)))
  stored_has (e ∷ es) x (inr h) = let r = stored_has es x h in (r.0, inr r.1)

  -- the map made of a full root's rows has these rows as its entries
  pub entries-rows_of : (t : Tree P) → IsFullRoot t → fin.entries (fin.from_sorted {R = slice_cmp nat_cmp} (read_entries row t)) ≡ read_entries row t
  entries-rows_of t r = fin.entries-from_sorted _ _ (sorted_of_rising _ (subst IsRising (sym (stored_rows (entries_at [] t)))
      (subst (λ es. IsRising (stored es)) (sym (entries_top t r.top)) (entries_rise t.pair t.children (root_shaped t r)))))

  -- a map with the pairs of a root
  module _ (o : Option P) (k : Children P) (s : IsShaped 0 (plain k)) (m : PairMap K V) (pairs : fin.entries m ≡ rows_by row (entries_with o k)) where
    -- the map's value at an entry's list is that of the entry's pair
    value_is : (x : List ℕ) (v : P) → Has (entries_with o k) (x, v) → value_at m x ≡ Some (row v).1
    value_is x v h = ap (option_map (λ z. z.1)) ((has_get m x (row v)).0 (subst (λ es. Has es (x, row v)) (sym pairs) (has_row _ x v h)))

    -- the map's value at the empty list is that of the root's pair
    top_value : (v : P) → o ≡ Some v → value_at m [] ≡ Some (row v).1
    top_value v e = value_is [] v (Has-left _ _ _ (Has-entry_some [] o v e))

    -- the map's value at a list below is that of the pair held there
    child_value : (x : List ℕ) (v : P) → Holds k x v → value_at m x ≡ Some (row v).1
    child_value x v h = value_is x v (Has-right (entry [] o) _ _ (holds_has [] k x v h))

    -- the map stores each entry's list
    stored_by : (x : List ℕ) (v : P) → Has (entries_with o k) (x, v) → IsStored m x
    stored_by x v h = (stored_by_entries m x).0 (subst (λ es. Has (stored es) x) (sym pairs) (subst (λ l. Has l x) (sym (stored_rows (entries_with o k))) (Has-stored (entries_with o k) x v h)))

    -- where the root has a pair, the map stores the empty list
    top_stored : IsSome o → IsStored m []
    top_stored i = let r = some_is o i in stored_by [] r.0 (Has-left _ _ _ (Has-entry_some [] o r.0 r.1))

    -- the map stores each list that is in the children
    child_stored : (x : List ℕ) → In (plain k) x → IsStored m x
    child_stored x i = let r = in_holds k x i in stored_by x r.0 (Has-right (entry [] o) _ _ (holds_has [] k x r.0 r.1))

    -- a list that the map stores is the root's or is in the children
    stored_cases : (x : List ℕ) → IsStored m x → ((x ≡ []) × IsSome o) ⊎ In (plain k) x
    stored_cases x h =
        let r = stored_has (entries_with o k) x (subst (λ es. Has (stored es) x) pairs ((stored_by_entries m x).1 h)) in
        elim (Has-cases (entry [] o) _ _ r.1) [
          | inl a ↦ let e = has_entry x [] o r.0 a in inl (e.0, is_some o r.0 e.1)
          | inr a ↦ let u = has_holds [] k x r.0 a in inr (subst (In (plain k)) (sym u.1) (holds_in k u.0 r.0 u.2))
        ]

    -- where the map stores the empty list, the root has a pair
    stored_top : IsStored m [] → IsSome o
    stored_top h = elim (stored_cases [] h) [
      | inl n ↦ n.1
      | inr i ↦ absurd (let r = In-headed 0 (plain k) [] s i in let e : [] ≡ r.0 ∷ r.1 = r.2 in cc e)
    ]

    -- a list of another shaped forest that the map stores is in the children
    stored_child : {Q : Type 0} (l : Forest Q) → IsShaped 0 l → (x : List ℕ) → In l x → IsStored m x → In (plain k) x
    stored_child l s' x i h = elim (stored_cases x h) [
      | inl n ↦ absurd (let r = In-headed 0 l x s' i in let e : [] ≡ r.0 ∷ r.1 = sym n.0 ∙ r.2 in cc e)
      | inr j ↦ j
    ]

-- maps that are the same have like roots
module _ {P K V : Type 0} (row : P → K × V) (eq : V → V → Bool) where
  -- roots with the same maps pass the test in their pairs and in their children
  like_parts : (o p : Option P) (k l : Children P) → IsShaped 0 (plain k) → IsShaped 0 (plain l) → (m n : PairMap K V) →
      fin.entries m ≡ rows_by row (entries_with o k) → fin.entries n ≡ rows_by row (entries_with p l) → IsSame eq m n →
      (same_pair (test row eq) o p ≡ true) × (same_children (test row eq) k l ≡ true)
  like_parts o p k l s s' m n em en h = (
    pairs_same (test row eq) o p
        (λ i. stored_top row p l s' n en ((h.same_lists []).0 (top_stored row o k s m em i)))
        (λ i. stored_top row o k s m em ((h.same_lists []).1 (top_stored row p l s' n en i)))
        (λ v w i j. h.same_values [] _ _ (top_value row o k s m em v i) (top_value row p l s' n en w j)),
    children_same (test row eq) 0 0 k l s s' (
      λ x i. stored_child row p l s' n en (plain k) s x i ((h.same_lists x).0 (child_stored row o k s m em x i)),
      λ x i. stored_child row o k s m em (plain l) s' x i ((h.same_lists x).1 (child_stored row p l s' n en x i)),
      λ x v w i j. h.same_values x _ _ (child_value row o k s m em x v i) (child_value row p l s' n en x w j),
    ),
  )

  module _ (t u : Tree P) (a : IsFullRoot t) (b : IsFullRoot u) where
    -- the first root's map
    abbrev left : PairMap K V
    left = fin.from_sorted (read_entries row t)

    -- the second root's map
    abbrev right : PairMap K V
    right = fin.from_sorted (read_entries row u)

    -- full roots with the same maps pass the test
    like_of_same : IsSame eq left right → same_tree (test row eq) t u ≡ true
    like_of_same h =
        let r = like_parts t.pair u.pair t.children u.children (root_shaped t a) (root_shaped u b) left right
        (entries-rows_of row t a ∙ ap (rows_by row) (entries_top t a.top)) (entries-rows_of row u b ∙ ap (rows_by row) (entries_top u b.top)) h in
        and_from _ _ ((bytes_decides t.fragment u.fragment).1 (a.top ∙ sym b.top)) (and_from _ _ r.0 r.1)

    -- rows equal to rows that are the same are the same too
    rows_moved : (es ds xs ys : List (List ℕ × (K × V))) → es ≡ xs → ds ≡ ys → AreSame eq es ds → AreSame eq xs ys
    rows_moved es ds xs ys i j h = subst (λ es. AreSame eq es ys) i (subst (AreSame eq es) j h)

    -- the first root's map has its rows as entries
    entries_left : fin.entries left ≡ read_entries row t
    entries_left = entries-rows_of row t a

    -- the second root's map has its rows as entries
    entries_right : fin.entries right ≡ read_entries row u
    entries_right = entries-rows_of row u b

    -- full roots with the same rows have the same maps
    same_of_rows : AreSame eq (read_entries row t) (read_entries row u) → IsSame eq left right
    same_of_rows h = (same_by_entries eq left right).1 (rows_moved _ _ (fin.entries left) (fin.entries right) (sym entries_left) (sym entries_right) h)

    -- full roots pass the test exactly where their rows are the same
    pub entries_agree : IsTrue (same_tree (test row eq) t u) ↔ AreSame eq (read_entries row t) (read_entries row u)
    entries_agree = (alike_tree row eq t u, λ h. like_of_same (same_of_rows h))

    -- full roots pass the test exactly where their maps are the same
    pub maps_agree : IsTrue (same_tree (test row eq) t u) ↔ IsSame eq left right
    maps_agree = (λ h. same_of_rows (alike_tree row eq t u h), like_of_same)
