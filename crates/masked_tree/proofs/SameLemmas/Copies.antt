-- A copy of a kept tree has its shape, and its entries at the same lists.
use Rattle.std.proofs.Common.{◌≡◌, ◌≢◌, ℕ, suc, ◌+◌, ◌≤◌, ◌⊎◌, List, [], ◌∷◌, ◌++◌, length, map, Option, Some, None, IsSome, false, true, refl, ap, sym, subst, ◌∙◌, inl, inr}
use Rattle.std.specs.FinMap as fin
use Rattle.masked_tree.specs.Tree.{Tree, Children, none, more, plain, firsts, IsPlaced, IsTreePlaced, IsTreeFull, entries_in, entries_at, nodes_in, nibbles_in}
use Rattle.masked_tree.specs.Same.{IsFullRoot, read_entries, IsPairCopy, AreChildCopies, IsCopy, AreEntryCopies}
use Rattle.nibble_map.specs.Copies.{IsMapCopy}
use Rattle.nibble_map.specs.Lists.{Has, IsBefore, IsRising}
use Rattle.nibble_map.specs.Maps.{NibbleMap}
use Rattle.masked_tree.specs.Mask.{IsMask}
use Rattle.nibble_map.specs.Stored.{stored}
use Rattle.nibble_map.specs.Swaps.{entry}
use Rattle.nibble_map.specs.Trees.{AreMany, IsFull, first}
use Rattle.nibble_map.proofs.ListLemmas.Members.{Has-stored}
use Rattle.masked_tree.proofs.SameLemmas.Trees.{entries-rows_of}
use Rattle.nibble_map.proofs.MapLemmas.Edits.{has_get, stored_by_entries, keys_list_stored}
use Rattle.nibble_map.proofs.ListLemmas.Unique.{Each-has, before_not_itself}

module _ {P : Type 0} where
  -- a first list doesn't come again
  not_again : (e : List ℕ × P) (es : List (List ℕ × P)) (x : List ℕ) (v : P) → IsRising (stored (e ∷ es)) → x ≡ e.0 → Has es (x, v) → ⊥
  not_again e es x v r i h = before_not_itself e.0 (subst (IsBefore e.0) i (Each-has (IsBefore e.0) (stored es) x r.0 (Has-stored es x v h)))

module _ {P Q : Type 0} (R : P → Q → Type 0) where
  -- a pair's copy is a pair
  copied_some : (o : Option P) (p : Option Q) → IsPairCopy R o p → IsSome o → IsSome p
  copied_some None p h i = absurd (let e : false ≡ true = i in cc)
  copied_some (Some x) None h i = absurd h
  copied_some (Some x) (Some y) h i = refl

  -- copies of children begin with the same nibbles
  copied_firsts : (k : Children P) (l : Children Q) → AreChildCopies R k l → firsts l ≡ firsts k
  copied_firsts none none h = refl
  copied_firsts none (more g p n ls rest) h = absurd h
  copied_firsts (more f o m children others) none h = absurd h
  copied_firsts (more f o m children others) (more g p n ls rest) h = λ i. first (h.0 i) ∷ copied_firsts others rest h.4 i

  -- a copied mask names the first nibbles of the copied children
  copied_mask : (m n : ℕ) (k : Children P) (l : Children Q) → n ≡ m → AreChildCopies R k l → IsMask m (firsts k) → IsMask n (firsts l)
  copied_mask m n k l e h mask = subst (λ n. IsMask n (firsts l)) (sym e) (subst (IsMask m) (sym (copied_firsts k l h)) mask)

  -- copies of placed children are placed
  copied_placed : (low : ℕ) (k : Children P) (l : Children Q) → AreChildCopies R k l → IsPlaced low k → IsPlaced low l
  copied_placed low none none h s = tt
  copied_placed low none (more g p n ls rest) h s = absurd h
  copied_placed low (more f o m children others) none h s = absurd h
  copied_placed low (more f o m children others) (more g p n ls rest) h s = (
    subst (λ f. f ≢ []) (sym h.0) s.0,
    subst (λ f. low ≤ first f) (sym h.0) s.1,
    copied_mask m n children ls h.1 h.3 s.2,
    copied_placed 0 children ls h.3 s.3,
    subst (λ f. IsPlaced (suc (first f)) rest) (sym h.0) (copied_placed (suc (first f)) others rest h.4 s.4),
  )

  -- copies of two children or more are two or more
  copied_many : (k : Children P) (l : Children Q) → AreChildCopies R k l → AreMany (plain k) → AreMany (plain l)
  copied_many none l h a = absurd a
  copied_many (more f o m children others) none h a = absurd h
  copied_many (more f o m children none) (more g p n ls rest) h a = absurd a
  copied_many (more f o m children (more f' o' m' children' others)) (more g p n ls none) h a = absurd h.4
  copied_many (more f o m children (more f' o' m' children' others)) (more g p n ls (more g' p' n' ls' rest)) h a = tt

  -- the copy of a node with a pair or two children has a pair or two children
  copied_here : (o : Option P) (p : Option Q) (k : Children P) (l : Children Q) → IsPairCopy R o p → AreChildCopies R k l → IsSome o ⊎ AreMany (plain k) → IsSome p ⊎ AreMany (plain l)
  copied_here o p k l h g (inl i) = inl (copied_some o p h i)
  copied_here o p k l h g (inr a) = inr (copied_many k l g a)

  -- copies of full children are full
  copied_full : (k : Children P) (l : Children Q) → AreChildCopies R k l → IsFull (plain k) → IsFull (plain l)
  copied_full none none h s = tt
  copied_full none (more g p n ls rest) h s = absurd h
  copied_full (more f o m children others) none h s = absurd h
  copied_full (more f o m children others) (more g p n ls rest) h s =
      (copied_here o p children ls h.2 h.3 s.0, copied_full children ls h.3 s.1, copied_full others rest h.4 s.2)

  -- copies of children have as many nodes
  copied_nodes : (k : Children P) (l : Children Q) → AreChildCopies R k l → nodes_in l ≡ nodes_in k
  copied_nodes none none h = refl
  copied_nodes none (more g p n ls rest) h = absurd h
  copied_nodes (more f o m children others) none h = absurd h
  copied_nodes (more f o m children others) (more g p n ls rest) h = λ i. suc (copied_nodes children ls h.3 i + copied_nodes others rest h.4 i)

  -- copies of children have as many nibbles
  copied_nibbles : (k : Children P) (l : Children Q) → AreChildCopies R k l → nibbles_in l ≡ nibbles_in k
  copied_nibbles none none h = refl
  copied_nibbles none (more g p n ls rest) h = absurd h
  copied_nibbles (more f o m children others) none h = absurd h
  copied_nibbles (more f o m children others) (more g p n ls rest) h = λ i. length (h.0 i) + copied_nibbles children ls h.3 i + copied_nibbles others rest h.4 i

  -- copies of two runs of entries, joined, are a copy of the two joined
  entries_append : (es : List (List ℕ × P)) (ds : List (List ℕ × Q)) (xs : List (List ℕ × P)) (ys : List (List ℕ × Q)) → AreEntryCopies R es ds → AreEntryCopies R xs ys → AreEntryCopies R (es ++ xs) (ds ++ ys)
  entries_append [] [] xs ys h k = k
  entries_append [] (d ∷ ds) xs ys h k = absurd h
  entries_append (e ∷ es) [] xs ys h k = absurd h
  entries_append (e ∷ es) (d ∷ ds) xs ys h k = (h.0, h.1, entries_append es ds xs ys h.2 k)

  -- the entry of a copied pair at the same path is a copy
  copied_entry : (p q : List ℕ) (o : Option P) (i : Option Q) → q ≡ p → IsPairCopy R o i → AreEntryCopies R (entry p o) (entry q i)
  copied_entry p q None None e h = tt
  copied_entry p q None (Some y) e h = absurd h
  copied_entry p q (Some x) None e h = absurd h
  copied_entry p q (Some x) (Some y) e h = (e, h, tt)

  -- the entries of copied children below the same path are copies
  copied_entries : (p q : List ℕ) (k : Children P) (l : Children Q) → q ≡ p → AreChildCopies R k l → AreEntryCopies R (entries_in p k) (entries_in q l)
  copied_entries p q none none e h = tt
  copied_entries p q none (more g i n ls rest) e h = absurd h
  copied_entries p q (more f o m children others) none e h = absurd h
  copied_entries p q (more f o m children others) (more g i n ls rest) e h =
      let path : q ++ g ≡ p ++ f = (λ j. e j ++ h.0 j) in
      entries_append _ _ _ _ (entries_append _ _ _ _ (copied_entry _ _ o i path h.2) (copied_entries _ _ children ls path h.3)) (copied_entries p q others rest e h.4)

  module _ (t : Tree P) (u : Tree Q) (c : IsCopy R t u) where
    -- a copy of a placed tree is placed
    pub copy_placed : IsTreePlaced t → IsTreePlaced u
    copy_placed h = (copied_mask t.mask u.mask t.children u.children c.mask c.children h.0, copied_placed 0 t.children u.children c.children h.1)

    -- a copy of a full tree is full
    pub copy_full : IsTreeFull t → IsTreeFull u
    copy_full h = (copied_here t.pair u.pair t.children u.children c.pair c.children h.0, copied_full t.children u.children c.children h.1)

    -- a copy of a full root is a full root
    pub root_copied : IsFullRoot t → IsFullRoot u
    root_copied r = record { top = c.fragment ∙ r.top; placed = copy_placed r.placed; full = copied_full t.children u.children c.children r.full }

    -- a copy has as many nodes below it as the tree
    pub nodes_in-copy : nodes_in u.children ≡ nodes_in t.children
    nodes_in-copy = copied_nodes t.children u.children c.children

    -- a copy has as many nibbles below it as the tree
    pub nibbles_in-copy : nibbles_in u.children ≡ nibbles_in t.children
    nibbles_in-copy = copied_nibbles t.children u.children c.children

    -- a copy's entries are copies at the same lists
    pub copy_entries : (q : List ℕ) → AreEntryCopies R (entries_at q t) (entries_at q u)
    copy_entries q = let path = ap (λ f. q ++ f) c.fragment in entries_append _ _ _ _ (copied_entry _ _ t.pair u.pair path c.pair) (copied_entries _ _ t.children u.children path c.children)

  -- copies of entries, as maps
  -- copies of entries stand at the same lists
  pub copied_lists : (es : List (List ℕ × P)) (ds : List (List ℕ × Q)) → AreEntryCopies R es ds → stored ds ≡ stored es
  copied_lists [] [] h = refl
  copied_lists [] (d ∷ ds) h = absurd h
  copied_lists (e ∷ es) [] h = absurd h
  copied_lists (e ∷ es) (d ∷ ds) h = λ i. h.0 i ∷ copied_lists es ds h.2 i

  -- the pairs at one list of rising entries and of their copies are copies
  copied_at : (es : List (List ℕ × P)) (ds : List (List ℕ × Q)) → IsRising (stored es) → IsRising (stored ds) → AreEntryCopies R es ds →
      (x : List ℕ) (v : P) (w : Q) → Has es (x, v) → Has ds (x, w) → R v w
  copied_at [] ds r s c x v w h k = absurd h
  copied_at (e ∷ es) [] r s c x v w h k = absurd c
  copied_at (e ∷ es) (d ∷ ds) r s c x v w (inl i) (inl j) =
      subst (λ (z : List ℕ × P). R z.1 w) (sym i) (subst (λ (z : List ℕ × Q). R e.1 z.1) (sym j) c.1)
  copied_at (e ∷ es) (d ∷ ds) r s c x v w (inl i) (inr k) = absurd (not_again d ds x w s (ap (λ (z : List ℕ × P). z.0) i ∙ sym c.0) k)
  copied_at (e ∷ es) (d ∷ ds) r s c x v w (inr h) (inl j) = absurd (not_again e es x v r (ap (λ (z : List ℕ × Q). z.0) j ∙ c.0) h)
  copied_at (e ∷ es) (d ∷ ds) r s c x v w (inr h) (inr k) = copied_at es ds r.1 s.1 c.2 x v w h k

  -- maps whose entries are copies are copies
  pub map_copied : (m : NibbleMap P) (n : NibbleMap Q) → AreEntryCopies R (fin.entries m) (fin.entries n) → IsMapCopy R m n
  map_copied m n c =
      let same = copied_lists (fin.entries m) (fin.entries n) c in
      record {
        same_lists = λ e. ((λ h. (stored_by_entries n e).0 (subst (λ l. Has l e) (sym same) ((stored_by_entries m e).1 h))), (λ h. (stored_by_entries m e).0 (subst (λ l. Has l e) same ((stored_by_entries n e).1 h))));
        copied_pairs = λ e x y i j. copied_at (fin.entries m) (fin.entries n) (keys_list_stored m).rising (keys_list_stored n).rising c e x y ((has_get m e x).1 i) ((has_get n e y).1 j);
      }

-- the rows of copied entries
-- rows read from copied entries are copies
pub rows_copied : {P Q : Type 0} (row : P → Q) (S : Q → Q → Type 0) (es ds : List (List ℕ × P)) → AreEntryCopies (λ x y. S (row x) (row y)) es ds →
    AreEntryCopies S (map (λ e. (e.0, row e.1)) es) (map (λ e. (e.0, row e.1)) ds)
rows_copied row S [] [] h = tt
rows_copied row S [] (d ∷ ds) h = absurd h
rows_copied row S (e ∷ es) [] h = absurd h
rows_copied row S (e ∷ es) (d ∷ ds) h = (h.0, h.1, rows_copied row S es ds h.2)

-- the map of a copied root
-- the map of a copied root is a copy of the root's map
pub root_map_copied : {P K V : Type 0} (row : P → K × V) (S : K × V → K × V → Type 0) (t u : Tree P) → IsFullRoot t → IsCopy (λ x y. S (row x) (row y)) t u →
    IsMapCopy S (fin.from_sorted (read_entries row t)) (fin.from_sorted (read_entries row u))
root_map_copied {K = K} {V = V} row S t u r c =
    let copied = rows_copied row S _ _ (copy_entries (λ x y. S (row x) (row y)) t u c []) in
    let left = entries-rows_of row t r in
    let right = entries-rows_of row u (root_copied (λ x y. S (row x) (row y)) t u c r) in
    let n : NibbleMap (K × V) = fin.from_sorted (read_entries row u) in
    map_copied S _ n (subst (λ es. AreEntryCopies S es (fin.entries n)) (sym left) (subst (AreEntryCopies S (read_entries row t)) (sym right) copied))
