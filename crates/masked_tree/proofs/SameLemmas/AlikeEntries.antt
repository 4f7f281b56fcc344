-- Trees that pass the test have entries that are alike.
use Rattle.std.proofs.Common.{◌≡◌, ℕ, Bool, true, List, [], ◌∷◌, ◌++◌, map, Option, Some, None, sym, nat_eq}
use Rattle.std.specs.Cmp.Lexicographic.{pointwise, same_text}
use Rattle.masked_tree.specs.Tree.{Tree, Children, none, more, entries_in, entries_at}
use Rattle.masked_tree.specs.Same.{same_pair, same_children, same_tree}
use Rattle.nibble_map.specs.MapQueries.{AreSame}
use Rattle.nibble_map.specs.Swaps.{entry}
use Rattle.nibble_map.proofs.MapLemmas.SameTests.{both_true, anything_of_false}

-- lists that pass the test of equal items are equal
text_same : (f g : List ℕ) → pointwise nat_eq f g ≡ true → f ≡ g
text_same f g e = same_text f g (sym e)

-- the entries, each pair read as a key and a value
abbrev pub rows_by : {P K V : Type 0} → (P → K × V) → List (List ℕ × P) → List (List ℕ × (K × V))
rows_by row es = map (λ e. (e.0, row e.1)) es

-- the entries of like trees
module _ {P K V : Type 0} (row : P → K × V) (eq : V → V → Bool) where
  -- whether two pairs have equal values
  abbrev pub test : P → P → Bool
  test x y = eq (row x).1 (row y).1

  -- the rows of both are the same, entry by entry
  abbrev Alike : List (List ℕ × P) → List (List ℕ × P) → Type 0
  Alike es ds = AreSame eq (rows_by row es) (rows_by row ds)

  -- two runs of entries that are alike, joined, are alike
  alike_append : (es ds xs ys : List (List ℕ × P)) → Alike es ds → Alike xs ys → Alike (es ++ xs) (ds ++ ys)
  alike_append [] [] xs ys h k = k
  alike_append [] (d ∷ ds) xs ys h k = absurd h
  alike_append (e ∷ es) [] xs ys h k = absurd h
  alike_append (e ∷ es) (d ∷ ds) xs ys h k = (h.0, h.1, alike_append es ds xs ys h.2 k)

  -- the entries of equal pairs at the same path are alike
  alike_entry : (p q : List ℕ) (o i : Option P) → p ≡ q → same_pair test o i ≡ true → Alike (entry p o) (entry q i)
  alike_entry p q None None e h = tt
  alike_entry p q None (Some y) e h = anything_of_false h
  alike_entry p q (Some x) None e h = anything_of_false h
  alike_entry p q (Some x) (Some y) e h = (e, h, tt)

  -- children that pass the test have entries that are alike
  alike_children : (k l : Children P) (p q : List ℕ) → p ≡ q → same_children test k l ≡ true → Alike (entries_in p k) (entries_in q l)
  alike_children none none p q e h = tt
  alike_children none (more g i n ls rest) p q e h = anything_of_false h
  alike_children (more f o m children others) none p q e h = anything_of_false h
  alike_children (more f o m children others) (more g i n ls rest) p q e h =
      let a = both_true _ _ h in
      let b = both_true _ _ a.0 in
      let c = both_true _ _ b.1 in
      let path : p ++ f ≡ q ++ g = (λ j. e j ++ text_same f g b.0 j) in
      alike_append _ _ _ _ (alike_append _ _ _ _ (alike_entry _ _ o i path c.0) (alike_children children ls _ _ path c.1)) (alike_children others rest p q e a.1)

  -- trees that pass the test have entries that are alike
  pub alike_tree : (t u : Tree P) → same_tree test t u ≡ true → Alike (entries_at [] t) (entries_at [] u)
  alike_tree t u h =
      let a = both_true _ _ h in
      let b = both_true _ _ a.1 in
      let path = text_same t.fragment u.fragment a.0 in
      alike_append _ _ _ _ (alike_entry _ _ t.pair u.pair path b.0) (alike_children t.children u.children _ _ path b.1)
