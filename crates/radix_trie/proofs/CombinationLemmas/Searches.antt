-- What a search over two sides has left, and the turns that it takes.
use Rattle.std.proofs.Common.{◌≡◌, ◌+◌, ◌*◌, ℕ, Bool, true, false, not, ◌⊎◌, inl, inr, List, [], ◌∷◌, ◌++◌, Option, Some, None, Bor, refl, ap, sym, ◌∙◌, arith, append_assoc, append-nil}
use Rattle.masked_tree.specs.Tree.{none as no_children, entries_in}
use Rattle.nibble_map.specs.Swaps.{entry}
use Rattle.radix_nodes.specs.declared.trie_node.KeyValue.{KeyValue}
use Rattle.radix_nodes.specs.Pairs.{pairs_of}
use Rattle.radix_nodes.proofs.NodeLemmas.Pairs.{pairs_of-append}
use Rattle.radix_trie.specs.declared.iter.combination.Operation.{Operation}
use Rattle.radix_trie.specs.declared.iter.combination.Operation.TheVariants as operation
use Rattle.radix_trie.specs.declared.iter.combination.branches.Branches.{Branches}
use Rattle.radix_trie.specs.Combinations.{AreAllPlaced, ArePlaced, all_left, combined_entries, keeps, nibbles_left, own_of, pairs_left, picked, row_of_branch, turns}
use Rattle.radix_trie.specs.Walks.{first_pair}
use Rattle.radix_trie.proofs.CombinationLemmas.Lists.{IsEarly, combined_cut}
use Rattle.radix_trie.proofs.CombinationLemmas.Trees.{placed_late}

module _ {P : Type 0} where
  -- no entry is common with none
  none_common : (es : List (List ℕ × P)) → picked true es [] ≡ []
  none_common [] = refl
  none_common (e ∷ es) = none_common es

  -- where a side is known to be empty, an operation that keeps nothing of the other gives nothing
  pub nothing_given : (op : Operation) (bare other : Bool) (es fs : List (List ℕ × P)) → (bare ≡ true → es ≡ []) → (other ≡ true → fs ≡ [])
      → ((bare ≡ false) × (other ≡ true)) ⊎ (bare ≡ true) → keeps op (not bare) (not other) ≡ false → combined_entries op es fs ≡ []
  nothing_given op false false es fs one two (inl h) kept = absurd (let never : false ≡ true = h.1 in cc)
  nothing_given op false false es fs one two (inr h) kept = absurd (let never : false ≡ true = h in cc)
  nothing_given operation.Union true true es fs one two some kept = λ i. combined_entries operation.Union (one refl i) (two refl i)
  nothing_given operation.Intersection true true es fs one two some kept = λ i. combined_entries operation.Intersection (one refl i) (two refl i)
  nothing_given operation.Difference true true es fs one two some kept = λ i. combined_entries operation.Difference (one refl i) (two refl i)
  nothing_given operation.SymmetricDifference true true es fs one two some kept = λ i. combined_entries operation.SymmetricDifference (one refl i) (two refl i)
  nothing_given operation.Union true false es fs one two some kept = absurd (cc)
  nothing_given operation.Intersection true false es fs one two some kept = ap (λ xs. combined_entries operation.Intersection xs fs) (one refl)
  nothing_given operation.Difference true false es fs one two some kept = ap (λ xs. combined_entries operation.Difference xs fs) (one refl)
  nothing_given operation.SymmetricDifference true false es fs one two some kept = absurd (cc)
  nothing_given operation.Union false true es fs one two some kept = absurd (cc)
  nothing_given operation.Intersection false true es fs one two some kept = ap (combined_entries operation.Intersection es) (two refl) ∙ none_common es
  nothing_given operation.Difference false true es fs one two some kept = absurd (cc)
  nothing_given operation.SymmetricDifference false true es fs one two some kept = absurd (cc)

  nothing_of_none : (op : Operation) → combined_entries {P = P} op [] [] ≡ []
  nothing_of_none operation.Union = refl
  nothing_of_none operation.Intersection = refl
  nothing_of_none operation.Difference = refl
  nothing_of_none operation.SymmetricDifference = refl

  early_own : (o : Option P) → IsEarly 0 (entry [] o)
  early_own None = tt
  early_own (Some x) = (omega arith, tt)

module _ {K V : Type 0} where
  -- the pairs of an operation's choice at one list
  abbrev pub given : Operation → Option (Bor (KeyValue K V)) → Option (Bor (KeyValue K V)) → List (K × V)
  given op a b = pairs_of (combined_entries op (entry [] (own_of a)) (entry [] (own_of b)))

  -- two branches with these in place of their own pairs
  abbrev pub with_own : Branches K V → Option (Bor (KeyValue K V)) → Option (Bor (KeyValue K V)) → Branches K V
  with_own b a c = record {
    first = record { own = a; row = b.first.row; offset = b.first.offset };
    second = record { own = c; row = b.second.row; offset = b.second.offset };
  }

  -- the own pairs come first
  own_given : (op : Operation) (b : Branches K V) → ArePlaced b → pairs_left op b ≡ given op b.first.own b.second.own ++ pairs_left op (with_own b None None)
  own_given op b placed =
      let one = entry [] (own_of b.first.own) in
      let two = entry [] (own_of b.second.own) in
      let ones = entries_in [] (row_of_branch b.first) in
      let twos = entries_in [] (row_of_branch b.second) in
      ap pairs_of (combined_cut 0 op one ones two twos (early_own (own_of b.first.own)) (placed_late 0 _ placed.0) (early_own (own_of b.second.own)) (placed_late 0 _ placed.1))
      ∙ pairs_of-append (combined_entries op one two) (combined_entries op ones twos)

  -- one more on a stack comes first
  pub left-push : (op : Operation) (bs : List (Branches K V)) (b : Branches K V) → all_left op (bs ++ b ∷ []) ≡ pairs_left op b ++ all_left op bs
  left-push op [] b = sym (append-nil (pairs_left op b))
  left-push op (x ∷ bs) b = ap (λ ps. ps ++ pairs_left op x) (left-push op bs b) ∙ append_assoc (pairs_left op b) (all_left op bs) (pairs_left op x)

  pub placed-push : (bs : List (Branches K V)) (b : Branches K V) → AreAllPlaced bs → ArePlaced b → AreAllPlaced (bs ++ b ∷ [])
  placed-push [] b all placed = (placed, tt)
  placed-push (x ∷ bs) b all placed = (all.0, placed-push bs b all.1 placed)

  pub placed-pop : (bs : List (Branches K V)) (b : Branches K V) → AreAllPlaced (bs ++ b ∷ []) → AreAllPlaced bs × ArePlaced b
  placed-pop [] b all = (tt, all.0)
  placed-pop (x ∷ bs) b all = let rest = placed-pop bs b all.1 in ((all.0, rest.0), rest.1)

  pub turns-push : (bs : List (Branches K V)) (b : Branches K V) → turns (bs ++ b ∷ []) ≡ turns bs + (2 * nibbles_left b + 1)
  turns-push [] b = omega arith
  turns-push (x ∷ bs) b = omega (arith, turns-push bs b)

  -- the search stands at two branches whose own pairs were taken, of which r is given
  module _ (op : Operation) (bs : List (Branches K V)) (b : Branches K V) (placed : AreAllPlaced (bs ++ b ∷ [])) (a c x y r : Option (Bor (KeyValue K V)))
      (first_taken : a ≡ b.first.own) (second_taken : c ≡ b.second.own) (first_left : x ≡ None) (second_left : y ≡ None) (chosen : first_pair r ≡ given op a c) where
    pub given_first : all_left op (bs ++ b ∷ []) ≡ first_pair r ++ all_left op (bs ++ with_own b x y ∷ [])
    given_first =
        left-push op bs b ∙ ap (λ ps. ps ++ all_left op bs) (own_given op b (placed-pop bs b placed).1)
        ∙ append_assoc (given op b.first.own b.second.own) (pairs_left op (with_own b None None)) (all_left op bs)
        ∙ (λ i. sym (chosen ∙ (λ j. given op (first_taken j) (second_taken j))) i ++ (pairs_left op (with_own b (sym first_left i) (sym second_left i)) ++ all_left op bs))
        ∙ ap (λ ps. first_pair r ++ ps) (sym (left-push op bs (with_own b x y)))

    -- where none is given, the same pairs are left
    pub none_first : r ≡ None → all_left op (bs ++ b ∷ []) ≡ all_left op (bs ++ with_own b x y ∷ [])
    none_first none = given_first ∙ ap (λ o. first_pair o ++ all_left op (bs ++ with_own b x y ∷ [])) none

    -- where nothing else is left of both, those of the others
    pub ended : r ≡ None → pairs_left op (with_own b x y) ≡ [] → all_left op (bs ++ b ∷ []) ≡ all_left op bs
    ended none bare = none_first none ∙ left-push op bs (with_own b x y) ∙ ap (λ ps. ps ++ all_left op bs) bare

  -- two branches that were parted: the later one is dropped, or the first one, or the later one is put aside
  module _ (op : Operation) (bs : List (Branches K V)) (below beside : Branches K V) where
    pub only_beside : pairs_left op below ≡ [] → all_left op (bs ++ beside ∷ []) ≡ (pairs_left op below ++ pairs_left op beside) ++ all_left op bs
    only_beside bare = left-push op bs beside ∙ ap (λ ps. (ps ++ pairs_left op beside) ++ all_left op bs) (sym bare)

    pub only_below : pairs_left op beside ≡ [] → all_left op (bs ++ below ∷ []) ≡ (pairs_left op below ++ pairs_left op beside) ++ all_left op bs
    only_below bare = left-push op bs below ∙ ap (λ ps. ps ++ all_left op bs) (sym (ap (λ ps. pairs_left op below ++ ps) bare ∙ append-nil (pairs_left op below)))

    pub first_below : (new : List (Branches K V)) → new ≡ bs ++ beside ∷ [] → all_left op (new ++ below ∷ []) ≡ (pairs_left op below ++ pairs_left op beside) ++ all_left op bs
    first_below new pushed =
        left-push op new below ∙ ap (λ n. pairs_left op below ++ all_left op n) pushed ∙ ap (λ ps. pairs_left op below ++ ps) (left-push op bs beside)
        ∙ sym (append_assoc (pairs_left op below) (pairs_left op beside) (all_left op bs))

    -- or no node is left below, and the own pairs there come right before the later one
    pub leaf_below : ArePlaced below → ArePlaced beside → row_of_branch below.first ≡ no_children → row_of_branch below.second ≡ no_children → beside.first.own ≡ None → beside.second.own ≡ None
        → all_left op (bs ++ with_own beside below.first.own below.second.own ∷ []) ≡ (pairs_left op below ++ pairs_left op beside) ++ all_left op bs
    leaf_below placed beside_placed first_leaf second_leaf first_bare second_bare =
        let at = with_own beside below.first.own below.second.own in
        let own = given op below.first.own below.second.own in
        let bare = (λ i. pairs_of (combined_entries op (entries_in [] (first_leaf i)) (entries_in [] (second_leaf i)))) ∙ ap pairs_of (nothing_of_none op) in
        let alone = own_given op below placed ∙ ap (λ ps. own ++ ps) bare ∙ append-nil own in
        left-push op bs at
        ∙ ap (λ ps. ps ++ all_left op bs) (own_given op at beside_placed ∙ (λ i. sym alone i ++ pairs_left op (with_own beside (sym first_bare i) (sym second_bare i))))
