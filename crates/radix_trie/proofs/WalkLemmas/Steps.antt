-- The steps of a walk from the first pair to the last, over its rests.
use Rattle.std.proofs.Common.{◌≡◌, ◌<◌, List, [], ◌∷◌, ◌++◌, length, refl, ap, sym, subst, ◌∙◌, append_assoc, append-nil, arith, ℕ, suc, ◌≤◌, Bor, Some, None}
use Rattle.std.proofs.lemmas.List.{length-map}
use Rattle.masked_tree.specs.Sizes.{levels}
use Rattle.masked_tree.specs.Tree.{Tree, Children, none, more, front, entries_at, entries_in}
use Rattle.radix_nodes.specs.declared.trie_node.KeyValue.{KeyValue}
use Rattle.radix_nodes.specs.Nodes.{children_of}
use Rattle.radix_nodes.specs.Pairs.{own_pair, pair_of, pairs_in, pairs_in_all}
use Rattle.radix_nodes.proofs.NodeLemmas.Pairs.{pairs_of-append, pairs_of-entries_at}
use Rattle.radix_nodes.proofs.EditLemmas.Removal.{children_of-no_boxes}
use Rattle.radix_trie.specs.declared.iter.rows.Frame.{Frame}
use Rattle.radix_trie.specs.Walks.{HasFullRows, HasRowRoom, first_pair, left_of, left_rows, rows_at, stacked, with_row}
use Rattle.radix_trie.proofs.WalkLemmas.Back.{rows-push, stacked-push}
use Rattle.radix_trie.proofs.WalkLemmas.FullRows.{full-at}
use Rattle.radix_trie.proofs.WalkLemmas.Rows.{Row, with_row-some}
use Rattle.radix_trie.proofs.WalkLemmas.Walks.{fits-at, room-at, room-more, room-pop, turns-at, turns_left}

module _ {K V : Type 0} where
  -- others are put aside: their pairs come next, and their row is the last one, if it isn't empty
  abbrev pub ArePutAside : List (Frame K V) → Row K V → List (Frame K V) → Type 0
  ArePutAside rs others new = (stacked new ≡ pairs_in_all (children_of others) ++ stacked rs) × (left_rows new ≡ with_row (left_rows rs) (children_of others))

  -- so it is where there are some
  pub some-aside : (rs new : List (Frame K V)) (others : Bor (Row K V)) → new ≡ rs ++ record { own = None; row = others } ∷ [] → 0 < length others.now → ArePutAside rs others.now new
  some-aside rs new others is some =
      let rest : Frame K V = record { own = None; row = others } in
      (ap stacked is ∙ stacked-push rs rest, ap left_rows is ∙ rows-push rs rest ∙ sym (with_row-some (left_rows rs) others.now some))

  -- and where there are none, and nothing is put aside
  pub none-aside : (rs : List (Frame K V)) (others : Row K V) → length others ≡ 0 → ArePutAside rs others rs
  none-aside rs others lone = let e = sym (children_of-no_boxes others lone) in (ap (λ k. pairs_in_all k ++ stacked rs) e, ap (with_row (left_rows rs)) e)

  -- a turn at a node, whose own pair comes first
  module _ (rs : List (Frame K V)) (others : Row K V) (rest : Frame K V) (t : Tree (KeyValue K V)) (own : first_pair rest.own ≡ own_pair t.pair) where
    -- where it has no child, the others come next
    pub leaf_turn : t.children ≡ none → rest.row.now ≡ others
        → (stacked (rs ++ rest ∷ []) ≡ pairs_in t ++ (pairs_in_all (children_of others) ++ stacked rs)) × (left_rows (rs ++ rest ∷ []) ≡ rows_at (left_rows rs) t.children (children_of others))
    leaf_turn leaf row = (
      stacked-push rs rest ∙ append_assoc (first_pair rest.own) (pairs_in_all (children_of rest.row.now)) (stacked rs)
          ∙ (λ i. own i ++ (pairs_in_all (children_of (row i)) ++ stacked rs))
          ∙ ap (λ ps. ps ++ (pairs_in_all (children_of others) ++ stacked rs)) (sym (pairs_of-entries_at [] t ∙ ap (λ k. own_pair t.pair ++ pairs_in_all k) leaf ∙ append-nil (own_pair t.pair))),
      rows-push rs rest ∙ (λ i. rows_at (left_rows rs) (sym leaf i) (children_of (row i))),
    )

    -- where it has children, they come next, and then the others, which are put aside
    pub node_turn : (new : List (Frame K V)) → ArePutAside rs others new → children_of rest.row.now ≡ t.children → 0 < levels t.children
        → (stacked (new ++ rest ∷ []) ≡ pairs_in t ++ (pairs_in_all (children_of others) ++ stacked rs)) × (left_rows (new ++ rest ∷ []) ≡ rows_at (left_rows rs) t.children (children_of others))
    node_turn new aside row some = (
      stacked-push new rest ∙ (λ i. (own i ++ pairs_in_all (row i)) ++ aside.0 i) ∙ ap (λ ps. ps ++ (pairs_in_all (children_of others) ++ stacked rs)) (sym (pairs_of-entries_at [] t)),
      rows-push new rest ∙ (λ i. aside.1 i ++ row i ∷ []) ∙ by t.children some,
    )
      where
        by : (k : Children (KeyValue K V)) → 0 < levels k → with_row (left_rows rs) (children_of others) ++ k ∷ [] ≡ rows_at (left_rows rs) k (children_of others)
        by none lt = absurd (omega (arith, lt))
        by (more f o m below beside) lt = refl

  -- a walk stands at a rest, above others
  module _ (rs : List (Frame K V)) (at : Frame K V) where
    -- its own pair comes first
    pub own-first : (p : Bor (KeyValue K V)) → at.own ≡ Some p → stacked (rs ++ at ∷ []) ≡ pair_of p.now ∷ stacked (rs ++ record { own = None; row = at.row } ∷ [])
    own-first p is =
        let bare : Frame K V = record { own = None; row = at.row } in
        stacked-push rs at ∙ ap (λ o. (first_pair o ++ pairs_in_all (children_of at.row.now)) ++ stacked rs) is ∙ ap (λ ps. pair_of p.now ∷ ps) (sym (stacked-push rs bare))

    -- where nothing is left of it, the others come next
    pub bare-up : left_of at ≡ [] → stacked (rs ++ at ∷ []) ≡ stacked rs
    bare-up bare = stacked-push rs at ∙ ap (λ ps. ps ++ stacked rs) bare

    -- there is room without it
    pub room-up : (most : ℕ) → HasRowRoom most 0 (left_rows (rs ++ at ∷ [])) → HasRowRoom most 0 (left_rows rs)
    room-up most h = (room-pop most 0 (left_rows rs) (children_of at.row.now) (subst (HasRowRoom most 0) (rows-push rs at) h)).0

    -- without its own pair, the first node of its row comes next
    pub node-next : (t : Tree (KeyValue K V)) (others : Children (KeyValue K V)) → at.own ≡ None → children_of at.row.now ≡ front t others
        → stacked (rs ++ at ∷ []) ≡ pairs_in t ++ (pairs_in_all others ++ stacked rs)
    node-next t others bare is =
        stacked-push rs at ∙ (λ i. (first_pair (bare i) ++ pairs_in_all (is i)) ++ stacked rs)
        ∙ ap (λ ps. ps ++ stacked rs) (pairs_of-append (entries_at [] t) (entries_in [] others)) ∙ append_assoc (pairs_in t) (pairs_in_all others) (stacked rs)

    -- the first node of its row is t
    module _ (t : Tree (KeyValue K V)) (others : Children (KeyValue K V)) (is : children_of at.row.now ≡ front t others) where
      -- the rows end with that of the node
      rows-next : left_rows (rs ++ at ∷ []) ≡ left_rows rs ++ front t others ∷ []
      rows-next = rows-push rs at ∙ ap (λ k. left_rows rs ++ k ∷ []) is

      -- where the node has a child, one more has room on the stack
      pub turn_fits : (most : ℕ) → HasRowRoom (suc most) 0 (left_rows (rs ++ at ∷ [])) → 0 < levels t.children → length rs < most
      turn_fits most h some =
          omega (arith, fits-at (left_rows rs) others t (suc most) (subst (HasRowRoom (suc most) 0) rows-next h) some, length-map rs (λ (q : Frame K V). children_of q.row.now))

      -- the rows after a turn at it
      module _ (new : List (Frame K V)) (rows : left_rows new ≡ rows_at (left_rows rs) t.children others) where
        -- they are full
        pub turn_full : HasFullRows (left_rows (rs ++ at ∷ [])) → HasFullRows (left_rows new)
        turn_full h = subst HasFullRows (sym rows) (full-at (left_rows rs) t others (subst HasFullRows rows-next h))

        -- there is room for what comes of them
        pub turn_room : (most more_room : ℕ) → most ≤ more_room → HasRowRoom most 0 (left_rows (rs ++ at ∷ [])) → HasRowRoom more_room 0 (left_rows new)
        turn_room most more_room le h =
            room-more most more_room 0 (left_rows new) le (subst (HasRowRoom most 0) (sym rows) (room-at (left_rows rs) others t most (subst (HasRowRoom most 0) rows-next h)))

        -- fewer turns are left
        pub turn_falls : turns_left (left_rows new) < turns_left (left_rows (rs ++ at ∷ []))
        turn_falls = omega (arith, ap turns_left rows, ap turns_left rows-next, turns-at (left_rows rs) others t)
