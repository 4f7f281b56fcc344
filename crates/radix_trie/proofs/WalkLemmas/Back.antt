-- What the rests of a walk have left, in either direction.
use Rattle.std.proofs.Common.{◌≡◌, ℕ, suc, ◌+◌, ◌<◌, ◌≤◌, max, List, [], ◌∷◌, ◌++◌, drop, get_or, length, reverse, refl, ap, sym, subst, ◌∙◌, append_assoc, append-nil, length-append, add-one, drop-cons, arith, Bor, Box, Global, Some, None}
use Rattle.std.proofs.lemmas.List.{drop_all, length-reverse, map-append, reverse-append}
use Rattle.masked_tree.specs.Sizes.{levels}
use Rattle.masked_tree.specs.Tree.{Tree, Children, none, front, plain, entries_in, entries_at, nodes_in}
use Rattle.nibble_map.specs.Trees.{IsFull}
use Rattle.radix_nodes.specs.declared.trie_node.KeyValue.{KeyValue}
use Rattle.radix_nodes.specs.declared.trie_node.TrieNode.{TrieNode}
use Rattle.radix_nodes.specs.Nodes.{children_of, tree_of}
use Rattle.radix_nodes.specs.Pairs.{own_pair, pair_of, pairs_of, pairs_in, pairs_in_all}
use Rattle.radix_nodes.proofs.NodeLemmas.Pairs.{pairs_of-append, pairs_of-entries_at}
use Rattle.radix_trie.specs.declared.iter.rows.Frame.{Frame}
use Rattle.radix_trie.specs.Walks.{HasFullRows, HasRowRoom, first_pair, left_in, left_of, left_rows, stacked}
use Rattle.radix_trie.proofs.WalkLemmas.Ends.{entries_in-last_box, last_box_full}
use Rattle.radix_trie.proofs.WalkLemmas.FullRows.{full-front, full-pop, full-push, levels-pairs}
use Rattle.radix_trie.proofs.WalkLemmas.Rows.{levels-some}
use Rattle.radix_trie.proofs.WalkLemmas.Walks.{turns_left, turns-push}

module _ {K V : Type 0} where
  -- what is left of a list of nodes and of one below them
  left-push : (rs : List (Frame K V)) (r : Frame K V) → left_in (rs ++ r ∷ []) ≡ left_in rs ++ left_of r
  left-push [] r = append-nil (left_of r)
  left-push (q ∷ rs) r = ap (λ ps. left_of q ++ ps) (left-push rs r) ∙ sym (append_assoc (left_of q) (left_in rs) (left_of r))

  -- what a stack has left with one more
  pub stacked-push : (rs : List (Frame K V)) (r : Frame K V) → stacked (rs ++ r ∷ []) ≡ left_of r ++ stacked rs
  stacked-push [] r = sym (append-nil (left_of r))
  stacked-push (q ∷ rs) r = ap (λ ps. ps ++ left_of q) (stacked-push rs r) ∙ append_assoc (left_of r) (stacked rs) (left_of q)

  -- a stack that is turned round has the same left, from its first one on
  pub left-reverse : (rs : List (Frame K V)) → left_in (reverse rs) ≡ stacked rs
  left-reverse [] = refl
  left-reverse (r ∷ rs) = ap left_in (reverse-append (r ∷ []) rs) ∙ left-push (reverse rs) r ∙ ap (λ ps. ps ++ left_of r) (left-reverse rs)

  -- the rows of a list of nodes and of one below them
  pub rows-push : (rs : List (Frame K V)) (r : Frame K V) → left_rows (rs ++ r ∷ []) ≡ left_rows rs ++ children_of r.row.now ∷ []
  rows-push rs r = map-append (λ (q : Frame K V). children_of q.row.now) rs (r ∷ [])

  -- with one below them that is full, the rows of a list of nodes are full
  pub full-pushed : (rs new : List (Frame K V)) (r : Frame K V) → new ≡ rs ++ r ∷ [] → HasFullRows (left_rows rs) → IsFull (plain (children_of r.row.now)) → HasFullRows (left_rows new)
  full-pushed rs new r pushed full here = subst HasFullRows (sym (ap left_rows pushed ∙ rows-push rs r)) (full-push (left_rows rs) (children_of r.row.now) full here)

  -- a list of nodes is full without the last one, which is full
  pub full-popped : (rs : List (Frame K V)) (r : Frame K V) → HasFullRows (left_rows (rs ++ r ∷ [])) → HasFullRows (left_rows rs) × IsFull (plain (children_of r.row.now))
  full-popped rs r full = full-pop (left_rows rs) (children_of r.row.now) (subst HasFullRows (rows-push rs r) full)

  -- full rows are full from the last one on
  pub full-reverse : (rs : List (Frame K V)) → HasFullRows (left_rows rs) → HasFullRows (left_rows (reverse rs))
  full-reverse [] full = tt
  full-reverse (r ∷ rs) full = full-pushed (reverse rs) (reverse (r ∷ rs)) r (reverse-append (r ∷ []) rs) (full-reverse rs full.1) full.0

  -- what a list of nodes and one below them have left, and then what is left behind these
  pub left-pushed : (rs new : List (Frame K V)) (r : Frame K V) → new ≡ rs ++ r ∷ [] → (behind all : List (K × V)) → left_of r ++ behind ≡ all → left_in new ++ behind ≡ left_in rs ++ all
  left-pushed rs new r pushed behind all is =
      ap (λ ps. ps ++ behind) (ap left_in pushed ∙ left-push rs r) ∙ append_assoc (left_in rs) (left_of r) behind ∙ ap (λ ps. left_in rs ++ ps) is

  -- the most levels that a row has
  abbrev pub tallest : List (Frame K V) → ℕ
  tallest [] = 0
  tallest (r ∷ rs) = max (levels (children_of r.row.now)) (tallest rs)

  -- with one more it is the greater of the two
  pub tallest-push : (rs : List (Frame K V)) (r : Frame K V) → tallest (rs ++ r ∷ []) ≡ max (tallest rs) (levels (children_of r.row.now))
  tallest-push [] r = omega arith
  tallest-push (q ∷ rs) r = omega (arith, tallest-push rs r)

  -- from i on it is the greater of that at i and those behind it
  pub tallest-next : (rs : List (Frame K V)) (i : ℕ) (r : Frame K V) → i < length rs → r ≡ get_or rs i r → tallest (drop i rs) ≡ max (levels (children_of r.row.now)) (tallest (drop (i + 1) rs))
  tallest-next rs i r lt at = rw (add-one, drop-cons rs i r, ← at) refl

  -- where none is left from i on, the greatest so far is that of all
  pub tallest-end : (rs items : List (Frame K V)) (at : Frame K V) (i most : ℕ) → items ≡ rs → length items ≤ i → max most (tallest (drop i items)) ≡ tallest (items ++ at ∷ []) → most ≡ tallest (rs ++ at ∷ [])
  tallest-end rs items at i most is end all = omega (arith, all, ap tallest (drop_all i items end), ap (λ xs. tallest (xs ++ at ∷ [])) is)

  -- full rows leave a pair for each level of one
  pub few-levels : (rs : List (Frame K V)) → HasFullRows (left_rows rs) → tallest rs ≤ length (stacked rs)
  few-levels [] full = omega arith
  few-levels (r ∷ rs) full =
      let row = children_of r.row.now in
      omega (arith, few-levels rs full.1, levels-pairs row full.0, length-append (stacked rs) (left_of r), length-append (first_pair r.own) (pairs_in_all row))

  -- a stack has room where the levels of each row fit above all of it
  pub room-tallest : (tall most i : ℕ) (rs : List (Frame K V)) → tallest rs ≤ suc tall → i + length rs + tall ≤ suc most → HasRowRoom (suc most) i (left_rows rs)
  room-tallest tall most i [] low fits = tt
  room-tallest tall most i (r ∷ rs) low fits = (omega (arith, low, fits), room-tallest tall most (suc i) rs (omega (arith, low)) (omega (arith, fits)))

  -- as many pairs are left in either direction
  left-length : (rs : List (Frame K V)) → length (left_in rs) ≡ length (stacked rs)
  left-length [] = refl
  left-length (r ∷ rs) = omega (arith, left-length rs, length-append (left_of r) (left_in rs), length-append (stacked rs) (left_of r))

  -- where a full row has a node, a pair is left
  module _ (rs : List (Frame K V)) (at : Frame K V) (some : 0 < length at.row.now) (full : HasFullRows (left_rows (rs ++ at ∷ []))) where
    a_pair : 0 < length (stacked (rs ++ at ∷ []))
    a_pair = omega (arith, levels-some at.row.now some, tallest-push rs at, few-levels (rs ++ at ∷ []) full)

    -- of a walk to the first one
    pub row_left : reverse (left_in (rs ++ at ∷ [])) ≡ [] → ⊥
    row_left bare = omega (arith, a_pair, ap length bare, length-reverse (left_in (rs ++ at ∷ [])), left-length (rs ++ at ∷ []))

  -- where the next node has a child, two pairs are left
  pub two_stacked : (rs : List (Frame K V)) (at : Frame K V) (t : Tree (KeyValue K V)) (others : Children (KeyValue K V)) → children_of at.row.now ≡ front t others → 0 < levels t.children → HasFullRows (left_rows (rs ++ at ∷ []))
      → 1 < length (stacked (rs ++ at ∷ []))
  two_stacked rs at t others is some full = omega (arith, ap levels is, some, tallest-push rs at, few-levels (rs ++ at ∷ []) full)

  -- the nodes of some children are those of the others, the last one, and those below it
  nodes_in-last_box : (pre : List (Box (TrieNode K V) Global)) (b : Box (TrieNode K V) Global)
      → nodes_in (children_of (pre ++ b ∷ [])) ≡ nodes_in (children_of pre) + nodes_in (tree_of b.value).children + 1
  nodes_in-last_box [] b = omega arith
  nodes_in-last_box (c ∷ pre) b = omega (arith, nodes_in-last_box pre b)

  -- the walk goes down from a node to the last of its children that are left
  module _ (rs new : List (Frame K V)) (at above below : Frame K V) (b : Box (TrieNode K V) Global)
      (cut : at.row.now ≡ above.row.now ++ b ∷ []) (pushed : new ≡ rs ++ above ∷ []) (children : children_of below.row.now ≡ (tree_of b.value).children) where
    -- the same pairs are left
    pub left-down : above.own ≡ at.own → first_pair below.own ≡ own_pair (tree_of b.value).pair → left_in (new ++ below ∷ []) ≡ left_in (rs ++ at ∷ [])
    left-down own pair =
        let before = pairs_in_all (children_of above.row.now) in
        let child = pairs_in (tree_of b.value) in
        left-push new below
        ∙ ap (λ ps. left_in new ++ ps) ((λ i. pair i ++ pairs_in_all (children i)) ∙ sym (pairs_of-entries_at [] (tree_of b.value)))
        ∙ left-pushed rs new above pushed child (left_of at) (
        append_assoc (first_pair above.own) before child
        ∙ (λ i. first_pair (own i) ++ sym (pairs_of-append (entries_in [] (children_of above.row.now)) (entries_at [] (tree_of b.value))) i)
        ∙ ap (λ es. first_pair at.own ++ pairs_of es) (sym (ap (λ bs. entries_in [] (children_of bs)) cut ∙ entries_in-last_box above.row.now b))
        ) ∙ sym (left-push rs at)

    -- the rows are full
    pub full-down : HasFullRows (left_rows (rs ++ at ∷ [])) → HasFullRows (left_rows (new ++ below ∷ []))
    full-down full =
        let p = full-popped rs at full in
        let all = subst (λ bs. IsFull (plain (children_of bs))) cut p.1 in
        full-pushed new (new ++ below ∷ []) below refl (full-pushed rs new above pushed p.0 (full-front above.row.now (b ∷ []) all)) (subst (λ k. IsFull (plain k)) (sym children) (last_box_full above.row.now b all).1)

    -- fewer turns are left
    pub turns-down : turns_left (left_rows (new ++ below ∷ [])) < turns_left (left_rows (rs ++ at ∷ []))
    turns-down = omega (
      arith,
      ap turns_left (rows-push new below),
      turns-push (left_rows new) (children_of below.row.now),
      ap turns_left (ap left_rows pushed ∙ rows-push rs above),
      turns-push (left_rows rs) (children_of above.row.now),
      ap turns_left (rows-push rs at),
      turns-push (left_rows rs) (children_of at.row.now),
      ap (λ bs. nodes_in (children_of bs)) cut,
      nodes_in-last_box above.row.now b,
      ap nodes_in children,
    )

  -- with the last one taken off, fewer turns are left
  pub turns-up : (rs : List (Frame K V)) (at : Frame K V) → turns_left (left_rows rs) < turns_left (left_rows (rs ++ at ∷ []))
  turns-up rs at = omega (arith, ap turns_left (rows-push rs at), turns-push (left_rows rs) (children_of at.row.now))

  -- where nothing is left of the last one, what the others have is left
  pub left-up : (rs : List (Frame K V)) (at : Frame K V) → left_of at ≡ [] → left_in (rs ++ at ∷ []) ≡ left_in rs
  left-up rs at bare = left-push rs at ∙ ap (λ ps. left_in rs ++ ps) bare ∙ append-nil (left_in rs)

  -- where a pair alone is left of the last one, it comes first on the way back, and then what is left without it
  pub own-last : (rs : List (Frame K V)) (at : Frame K V) (p : Bor (KeyValue K V)) → at.own ≡ Some p → children_of at.row.now ≡ none
      → reverse (left_in (rs ++ at ∷ [])) ≡ pair_of p.now ∷ reverse (left_in (rs ++ record { own = None; row = at.row } ∷ []))
  own-last rs at p is end =
      let bare : Frame K V = record { own = None; row = at.row } in
      ap reverse (left-push rs at ∙ (λ i. left_in rs ++ (first_pair (is i) ++ pairs_in_all (end i)))) ∙ reverse-append (left_in rs) (pair_of p.now ∷ [])
      ∙ ap (λ ps. pair_of p.now ∷ reverse ps) (sym (left-up rs bare (ap pairs_in_all end)))
