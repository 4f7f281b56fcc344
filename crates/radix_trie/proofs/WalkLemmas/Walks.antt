-- The rows of a walk, as plain data: how many turns they take, and the room that they need.
use Rattle.std.proofs.Common.{◌≡◌, ℕ, suc, ◌+◌, ◌*◌, ◌<◌, ◌≤◌, List, [], ◌∷◌, ◌++◌, length, ap, length-append, arith, Some}
use Rattle.std.specs.Bool.{⊤}
use Rattle.std.specs.Iterator.{MakesProgress, item_count}
use Rattle.masked_tree.specs.Tree.{Tree, Children, none, more, front, nodes_in}
use Rattle.masked_tree.specs.Sizes.{levels}
use Rattle.radix_trie.specs.Walks.{HasRowRoom, rows_at, with_row}

-- an item lowers what is left
pub item_progress : {X A : Type 0} (s t : List X) (x : X) (r : A) → s ≡ x ∷ t
    → MakesProgress {A = A} (λ (l : List X). ⊤) (item_count (λ (l : List X). l)) s (Some r) t
item_progress s t x r e = record { on = λ _. (tt, tt, omega (arith, ap length e)); keeps = tt; rests = λ _. tt }

module _ {P : Type 0} where
  -- how many turns a row takes at most
  abbrev pub row_turns : Children P → ℕ
  row_turns r = 2 * nodes_in r + 1

  -- how many turns a walk takes at most
  abbrev pub turns_left : List (Children P) → ℕ
  turns_left [] = 0
  turns_left (r ∷ rs) = turns_left rs + row_turns r

  -- a row more takes its own turns more
  pub turns-push : (rs : List (Children P)) (r : Children P) → turns_left (rs ++ r ∷ []) ≡ turns_left rs + row_turns r
  turns-push [] r = omega arith
  turns-push (q ∷ rs) r = omega (arith, turns-push rs r)

  -- a row more, if it isn't empty, takes at most its own turns more
  turns-with_row : (rs : List (Children P)) (r : Children P) → turns_left (with_row rs r) ≤ turns_left rs + row_turns r
  turns-with_row rs none = omega arith
  turns-with_row rs (more f o m children others) = omega (arith, turns-push rs (more f o m children others))

  -- a row more, if it isn't empty, makes the rows at most one longer
  length-with_row : (rs : List (Children P)) (r : Children P) → length (with_row rs r) ≤ length rs + 1
  length-with_row rs none = omega arith
  length-with_row rs (more f o m children others) = omega (arith, length-append rs (more f o m children others ∷ []))

  -- a stack has room for a row more, where the row's levels fit above it
  room-push : (most i : ℕ) (rs : List (Children P)) (r : Children P) → HasRowRoom most i rs
      → i + length rs + levels r ≤ most → HasRowRoom most i (rs ++ r ∷ [])
  room-push most i [] r h fits = (omega arith, tt)
  room-push most i (q ∷ rs) r h fits = (h.0, room-push most (suc i) rs r h.1 (omega arith))

  -- a stack with room has room without its last row, whose levels fit above the others
  pub room-pop : (most i : ℕ) (rs : List (Children P)) (r : Children P) → HasRowRoom most i (rs ++ r ∷ [])
      → HasRowRoom most i rs × (i + length rs + levels r ≤ most)
  room-pop most i [] r h = (tt, omega arith)
  room-pop most i (q ∷ rs) r h = let p = room-pop most (suc i) rs r h.1 in ((h.0, p.0), omega (arith, p.1))

  -- a stack has room for a row more, if it isn't empty, where the row's levels fit above it
  room-with_row : (most : ℕ) (rs : List (Children P)) (r : Children P) → HasRowRoom most 0 rs → length rs + levels r ≤ most
      → HasRowRoom most 0 (with_row rs r)
  room-with_row most rs none h fits = h
  room-with_row most rs (more f o m children others) h fits = room-push most 0 rs (more f o m children others) h (omega arith)

  -- with more room there is room
  pub room-more : (most more_room i : ℕ) (rs : List (Children P)) → most ≤ more_room → HasRowRoom most i rs → HasRowRoom more_room i rs
  room-more most more_room i [] le h = tt
  room-more most more_room i (r ∷ rs) le h = (omega (arith, le, h.0), room-more most more_room (suc i) rs le h.1)

  -- a turn at a node with the children `below` and these others beside it
  module _ (rs : List (Children P)) (others : Children P) where
    -- its rows take at most their own turns more
    turns-rows_at : (below : Children P) → turns_left (rows_at rs below others) ≤ turns_left rs + row_turns others + row_turns below
    turns-rows_at none = omega (arith, turns-push rs others)
    turns-rows_at (more f o m below beside) =
        omega (arith, turns-push (with_row rs others) (more f o m below beside), turns-with_row rs others)

    -- there is room for its rows where the levels of the node and of the others fit
    room-rows_at : (most : ℕ) (below : Children P) → HasRowRoom most 0 rs → length rs + suc (levels below) ≤ most → length rs + levels others ≤ most
        → HasRowRoom most 0 (rows_at rs below others)
    room-rows_at most none h under beside = room-push most 0 rs others h (omega (arith, beside))
    room-rows_at most (more f o m below besides) h under beside =
        room-push most 0 (with_row rs others) (more f o m below besides) (room-with_row most rs others h beside)
        (omega (arith, under, length-with_row rs others))

    module _ (t : Tree P) where
      -- after the turn fewer turns are left
      pub turns-at : turns_left (rows_at rs t.children others) < turns_left (rs ++ front t others ∷ [])
      turns-at = omega (arith, turns-rows_at t.children, turns-push rs (front t others))

      module _ (most : ℕ) (h : HasRowRoom most 0 (rs ++ front t others ∷ [])) where
        -- after it there is still room
        pub room-at : HasRowRoom most 0 (rows_at rs t.children others)
        room-at = let p = room-pop most 0 rs (front t others) h in room-rows_at most t.children p.0 (omega (arith, p.1)) (omega (arith, p.1))

        -- where the node has a child, its row and that of the others fit
        pub fits-at : 0 < levels t.children → length rs + 1 < most
        fits-at some = omega (arith, some, (room-pop most 0 rs (front t others) h).1)
