-- Trees with the same stored lists have the same paths and fragments.
use Rattle.nibble_map.specs.Answers.{IsFragment}
use Rattle.std.proofs.Common.{◌≡◌, ℕ, ◌↔◌, List, [], ◌∷◌, refl, sym, subst}
use Rattle.nibble_map.specs.Lists.{Each}
use Rattle.nibble_map.specs.Stored.{IsStored}
use Rattle.nibble_map.specs.Trees.{FragmentTree, Node, nodes, paths, entries, IsShaped, paths_and_fragments}
use Rattle.nibble_map.proofs.ListLemmas.Cut.{cons_tail, cons_head}
use Rattle.nibble_map.proofs.PointLemmas.Moves.{point_moves, fragment_moves}
use Rattle.nibble_map.proofs.ListLemmas.Parted.{fragment_unique}
use Rattle.nibble_map.proofs.TreeLemmas.Points.{tree_points}
use Rattle.nibble_map.proofs.ListLemmas.Unique.{rising_unique}
use Rattle.nibble_map.proofs.TreeLemmas.Fragments.{tree_fragments}

-- shaped trees with the same stored lists have the same paths
paths-same_stored : {P Q : Type 0} (t : FragmentTree P) (u : FragmentTree Q) → IsShaped 0 t.children → IsShaped 0 u.children →
    ((e : List ℕ) → IsStored (entries (nodes t)) e ↔ IsStored (entries (nodes u)) e) → paths (nodes t) ≡ paths (nodes u)
paths-same_stored t u s s' h =
    let a = tree_points t s in
    let b = tree_points u s' in
    rising_unique (paths (nodes t)) (paths (nodes u)) a.rising b.rising
    (λ p i. (b.exactly p).1 (point_moves _ _ (λ e. (h e).0) p ((a.exactly p).0 i)))
    (λ p i. (a.exactly p).1 (point_moves _ _ (λ e. (h e).1) p ((b.exactly p).0 i)))

-- nodes with the same paths, and their points' fragments, have the same paths and fragments
parts_zipped : {P Q : Type 0} (m : List (List ℕ × P)) (n : List (List ℕ × Q)) → ((e : List ℕ) → IsStored m e → IsStored n e) → ((e : List ℕ) → IsStored n e → IsStored m e) →
    (ns : List (Node P)) (ks : List (Node Q)) → paths ns ≡ paths ks → Each (λ a. IsFragment (IsStored m) a.path a.fragment) ns → Each (λ a. IsFragment (IsStored n) a.path a.fragment) ks → paths_and_fragments ns ≡ paths_and_fragments ks
parts_zipped m n to from [] [] e h k = refl
parts_zipped m n to from [] (b ∷ ks) e h k = absurd (let i : [] ≡ b.path ∷ paths ks = e in cc i)
parts_zipped m n to from (a ∷ ns) [] e h k = absurd (let i : a.path ∷ paths ns ≡ [] = e in cc i)
parts_zipped m n to from (a ∷ ns) (b ∷ ks) e h k = both (parts_zipped m n to from ns ks (cons_tail e) h.1 k.1)
  where
    fragments : a.fragment ≡ b.fragment
    fragments = fragment_unique (IsStored n) a.path a.fragment b.fragment (fragment_moves (IsStored m) (IsStored n) to from a.path a.fragment h.0) (subst (λ v. IsFragment (IsStored n) v b.fragment) (sym (cons_head e)) k.0)

    pair : {x y u v : List ℕ} → x ≡ y → u ≡ v → Path (List ℕ × List ℕ) (x, u) (y, v)
    pair i j = λ d. (i d, j d)

    both : paths_and_fragments ns ≡ paths_and_fragments ks → paths_and_fragments (a ∷ ns) ≡ paths_and_fragments (b ∷ ks)
    both i = rw (pair (cons_head e) fragments, i) refl

-- shaped trees with the same stored lists have the same paths and fragments
pub paths_and_fragments-same_stored : {P Q : Type 0} (t : FragmentTree P) (u : FragmentTree Q) → IsShaped 0 t.children → IsShaped 0 u.children →
    ((e : List ℕ) → IsStored (entries (nodes t)) e ↔ IsStored (entries (nodes u)) e) → paths_and_fragments (nodes t) ≡ paths_and_fragments (nodes u)
paths_and_fragments-same_stored t u s s' h = parts_zipped _ _ (λ e. (h e).0) (λ e. (h e).1) (nodes t) (nodes u) (paths-same_stored t u s s' h) (tree_fragments t s) (tree_fragments u s')
