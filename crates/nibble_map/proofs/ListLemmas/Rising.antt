-- The paths of a shaped forest rise.
use Rattle.std.proofs.Common.{ℕ, suc, ◌≤◌, ◌≢◌, List, [], ◌∷◌, ◌++◌, refl, inl, inr, append_assoc, append-nil}
use Rattle.nibble_map.specs.Lists.{IsBefore, Has, Each, IsRising}
use Rattle.nibble_map.specs.Trees.{Forest, bare, grow, nodes_below, paths, first, IsShaped}
use Rattle.nibble_map.proofs.TreeLemmas.Shape.{At-headed}
use Rattle.nibble_map.proofs.ListLemmas.Members.{path_at, paths-append}

-- what holds of whatever xs has holds of each element of xs
pub Each-from_has : {A : Type 0} (Q : A → Type 0) (xs : List A) → ((x : A) → Has xs x → Q x) → Each Q xs
Each-from_has Q [] h = tt
Each-from_has Q (x ∷ xs) h = (h x (inl refl), Each-from_has Q xs (λ y k. h y (inr k)))

-- what holds of each element of xs and each of ys holds of each element of xs ++ ys
pub Each-append : {A : Type 0} (Q : A → Type 0) (xs ys : List A) → Each Q xs → Each Q ys → Each Q (xs ++ ys)
Each-append Q [] ys h k = k
Each-append Q (x ∷ xs) ys h k = (h.0, Each-append Q xs ys h.1 k)

-- rising lists, joined, rise where each list of the one comes before each of the other
pub IsRising-append : (xs ys : List (List ℕ)) → IsRising xs → IsRising ys → ((x : List ℕ) → Has xs x → (y : List ℕ) → Has ys y → IsBefore x y) → IsRising (xs ++ ys)
IsRising-append [] ys h k l = k
IsRising-append (x ∷ xs) ys h k l =
    (Each-append (IsBefore x) xs ys h.0 (Each-from_has (IsBefore x) ys (l x (inl refl))), IsRising-append xs ys h.1 k (λ z i. l z (inr i)))

-- two lists keep their order when the same q is put before both
pub before_under : (q x y : List ℕ) → IsBefore x y → IsBefore (q ++ x) (q ++ y)
before_under [] x y h = h
before_under (a ∷ q) x y h = inr (refl, before_under q x y h)

-- a list comes before what goes on from it
pub before_more : (q : List ℕ) (a : ℕ) (w : List ℕ) → IsBefore q (q ++ a ∷ w)
before_more [] a w = tt
before_more (b ∷ q) a w = inr (refl, before_more q a w)

-- what begins with f comes before what begins with a greater nibble
pub before_by_first : (f y : List ℕ) (b : ℕ) (w : List ℕ) → f ≢ [] → suc (first f) ≤ b → IsBefore (f ++ y) (b ∷ w)
before_by_first [] y b w n l = absurd (n refl)
before_by_first (a ∷ f) y b w n l = inl l

-- the paths of a shaped forest's nodes rise
pub paths_rise : {P : Type 0} (low : ℕ) (q : List ℕ) (k : Forest P) → IsShaped low k → IsRising (paths (nodes_below q k))
paths_rise low q bare s = tt
paths_rise low q (grow f o children others) s =
    rw (paths-append (nodes_below (q ++ f) children)) (
      Each-append (IsBefore (q ++ f)) _ _ (Each-from_has (IsBefore (q ++ f)) _ below) (Each-from_has (IsBefore (q ++ f)) _ beside),
      IsRising-append _ _ (paths_rise 0 (q ++ f) children s.3) (paths_rise (suc (first f)) q others s.4) apart,
    )
  where
    below : (x : List ℕ) → Has (paths (nodes_below (q ++ f) children)) x → IsBefore (q ++ f) x
    below x h = let r = path_at (q ++ f) children x h in let a = At-headed 0 children r.0 s.3 r.2 in rw (r.1, a.2) (before_more (q ++ f) a.0 a.1)

    beside : (x : List ℕ) → Has (paths (nodes_below q others)) x → IsBefore (q ++ f) x
    beside x h = let r = path_at q others x h in let a = At-headed (suc (first f)) others r.0 s.4 r.2 in
        rw (r.1, a.2) (before_under q f (a.0 ∷ a.1) (rw append-nil at (before_by_first f [] a.0 a.1 s.0 a.3)))

    apart : (x : List ℕ) → Has (paths (nodes_below (q ++ f) children)) x → (y : List ℕ) → Has (paths (nodes_below q others)) y → IsBefore x y
    apart x h y k =
        let u = path_at (q ++ f) children x h in
        let r = path_at q others y k in
        let a = At-headed (suc (first f)) others r.0 s.4 r.2 in
        rw (u.1, append_assoc, r.1, a.2) (before_under q (f ++ u.0) (a.0 ∷ a.1) (before_by_first f u.0 a.0 a.1 s.0 a.3))
