-- The lists of paths and of stored lists, by what they hold.
use Rattle.std.proofs.Common.{◌≡◌, ℕ, ◌⊎◌, List, [], ◌∷◌, ◌++◌, map, Option, Some, None, IsSome, option_map, false, true, refl, ap, sym, subst, ◌∙◌, inl, inr, append_assoc, append-nil}
use Rattle.std.specs.List.{cons_option}
use Rattle.std.proofs.lemmas.List.{map-append}
use Rattle.std.proofs.lemmas.List.Elements.{filter_map-append}
use Rattle.nibble_map.specs.Swaps.{entry}
use Rattle.nibble_map.specs.Lists.{Has}
use Rattle.nibble_map.specs.Stored.{stored, IsStored}
use Rattle.nibble_map.specs.Trees.{Forest, bare, grow, Node, nodes_below, paths, entries}
use Rattle.nibble_map.proofs.TreeLemmas.Shape.{Under, In, At}

-- an element of xs is an element of xs ++ ys
pub Has-left : {A : Type 0} (xs ys : List A) (x : A) → Has xs x → Has (xs ++ ys) x
Has-left [] ys x h = absurd h
Has-left (z ∷ xs) ys x (inl e) = inl e
Has-left (z ∷ xs) ys x (inr h) = inr (Has-left xs ys x h)

-- an element of ys is an element of xs ++ ys
pub Has-right : {A : Type 0} (xs ys : List A) (x : A) → Has ys x → Has (xs ++ ys) x
Has-right [] ys x h = h
Has-right (z ∷ xs) ys x h = inr (Has-right xs ys x h)

-- an element of xs ++ ys is an element of xs or one of ys
pub Has-cases : {A : Type 0} (xs ys : List A) (x : A) → Has (xs ++ ys) x → Has xs x ⊎ Has ys x
Has-cases [] ys x h = inr h
Has-cases (z ∷ xs) ys x (inl e) = inl (inl e)
Has-cases (z ∷ xs) ys x (inr h) = elim (Has-cases xs ys x h) [ inl k ↦ inl (inr k) | inr k ↦ inr k ]

-- an element of xs with f of each in its place is f of an element of xs
pub map_has : {A B : Type 0} (f : A → B) (xs : List A) (y : B) → Has (map f xs) y → (x : A) × (y ≡ f x) × Has xs x
map_has f [] y h = absurd h
map_has f (x ∷ xs) y (inl e) = (x, e, inl refl)
map_has f (x ∷ xs) y (inr h) = let r = map_has f xs y h in (r.0, r.1, inr r.2)

-- f of an element of xs is an element of xs with f of each in its place
pub has_map : {A B : Type 0} (f : A → B) (xs : List A) (x : A) → Has xs x → Has (map f xs) (f x)
has_map f [] x h = absurd h
has_map f (y ∷ xs) x (inl e) = inl (ap f e)
has_map f (y ∷ xs) x (inr h) = inr (has_map f xs x h)

-- a pair's list is among the stored ones
pub Has-stored : {P : Type 0} (es : List (List ℕ × P)) (x : List ℕ) (v : P) → Has es (x, v) → Has (stored es) x
Has-stored [] x v h = h
Has-stored (e ∷ es) x v (inl i) = inl (ap (λ z. z.0) i)
Has-stored (e ∷ es) x v (inr h) = inr (Has-stored es x v h)

-- where o is `Some v`, the list `entry p o` has v at p
pub Has-entry_some : {P : Type 0} (p : List ℕ) (o : Option P) (v : P) → o ≡ Some v → Has (entry p o) (p, v)
Has-entry_some p o v e = subst (λ o. Has (entry p o) (p, v)) (sym e) (inl refl)

-- the paths of two lists of nodes, joined, are those of the one and then those of the other
pub paths-append : {P : Type 0} (xs ys : List (Node P)) → paths (xs ++ ys) ≡ paths xs ++ paths ys
paths-append [] ys = refl
paths-append (x ∷ xs) ys = ap (λ l. x.path ∷ l) (paths-append xs ys)

-- the entries of two lists of nodes, joined, are those of the one and then of the other
pub entries-append : {P : Type 0} (xs ys : List (Node P)) → entries (xs ++ ys) ≡ entries xs ++ entries ys
entries-append xs ys = filter_map-append (λ n. option_map (λ v. (n.path, v)) n.pair) xs ys

-- the stored lists of some nodes, in parts
stored-append : {P : Type 0} (xs ys : List (Node P)) → stored (entries (xs ++ ys)) ≡ stored (entries xs) ++ stored (entries ys)
stored-append xs ys = ap stored (entries-append xs ys) ∙ map-append (λ e. e.0) (entries xs) (entries ys)

-- a path of k's nodes below q is q and then a list that leads from k's place to a node
pub path_at : {P : Type 0} (q : List ℕ) (k : Forest P) (p : List ℕ) → Has (paths (nodes_below q k)) p → Under q (At k) p
path_at q bare p h = absurd h
path_at q (grow f o children others) p (inl e) = (f, e, inl ([], sym (append-nil f), inl refl))
path_at q (grow f o children others) p (inr h) =
    elim (Has-cases (paths (nodes_below (q ++ f) children)) _ p (rw (paths-append (nodes_below (q ++ f) children)) at h)) [
      | inl k ↦ let r = path_at (q ++ f) children p k in (f ++ r.0, r.1 ∙ append_assoc q f r.0, inl (r.0, refl, inr r.2))
      | inr k ↦ let r = path_at q others p k in (r.0, r.1, inr r.2)
    ]

-- q and then a list that leads from k's place to a node is a path of k's nodes below q
pub at_path : {P : Type 0} (q : List ℕ) (k : Forest P) (p : List ℕ) → Under q (At k) p → Has (paths (nodes_below q k)) p
at_path q bare p (x, e, a) = absurd a
at_path q (grow f o children others) p (x, e, inl (y, e', inl n)) = inl (rw (e, e', n, append-nil) refl)
at_path q (grow f o children others) p (x, e, inl (y, e', inr a)) =
    inr (rw (paths-append (nodes_below (q ++ f) children)) (Has-left _ _ p (at_path (q ++ f) children p (y, e ∙ ap (λ z. q ++ z) e' ∙ sym (append_assoc q f y), a))))
at_path q (grow f o children others) p (x, e, inr a) =
    inr (rw (paths-append (nodes_below (q ++ f) children)) (Has-right (paths (nodes_below (q ++ f) children)) _ p (at_path q others p (x, e, a))))

-- the first of the nodes is put before the others' lists
-- what the later nodes store stays stored with the first node's pair, if any, put before
pub later_stored : {P : Type 0} (p : List ℕ) (o : Option P) (ms : List (List ℕ × P)) (x : List ℕ) →
    IsStored ms x → IsStored (cons_option (option_map (λ v. (p, v)) o) ms) x
later_stored p None ms x h = h
later_stored p (Some v) ms x h = inr h

-- the path of a first node that has a pair is stored
first_stored : {P : Type 0} (p : List ℕ) (o : Option P) (ms : List (List ℕ × P)) (x : List ℕ) →
    x ≡ p → IsSome o → IsStored (cons_option (option_map (λ v. (p, v)) o) ms) x
first_stored p None ms x e h = absurd (let i : false ≡ true = h in cc)
first_stored p (Some v) ms x e h = inl e

-- a stored list is the first node's path, and that node has a pair, or a later node stores it
pub stored_cases : {P : Type 0} (p : List ℕ) (o : Option P) (ms : List (List ℕ × P)) (x : List ℕ) →
    IsStored (cons_option (option_map (λ v. (p, v)) o) ms) x → ((x ≡ p) × IsSome o) ⊎ IsStored ms x
stored_cases p None ms x h = inr h
stored_cases p (Some v) ms x (inl e) = inl (e, refl)
stored_cases p (Some v) ms x (inr h) = inr h

-- a list that k's nodes below q store is q and then a list that leads to an entry of k
pub stored_in : {P : Type 0} (q : List ℕ) (k : Forest P) (p : List ℕ) → IsStored (entries (nodes_below q k)) p → Under q (In k) p
stored_in q bare p h = absurd h
stored_in q (grow f o children others) p h =
    elim (stored_cases (q ++ f) o _ p h) [
      | inl n ↦ (f, n.0, inl ([], sym (append-nil f), inl (refl, n.1)))
      | inr i ↦ elim (Has-cases (stored (entries (nodes_below (q ++ f) children))) _ p (rw (stored-append (nodes_below (q ++ f) children)) at i)) [
        | inl k ↦ let r = stored_in (q ++ f) children p k in (f ++ r.0, r.1 ∙ append_assoc q f r.0, inl (r.0, refl, inr r.2))
        | inr k ↦ let r = stored_in q others p k in (r.0, r.1, inr r.2)
      ]
    ]

-- q and then a list that leads to an entry of k is stored by k's nodes below q
pub in_stored : {P : Type 0} (q : List ℕ) (k : Forest P) (p : List ℕ) → Under q (In k) p → IsStored (entries (nodes_below q k)) p
in_stored q bare p (x, e, a) = absurd a
in_stored q (grow f o children others) p (x, e, inl (y, e', inl n)) = first_stored (q ++ f) o _ p (rw (e, e', n.0, append-nil) refl) n.1
in_stored q (grow f o children others) p (x, e, inl (y, e', inr a)) =
    later_stored (q ++ f) o _ p (rw (stored-append (nodes_below (q ++ f) children)) (Has-left _ _ p (in_stored (q ++ f) children p (y, e ∙ ap (λ z. q ++ z) e' ∙ sym (append_assoc q f y), a))))
in_stored q (grow f o children others) p (x, e, inr a) =
    later_stored (q ++ f) o _ p (rw (stored-append (nodes_below (q ++ f) children)) (Has-right (stored (entries (nodes_below (q ++ f) children))) _ p (in_stored q others p (x, e, a))))
