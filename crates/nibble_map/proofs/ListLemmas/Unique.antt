-- Rising lists with the same members are one list.
use Rattle.std.proofs.Common.{◌≡◌, ℕ, List, [], ◌∷◌, length, Option, Some, None, option_map, refl, ap, sym, subst, ◌∙◌, inl, inr, arith}
use Rattle.std.specs.List.{cons_option}
use Rattle.nibble_map.specs.Lists.{IsBefore, Has, Each, IsRising, Lists, Counts}
use Rattle.nibble_map.specs.Stored.{stored}
use Rattle.nibble_map.specs.Trees.{FragmentTree, Node, nodes, paths, entries, IsShaped}
use Rattle.nibble_map.proofs.TreeLemmas.SomePrefixes.{before_through}
use Rattle.nibble_map.proofs.ListLemmas.Rising.{Each-from_has}
use Rattle.nibble_map.proofs.ListLemmas.Members.{stored_cases}
use Rattle.nibble_map.proofs.TreeLemmas.Points.{tree_points}

-- what holds of each element of xs holds of whatever xs has
pub Each-has : {A : Type 0} (Q : A → Type 0) (xs : List A) (x : A) → Each Q xs → Has xs x → Q x
Each-has Q [] x h k = absurd k
Each-has Q (y ∷ xs) x h (inl e) = subst Q (sym e) h.0
Each-has Q (y ∷ xs) x h (inr k) = Each-has Q xs x h.1 k

-- no list comes before itself
pub before_not_itself : (x : List ℕ) → IsBefore x x → ⊥
before_not_itself [] h = h
before_not_itself (a ∷ x) (inl h) = omega arith
before_not_itself (a ∷ x) (inr h) = before_not_itself x h.1

-- rising lists with the same elements are equal
pub rising_unique : (xs ys : List (List ℕ)) → IsRising xs → IsRising ys → ((p : List ℕ) → Has xs p → Has ys p) → ((p : List ℕ) → Has ys p → Has xs p) → xs ≡ ys
rising_unique [] [] h k to from = refl
rising_unique [] (y ∷ ys) h k to from = absurd (from y (inl refl))
rising_unique (x ∷ xs) [] h k to from = absurd (to x (inl refl))
rising_unique (x ∷ xs) (y ∷ ys) h k to from = both (rising_unique xs ys h.1 k.1 to_tail from_tail)
  where
    same : x ≡ y
    same = elim (to x (inl refl)) [
      | inl e ↦ e
      | inr i ↦ elim (from y (inl refl)) [
        | inl e ↦ sym e
        | inr j ↦ absurd (before_not_itself x (before_through x y x (Each-has (IsBefore x) xs y h.0 j) (Each-has (IsBefore y) ys x k.0 i)))
      ]
    ]

    to_tail : (p : List ℕ) → Has xs p → Has ys p
    to_tail p i = elim (to p (inr i)) [
      | inl e ↦ absurd (before_not_itself x (subst (IsBefore x) (e ∙ sym same) (Each-has (IsBefore x) xs p h.0 i)))
      | inr j ↦ j
    ]

    from_tail : (p : List ℕ) → Has ys p → Has xs p
    from_tail p i = elim (from p (inr i)) [
      | inl e ↦ absurd (before_not_itself y (subst (IsBefore y) (e ∙ same) (Each-has (IsBefore y) ys p k.0 i)))
      | inr j ↦ j
    ]

    both : xs ≡ ys → x ∷ xs ≡ y ∷ ys
    both e = rw (same, e) refl

-- two rising lists of exactly what S holds of are equal
pub Lists-unique : (S : List ℕ → Type 0) (xs ys : List (List ℕ)) → Lists S xs → Lists S ys → xs ≡ ys
Lists-unique S xs ys h k = rising_unique xs ys h.rising k.rising (λ p i. (k.exactly p).1 ((h.exactly p).0 i)) (λ p i. (h.exactly p).1 ((k.exactly p).0 i))

-- two counts of what S holds of are equal
pub Counts-unique : (S : List ℕ → Type 0) (m n : ℕ) → Counts S m → Counts S n → m ≡ n
Counts-unique S m n h k = sym h.length_is ∙ ap length (Lists-unique S h.list k.list h.lists k.lists) ∙ k.length_is

-- a tree's entries rise
-- a list that some nodes store is the path of one of them
pub stored_path : {P : Type 0} (ns : List (Node P)) (x : List ℕ) → Has (stored (entries ns)) x → Has (paths ns) x
stored_path [] x h = h
stored_path (n ∷ ns) x h = elim (stored_cases n.path n.pair (entries ns) x h) [ inl k ↦ inl k.0 | inr k ↦ inr (stored_path ns x k) ]

-- entries rise with a pair, if there is one, put before them at a list that is before theirs
put_rising : {P : Type 0} (p : List ℕ) (o : Option P) (ms : List (List ℕ × P)) → Each (IsBefore p) (stored ms) → IsRising (stored ms) → IsRising (stored (cons_option (option_map (λ v. (p, v)) o) ms))
put_rising p None ms h k = k
put_rising p (Some v) ms h k = (h, k)

-- where the paths of some nodes rise, so do the lists of their entries
entries_rising : {P : Type 0} (ns : List (Node P)) → IsRising (paths ns) → IsRising (stored (entries ns))
entries_rising [] h = tt
entries_rising (n ∷ ns) h =
    put_rising n.path n.pair (entries ns) (Each-from_has (IsBefore n.path) (stored (entries ns)) (λ x k. Each-has (IsBefore n.path) (paths ns) x h.0 (stored_path ns x k))) (entries_rising ns h.1)

-- the lists of a shaped tree's entries rise
pub tree_entries_rise : {P : Type 0} (t : FragmentTree P) → IsShaped 0 t.children → IsRising (stored (entries (nodes t)))
tree_entries_rise t s = entries_rising (nodes t) (tree_points t s).rising
