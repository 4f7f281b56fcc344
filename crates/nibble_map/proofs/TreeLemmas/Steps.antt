-- Insertion and removal in a shaped tree, by its entries.
use Rattle.std.proofs.Common.{◌≡◌, ℕ, ◌≢◌, ◌⊎◌, ◌↔◌, List, [], ◌∷◌, ◌++◌, Option, Some, None, option_map, refl, ap, sym, subst, ◌∙◌, inl, inr, append_assoc, append-nil, arith}
use Rattle.std.specs.List.{cons_option}
use Rattle.nibble_map.specs.Lists.{Has}
use Rattle.nibble_map.specs.Stored.{IsSetAt, IsCutAt}
use Rattle.nibble_map.specs.Trees.{Forest, bare, grow, FragmentTree, nodes, nodes_below, entries, IsShaped}
use Rattle.nibble_map.proofs.ListLemmas.Cut.{cons_not_empty}
use Rattle.nibble_map.proofs.ListLemmas.Members.{Has-left, Has-right, Has-cases, entries-append}
use Rattle.nibble_map.proofs.TreeLemmas.Shape.{Under}
use Rattle.nibble_map.proofs.ListLemmas.Unique.{tree_entries_rise}
use Rattle.nibble_map.proofs.TreeLemmas.Edits.{Holds, Changes, none_here}
use Rattle.nibble_map.proofs.TreeLemmas.Insertion.{forest_takes_entry, Some_equal_iff}
use Rattle.nibble_map.proofs.TreeLemmas.Removal.{take_out}
use Rattle.nibble_map.proofs.MapLemmas.Edits.{not_None}

-- with a pair, if there is one, put before them the entries are that pair and the others
put_has : {P : Type 0} (p : List ℕ) (o : Option P) (ms : List (List ℕ × P)) (x : List ℕ) (w : P) →
    Has (cons_option (option_map (λ v. (p, v)) o) ms) (x, w) ↔ (((x ≡ p) × (o ≡ Some w)) ⊎ Has ms (x, w))
put_has p None ms x w = ((λ h. inr h), (λ h. elim h [ inl m ↦ absurd (let i : None ≡ Some w = m.1 in cc i) | inr k ↦ k ]))
put_has {P} p (Some v) ms x w = (to, from)
  where
    to : Has ((p, v) ∷ ms) (x, w) → ((x ≡ p) × (Some v ≡ Some w)) ⊎ Has ms (x, w)
    to (inl e) = inl (ap (λ q. q.0) e, ap (λ c. Some c) (sym (ap (λ q. q.1) e)))
    to (inr h) = inr h

    pair : {a b : List ℕ} {c d : P} → a ≡ b → c ≡ d → Path (List ℕ × P) (a, c) (b, d)
    pair e h = λ i. (e i, h i)

    from : (((x ≡ p) × (Some v ≡ Some w)) ⊎ Has ms (x, w)) → Has ((p, v) ∷ ms) (x, w)
    from (inl m) = inl (pair m.0 ((Some_equal_iff v w).0 m.1))
    from (inr h) = inr h

-- an entry of k's nodes below q is at q and then a list at which k holds it
entry_in : {P : Type 0} (q : List ℕ) (k : Forest P) (p : List ℕ) (w : P) → Has (entries (nodes_below q k)) (p, w) → Under q (λ x. Holds k x w) p
entry_in q bare p w h = absurd h
entry_in q (grow f o children others) p w h =
    elim ((put_has (q ++ f) o _ p w).0 h) [
      | inl n ↦ (f, n.0, inl ([], sym (append-nil f), inl (refl, n.1)))
      | inr i ↦ elim (Has-cases (entries (nodes_below (q ++ f) children)) _ (p, w) (rw (entries-append (nodes_below (q ++ f) children)) at i)) [
        | inl k ↦ let r = entry_in (q ++ f) children p w k in (f ++ r.0, r.1 ∙ append_assoc q f r.0, inl (r.0, refl, inr r.2))
        | inr k ↦ let r = entry_in q others p w k in (r.0, r.1, inr r.2)
      ]
    ]

-- what k holds at x is an entry of k's nodes below q, at q and x
in_entry : {P : Type 0} (q : List ℕ) (k : Forest P) (p : List ℕ) (w : P) → Under q (λ x. Holds k x w) p → Has (entries (nodes_below q k)) (p, w)
in_entry q bare p w (x, e, a) = absurd a
in_entry q (grow f o children others) p w (x, e, inl (y, e', inl n)) = (put_has (q ++ f) o _ p w).1 (inl (rw (e, e', n.0, append-nil) refl, n.1))
in_entry q (grow f o children others) p w (x, e, inl (y, e', inr a)) =
    (put_has (q ++ f) o _ p w).1 (inr (rw (entries-append (nodes_below (q ++ f) children))
    (Has-left _ _ (p, w) (in_entry (q ++ f) children p w (y, e ∙ ap (λ z. q ++ z) e' ∙ sym (append_assoc q f y), a)))))
in_entry q (grow f o children others) p w (x, e, inr a) =
    (put_has (q ++ f) o _ p w).1 (inr (rw (entries-append (nodes_below (q ++ f) children))
    (Has-right (entries (nodes_below (q ++ f) children)) _ (p, w) (in_entry q others p w (x, e, a)))))

-- the entries of a tree
-- a tree's entries are the root's pair, at the empty list, and what its children hold
tree_entry : {P : Type 0} (t : FragmentTree P) (x : List ℕ) (w : P) → Has (entries (nodes t)) (x, w) ↔ (((x ≡ []) × (t.top ≡ Some w)) ⊎ Holds t.children x w)
tree_entry {P} t x w = (
  (λ h. elim ((put_has [] t.top _ x w).0 h) [ inl n ↦ inl n | inr i ↦ inr (from_root (entry_in [] t.children x w i)) ]),
  (λ h. (put_has [] t.top _ x w).1 (elim h [ inl n ↦ inl n | inr i ↦ inr (in_entry [] t.children x w (x, refl, i)) ])),
)
  where
    from_root : Under [] (λ y. Holds t.children y w) x → Holds t.children x w
    from_root (y, e, h) = subst (λ v. Holds t.children v w) (sym e) h

-- a change of the root's pair
-- with another root's pair the entries change at the empty list, and nowhere else
root_changed : {P : Type 0} (t : FragmentTree P) → IsShaped 0 t.children → (o : Option P) (x : List ℕ) (w : P) →
    Has (entries (nodes record { top = o; children = t.children })) (x, w) ↔ (((x ≡ []) × (o ≡ Some w)) ⊎ ((x ≢ []) × Has (entries (nodes t)) (x, w)))
root_changed {P} t s o x w = (to, from)
  where
    to : Has (entries (nodes record { top = o; children = t.children })) (x, w) → ((x ≡ []) × (o ≡ Some w)) ⊎ ((x ≢ []) × Has (entries (nodes t)) (x, w))
    to h = elim ((tree_entry record { top = o; children = t.children } x w).0 h) [
      | inl n ↦ inl n
      | inr k ↦ inr ((λ i. none_here 0 t.children w s (subst (λ y. Holds t.children y w) i k)), (tree_entry t x w).1 (inr k))
    ]

    from : (((x ≡ []) × (o ≡ Some w)) ⊎ ((x ≢ []) × Has (entries (nodes t)) (x, w))) → Has (entries (nodes record { top = o; children = t.children })) (x, w)
    from (inl n) = (tree_entry record { top = o; children = t.children } x w).1 (inl n)
    from (inr n) = (tree_entry record { top = o; children = t.children } x w).1 (elim ((tree_entry t x w).0 n.1) [ inl m ↦ absurd (n.0 m.0) | inr k ↦ inr k ])

-- a change below the root
-- with changed children the entries of a tree change as the children do
children_changed : {P : Type 0} (t : FragmentTree P) (k : Forest P) (b : ℕ) (r : List ℕ) (C : P → Type 0) → Changes (Holds t.children) (Holds k) (b ∷ r) C → (x : List ℕ) (w : P) →
    Has (entries (nodes record { top = t.top; children = k })) (x, w) ↔ (((x ≡ b ∷ r) × C w) ⊎ ((x ≢ b ∷ r) × Has (entries (nodes t)) (x, w)))
children_changed {P} t k b r C c x w = (to, from)
  where
    to : Has (entries (nodes record { top = t.top; children = k })) (x, w) → ((x ≡ b ∷ r) × C w) ⊎ ((x ≢ b ∷ r) × Has (entries (nodes t)) (x, w))
    to h = elim ((tree_entry record { top = t.top; children = k } x w).0 h) [
      | inl n ↦ inr ((λ i. cons_not_empty [] b r (sym i ∙ n.0)), (tree_entry t x w).1 (inl n))
      | inr q ↦ elim ((c x w).0 q) [ inl m ↦ inl m | inr m ↦ inr (m.0, (tree_entry t x w).1 (inr m.1)) ]
    ]

    from : (((x ≡ b ∷ r) × C w) ⊎ ((x ≢ b ∷ r) × Has (entries (nodes t)) (x, w))) → Has (entries (nodes record { top = t.top; children = k })) (x, w)
    from (inl m) = (tree_entry record { top = t.top; children = k } x w).1 (inr ((c x w).1 (inl m)))
    from (inr (n, h)) = (tree_entry record { top = t.top; children = k } x w).1 (elim ((tree_entry t x w).0 h) [ inl m ↦ inl m | inr q ↦ inr ((c x w).1 (inr (n, q))) ])

-- an entry can be set in a shaped tree so that it stays shaped
pub tree_inserted : {P : Type 0} (t : FragmentTree P) → IsShaped 0 t.children → (e : List ℕ) (v : P) → (t' : FragmentTree P) × IsShaped 0 t'.children × IsSetAt (entries (nodes t)) e v (entries (nodes t'))
tree_inserted t s [] v = (
  record { top = Some v; children = t.children },
  s,
  record {
    rising = tree_entries_rise record { top = Some v; children = t.children } s;
    exactly = λ x w. let c = root_changed t s (Some v) x w in (
      (λ h. elim (c.0 h) [ inl m ↦ inl (m.0, (Some_equal_iff v w).0 m.1) | inr m ↦ inr m ]),
      (λ h. c.1 (elim h [ inl m ↦ inl (m.0, (Some_equal_iff v w).1 m.1) | inr m ↦ inr m ])),
    );
  },
)
tree_inserted t s (b ∷ r) v =
    let q = forest_takes_entry 0 t.children b r v s (omega arith) in (
      record { top = t.top; children = q.0 },
      q.1,
      record { rising = tree_entries_rise record { top = t.top; children = q.0 } q.1; exactly = children_changed t q.0 b r (λ w. w ≡ v) q.2 },
    )

-- an entry can be taken out of a shaped tree so that it stays shaped
pub tree_removed : {P : Type 0} (t : FragmentTree P) → IsShaped 0 t.children → (e : List ℕ) → (t' : FragmentTree P) × IsShaped 0 t'.children × IsCutAt (entries (nodes t)) e (entries (nodes t'))
tree_removed t s [] = (
  record { top = None; children = t.children },
  s,
  record {
    rising = tree_entries_rise record { top = None; children = t.children } s;
    exactly = λ x w. let c = root_changed t s None x w in (
      (λ h. elim (c.0 h) [ inl m ↦ absurd (not_None w m.1) | inr m ↦ m ]),
      (λ h. c.1 (inr h)),
    );
  },
)
tree_removed t s (b ∷ r) =
    let q = take_out 0 t.children b r s in (
      record { top = t.top; children = q.0 },
      q.1,
      record {
        rising = tree_entries_rise record { top = t.top; children = q.0 } q.1;
        exactly = λ x w. let c = children_changed t q.0 b r (λ w. ⊥) q.2 x w in (
          (λ h. elim (c.0 h) [ inl m ↦ absurd m.1 | inr m ↦ m ]),
          (λ h. c.1 (inr h)),
        );
      },
    )
