-- An entry can be taken out of a shaped forest so that it stays shaped.
use Rattle.std.proofs.Common.{◌≡◌, ℕ, suc, ◌≤◌, ◌≢◌, ◌⊎◌, ◌↔◌, List, [], ◌∷◌, ◌++◌, Option, Some, None, IsSome, refl, ap, sym, subst, ◌∙◌, inl, inr, append_assoc, append-nil, arith}
use Rattle.std.specs.Prelude.{⊤}
use Rattle.std.proofs.lemmas.Bool.{cases_order}
use Rattle.nibble_map.specs.Trees.{Forest, bare, grow, AreMany, IsShaped, first}
use Rattle.nibble_map.proofs.ListLemmas.Cut.{cancel_front, cons_head, cons_not_empty, append-some, first-append}
use Rattle.nibble_map.proofs.TreeLemmas.Walked.{PassesWhole, EndsWithin, PartsWithin, along_says}
use Rattle.nibble_map.proofs.TreeLemmas.Edits.{Holds, Bears, Changes, merged_bears_same, own_pair_changes, child_change_lifts, change_in_tree, change_in_others, Changes-same, Holds-headed}
use Rattle.nibble_map.proofs.TreeLemmas.Insertion.{Changes-at_list, Changes-saying}

-- the forest has a tree
abbrev IsGrown : {P : Type 0} → Forest P → Type 0
IsGrown bare = ⊥
IsGrown (grow f o children others) = ⊤

-- a shaped forest that holds what k holds but at b and r, and a tree at least where k had many
abbrev pub Taken : {P : Type 0} → ℕ → Forest P → ℕ → List ℕ → Type 0
Taken {P} low k b r = (k' : Forest P) × IsShaped low k' × Changes (Holds k) (Holds k') (b ∷ r) (λ w. ⊥) × (AreMany k → IsGrown k')

-- a tree in place of another, shaped, at the same nibble
abbrev Stands : {P : Type 0} → ℕ → List ℕ → Option P → Forest P → Type 0
Stands b g p ls = (g ≢ []) × (first g ≡ b) × (IsSome p ⊎ AreMany ls) × IsShaped 0 ls

-- what is left of a tree: nothing, or a tree
abbrev pub Pruned : {P : Type 0} → (List ℕ → P → Type 0) → ℕ → List ℕ → Type 0
Pruned {P} E b r = Changes E (λ x w. ⊥) (b ∷ r) (λ w. ⊥)
    ⊎ ((g : List ℕ) × (p : Option P) × (ls : Forest P) × Stands b g p ls × Changes E (Bears g p ls) (b ∷ r) (λ w. ⊥))

-- where nothing is at r, the removal of what is at r is no change
unchanged_without : {P : Type 0} (E : List ℕ → P → Type 0) (r : List ℕ) → ((w : P) → E r w → ⊥) → Changes E E r (λ w. ⊥)
unchanged_without E r out x w = (
  (λ h. inr ((λ i. out w (subst (λ v. E v w) i h)), h)),
  (λ h. elim h [ inl m ↦ absurd m.1 | inr m ↦ m.1 ]),
)

-- a forest that is shaped from `more` on is shaped from each lower nibble on
shaped_lower : {P : Type 0} (low more : ℕ) (k : Forest P) → low ≤ more → IsShaped more k → IsShaped low k
shaped_lower low more bare l s = tt
shaped_lower low more (grow f o children others) l s = (s.0, omega (arith, l, s.1), s.2, s.3, s.4)

-- a node that has no pair now: it goes, or is merged with its one child, or stays
settle_node : {P : Type 0} (E : List ℕ → P → Type 0) (b : ℕ) (r : List ℕ) (f : List ℕ) (children : Forest P) → f ≢ [] → first f ≡ b → IsShaped 0 children →
    Changes E (Bears f None children) (b ∷ r) (λ w. ⊥) → Pruned E b r
settle_node {P} E b r f bare n e s c = inl (Changes-same E E (Bears f None bare) (λ x w. ⊥) (b ∷ r) (λ w. ⊥) (λ x w. ((λ h. h), (λ h. h))) c (λ x w. (nothing x w, (λ h. absurd h))))
  where
    nothing : (x : List ℕ) (w : P) → Bears f None bare x w → ⊥
    nothing x w (y, i, inl m) = let j : None ≡ Some w = m.1 in cc j
    nothing x w (y, i, inr h) = h
settle_node E b r f (grow g p ls bare) n e s c =
    inr (
      f ++ g,
      p,
      ls,
      (append-some f g n, first-append f g n ∙ e, s.2, s.3),
      Changes-same E E (Bears f None (grow g p ls bare)) (Bears (f ++ g) p ls) (b ∷ r) (λ w. ⊥) (λ x w. ((λ h. h), (λ h. h))) c (λ x w. merged_bears_same f g p ls x w),
    )
settle_node E b r f (grow g p ls (grow h q ms others)) n e s c = inr (f, None, grow g p ls (grow h q ms others), (n, e, inr tt, s), c)

-- none is no option that holds something
none_never : {P : Type 0} (w : P) → (None ≡ Some w) ↔ ⊥
none_never {P} w = (none, λ h. absurd h)
  where
    none : None ≡ Some w → ⊥
    none e = cc e

-- out of one tree
-- an entry that begins as a tree's fragment can be taken out of the tree
prune_entry : {P : Type 0} (f : List ℕ) (o : Option P) (children : Forest P) (b : ℕ) (r : List ℕ) → f ≢ [] → first f ≡ b → (IsSome o ⊎ AreMany children) → IsShaped 0 children →
    ((d : ℕ) (t : List ℕ) → Taken 0 children d t) → (PassesWhole f (b ∷ r) (λ t. 0) ⊎ (EndsWithin f (b ∷ r) (λ t. 0) ⊎ PartsWithin f (b ∷ r) (λ t. 0))) → Pruned (Bears f o children) b r
prune_entry f o children b r n e full s rec (inl ([], h, i)) =
    settle_node (Bears f o children) b r f children n e s (Changes-at_list (Bears f o children) (Bears f None children) f (b ∷ r) (λ w. ⊥) (sym (h ∙ append-nil f))
    (Changes-saying (Bears f o children) (Bears f None children) f (λ w. None ≡ Some w) (λ w. ⊥) none_never (own_pair_changes f o None children s)))
prune_entry f (Some v) children b r n e full s rec (inl (d ∷ t, h, i)) =
    let k = rec d t in
    inr (f, Some v, k.0, (n, e, inl refl, k.1), Changes-at_list (Bears f (Some v) children) (Bears f (Some v) k.0) (f ++ d ∷ t) (b ∷ r) (λ w. ⊥) (sym h) (child_change_lifts f (Some v) children k.0 (d ∷ t) (λ w. ⊥) (cons_not_empty [] d t) k.2))
prune_entry f None children b r n e full s rec (inl (d ∷ t, h, i)) =
    let k = rec d t in
    settle_node (Bears f None children) b r f k.0 n e k.1 (Changes-at_list (Bears f None children) (Bears f None k.0) (f ++ d ∷ t) (b ∷ r) (λ w. ⊥) (sym h) (child_change_lifts f None children k.0 (d ∷ t) (λ w. ⊥) (cons_not_empty [] d t) k.2))
prune_entry {P} f o children b r n e full s rec (inr (inl (a, u, h, i))) = inr (f, o, children, (n, e, full, s), unchanged_without (Bears f o children) (b ∷ r) absent)
  where
    absent : (w : P) → Bears f o children (b ∷ r) w → ⊥
    absent w (y, k, m) = let j = cancel_front (b ∷ r) [] (a ∷ (u ++ y)) (append-nil (b ∷ r) ∙ k ∙ ap (λ l. l ++ y) h ∙ append_assoc (b ∷ r) (a ∷ u) y) in cons_not_empty [] a (u ++ y) (sym j)
prune_entry {P} f o children b r n e full s rec (inr (inr (c, x, u, y, t, h, k, ne, i))) = inr (f, o, children, (n, e, full, s), unchanged_without (Bears f o children) (b ∷ r) absent)
  where
    absent : (w : P) → Bears f o children (b ∷ r) w → ⊥
    absent w (z, q, m) = ne (sym (cons_head (cancel_front c (y ∷ t) (x ∷ (u ++ z)) (sym k ∙ q ∙ ap (λ l. l ++ z) h ∙ append_assoc c (x ∷ u) z))))

-- of many children without the first one is left
left_grown : {P : Type 0} (f : List ℕ) (o : Option P) (children others : Forest P) → AreMany (grow f o children others) → IsGrown others
left_grown f o children bare m = m
left_grown f o children (grow g p ls k) m = tt

-- the first tree goes
-- where a tree bore nothing but what goes, the forest without it is the changed one
tree_gone : {P : Type 0} (f : List ℕ) (o : Option P) (children others : Forest P) (b : ℕ) (r : List ℕ) → IsShaped (suc b) others →
    Changes (Bears f o children) (λ x w. ⊥) (b ∷ r) (λ w. ⊥) → Changes (Holds (grow f o children others)) (Holds others) (b ∷ r) (λ w. ⊥)
tree_gone f o children others b r s c x w = (
  (λ h. inr ((λ i. let a = Holds-headed (suc b) others x w s h in omega (arith, cons_head (sym i ∙ a.2), a.3)), inr h)),
  (λ h. elim h [
    | inl m ↦ absurd m.1
    | inr m ↦ elim m.1 [ inl q ↦ absurd ((c x w).1 (inr (m.0, q))) | inr q ↦ q ]
  ]),
)

-- an entry can be taken out of a shaped forest
pub take_out : {P : Type 0} (low : ℕ) (k : Forest P) (b : ℕ) (r : List ℕ) → IsShaped low k → Taken low k b r
take_out low bare b r s = (bare, tt, unchanged_without (Holds bare) (b ∷ r) (λ w h. h), λ m. m)
take_out low (grow f o children others) b r s =
    elim (cases_order (first f) b) [
      | inl e ↦
          elim (prune_entry f o children b r s.0 e s.2 s.3 (λ d t. take_out 0 children d t s.3) (along_says f (b ∷ r) (λ t. 0))) [
            | inl c ↦ (
              others,
              shaped_lower low (suc (first f)) others (omega (arith, s.1)) s.4,
              tree_gone f o children others b r (subst (λ n. IsShaped (suc n) others) e s.4) c,
              left_grown f o children others,
            )
            | inr g ↦ (
              grow g.0 g.1 g.2 others,
              (g.3.0, omega (arith, s.1, e, g.3.1), g.3.2, g.3.3, subst (λ n. IsShaped (suc n) others) (e ∙ sym g.3.1) s.4),
              change_in_tree f o children g.0 g.1 g.2 others b r (λ w. ⊥) (subst (λ n. IsShaped (suc n) others) e s.4) g.4,
              λ m. tt,
            )
          ]
      | inr c ↦ elim c [
        | inl h ↦
            let q = take_out (suc (first f)) others b r s.4 in (
              grow f o children q.0,
              (s.0, s.1, s.2, s.3, q.1),
              change_in_others f o children others q.0 b r (λ w. ⊥) s.0 (λ e. omega (arith, e, h)) q.2,
              λ m. tt,
            )
        | inr h ↦ (
          grow f o children others,
          s,
          unchanged_without (Holds (grow f o children others)) (b ∷ r) (λ w i. let a = Holds-headed (suc b) (grow f o children others) (b ∷ r) w (s.0, h, s.2, s.3, s.4) i in omega (arith, cons_head a.2, a.3)),
          λ m. tt,
        )
      ]
    ]
