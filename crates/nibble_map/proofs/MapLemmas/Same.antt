-- When two maps are the same under the value type's own `==`.
use Rattle.std.proofs.Common.{◌≡◌, ℕ, ◌↔◌, List, [], ◌∷◌, Option, Some, None, Bool, T, is_some, option_map, refl, sym, ap, subst, ◌∙◌, inl, inr}
use Rattle.std.specs.Prelude.{IsTrue}
use Rattle.std.specs.FinMap as map
use Rattle.nibble_map.specs.Lists.{Has, IsBefore, IsRising}
use Rattle.nibble_map.specs.Maps.{PairMap, IsStored, value_at}
use Rattle.nibble_map.specs.MapQueries.{IsSame, AreSame}
use Rattle.nibble_map.specs.Stored.{stored}
use Rattle.nibble_map.proofs.ListLemmas.Members.{Has-stored}
use Rattle.nibble_map.proofs.ListLemmas.Cut.{cons_tail, cons_head}
use Rattle.nibble_map.proofs.MapLemmas.Edits.{same_Some, keys_list_stored, has_get}
use Rattle.nibble_map.proofs.ListLemmas.Unique.{rising_unique, Each-has, before_not_itself}

module _ {K V : Type 0} (eq : V → V → Bool) where
  -- a stored list has a value
  held_value : (m : PairMap K V) (e : List ℕ) → IsStored m e → (v : V) × (value_at m e ≡ Some v)
  held_value m e t = by (map.get m e) t
    where
      by : (o : Option (K × V)) → T (is_some o) → (v : V) × (option_map (λ p. p.1) o ≡ Some v)
      by None t = absurd t
      by (Some p) t = (p.1, refl)

  -- a list with a value is stored
  value_held : (m : PairMap K V) (e : List ℕ) (v : V) → value_at m e ≡ Some v → IsStored m e
  value_held m e v i = by (map.get m e) i
    where
      by : (o : Option (K × V)) → option_map (λ p. p.1) o ≡ Some v → T (is_some o)
      by None i = subst T (sym (ap is_some i)) tt
      by (Some p) i = tt

  -- a map is the same as itself where each value is equal to itself
  pub same_reflexive : ((v : V) → IsTrue (eq v v)) → (m : PairMap K V) → IsSame eq m m
  same_reflexive h m = record {
    same_lists = λ e. ((λ t. t), (λ t. t));
    same_values = λ e v w i j. subst (λ x. IsTrue (eq v x)) (same_Some v w (sym i ∙ j)) (h v);
  }

  -- being the same is symmetric where the equality of values is
  pub same_symmetric : ((v w : V) → IsTrue (eq v w) → IsTrue (eq w v)) → (m n : PairMap K V) → IsSame eq m n → IsSame eq n m
  same_symmetric h m n s = record { same_lists = λ e. ((s.same_lists e).1, (s.same_lists e).0); same_values = λ e v w i j. h w v (s.same_values e w v j i) }

  -- being the same is transitive where the equality of values is
  pub same_transitive : ((u v w : V) → IsTrue (eq u v) → IsTrue (eq v w) → IsTrue (eq u w)) → (m n o : PairMap K V) → IsSame eq m n → IsSame eq n o → IsSame eq m o
  same_transitive h m n o s r = record {
    same_lists = λ e. ((λ t. (r.same_lists e).0 ((s.same_lists e).0 t)), (λ t. (s.same_lists e).1 ((r.same_lists e).1 t)));
    same_values = λ e v w i j.
        let k = held_value n e ((s.same_lists e).0 (value_held m e v i)) in
        h v k.0 w (s.same_values e v k.0 i k.1) (r.same_values e k.0 w k.1 j);
  }

  -- entry by entry
  -- entries with the same lists, and equal values at each, are the same entry by entry
  are_same : (es ds : List (List ℕ × (K × V))) → IsRising (stored es) → stored es ≡ stored ds →
      ((e : List ℕ) (p q : K × V) → Has es (e, p) → Has ds (e, q) → IsTrue (eq p.1 q.1)) → AreSame eq es ds
  are_same [] [] r i h = tt
  are_same [] (d ∷ ds) r i h = absurd (let j : [] ≡ d.0 ∷ stored ds = i in cc j)
  are_same (e ∷ es) [] r i h = absurd (let j : e.0 ∷ stored es ≡ [] = i in cc j)
  are_same (e ∷ es) (d ∷ ds) r i h =
      (cons_head i, h e.0 e.1 d.1 (inl refl) (inl (λ k. (cons_head i k, d.1))), are_same es ds r.1 (cons_tail i) (λ x p q a b. h x p q (inr a) (inr b)))

  -- entries that are the same entry by entry have the same lists
  same_keys : (es ds : List (List ℕ × (K × V))) → AreSame eq es ds → stored es ≡ stored ds
  same_keys [] [] s = refl
  same_keys [] (d ∷ ds) s = absurd s
  same_keys (e ∷ es) [] s = absurd s
  same_keys (e ∷ es) (d ∷ ds) s = both s.0 (same_keys es ds s.2)
    where
      both : {xs ys : List (List ℕ)} → e.0 ≡ d.0 → xs ≡ ys → e.0 ∷ xs ≡ d.0 ∷ ys
      both i j = cc

  -- entries that are the same entry by entry have equal values at each list
  same_at : (es ds : List (List ℕ × (K × V))) → IsRising (stored es) → IsRising (stored ds) → AreSame eq es ds →
      (x : List ℕ) (p q : K × V) → Has es (x, p) → Has ds (x, q) → IsTrue (eq p.1 q.1)
  same_at [] ds r r' s x p q h k = absurd h
  same_at (e ∷ es) [] r r' s x p q h k = absurd s
  same_at (e ∷ es) (d ∷ ds) r r' s x p q (inl i) (inl j) =
      subst (λ (z : List ℕ × (K × V)). IsTrue (eq z.1.1 q.1)) (sym i) (subst (λ (z : List ℕ × (K × V)). IsTrue (eq e.1.1 z.1.1)) (sym j) s.1)
  same_at (e ∷ es) (d ∷ ds) r r' s x p q (inl i) (inr k) = absurd (before_not_itself d.0 (subst (IsBefore d.0) (ap (λ (z : List ℕ × (K × V)). z.0) i ∙ s.0) (Each-has (IsBefore d.0) (stored ds) x r'.0 (Has-stored ds x q k))))
  same_at (e ∷ es) (d ∷ ds) r r' s x p q (inr h) (inl j) = absurd (before_not_itself e.0 (subst (IsBefore e.0) (ap (λ (z : List ℕ × (K × V)). z.0) j ∙ sym s.0) (Each-has (IsBefore e.0) (stored es) x r.0 (Has-stored es x p h))))
  same_at (e ∷ es) (d ∷ ds) r r' s x p q (inr h) (inr k) = same_at es ds r.1 r'.1 s.2 x p q h k

  -- a value, with its key
  paired_value : (m : PairMap K V) (e : List ℕ) (v : V) → value_at m e ≡ Some v → (p : K × V) × (map.get m e ≡ Some p) × (p.1 ≡ v)
  paired_value m e v i = by (map.get m e) refl i
    where
      by : (o : Option (K × V)) → map.get m e ≡ o → option_map (λ p. p.1) o ≡ Some v → (p : K × V) × (map.get m e ≡ Some p) × (p.1 ≡ v)
      by None k j = absurd (subst T (sym (ap is_some j)) tt)
      by (Some p) k j = (p, k, same_Some p.1 v j)

  -- maps are the same exactly where their entries are the same entry by entry
  pub same_by_entries : (m n : PairMap K V) → IsSame eq m n ↔ AreSame eq (map.entries m) (map.entries n)
  same_by_entries m n = (to, from)
    where
      to : IsSame eq m n → AreSame eq (map.entries m) (map.entries n)
      to s =
          let a = keys_list_stored m in
          let b = keys_list_stored n in
          are_same (map.entries m) (map.entries n) a.rising
          (rising_unique _ _ a.rising b.rising (λ x h. (b.exactly x).1 ((s.same_lists x).0 ((a.exactly x).0 h))) (λ x h. (a.exactly x).1 ((s.same_lists x).1 ((b.exactly x).0 h))))
          (λ e p q h k. s.same_values e p.1 q.1 (ap (option_map (λ z. z.1)) ((has_get m e p).0 h)) (ap (option_map (λ z. z.1)) ((has_get n e q).0 k)))

      from : AreSame eq (map.entries m) (map.entries n) → IsSame eq m n
      from s = record {
        same_lists = λ e. (
          (λ t. ((keys_list_stored n).exactly e).0 (subst (λ l. Has l e) (same_keys _ _ s) (((keys_list_stored m).exactly e).1 t))),
          (λ t. ((keys_list_stored m).exactly e).0 (subst (λ l. Has l e) (sym (same_keys _ _ s)) (((keys_list_stored n).exactly e).1 t))),
        );
        same_values = λ e v w i j.
            let p = paired_value m e v i in
            let q = paired_value n e w j in
            subst (λ x. IsTrue (eq x w)) p.2 (subst (λ x. IsTrue (eq p.0.1 x)) q.2 (same_at _ _ (keys_list_stored m).rising (keys_list_stored n).rising s e p.0 q.0 ((has_get m e p.0).1 p.1) ((has_get n e q.0).1 q.1)));
      }
