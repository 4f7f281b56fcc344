-- Removals of the pairs that a closure doesn't keep.
use Rattle.std.proofs.Common.{◌≡◌, ℕ, ◌⊎◌, inl, inr, Bool, true, false, cond, not, List, [], ◌∷◌, ◌++◌, map as each, Option, Some, None, OnErr, Result, Ok, Err, nat_cmp, refl, sym, ap, subst, ◌∙◌}
use Rattle.std.proofs.lemmas.Cmp.{nat_list_cmp_total}
use Rattle.std.specs.Cmp.Lexicographic.{slice_cmp}
use Rattle.std.specs.FinMap as map
use Rattle.std.specs.Ordering.{eq_by_cmp}
use Rattle.nibble_map.specs.Lists.{Each, Has, IsBefore, IsRising, is_prefix}
use Rattle.nibble_map.specs.Maps.{PairMap, below, without_below}
use Rattle.nibble_map.proofs.ListLemmas.Sorted.{equal_at, not_equal_at, tied_lists_equal}
use Rattle.nibble_map.proofs.ListLemmas.Unique.{Each-has, before_not_itself}
use Rattle.nibble_map.proofs.MapLemmas.Below.{get-retained_lists}
use Rattle.nibble_map.proofs.MapLemmas.Edits.{not_None, same_Some}
use Rattle.nibble_map.proofs.TreeLemmas.SomePrefixes.{before_through}
use Rattle.radix_trie.specs.Keys.{IsKeyed}
use Rattle.radix_trie.specs.Retains.{RemovesAll, RemovesBeforeOne, RemovesSome, Retains, RetainsAt, RetainsAtLeast, RetainsBefore, Sifts}
use Rattle.radix_trie.specs.Views.{pairs_below}
use Rattle.radix_trie.proofs.LawLemmas.Asked.{AreAtEncodings, pairs_have, part_keyed}

module _ {K V : Type 0} where
  -- after a removal at x, a map answers nothing at x, and elsewhere as before
  get_removed : (m : PairMap K V) (x e : List ℕ) (b : Bool) → eq_by_cmp (slice_cmp nat_cmp) e x ≡ b → map.get (map.remove m x) e ≡ cond b None (map.get m e)
  get_removed m x e b is = map.get-remove nat_list_cmp_total m x e ∙ ap (λ b. cond b None (map.get m e)) is

  -- what is removed at the others after x is, is removed at x and the others
  pub removes_first : (x : List ℕ) (xs : List (List ℕ)) (m n : PairMap K V) → RemovesAll xs (map.remove m x) n → RemovesAll (x ∷ xs) m n
  removes_first x xs m n r e = by (eq_by_cmp (slice_cmp nat_cmp) e x) refl (r e)
    where
      others : eq_by_cmp (slice_cmp nat_cmp) e x ≡ false → (Has xs e → ⊥) → Has (x ∷ xs) e → ⊥
      others is k (inl q) = not_equal_at e x is q
      others is k (inr h) = k h

      by : (b : Bool) → eq_by_cmp (slice_cmp nat_cmp) e x ≡ b → (Has xs e × (map.get n e ≡ None)) ⊎ ((Has xs e → ⊥) × (map.get n e ≡ map.get (map.remove m x) e))
          → (Has (x ∷ xs) e × (map.get n e ≡ None)) ⊎ ((Has (x ∷ xs) e → ⊥) × (map.get n e ≡ map.get m e))
      by b is (inl h) = inl (inr h.0, h.1)
      by true is (inr h) = inl (inl (equal_at e x is), h.1 ∙ get_removed m x e true is)
      by false is (inr h) = inr (others is h.0, h.1 ∙ get_removed m x e false is)

  -- and so is what is removed at some of the others
  pub removes_some_first : (x : List ℕ) (xs : List (List ℕ)) (m n : PairMap K V) → RemovesSome xs (map.remove m x) n → RemovesSome (x ∷ xs) m n
  removes_some_first x xs m n r e = by (eq_by_cmp (slice_cmp nat_cmp) e x) refl (r e)
    where
      by : (b : Bool) → eq_by_cmp (slice_cmp nat_cmp) e x ≡ b → (Has xs e × (map.get n e ≡ None)) ⊎ (map.get n e ≡ map.get (map.remove m x) e)
          → (Has (x ∷ xs) e × (map.get n e ≡ None)) ⊎ (map.get n e ≡ map.get m e)
      by b is (inl h) = inl (inr h.0, h.1)
      by true is (inr h) = inl (inl (equal_at e x is), h ∙ get_removed m x e true is)
      by false is (inr h) = inr (h ∙ get_removed m x e false is)

  -- what is removed at the others before one of them is, is removed at x and these
  pub removes_before_one_first : (x : List ℕ) (xs : List (List ℕ)) (m n : PairMap K V) → RemovesBeforeOne xs (map.remove m x) n → RemovesBeforeOne (x ∷ xs) m n
  removes_before_one_first x xs m n r = (x ∷ r.0, r.1, r.2, ap (λ ys. x ∷ ys) r.3, removes_first x r.0 m n r.4)

  -- nothing is removed before the first list
  pub removes_none : (x : List ℕ) (xs : List (List ℕ)) (m n : PairMap K V) → n ≡ m → RemovesBeforeOne (x ∷ xs) m n
  removes_none x xs m n same = ([], x, xs, refl, λ e. inr ((λ h. h), ap (λ m. map.get m e) same))

  -- a map stays keyed
  pub removes_keyed : (enc : K → List ℕ) (is : K → Type 0) (xs : List (List ℕ)) (m n : PairMap K V) → RemovesSome xs m n → IsKeyed enc is m → IsKeyed enc is n
  removes_keyed enc is xs m n r keyed e p at = elim (r e) [
    | inl h ↦ absurd (not_None p (sym h.1 ∙ at))
    | inr h ↦ keyed e p (sym h ∙ at)
  ]

  -- the part of a map that passes a test lacks what the map lacks
  part_lacks : (n : PairMap K V) (t : List ℕ → Bool) (e : List ℕ) → map.get n e ≡ None → map.get (map.retain_keys n t) e ≡ None
  part_lacks n t e none = get-retained_lists n t e ∙ ap (λ o. cond (t e) o None) none ∙ same_branches (t e) None
    where
      same_branches : (b : Bool) (o : Option (K × V)) → cond b o o ≡ o
      same_branches true o = refl
      same_branches false o = refl

  -- and answers as the part of a map that answers as the map does
  part_same : (m n : PairMap K V) (t : List ℕ → Bool) (e : List ℕ) → map.get n e ≡ map.get m e → map.get (map.retain_keys n t) e ≡ map.get (map.retain_keys m t) e
  part_same m n t e same = get-retained_lists n t e ∙ ap (λ o. cond (t e) o None) same ∙ sym (get-retained_lists m t e)

  -- what is removed from a map is removed from its parts
  part_removes : (xs : List (List ℕ)) (m n : PairMap K V) (t : List ℕ → Bool) → RemovesAll xs m n → RemovesAll xs (map.retain_keys m t) (map.retain_keys n t)
  part_removes xs m n t r e = elim (r e) [ inl h ↦ inl (h.0, part_lacks n t e h.1) | inr h ↦ inr (h.0, part_same m n t e h.1) ]

  part_removes_some : (xs : List (List ℕ)) (m n : PairMap K V) (t : List ℕ → Bool) → RemovesSome xs m n → RemovesSome xs (map.retain_keys m t) (map.retain_keys n t)
  part_removes_some xs m n t r e = elim (r e) [ inl h ↦ inl (h.0, part_lacks n t e h.1) | inr h ↦ inr (part_same m n t e h) ]

  -- what is below a path isn't in the rest
  not_in_rest : (m : PairMap K V) (path e : List ℕ) (p : K × V) → map.get (below m path) e ≡ Some p → map.get (without_below m path) e ≡ None
  not_in_rest m path e p at = by (is_prefix path e) refl
    where
      by : (b : Bool) → is_prefix path e ≡ b → map.get (without_below m path) e ≡ None
      by true is = get-retained_lists m (λ x. not (is_prefix path x)) e ∙ ap (λ b. cond (not b) (map.get m e) None) is
      by false is = absurd (not_None p (sym (get-retained_lists m (is_prefix path) e ∙ ap (λ b. cond b (map.get m e) None) is) ∙ at))

-- of rising lists, those before q come before it, and neither q nor a later one comes before it
rising_before : (done : List (List ℕ)) (q : List ℕ) (rest : List (List ℕ)) → IsRising (done ++ q ∷ rest) → (e : List ℕ) → Has done e → IsBefore e q
rising_before [] q rest r e h = absurd h
rising_before (x ∷ done) q rest r e (inl i) = subst (λ y. IsBefore y q) (sym i) (Each-has (IsBefore x) (done ++ q ∷ rest) q r.0 (has_later done))
  where
    has_later : (xs : List (List ℕ)) → Has (xs ++ q ∷ rest) q
    has_later [] = inl refl
    has_later (y ∷ xs) = inr (has_later xs)
rising_before (x ∷ done) q rest r e (inr h) = rising_before done q rest r.1 e h

rising_from : (done : List (List ℕ)) (q : List ℕ) (rest : List (List ℕ)) → IsRising (done ++ q ∷ rest) → (e : List ℕ) → IsBefore e q → Has (done ++ q ∷ rest) e → Has done e
rising_from [] q rest r e b (inl i) = absurd (before_not_itself q (subst (λ y. IsBefore y q) i b))
rising_from [] q rest r e b (inr h) = absurd (before_not_itself q (before_through q e q (Each-has (IsBefore q) rest e r.0 h) b))
rising_from (x ∷ done) q rest r e b (inl i) = inl i
rising_from (x ∷ done) q rest r e b (inr h) = inr (rising_from done q rest r.1 e b h)

module _ {K V : Type 0} (returns : K × V → Bool → Type 0) (enc : K → List ℕ) where
  -- a list that is gone is the encoding of a key of a pair of which false was returned
  sifted_gone : (ps : List (K × V)) (gone : List (List ℕ)) (e : List ℕ) → Sifts returns enc ps gone → Has gone e → (p : K × V) × Has ps p × returns p false × (e ≡ enc p.0)
  sifted_gone [] gone e s h = absurd (subst (λ g. Has g e) s h)
  sifted_gone (p ∷ ps) gone e (inl s) h = (let r = sifted_gone ps gone e s.1 h in (r.0, inr r.1, r.2, r.3))
  sifted_gone (p ∷ ps) gone e (inr s) h = by (subst (λ g. Has g e) s.1 h) (sifted_gone ps s.0 e s.3)
    where
      by : Has (enc p.0 ∷ s.0) e → (Has s.0 e → (q : K × V) × Has ps q × returns q false × (e ≡ enc q.0)) → (q : K × V) × Has (p ∷ ps) q × returns q false × (e ≡ enc q.0)
      by (inl i) later = (p, inl refl, s.2, i)
      by (inr i) later = (let r = later i in (r.0, inr r.1, r.2, r.3))

  -- of each pair true was returned, or false, and its key's encoding is gone
  sifted_kept : (ps : List (K × V)) (gone : List (List ℕ)) (p : K × V) → Sifts returns enc ps gone → Has ps p → returns p true ⊎ (returns p false × Has gone (enc p.0))
  sifted_kept [] gone p s h = absurd h
  sifted_kept (q ∷ ps) gone p (inl s) (inl i) = inl (subst (λ z. returns z true) (sym i) s.0)
  sifted_kept (q ∷ ps) gone p (inl s) (inr h) = sifted_kept ps gone p s.1 h
  sifted_kept (q ∷ ps) gone p (inr s) (inl i) = inr (subst (λ z. returns z false) (sym i) s.2, subst (λ g. Has g (enc p.0)) (sym s.1) (inl (ap (λ z. enc z.0) i)))
  sifted_kept (q ∷ ps) gone p (inr s) (inr h) = elim (sifted_kept ps s.0 p s.3 h) [ inl k ↦ inl k | inr k ↦ inr (k.0, subst (λ g. Has g (enc p.0)) (sym s.1) (inr k.1)) ]

  -- what is gone of pairs whose encodings rise rises too
  sifted_each : (Q : List ℕ → Type 0) (ps : List (K × V)) (gone : List (List ℕ)) → Sifts returns enc ps gone → Each Q (each (λ p. enc p.0) ps) → Each Q gone
  sifted_each Q [] gone s h = subst (Each Q) (sym s) tt
  sifted_each Q (p ∷ ps) gone (inl s) h = sifted_each Q ps gone s.1 h.1
  sifted_each Q (p ∷ ps) gone (inr s) h = subst (Each Q) (sym s.1) (h.0, sifted_each Q ps s.0 s.3 h.1)

  sifted_rising : (ps : List (K × V)) (gone : List (List ℕ)) → Sifts returns enc ps gone → IsRising (each (λ p. enc p.0) ps) → IsRising gone
  sifted_rising [] gone s h = subst IsRising (sym s) tt
  sifted_rising (p ∷ ps) gone (inl s) h = sifted_rising ps gone s.1 h.1
  sifted_rising (p ∷ ps) gone (inr s) h = subst IsRising (sym s.1) (sifted_each (IsBefore (enc p.0)) ps s.0 s.3 h.0, sifted_rising ps s.0 s.3 h.1)

  module _ (m n : PairMap K V) (keyed : AreAtEncodings enc m) (path : List ℕ) (gone : List (List ℕ)) (s : Sifts returns enc (pairs_below m path) gone) where
    under : AreAtEncodings enc (below m path)
    under = part_keyed enc m keyed (is_prefix path)

    -- a list that is gone has a pair below the path of which false was returned
    gone_pair : (e : List ℕ) → Has gone e → (p : K × V) × (map.get (below m path) e ≡ Some p) × returns p false
    gone_pair e h =
        let r = sifted_gone (pairs_below m path) gone e s h in
        (r.0, ap (map.get (below m path)) r.3 ∙ (pairs_have enc (below m path) under r.0).0 r.1, r.2)

    -- where a list is removed exactly if it is gone, what stands there is retained
    retains_at : (e : List ℕ) → (Has gone e × (map.get (below n path) e ≡ None)) ⊎ ((Has gone e → ⊥) × (map.get (below n path) e ≡ map.get (below m path) e)) → RetainsAt returns (below m path) (below n path) e
    retains_at e r = by (map.get (below m path) e) refl r
      where
        by : (o : Option (K × V)) → map.get (below m path) e ≡ o
            → (Has gone e × (map.get (below n path) e ≡ None)) ⊎ ((Has gone e → ⊥) × (map.get (below n path) e ≡ map.get (below m path) e))
            → RetainsAt returns (below m path) (below n path) e
        by None at (inl h) = rw at h.1
        by None at (inr h) = rw at (h.1 ∙ at)
        by (Some p) at (inl h) = (let g = gone_pair e h.0 in rw at (inr (subst (λ z. returns z false) (same_Some g.0 p (sym g.1 ∙ at)) g.2, h.1)))
        by (Some p) at (inr h) =
            let has = (pairs_have enc (below m path) under p).1 (sym (ap (map.get (below m path)) (under e p at)) ∙ at) in
            rw at (elim (sifted_kept (pairs_below m path) gone p s has) [
              | inl k ↦ inl (k, h.1 ∙ at)
              | inr k ↦ absurd (h.0 (subst (Has gone) (sym (under e p at)) k.1))
            ])

    -- where all that is gone is removed, what is below the path is retained
    pub sifted_retains : RemovesAll gone m n → Retains returns (below m path) (below n path)
    sifted_retains r e = retains_at e (part_removes gone m n (is_prefix path) r e)

    -- where what is gone before one list is, it is so before that list
    pub sifted_retains_before : IsRising (each (λ p. enc p.0) (pairs_below m path)) → RemovesBeforeOne gone m n → RetainsBefore returns (below m path) (below n path)
    sifted_retains_before rise r =
        let rising : IsRising (r.0 ++ r.1 ∷ r.2) = subst IsRising r.3 (sifted_rising (pairs_below m path) gone s rise) in
        let at = part_removes r.0 m n (is_prefix path) r.4 in (
          r.1,
          λ e before. retains_at e (elim (at e) [
            | inl h ↦ inl (subst (λ xs. Has xs e) (sym r.3) (has_first r.0 e h.0), h.1)
            | inr h ↦ inr ((λ gone. h.0 (rising_from r.0 r.1 r.2 rising e before (subst (λ xs. Has xs e) r.3 gone))), h.1)
          ]),
          λ e later. elim (at e) [ inl h ↦ absurd (later (rising_before r.0 r.1 r.2 rising e h.0)) | inr h ↦ h.1 ],
        )
      where
        has_first : (xs : List (List ℕ)) (e : List ℕ) → Has xs e → Has (xs ++ r.1 ∷ r.2) e
        has_first [] e h = absurd h
        has_first (x ∷ xs) e (inl i) = inl i
        has_first (x ∷ xs) e (inr h) = inr (has_first xs e h)

    -- where some of it is, at least what is kept is
    pub sifted_retains_some : RemovesSome gone m n → RetainsAtLeast returns (below m path) (below n path)
    sifted_retains_some r e = elim (part_removes_some gone m n (is_prefix path) r e) [
      | inl h ↦ let g = gone_pair e h.0 in inr (g.0, g.1, g.2, h.1)
      | inr h ↦ inl h
    ]

    -- and the rest stays
    pub sifted_rest : RemovesSome gone m n → without_below n path ≡ without_below m path
    sifted_rest r = map.same_map nat_list_cmp_total tied_lists_equal (without_below n path) (without_below m path) (λ e. elim (part_removes_some gone m n (λ x. not (is_prefix path x)) r e) [
      | inl h ↦ let g = gone_pair e h.0 in h.1 ∙ sym (not_in_rest m path e g.0 g.1)
      | inr h ↦ h
    ])

-- a map that stays as it is, is retained before the empty list
pub retains_before_nil : {K V : Type 0} (returns : K × V → Bool → Type 0) (m n : PairMap K V) → n ≡ m → RetainsBefore returns m n
retains_before_nil returns m n same = ([], (λ e before. absurd before), λ e _. ap (λ m. map.get m e) same)

-- what holds in any case holds after a refusal
pub on_err_always : {T E : Type 0} (r : Result T E) (P : Type 0) → P → OnErr r P
on_err_always (Ok x) P p = tt
on_err_always (Err e) P p = p
