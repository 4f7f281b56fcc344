-- The slow list of points holds what the relation says.
use Rattle.nibble_map.specs.Points.{IsReached, IsPoint}
use Rattle.std.proofs.Common.{◌≡◌, ℕ, ◌≢◌, ◌⊎◌, List, [], ◌∷◌, ◌++◌, filter_map, Option, Some, None, Bool, not, ◌||◌, eqb, true, false, refl, ap, sym, subst, ◌∙◌, inl, inr, append_assoc, append-nil, eq-eqb, ne_eqb}
use Rattle.std.specs.List.{list_any, cons_option}
use Rattle.std.proofs.lemmas.Bool.{cases_eq, cases_Bool}
use Rattle.nibble_map.specs.Lists.{IsPrefix, IsBefore, Has, Lists}
use Rattle.nibble_map.specs.Stored.{stored, IsStored}
use Rattle.nibble_map.specs.Computed.{same, prefixes, next_after, nexts, is_point, points}
use Rattle.nibble_map.proofs.ListLemmas.Cut.{cons_head, cons_tail, cons_same, cons_not_empty}
use Rattle.nibble_map.proofs.ListLemmas.Rising.{Each-from_has}
use Rattle.nibble_map.proofs.ComputedLemmas.Prefixes.{equal_by_same, same_itself, prefixes_list}
use Rattle.nibble_map.proofs.ComputedLemmas.Filters.{filter_has, has_filter, filter_rises}

-- where `next_after p e` is a, p and a is a prefix of e
next_is : (p e : List ℕ) (a : ℕ) → next_after p e ≡ Some a → IsPrefix (p ++ a ∷ []) e
next_is [] [] a h = absurd (let i : None ≡ Some a = h in cc i)
next_is [] (b ∷ e) a h = (e, ap (λ c. c ∷ e) (let i : Some b ≡ Some a = h in cc))
next_is (c ∷ p) [] a h = absurd (let i : None ≡ Some a = h in cc i)
next_is (c ∷ p) (b ∷ e) a h = elim (cases_eq c b) [
  | inl i ↦ let r = next_is p e a (rw (eq-eqb c b i) at h) in (r.0, cons_same (sym i) r.1)
  | inr n ↦ absurd (let i : None ≡ Some a = rw (ne_eqb c b n) at h in cc i)
]

-- `next_after p e` is a where p and a is a prefix of e
pub next_after-prefix : (p e : List ℕ) (a : ℕ) → IsPrefix (p ++ a ∷ []) e → next_after p e ≡ Some a
next_after-prefix [] [] a (r, e) = absurd (cons_not_empty [] a r (sym e))
next_after-prefix [] (b ∷ e) a (r, k) = ap (λ c. Some c) (cons_head k)
next_after-prefix (c ∷ p) [] a (r, k) = absurd (cons_not_empty [] c ((p ++ a ∷ []) ++ r) (sym k))
next_after-prefix (c ∷ p) (b ∷ e) a (r, k) = rw (eq-eqb c b (sym (cons_head k))) (next_after-prefix p e a (r, cons_tail k))

-- for a nibble that comes next after p in lists of es, p and it is a prefix of one of them
nexts_has : (p : List ℕ) (es : List (List ℕ)) (a : ℕ) → Has (filter_map (next_after p) es) a → (e : List ℕ) × Has es e × IsPrefix (p ++ a ∷ []) e
nexts_has p [] a h = absurd h
nexts_has p (e ∷ es) a h = by_next (next_after p e) refl h (λ k. nexts_has p es a k)
  where
    by_next : (o : Option ℕ) → next_after p e ≡ o → Has (cons_option o (filter_map (next_after p) es)) a →
        (Has (filter_map (next_after p) es) a → (d : List ℕ) × Has es d × IsPrefix (p ++ a ∷ []) d) → (d : List ℕ) × Has (e ∷ es) d × IsPrefix (p ++ a ∷ []) d
    by_next None i h g = let r = g h in (r.0, inr r.1, r.2)
    by_next (Some b) i (inl k) g = (e, inl refl, next_is p e a (i ∙ ap (λ c. Some c) (sym k)))
    by_next (Some b) i (inr k) g = let r = g k in (r.0, inr r.1, r.2)

-- where p and a is a prefix of a list of es, a is among what comes next after p in es
has_nexts : (p : List ℕ) (es : List (List ℕ)) (a : ℕ) (e : List ℕ) → Has es e → IsPrefix (p ++ a ∷ []) e → Has (filter_map (next_after p) es) a
has_nexts p [] a e h q = absurd h
has_nexts p (d ∷ es) a e (inl i) q = rw (next_after-prefix p d a (subst (IsPrefix (p ++ a ∷ [])) i q)) (inl refl)
has_nexts p (d ∷ es) a e (inr h) q = later (next_after p d) (has_nexts p es a e h q)
  where
    later : (o : Option ℕ) → Has (filter_map (next_after p) es) a → Has (cons_option o (filter_map (next_after p) es)) a
    later None h = h
    later (Some b) h = inr h

-- where `list_any` passes, some element of the list passes the test
list_any_finds : {A : Type 0} (t : A → Bool) (xs : List A) → list_any t xs ≡ true → (x : A) × Has xs x × (t x ≡ true)
list_any_finds t [] h = absurd (let i : false ≡ true = h in cc i)
list_any_finds t (x ∷ xs) h = elim (cases_Bool (t x)) [
  | inl e ↦ (x, inl refl, e)
  | inr e ↦ let r = list_any_finds t xs (rw e at h) in (r.0, inr r.1, r.2)
]

-- `list_any` passes where an element of the list passes the test
list_any-true : {A : Type 0} (t : A → Bool) (xs : List A) (x : A) → Has xs x → t x ≡ true → list_any t xs ≡ true
list_any-true t [] x h e = absurd h
list_any-true t (y ∷ xs) x (inl i) e = rw (ap t (sym i) ∙ e) refl
list_any-true t (y ∷ xs) x (inr h) e = or_true (t y) (list_any-true t xs x h e)
  where
    or_true : (b : Bool) {c : Bool} → c ≡ true → b || c ≡ true
    or_true true h = refl
    or_true false h = h

-- where `b || c` is true, one of the two is true
or_cases : (b c : Bool) → b || c ≡ true → (b ≡ true) ⊎ (c ≡ true)
or_cases true c h = inl refl
or_cases false c h = inr h

-- `b || c` is true where b is true
or_left : (b c : Bool) → b ≡ true → b || c ≡ true
or_left b c h = rw h refl

-- `b || c` is true where c is true
or_right : (b c : Bool) → c ≡ true → b || c ≡ true
or_right true c h = refl
or_right false c h = h

-- numbers that the test `eqb` finds unequal are unequal
unequal_by_test : (a b : ℕ) → not (eqb a b) ≡ true → a ≢ b
unequal_by_test a b h e = let i : false ≡ true = rw (eq-eqb a b e) at h in cc i

-- where the test `is_point` passes, p is a point
pub point_by_test : {P : Type 0} (m : List (List ℕ × P)) (p : List ℕ) → is_point m p ≡ true → IsPoint (IsStored m) p
point_by_test m p h = elim (or_cases (same p []) _ h) [
  | inl e ↦ inl (equal_by_same p [] e)
  | inr k ↦ elim (or_cases (list_any (same p) (stored m)) _ k) [
    | inl e ↦ let r = list_any_finds (same p) (stored m) e in inr (inl (subst (Has (stored m)) (sym (equal_by_same p r.0 r.2)) r.1))
    | inr e ↦
        let r = list_any_finds (λ a. list_any (λ b. not (eqb a b)) (nexts m p)) (nexts m p) e in
        let t = list_any_finds (λ b. not (eqb r.0 b)) (nexts m p) r.2 in
        inr (inr (r.0, t.0, unequal_by_test r.0 t.0 t.2, nexts_has p (stored m) r.0 r.1, nexts_has p (stored m) t.0 t.1))
  ]
]

-- the test `is_point` passes where p is a point
pub is_point-point : {P : Type 0} (m : List (List ℕ × P)) (p : List ℕ) → IsPoint (IsStored m) p → is_point m p ≡ true
is_point-point m p (inl e) = or_left (same p []) _ (subst (λ q. same p q ≡ true) e (same_itself p))
is_point-point m p (inr (inl i)) = or_right (same p []) _ (or_left (list_any (same p) (stored m)) _ (list_any-true (same p) (stored m) p i (same_itself p)))
is_point-point m p (inr (inr (a, b, n, (e, i, q), (e', i', q')))) = or_right (same p []) _ (or_right (list_any (same p) (stored m)) _
    (list_any-true (λ c. list_any (λ d. not (eqb c d)) (nexts m p)) (nexts m p) a (has_nexts p (stored m) a e i q)
    (list_any-true (λ d. not (eqb a d)) (nexts m p) b (has_nexts p (stored m) b e' i' q') (rw (ne_eqb a b n) refl))))

-- the computed points are the points, in rising order
pub points_list : {P : Type 0} (m : List (List ℕ × P)) → Lists (IsPoint (IsStored m)) (points m)
points_list m = record { rising = filter_rises (is_point m) ([] ∷ prefixes m) (Each-from_has (IsBefore []) (prefixes m) later, (prefixes_list m).rising); exactly = λ p. (to p, from p) }
  where
    empty_first : (x : List ℕ) → x ≢ [] → IsBefore [] x
    empty_first [] n = absurd (n refl)
    empty_first (a ∷ x) n = tt

    later : (x : List ℕ) → Has (prefixes m) x → IsBefore [] x
    later x i = empty_first x (((prefixes_list m).exactly x).0 i).0

    to : (p : List ℕ) → Has (points m) p → IsPoint (IsStored m) p
    to p h = point_by_test m p (filter_has (is_point m) ([] ∷ prefixes m) p h).1

    reached : (p : List ℕ) (a : ℕ) → IsReached (IsStored m) (p ++ a ∷ []) → IsReached (IsStored m) p
    reached p a (e, i, (r, k)) = (e, i, (a ∷ r, k ∙ append_assoc p (a ∷ []) r))

    some_prefix : (p : List ℕ) → IsPoint (IsStored m) p → IsReached (IsStored m) p ⊎ (p ≡ [])
    some_prefix p (inl e) = inr e
    some_prefix p (inr (inl i)) = inl (p, i, ([], sym (append-nil p)))
    some_prefix p (inr (inr k)) = inl (reached p k.0 k.3)

    member : (p : List ℕ) → IsReached (IsStored m) p → Has ([] ∷ prefixes m) p
    member [] r = inl refl
    member (a ∷ p) r = inr (((prefixes_list m).exactly (a ∷ p)).1 (cons_not_empty [] a p, r))

    from : (p : List ℕ) → IsPoint (IsStored m) p → Has (points m) p
    from p h = has_filter (is_point m) ([] ∷ prefixes m) p (elim (some_prefix p h) [ inl r ↦ member p r | inr e ↦ inl e ]) (is_point-point m p h)
