-- A search's count of compared nibbles.
use Rattle.nibble_map.specs.Points.{IsPoint, IsSomePrefix}
use Rattle.nibble_map.specs.Answers.{IsLongest, IsCompared}
use Rattle.nibble_map.specs.Stored.{IsStored}
use Rattle.std.proofs.Common.{◌≡◌, ℕ, suc, ◌+◌, ◌≤◌, ◌≢◌, ◌⊎◌, List, [], ◌∷◌, ◌++◌, length, Option, refl, ap, sym, subst, ◌∙◌, inl, inr, append_assoc, append-nil, length-append, arith, eq-eqb, ne_eqb}
use Rattle.std.proofs.lemmas.Bool.{cases_eq}
use Rattle.nibble_map.specs.Lists.{IsPrefix}
use Rattle.nibble_map.specs.Trees.{Forest, bare, grow, FragmentTree, nodes, entries, first, IsShaped, along, walked}
use Rattle.nibble_map.proofs.ListLemmas.Cut.{cancel_front, cons_head, cons_same, cons_not_empty}
use Rattle.nibble_map.proofs.TreeLemmas.Shape.{At, At-headed, Under-headed, first_and_rest}
use Rattle.nibble_map.proofs.ListLemmas.Members.{path_at}
use Rattle.nibble_map.proofs.TreeLemmas.Points.{point_path, at_point}
use Rattle.nibble_map.proofs.TreeLemmas.SomePrefixes.{SomePrefix, SomePrefix-headed, some_prefix_at, at_some_prefix, tree_some_prefixes}
use Rattle.nibble_map.proofs.ListLemmas.Parted.{prefix_of_both, prefix_length}

-- what `along` meets
-- r goes on from all of f: f's nibbles are compared, and then what is left of r
abbrev pub PassesWhole : List ℕ → List ℕ → (List ℕ → ℕ) → Type 0
PassesWhole f r g = (rest : List ℕ) × (r ≡ f ++ rest) × (along f r g ≡ length f + g rest)

-- r ends within f: the nibbles of r are compared
abbrev pub EndsWithin : List ℕ → List ℕ → (List ℕ → ℕ) → Type 0
EndsWithin f r g = (a : ℕ) × (u : List ℕ) × (f ≡ r ++ a ∷ u) × (along f r g ≡ length r)

-- r parts from f at c: the nibbles of c are compared, and one more
abbrev pub PartsWithin : List ℕ → List ℕ → (List ℕ → ℕ) → Type 0
PartsWithin f r g = (c : List ℕ) × (x : ℕ) × (u : List ℕ) × (y : ℕ) × (v : List ℕ) × (f ≡ c ++ x ∷ u) × (r ≡ c ++ y ∷ v) × (x ≢ y) × (along f r g ≡ length c + 1)

-- along a fragment, r goes on from all of it, or ends within it, or parts from it
pub along_says : (f r : List ℕ) (g : List ℕ → ℕ) → PassesWhole f r g ⊎ (EndsWithin f r g ⊎ PartsWithin f r g)
along_says [] r g = inl (r, refl, omega arith)
along_says (a ∷ f) [] g = inr (inl (a, f, refl, refl))
along_says (a ∷ f) (b ∷ r) g =
    elim (cases_eq a b) [
      | inl e ↦ let v = here e in elim (along_says f r g) [
        | inl h ↦ inl (h.0, cons_same (sym e) h.1, v ∙ ap suc h.2 ∙ omega arith)
        | inr k ↦ elim k [
          | inl h ↦ inr (inl (h.0, h.1, cons_same e h.2, v ∙ ap suc h.3))
          | inr h ↦ inr (inr (a ∷ h.0, h.1, h.2, h.3, h.4, ap (λ l. a ∷ l) h.5, cons_same (sym e) h.6, h.7, v ∙ ap suc h.8 ∙ omega arith))
        ]
      ]
      | inr n ↦ inr (inr ([], a, f, b, r, refl, refl, n, rw (ne_eqb a b n) (omega arith)))
    ]
  where
    here : a ≡ b → along (a ∷ f) (b ∷ r) g ≡ suc (along f r g)
    here e = rw (eq-eqb a b e) refl

-- what is a prefix of two lists that part at c is at most as long as c
fork_length : (z c : List ℕ) (x : ℕ) (u : List ℕ) (y : ℕ) (v : List ℕ) → x ≢ y → IsPrefix z (c ++ x ∷ u) → IsPrefix z (c ++ y ∷ v) → length z ≤ length c
fork_length z c x u y v n h k = prefix_length z c (prefix_of_both z c x y u v n h k)

-- a list that begins with a, and is a prefix of one that begins with b: a is b
lead_same : (z : List ℕ) (b : ℕ) (r : List ℕ) (a : ℕ) (w : List ℕ) → z ≡ a ∷ w → IsPrefix z (b ∷ r) → b ≡ a
lead_same z b r a w e (t, k) = cons_head (k ∙ ap (λ l. l ++ t) e)

-- what a search for r in a forest compares
abbrev Seen : {P : Type 0} → Forest P → List ℕ → ℕ → Type 0
Seen k r n = (p : List ℕ) × IsLongest (λ x. (x ≡ []) ⊎ SomePrefix k x) r p
    × ((((p ≡ r) ⊎ ((p ≡ []) ⊎ At k p)) × (n ≡ length p)) ⊎ ((p ≢ r) × (((p ≡ []) ⊎ At k p) → ⊥) × (n ≡ length p + 1)))

-- the empty list isn't longer than any number
empty_short : (z : List ℕ) (n : ℕ) → z ≡ [] → length z ≤ n
empty_short z n e = let a = ap length e in omega (arith, a)

-- a search for the empty list compares no nibble
at_once : {P : Type 0} (k : Forest P) → Seen k [] 0
at_once k = ([], record { member = inl refl; above = ([], refl); longest = λ z h p. prefix_length z [] p }, inl (inl refl, refl))

-- no tree begins with b
-- a search for what begins otherwise than the first tree is a search in the others
seen_past : {P : Type 0} (low : ℕ) (f : List ℕ) (o : Option P) (children others : Forest P) (b : ℕ) (r : List ℕ) (n : ℕ) → IsShaped low (grow f o children others) →
    first f ≢ b → Seen others (b ∷ r) n → Seen (grow f o children others) (b ∷ r) n
seen_past low f o children others b r n s ne (p, l, c) =
    (p, record { member = elim l.member [ inl e ↦ inl e | inr h ↦ inr (inr (inr h)) ]; above = l.above; longest = longest }, count c)
  where
    wrong : {A : Type 0} (z w : List ℕ) → z ≡ first f ∷ w → IsPrefix z (b ∷ r) → A
    wrong z w e p = absurd (ne (sym (lead_same z b r (first f) w e p)))

    longest : (z : List ℕ) → (z ≡ []) ⊎ SomePrefix (grow f o children others) z → IsPrefix z (b ∷ r) → length z ≤ length p
    longest z (inl e) q = empty_short z (length p) e
    longest z (inr (inl (m, (t, e)))) q = let h = first_and_rest z m in wrong z h.0 (h.1 ∙ ap (λ a. a ∷ h.0) (sym (ap first (e ∙ ap (λ l. l ++ t) h.1)))) q
    longest z (inr (inr (inl h))) q = let w = Under-headed f _ z s.0 h in wrong z w.0 w.1 q
    longest z (inr (inr (inr h))) q = l.longest z (inr h) q

    count : ((((p ≡ b ∷ r) ⊎ ((p ≡ []) ⊎ At others p)) × (n ≡ length p)) ⊎ ((p ≢ b ∷ r) × (((p ≡ []) ⊎ At others p) → ⊥) × (n ≡ length p + 1))) →
        ((((p ≡ b ∷ r) ⊎ ((p ≡ []) ⊎ At (grow f o children others) p)) × (n ≡ length p)) ⊎ ((p ≢ b ∷ r) × (((p ≡ []) ⊎ At (grow f o children others) p) → ⊥) × (n ≡ length p + 1)))
    count (inl (inl e, v)) = inl (inl e, v)
    count (inl (inr (inl e), v)) = inl (inr (inl e), v)
    count (inl (inr (inr a), v)) = inl (inr (inr (inr a)), v)
    count (inr (m, a, v)) = inr (
      m,
      (λ h. a (elim h [
        | inl e ↦ inl e
        | inr k ↦ inr (elim k [ inl u ↦ (let w = Under-headed f _ p s.0 u in wrong p w.0 w.1 l.above) | inr k' ↦ k' ])
      ])),
      v,
    )

-- the whole fragment
-- a search for what goes on from all of the fragment compares it, and then goes on below
seen_deeper : {P : Type 0} (low : ℕ) (f : List ℕ) (o : Option P) (children others : Forest P) (b : ℕ) (r rest : List ℕ) (n : ℕ) → IsShaped low (grow f o children others) →
    first f ≡ b → b ∷ r ≡ f ++ rest → Seen children rest n → Seen (grow f o children others) (b ∷ r) (length f + n)
seen_deeper low f o children others b r rest n s eq e (p, l, c) = (
  f ++ p,
  record {
    member = inr (elim l.member [ inl i ↦ inl (full p, ([], sym (append-nil (f ++ p) ∙ ap (λ v. f ++ v) i ∙ append-nil f))) | inr h ↦ inr (inl (p, refl, h)) ]);
    above = (l.above.0, e ∙ ap (λ v. f ++ v) l.above.1 ∙ sym (append_assoc f p l.above.0));
    longest = longest;
  },
  count c,
)
  where
    full : (p : List ℕ) → f ++ p ≢ []
    full p h = let w = first_and_rest f s.0 in cons_not_empty [] (first f) (w.0 ++ p) (sym (ap (λ l. l ++ p) w.1) ∙ h)

    size : (y : List ℕ) → length (f ++ y) ≡ length f + length y
    size y = length-append f y

    longest : (z : List ℕ) → (z ≡ []) ⊎ SomePrefix (grow f o children others) z → IsPrefix z (b ∷ r) → length z ≤ length (f ++ p)
    longest z (inl i) q = empty_short z (length (f ++ p)) i
    longest z (inr (inl (m, t))) q = let i = prefix_length z f t in omega (arith, i, size p)
    longest z (inr (inr (inl (y, i, h)))) (t, k) =
        let j = l.longest y (inr h) (t, cancel_front f rest (y ++ t) (sym e ∙ k ∙ ap (λ v. v ++ t) i ∙ append_assoc f y t)) in
        omega (arith, ap length i, size y, size p, j)
    longest z (inr (inr (inr h))) q =
        let a = SomePrefix-headed (suc (first f)) others z s.4 h in absurd (omega (arith, eq, lead_same z b r a.0 a.1 a.2 q, a.3))

    at_child : At (grow f o children others) (f ++ p) → (p ≡ []) ⊎ At children p
    at_child (inl (y, i, h)) = subst (λ v. (v ≡ []) ⊎ At children v) (sym (cancel_front f p y i)) h
    at_child (inr h) =
        let a = At-headed (suc (first f)) others (f ++ p) s.4 h in
        let w = first_and_rest f s.0 in
        absurd (omega (arith, cons_head (sym (ap (λ l. l ++ p) w.1) ∙ a.2), a.3))

    count : ((((p ≡ rest) ⊎ ((p ≡ []) ⊎ At children p)) × (n ≡ length p)) ⊎ ((p ≢ rest) × (((p ≡ []) ⊎ At children p) → ⊥) × (n ≡ length p + 1))) →
        ((((f ++ p ≡ b ∷ r) ⊎ ((f ++ p ≡ []) ⊎ At (grow f o children others) (f ++ p))) × (length f + n ≡ length (f ++ p)))
        ⊎ ((f ++ p ≢ b ∷ r) × (((f ++ p ≡ []) ⊎ At (grow f o children others) (f ++ p)) → ⊥) × (length f + n ≡ length (f ++ p) + 1)))
    count (inl (inl i, v)) = inl (inl (ap (λ v. f ++ v) i ∙ sym e), omega (arith, v, size p))
    count (inl (inr h, v)) = inl (inr (inr (inl (p, refl, h))), omega (arith, v, size p))
    count (inr (m, a, v)) = inr ((λ i. m (cancel_front f p rest (i ∙ e))), (λ h. elim h [ inl i ↦ full p i | inr k ↦ a (at_child k) ]), omega (arith, v, size p))

-- what is searched for ends within a fragment
-- a search for what ends within the fragment compares all its nibbles
seen_inside : {P : Type 0} (f : List ℕ) (o : Option P) (children others : Forest P) (b : ℕ) (r : List ℕ) (a : ℕ) (u : List ℕ) → f ≡ (b ∷ r) ++ a ∷ u →
    Seen (grow f o children others) (b ∷ r) (length (b ∷ r))
seen_inside f o children others b r a u e =
    (b ∷ r, record { member = inr (inl (cons_not_empty [] b r, (a ∷ u, e))); above = ([], sym (append-nil (b ∷ r))); longest = λ z h p. prefix_length z (b ∷ r) p }, inl (inl refl, refl))

-- what is searched for parts from a fragment
-- a search for what parts from the fragment compares what they share, and one nibble more
seen_forked : {P : Type 0} (low : ℕ) (f : List ℕ) (o : Option P) (children others : Forest P) (b : ℕ) (r c : List ℕ) (x : ℕ) (u : List ℕ) (y : ℕ) (v : List ℕ) → IsShaped low (grow f o children others) →
    first f ≡ b → f ≡ c ++ x ∷ u → b ∷ r ≡ c ++ y ∷ v → x ≢ y → Seen (grow f o children others) (b ∷ r) (length c + 1)
seen_forked low f o children others b r [] x u y v s eq e k n = absurd (n (sym (ap first e) ∙ eq ∙ cons_head k))
seen_forked low f o children others b r (d ∷ c) x u y v s eq e k n = (
  d ∷ c,
  record { member = inr (inl (cons_not_empty [] d c, (x ∷ u, e))); above = (y ∷ v, k); longest = longest },
  inr (shorter, not_at, refl),
)
  where
    size : length f ≡ length (d ∷ c) + suc (length u)
    size = ap length e ∙ length-append (d ∷ c) (x ∷ u)

    shorter : d ∷ c ≢ b ∷ r
    shorter i = let a = ap length i in let h = ap length k ∙ length-append (d ∷ c) (y ∷ v) in omega (arith, a, h)

    longest : (z : List ℕ) → (z ≡ []) ⊎ SomePrefix (grow f o children others) z → IsPrefix z (b ∷ r) → length z ≤ length (d ∷ c)
    longest z (inl i) q = empty_short z (length (d ∷ c)) i
    longest z (inr (inl (m, (t, i)))) (t', j) = fork_length z (d ∷ c) x u y v n (t, sym e ∙ i) (t', sym k ∙ j)
    longest z (inr (inr (inl (w, i, h)))) (t, j) =
        let a = fork_length f (d ∷ c) x u y v n ([], sym e ∙ sym (append-nil f)) (w ++ t, sym k ∙ j ∙ ap (λ l. l ++ t) i ∙ append_assoc f w t) in
        absurd (omega (arith, a, size))
    longest z (inr (inr (inr h))) q =
        let a = SomePrefix-headed (suc (first f)) others z s.4 h in absurd (omega (arith, eq, lead_same z b r a.0 a.1 a.2 q, a.3))

    not_at : ((d ∷ c ≡ []) ⊎ At (grow f o children others) (d ∷ c)) → ⊥
    not_at (inl i) = cons_not_empty [] d c i
    not_at (inr (inl (w, i, h))) = let a = ap length i ∙ length-append f w in omega (arith, a, size)
    not_at (inr (inr h)) =
        let a = At-headed (suc (first f)) others (d ∷ c) s.4 h in omega (arith, cons_head a.2, ap first e, a.3)

-- `walked` counts what a search for r in a shaped forest compares
walked_sees : {P : Type 0} (low : ℕ) (k : Forest P) (r : List ℕ) → IsShaped low k → Seen k r (walked k r)
walked_sees low bare r s = ([], record { member = inl refl; above = (r, refl); longest = λ z h p. elim h [ inl e ↦ empty_short z 0 e | inr i ↦ absurd i ] }, inl (inr (inl refl), refl))
walked_sees low (grow f o children others) [] s = at_once (grow f o children others)
walked_sees low (grow f o children others) (b ∷ r) s =
    elim (cases_eq (first f) b) [
      | inr n ↦ subst (Seen (grow f o children others) (b ∷ r)) (sym (on_false n)) (seen_past low f o children others b r _ s n (walked_sees (suc (first f)) others (b ∷ r) s.4))
      | inl e ↦ subst (Seen (grow f o children others) (b ∷ r)) (sym (on_true e)) (by_fragment e (λ rest. walked_sees 0 children rest s.3) (along_says f (b ∷ r) (λ rest. walked children rest)))
    ]
  where
    on_true : first f ≡ b → walked (grow f o children others) (b ∷ r) ≡ along f (b ∷ r) (λ rest. walked children rest)
    on_true e = rw (eq-eqb (first f) b e) refl

    on_false : first f ≢ b → walked (grow f o children others) (b ∷ r) ≡ walked others (b ∷ r)
    on_false n = rw (ne_eqb (first f) b n) refl

    by_fragment : first f ≡ b → ((rest : List ℕ) → Seen children rest (walked children rest)) →
        (PassesWhole f (b ∷ r) (λ rest. walked children rest) ⊎ (EndsWithin f (b ∷ r) (λ rest. walked children rest) ⊎ PartsWithin f (b ∷ r) (λ rest. walked children rest))) →
        Seen (grow f o children others) (b ∷ r) (along f (b ∷ r) (λ rest. walked children rest))
    by_fragment e g (inl h) = subst (Seen (grow f o children others) (b ∷ r)) (sym h.2) (seen_deeper low f o children others b r h.0 _ s e h.1 (g h.0))
    by_fragment e g (inr (inl h)) = subst (Seen (grow f o children others) (b ∷ r)) (sym h.3) (seen_inside f o children others b r h.0 h.1 h.2)
    by_fragment e g (inr (inr h)) = subst (Seen (grow f o children others) (b ∷ r)) (sym h.8) (seen_forked low f o children others b r h.0 h.1 h.2 h.3 h.4 s e h.5 h.6 h.7)

-- `walked` counts what a search for e in a shaped tree compares, as its entries' points say
pub tree_compared : {P : Type 0} (t : FragmentTree P) → IsShaped 0 t.children → (e : List ℕ) → IsCompared (IsStored (entries (nodes t))) e (walked t.children e)
tree_compared t s e = moved (walked_sees 0 t.children e s)
  where
    some_prefix_of : (x : List ℕ) → SomePrefix t.children x → IsSomePrefix (IsStored (entries (nodes t))) x
    some_prefix_of x h = ((tree_some_prefixes t s).exactly x).0 (at_some_prefix [] t.children x h)

    of_some_prefix : (x : List ℕ) → IsSomePrefix (IsStored (entries (nodes t))) x → SomePrefix t.children x
    of_some_prefix x h = let r = some_prefix_at [] t.children x (((tree_some_prefixes t s).exactly x).1 h) in subst (SomePrefix t.children) (sym r.1) r.2

    of_point : (x : List ℕ) → IsPoint (IsStored (entries (nodes t))) x → (x ≡ []) ⊎ At t.children x
    of_point x h = elim (point_path t s x h) [ inl i ↦ inl i | inr k ↦ inr (let r = path_at [] t.children x k in subst (At t.children) (sym r.1) r.2) ]

    moved : Seen t.children e (walked t.children e) → IsCompared (IsStored (entries (nodes t))) e (walked t.children e)
    moved (p, l, c) = (
      p,
      record {
        member = elim l.member [ inl i ↦ inl i | inr h ↦ inr (some_prefix_of p h) ];
        above = l.above;
        longest = λ z h q. l.longest z (elim h [ inl i ↦ inl i | inr k ↦ inr (of_some_prefix z k) ]) q;
      },
      elim c [
        | inl h ↦ inl (elim h.0 [ inl i ↦ inl i | inr k ↦ inr (at_point t s p k) ], h.1)
        | inr h ↦ inr (h.0, (λ k. h.1 (of_point p k)), h.2)
      ],
    )
