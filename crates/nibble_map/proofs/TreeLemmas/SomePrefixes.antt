-- A shaped tree's fragments hold one nibble for each non-empty prefix of its entries.
use Rattle.nibble_map.specs.Points.{IsSomePrefix}
use Rattle.std.proofs.Common.{◌≡◌, ℕ, suc, ◌≤◌, ◌≢◌, ◌⊎◌, List, [], ◌∷◌, ◌++◌, length, IsSome, refl, ap, sym, subst, ◌∙◌, inl, inr, append_assoc, append-nil, length-append, arith}
use Rattle.std.proofs.lemmas.List.Sums.{sum_by-append, sum_by-cons}
use Rattle.nibble_map.specs.Lists.{IsBefore, IsPrefix, Has, IsRising, Lists, Counts}
use Rattle.nibble_map.specs.Stored.{IsStored}
use Rattle.nibble_map.specs.Trees.{Forest, bare, grow, FragmentTree, nodes, nodes_below, entries, fragment_nibbles, first, IsShaped}
use Rattle.nibble_map.proofs.ListLemmas.Cut.{join_two_ways, cons_head, cons_tail, cons_not_empty}
use Rattle.nibble_map.proofs.TreeLemmas.Shape.{Under, In, node_leads_to_entry, first_and_rest}
use Rattle.nibble_map.proofs.ListLemmas.Members.{Has-left, Has-right, Has-cases}
use Rattle.nibble_map.proofs.TreeLemmas.Points.{top_cases, child_stored}
use Rattle.nibble_map.proofs.ListLemmas.Rising.{Each-from_has, IsRising-append, before_under, before_more, before_by_first}

-- q followed by each non-empty prefix of f
abbrev pub fronts_after : List ℕ → List ℕ → List (List ℕ)
fronts_after q [] = []
fronts_after q (a ∷ f) = (q ++ a ∷ []) ∷ fronts_after (q ++ a ∷ []) f

-- q followed by each non-empty prefix of a list that leads to a node of the forest
abbrev pub some_prefixes : {P : Type 0} → List ℕ → Forest P → List (List ℕ)
some_prefixes q bare = []
some_prefixes q (grow f o children others) = fronts_after q f ++ (some_prefixes (q ++ f) children ++ some_prefixes q others)

-- x is a non-empty prefix of a list that leads to a node
abbrev pub SomePrefix : {P : Type 0} → Forest P → List ℕ → Type 0
SomePrefix bare x = ⊥
SomePrefix (grow f o children others) x = ((x ≢ []) × IsPrefix x f) ⊎ (Under f (SomePrefix children) x ⊎ SomePrefix others x)

-- f has as many non-empty prefixes, each with q before it, as nibbles
pub length-fronts_after : (q f : List ℕ) → length (fronts_after q f) ≡ length f
length-fronts_after q [] = refl
length-fronts_after q (a ∷ f) = ap suc (length-fronts_after (q ++ a ∷ []) f)

-- `non-empty prefixes q k` has as many lists as the fragments of k's nodes have nibbles
some_prefixes_length : {P : Type 0} (q : List ℕ) (k : Forest P) → length (some_prefixes q k) ≡ fragment_nibbles (nodes_below q k)
some_prefixes_length q bare = refl
some_prefixes_length q (grow f o children others) =
    let a = length-append (fronts_after q f) (some_prefixes (q ++ f) children ++ some_prefixes q others) in
    let b = length-fronts_after q f in
    let c = length-append (some_prefixes (q ++ f) children) (some_prefixes q others) in
    let d = some_prefixes_length (q ++ f) children in
    let e = some_prefixes_length q others in
    let g = sum_by-cons (λ n. length n.fragment) (record { path = q ++ f; fragment = f; pair = o }) (nodes_below (q ++ f) children ++ nodes_below q others) in
    let h = sum_by-append (λ n. length n.fragment) (nodes_below (q ++ f) children) (nodes_below q others) in
    omega (arith, a, b, c, d, e, g, h)

-- a list among f's non-empty prefixes with q before them is q and then one of these
pub fronts_after_gives : (q f p : List ℕ) → Has (fronts_after q f) p → (x : List ℕ) × (p ≡ q ++ x) × (x ≢ []) × IsPrefix x f
fronts_after_gives q [] p h = absurd h
fronts_after_gives q (a ∷ f) p (inl e) = (a ∷ [], e, cons_not_empty [] a [], (f, refl))
fronts_after_gives q (a ∷ f) p (inr h) =
    let r = fronts_after_gives (q ++ a ∷ []) f p h in
    (a ∷ r.0, r.1 ∙ append_assoc q (a ∷ []) r.0, cons_not_empty [] a r.0, (r.3.0, ap (λ l. a ∷ l) r.3.1))

-- q and then a non-empty prefix of f is among f's non-empty prefixes with q before them
pub fronts_after_has : (q f x : List ℕ) → x ≢ [] → IsPrefix x f → Has (fronts_after q f) (q ++ x)
fronts_after_has q f [] n r = absurd (n refl)
fronts_after_has q [] (a ∷ x) n (r, e) = absurd (cons_not_empty [] a (x ++ r) (sym e))
fronts_after_has q (b ∷ f) (a ∷ []) n (r, e) = inl (ap (λ c. q ++ c ∷ []) (sym (cons_head e)))
fronts_after_has q (b ∷ f) (a ∷ (c ∷ x)) n (r, e) =
    inr (subst (λ d. Has (fronts_after (q ++ b ∷ []) f) (q ++ d ∷ (c ∷ x))) (cons_head e)
    (subst (Has (fronts_after (q ++ b ∷ []) f)) (append_assoc q (b ∷ []) (c ∷ x)) (fronts_after_has (q ++ b ∷ []) f (c ∷ x) (cons_not_empty [] c x) (r, cons_tail e))))

-- a list of `non-empty prefixes q k` is q and then a non-empty prefix of a list that leads to a node of k
pub some_prefix_at : {P : Type 0} (q : List ℕ) (k : Forest P) (p : List ℕ) → Has (some_prefixes q k) p → Under q (SomePrefix k) p
some_prefix_at q bare p h = absurd h
some_prefix_at q (grow f o children others) p h =
    elim (Has-cases (fronts_after q f) _ p h) [
      | inl k ↦ let r = fronts_after_gives q f p k in (r.0, r.1, inl (r.2, r.3))
      | inr k ↦ elim (Has-cases (some_prefixes (q ++ f) children) _ p k) [
        | inl l ↦ let r = some_prefix_at (q ++ f) children p l in (f ++ r.0, r.1 ∙ append_assoc q f r.0, inr (inl (r.0, refl, r.2)))
        | inr l ↦ let r = some_prefix_at q others p l in (r.0, r.1, inr (inr r.2))
      ]
    ]

-- q and then a non-empty prefix of a list that leads to a node of k is a list of `non-empty prefixes q k`
pub at_some_prefix : {P : Type 0} (q : List ℕ) (k : Forest P) (x : List ℕ) → SomePrefix k x → Has (some_prefixes q k) (q ++ x)
at_some_prefix q bare x s = absurd s
at_some_prefix q (grow f o children others) x (inl (n, r)) = Has-left (fronts_after q f) _ (q ++ x) (fronts_after_has q f x n r)
at_some_prefix q (grow f o children others) x (inr (inl (y, e, s))) =
    Has-right (fronts_after q f) _ (q ++ x) (Has-left (some_prefixes (q ++ f) children) _ (q ++ x) (rw e (subst (Has (some_prefixes (q ++ f) children)) (append_assoc q f y) (at_some_prefix (q ++ f) children y s))))
at_some_prefix q (grow f o children others) x (inr (inr s)) =
    Has-right (fronts_after q f) _ (q ++ x) (Has-right (some_prefixes (q ++ f) children) _ (q ++ x) (at_some_prefix q others x s))

-- non-empty prefixes are the non-empty prefixes of the entries
-- a non-empty prefix of a shaped forest isn't empty, and goes on to an entry
some_prefix_leads : {P : Type 0} (low : ℕ) (k : Forest P) (x : List ℕ) → IsShaped low k → SomePrefix k x → (x ≢ []) × ((r : List ℕ) × In k (x ++ r))
some_prefix_leads low bare x s h = absurd h
some_prefix_leads low (grow f o children others) x s (inl (n, (r, e))) =
    let y = node_leads_to_entry o children s.2 s.3 in
    (n, (r ++ y.0, inl (y.0, rw e (sym (append_assoc x r y.0)), y.1)))
some_prefix_leads low (grow f o children others) x s (inr (inl (y, e, h))) =
    let r = some_prefix_leads 0 children y s.3 h in
    (not_empty f y s.0 e, (r.1.0, inl (y ++ r.1.0, rw (e, append_assoc) refl, inr r.1.1)))
  where
    not_empty : (f y : List ℕ) → f ≢ [] → x ≡ f ++ y → x ≢ []
    not_empty [] y n e = absurd (n refl)
    not_empty (a ∷ f) y n e = λ z. cons_not_empty [] a (f ++ y) (sym e ∙ z)
some_prefix_leads low (grow f o children others) x s (inr (inr h)) =
    let r = some_prefix_leads (suc (first f)) others x s.4 h in (r.0, (r.1.0, inr r.1.1))

-- a list that isn't empty and goes on to an entry is a non-empty prefix
leads_some_prefix : {P : Type 0} (k : Forest P) (x r : List ℕ) → x ≢ [] → In k (x ++ r) → SomePrefix k x
leads_some_prefix bare x r n i = absurd i
leads_some_prefix (grow f o children others) x r n (inr i) = inr (inr (leads_some_prefix others x r n i))
leads_some_prefix (grow f o children others) x r n (inl (y, e, c)) =
    elim (join_two_ways f y x r (sym e)) [
      | inl z ↦ below (λ a u. leads_some_prefix children (a ∷ u) r (cons_not_empty [] a u)) z.0 z.1 z.2 c
      | inr w ↦ inl (n, (w.0 ∷ w.1, w.2))
    ]
  where
    below : ((a : ℕ) (u : List ℕ) → In children ((a ∷ u) ++ r) → SomePrefix children (a ∷ u)) →
        (z : List ℕ) → x ≡ f ++ z → y ≡ z ++ r → (((y ≡ []) × IsSome o) ⊎ In children y) → SomePrefix (grow f o children others) x
    below g [] h k c = inl (n, ([], rw (h, append-nil, append-nil) refl))
    below g (a ∷ u) h k (inl m) = absurd (cons_not_empty [] a (u ++ r) (sym k ∙ m.0))
    below g (a ∷ u) h k (inr i) = inr (inl (a ∷ u, h, g a u (subst (In children) k i)))

-- a non-empty prefix of a shaped forest begins with a nibble that is at least `low`
pub SomePrefix-headed : {P : Type 0} (low : ℕ) (k : Forest P) (x : List ℕ) → IsShaped low k → SomePrefix k x → (a : ℕ) × (w : List ℕ) × (x ≡ a ∷ w) × (low ≤ a)
SomePrefix-headed low bare x s h = absurd h
SomePrefix-headed low (grow f o children others) x s (inr (inr h)) =
    let r = SomePrefix-headed (suc (first f)) others x s.4 h in (r.0, r.1, r.2, omega (arith, s.1, r.3))
SomePrefix-headed low (grow f o children others) x s (inr (inl (y, e, h))) =
    let w = first_and_rest f s.0 in (first f, w.0 ++ y, e ∙ ap (λ l. l ++ y) w.1, s.1)
SomePrefix-headed low (grow f o children others) x s (inl (n, (r, e))) = by_x x n e
  where
    by_x : (x : List ℕ) → x ≢ [] → f ≡ x ++ r → (a : ℕ) × (w : List ℕ) × (x ≡ a ∷ w) × (low ≤ a)
    by_x [] n e = absurd (n refl)
    by_x (a ∷ x) n e = (a, x, refl, subst (λ g. low ≤ first g) e s.1)

-- the non-empty prefixes of f, each with q before it, rise
pub fronts_after_rise : (q f : List ℕ) → IsRising (fronts_after q f)
fronts_after_rise q [] = tt
fronts_after_rise q (a ∷ f) = (Each-from_has (IsBefore (q ++ a ∷ [])) (fronts_after (q ++ a ∷ []) f) later, fronts_after_rise (q ++ a ∷ []) f)
  where
    later : (x : List ℕ) → Has (fronts_after (q ++ a ∷ []) f) x → IsBefore (q ++ a ∷ []) x
    later x h = let r = fronts_after_gives (q ++ a ∷ []) f x h in let w = first_and_rest r.0 r.2 in rw (r.1, w.1) (before_more (q ++ a ∷ []) (first r.0) w.0)

-- where x comes before y and y before z, x comes before z
pub before_through : (x y z : List ℕ) → IsBefore x y → IsBefore y z → IsBefore x z
before_through x y [] h k = absurd k
before_through x [] (c ∷ z) h k = absurd h
before_through [] (b ∷ y) (c ∷ z) h k = tt
before_through (a ∷ x) (b ∷ y) (c ∷ z) (inl h) (inl k) = inl (omega arith)
before_through (a ∷ x) (b ∷ y) (c ∷ z) (inl h) (inr k) = inl (omega (arith, k.0))
before_through (a ∷ x) (b ∷ y) (c ∷ z) (inr h) (inl k) = inl (omega (arith, h.0))
before_through (a ∷ x) (b ∷ y) (c ∷ z) (inr h) (inr k) = inr (h.0 ∙ k.0, before_through x y z h.1 k.1)

-- a prefix of f comes before what goes on from f
before_past : (x r : List ℕ) (a : ℕ) (w : List ℕ) → IsBefore x ((x ++ r) ++ a ∷ w)
before_past [] [] a w = tt
before_past [] (b ∷ r) a w = tt
before_past (b ∷ x) r a w = inr (refl, before_past x r a w)

-- where f is x and a rest, x comes before what goes on from f
pub before_past_of : (f x r : List ℕ) (a : ℕ) (w : List ℕ) → f ≡ x ++ r → IsBefore x (f ++ a ∷ w)
before_past_of f x r a w e = rw e (before_past x r a w)

-- the non-empty prefixes of a shaped forest rise
some_prefixes_rising : {P : Type 0} (low : ℕ) (q : List ℕ) (k : Forest P) → IsShaped low k → IsRising (some_prefixes q k)
some_prefixes_rising low q bare s = tt
some_prefixes_rising low q (grow f o children others) s =
    IsRising-append (fronts_after q f) _ (fronts_after_rise q f)
    (IsRising-append (some_prefixes (q ++ f) children) _ (some_prefixes_rising 0 (q ++ f) children s.3) (some_prefixes_rising (suc (first f)) q others s.4) apart)
    (λ x h y k. elim (Has-cases (some_prefixes (q ++ f) children) _ y k) [ inl l ↦ into x h y l | inr l ↦ past x h y l ])
  where
    apart : (x : List ℕ) → Has (some_prefixes (q ++ f) children) x → (y : List ℕ) → Has (some_prefixes q others) y → IsBefore x y
    apart x h y k =
        let u = some_prefix_at (q ++ f) children x h in
        let r = some_prefix_at q others y k in
        let a = SomePrefix-headed (suc (first f)) others r.0 s.4 r.2 in
        rw (u.1, append_assoc, r.1, a.2) (before_under q (f ++ u.0) (a.0 ∷ a.1) (before_by_first f u.0 a.0 a.1 s.0 a.3))

    into : (x : List ℕ) → Has (fronts_after q f) x → (y : List ℕ) → Has (some_prefixes (q ++ f) children) y → IsBefore x y
    into x h y k =
        let u = fronts_after_gives q f x h in
        let r = some_prefix_at (q ++ f) children y k in
        let a = SomePrefix-headed 0 children r.0 s.3 r.2 in
        rw (u.1, r.1, append_assoc, a.2) (before_under q u.0 (f ++ a.0 ∷ a.1) (before_past_of f u.0 u.3.0 a.0 a.1 u.3.1))

    same_first : (x : List ℕ) → x ≢ [] → IsPrefix x f → first f ≡ first x
    same_first [] n r = absurd (n refl)
    same_first (b ∷ x) n (r, e) = ap first e

    past : (x : List ℕ) → Has (fronts_after q f) x → (y : List ℕ) → Has (some_prefixes q others) y → IsBefore x y
    past x h y k =
        let u = fronts_after_gives q f x h in
        let r = some_prefix_at q others y k in
        let a = SomePrefix-headed (suc (first f)) others r.0 s.4 r.2 in
        rw (u.1, r.1, a.2) (before_under q u.0 (a.0 ∷ a.1) (rw append-nil at (before_by_first u.0 [] a.0 a.1 u.2 (subst (λ n. suc n ≤ a.0) (same_first u.0 u.2 u.3) a.3))))

-- the non-empty prefixes of a shaped tree are the non-empty prefixes of its entries' lists, rising
pub tree_some_prefixes : {P : Type 0} (t : FragmentTree P) → IsShaped 0 t.children → Lists (IsSomePrefix (IsStored (entries (nodes t)))) (some_prefixes [] t.children)
tree_some_prefixes t s = record { rising = some_prefixes_rising 0 [] t.children s; exactly = λ p. (to p, from p) }
  where
    to : (p : List ℕ) → Has (some_prefixes [] t.children) p → IsSomePrefix (IsStored (entries (nodes t))) p
    to p h = let r = some_prefix_at [] t.children p h in let l = some_prefix_leads 0 t.children p s (rw (← r.1) at r.2) in (l.0, (p ++ l.1.0, child_stored t (p ++ l.1.0) l.1.1, (l.1.0, refl)))

    from : (p : List ℕ) → IsSomePrefix (IsStored (entries (nodes t))) p → Has (some_prefixes [] t.children) p
    from p (n, (e, i, (r, h))) =
        elim (top_cases t (p ++ r) (subst (IsStored (entries (nodes t))) h i)) [
          | inl m ↦ absurd (none p n m.0)
          | inr k ↦ at_some_prefix [] t.children p (leads_some_prefix t.children p r n k)
        ]
      where
        none : (p : List ℕ) → p ≢ [] → p ++ r ≡ [] → ⊥
        none [] n m = n refl
        none (a ∷ p) n m = cons_not_empty [] a (p ++ r) m

-- a shaped tree's fragments hold a nibble for each non-empty prefix of its entries' lists
pub tree_nibbles : {P : Type 0} (t : FragmentTree P) → IsShaped 0 t.children → Counts (IsSomePrefix (IsStored (entries (nodes t)))) (fragment_nibbles (nodes t))
tree_nibbles t s = record { list = some_prefixes [] t.children; lists = tree_some_prefixes t s; length_is = some_prefixes_length [] t.children }
