-- Lists behind a fragment: their prefixes, the longest and the shortest of them, and how many there are.
use Rattle.std.proofs.Common.{◌≡◌, ◌≢◌, ◌⊎◌, ℕ, suc, ◌+◌, ◌≤◌, List, [], ◌∷◌, ◌++◌, map, length, take, refl, ap, sym, subst, ◌∙◌, arith, inl, inr, append_assoc}
use Rattle.std.proofs.lemmas.List.{length-append, length-map}
use Rattle.nibble_map.specs.Lists.{IsBefore, IsPrefix, Has, IsRising, Counts}
use Rattle.nibble_map.specs.Answers.{IsLongest, IsShortest}
use Rattle.nibble_map.specs.Trees.{first}
use Rattle.nibble_map.proofs.ListLemmas.Cut.{cancel_front, first-append}
use Rattle.nibble_map.proofs.ListLemmas.Members.{map_has, has_map}
use Rattle.nibble_map.proofs.ListLemmas.Rising.{Each-from_has, before_under, before_more}
use Rattle.nibble_map.proofs.ListLemmas.Unique.{Each-has}
use Rattle.nibble_map.proofs.TreeLemmas.Shape.{first_and_rest}

-- of two lists behind one fragment, a prefix is one without the fragment too
pub prefix_below : (f x r : List ℕ) → IsPrefix (f ++ x) (f ++ r) → IsPrefix x r
prefix_below f x r p = (p.0, cancel_front f r (x ++ p.0) (p.1 ∙ append_assoc f x p.0))

-- of two lists, a prefix is one with one fragment in front of both too
prefix_above : (f x r : List ℕ) → IsPrefix x r → IsPrefix (f ++ x) (f ++ r)
prefix_above f x r p = (p.0, ap (λ z. f ++ z) p.1 ∙ sym (append_assoc f x p.0))

-- a list with another behind it is no shorter
pub append_no_shorter : (f x : List ℕ) → length f ≤ length (f ++ x)
append_no_shorter f x = let l = length-append f x in omega (arith, l)

-- from a child to its parent with the fragment f
-- the longest member of a child is the parent's, with the fragment in front
pub longest_up : (S C : List ℕ → Type 0) (f rest x : List ℕ) → ((x : List ℕ) → C x → S (f ++ x)) → ((q : List ℕ) → S q → IsPrefix q (f ++ rest) → (q ≡ f) ⊎ ((y : List ℕ) × (q ≡ f ++ y) × C y)) →
    IsLongest C rest x → IsLongest S (f ++ rest) (f ++ x)
longest_up S C f rest x down up l = record {
  member = down x l.member;
  above = prefix_above f x rest l.above;
  longest = λ q s p. elim (up q s p) [
    | inl e ↦ (let a = ap length e in let b = append_no_shorter f x in omega (arith, a, b))
    | inr h ↦ (let a = l.longest h.0 h.2 (prefix_below f h.0 rest (subst (λ z. IsPrefix z (f ++ rest)) h.1 p)) in
        let b = ap length h.1 ∙ length-append f h.0 in let c = length-append f x in omega (arith, a, b, c))
  ];
}

-- the shortest member of a child is the parent's, with the fragment in front
pub shortest_up : (S C : List ℕ → Type 0) (f rest x : List ℕ) → ((x : List ℕ) → C x → S (f ++ x)) → ((q : List ℕ) → S q → IsPrefix (f ++ rest) q → (y : List ℕ) × (q ≡ f ++ y) × C y) →
    IsShortest C rest x → IsShortest S (f ++ rest) (f ++ x)
shortest_up S C f rest x down up l = record {
  member = down x l.member;
  below = prefix_above f rest x l.below;
  shortest = λ q s p. (let h = up q s p in
      let a = l.shortest h.0 h.2 (prefix_below f rest h.0 (subst (λ z. IsPrefix (f ++ rest) z) h.1 p)) in
      let b = ap length h.1 ∙ length-append f h.0 in let c = length-append f x in omega (arith, a, b, c));
}

-- rising lists rise with the same f put before each
rising_under : (f : List ℕ) (xs : List (List ℕ)) → IsRising xs → IsRising (map (λ x. f ++ x) xs)
rising_under f [] r = tt
rising_under f (x ∷ xs) r = (
  Each-from_has (IsBefore (f ++ x)) (map (λ x. f ++ x) xs)
      (λ y h. let m = map_has (λ x. f ++ x) xs y h in subst (IsBefore (f ++ x)) (sym m.1) (before_under f x m.0 (Each-has (IsBefore x) xs m.0 r.0 m.2))),
  rising_under f xs r.1,
)

-- the members of a parent that begin the list are one more than those of the child that it leads to
pub count_up : (S C : List ℕ → Type 0) (f rest : List ℕ) (n : ℕ) → S f → ((x : List ℕ) → C x → (x ≢ []) × S (f ++ x)) → ((q : List ℕ) → S q → IsPrefix q (f ++ rest) → (q ≡ f) ⊎ ((y : List ℕ) × (q ≡ f ++ y) × C y)) →
    Counts (λ x. C x × IsPrefix x rest) n → Counts (λ q. S q × IsPrefix q (f ++ rest)) (suc n)
count_up S C f rest n own down up c = record {
  list = f ∷ map (λ x. f ++ x) c.list;
  lists = record { rising = (Each-from_has (IsBefore f) (map (λ x. f ++ x) c.list) behind, rising_under f c.list c.lists.rising); exactly = λ q. (to q, from q) };
  length_is = ap suc (length-map c.list (λ x. f ++ x) ∙ c.length_is);
}
  where
    behind : (q : List ℕ) → Has (map (λ x. f ++ x) c.list) q → IsBefore f q
    behind q h =
        let m = map_has (λ x. f ++ x) c.list q h in
        let w = first_and_rest m.0 (down m.0 ((c.lists.exactly m.0).0 m.2).0).0 in
        subst (IsBefore f) (sym (m.1 ∙ ap (λ x. f ++ x) w.1)) (before_more f (first m.0) w.0)

    to : (q : List ℕ) → Has (f ∷ map (λ x. f ++ x) c.list) q → S q × IsPrefix q (f ++ rest)
    to q (inl e) = subst (λ q. S q × IsPrefix q (f ++ rest)) (sym e) (own, (rest, refl))
    to q (inr h) =
        let m = map_has (λ x. f ++ x) c.list q h in
        let r = (c.lists.exactly m.0).0 m.2 in
        subst (λ q. S q × IsPrefix q (f ++ rest)) (sym m.1) ((down m.0 r.0).1, prefix_above f m.0 rest r.1)

    from : (q : List ℕ) → S q × IsPrefix q (f ++ rest) → Has (f ∷ map (λ x. f ++ x) c.list) q
    from q (s, p) = elim (up q s p) [
      | inl e ↦ inl e
      | inr h ↦ inr (subst (Has (map (λ x. f ++ x) c.list)) (sym h.1)
          (has_map (λ x. f ++ x) c.list h.0 ((c.lists.exactly h.0).1 (h.2, prefix_below f h.0 rest (subst (λ z. IsPrefix z (f ++ rest)) h.1 p)))))
    ]

-- a list begins with the first nibble of its prefix, if that isn't empty
pub head_same : (y rest z : List ℕ) (a : ℕ) (w : List ℕ) → y ≡ a ∷ w → rest ≡ y ++ z → first y ≡ first rest
head_same y rest z a w e p = ap first e ∙ sym (ap first (p ∙ ap (λ v. v ++ z) e))

-- a list that goes on from one that isn't empty has its first nibble
pub rest_same : (y rest z : List ℕ) → rest ≢ [] → y ≡ rest ++ z → first y ≡ first rest
rest_same y rest z s p = ap first p ∙ first-append rest z s

-- so many nibbles and k more
-- as many nibbles as f has and k more, of f and r, are f and the first k of r
pub take_past : (f r : List ℕ) (k : ℕ) → take (length f + k) (f ++ r) ≡ f ++ take k r
take_past [] r k = let e : 0 + k ≡ k = omega arith in ap (λ n. take n r) e
take_past (a ∷ f) r k = let e : suc (length f) + k ≡ suc (length f + k) = omega arith in ap (λ n. take n (a ∷ (f ++ r))) e ∙ ap (λ z. a ∷ z) (take_past f r k)
