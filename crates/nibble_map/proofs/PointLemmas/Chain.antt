-- A chain of texts: its points are the empty list and the texts, and its prefixes those of the longest text.
use Rattle.nibble_map.specs.Points.{IsReached, IsPoint, IsSomePrefix}
use Rattle.std.proofs.Common.{◌≡◌, ℕ, zero, suc, ◌*◌, ◌≢◌, List, [], ◌∷◌, ◌++◌, length, None, refl, ap, sym, subst, ◌∙◌, inl, inr, append-nil, arith, nat_cmp}
use Rattle.std.proofs.lemmas.Cmp.{nat_list_cmp_total}
use Rattle.std.proofs.lemmas.List.{map-append, length-append, length-map}
use Rattle.std.specs.Cmp.Lexicographic.{slice_cmp}
use Rattle.nibble_map.specs.Computed.{points, prefixes, footprint}
use Rattle.nibble_map.specs.Lists.{IsBefore, IsPrefix, Has, IsRising, Lists}
use Rattle.nibble_map.specs.Nibbles.{nibbles}
use Rattle.nibble_map.specs.Rows.{Entries, inserted, text, letters_a, chain}
use Rattle.nibble_map.specs.Stored.{stored, IsStored}
use Rattle.nibble_map.proofs.ListLemmas.Cut.{cons_not_empty}
use Rattle.nibble_map.proofs.MapLemmas.Bridge.{put-middle}
use Rattle.nibble_map.proofs.ComputedLemmas.Points.{next_after-prefix, points_list}
use Rattle.nibble_map.proofs.ComputedLemmas.Prefixes.{prefixes_list}
use Rattle.nibble_map.proofs.MapLemmas.Edits.{same_Some}
use Rattle.nibble_map.proofs.ListLemmas.Members.{Has-right, Has-cases}
use Rattle.nibble_map.proofs.ListLemmas.Parted.{prefix_through}
use Rattle.nibble_map.proofs.ListLemmas.Rising.{Each-from_has, IsRising-append}
use Rattle.nibble_map.proofs.TreeLemmas.Shape.{first_and_rest}
use Rattle.nibble_map.proofs.ListLemmas.Sorted.{sorted_of_rising}
use Rattle.nibble_map.proofs.TreeLemmas.SomePrefixes.{fronts_after, length-fronts_after, fronts_after_gives, fronts_after_has, fronts_after_rise, before_past_of}
use Rattle.nibble_map.proofs.ListLemmas.Unique.{Lists-unique}

-- the list of n letters
abbrev letters : ℕ → List ℕ
letters n = nibbles (letters_a n)

-- one letter more is two nibbles more at the end
one_more : (n : ℕ) → letters (suc n) ≡ letters n ++ 6 ∷ 1 ∷ []
one_more zero = refl
one_more (suc n) = ap (λ l. 6 ∷ 1 ∷ l) (one_more n)

-- n letters are 2 n nibbles
letters_length : (n : ℕ) → length (letters n) ≡ 2 * n
letters_length zero = refl
letters_length (suc n) = omega (arith, letters_length n)

-- the lists of a chain with one text more are those of the chain and one more at the end
next_texts : (n : ℕ) → stored (chain (suc n)) ≡ stored (chain n) ++ letters (suc n) ∷ []
next_texts n = map-append (λ e. e.0) (chain n) (text (letters_a (suc n)) (suc n) ∷ [])

-- each text begins the longest
text_begins_longest : (n : ℕ) (x : List ℕ) → Has (stored (chain n)) x → (x ≢ []) × IsPrefix x (letters n)
text_begins_longest zero x h = absurd h
text_begins_longest (suc n) x h = elim (Has-cases (stored (chain n)) _ x (subst (λ l. Has l x) (next_texts n) h)) [
  | inl k ↦ let r = text_begins_longest n x k in (r.0, prefix_through x _ _ r.1 (6 ∷ 1 ∷ [], one_more n))
  | inr (inl e) ↦ (λ i. cons_not_empty [] 6 _ (sym e ∙ i), ([], sym e ∙ sym (append-nil x)))
  | inr (inr k) ↦ absurd k
]

-- the lists of a chain rise
chain_rises : (n : ℕ) → IsRising (stored (chain n))
chain_rises zero = tt
chain_rises (suc n) = subst IsRising (sym (next_texts n)) (IsRising-append (stored (chain n)) _ (chain_rises n) (tt, tt) before)
  where
    before : (x : List ℕ) → Has (stored (chain n)) x → (y : List ℕ) → Has (letters (suc n) ∷ []) y → IsBefore x y
    before x h y (inl e) = let r = (text_begins_longest n x h).1 in subst (IsBefore x) (sym (one_more n) ∙ sym e) (before_past_of (letters n) x r.0 6 (1 ∷ []) r.1)
    before x h y (inr k) = absurd k

-- the entries are what the insertions give
-- inserting two lists of entries, joined, is inserting the one and then the other
inserted-append : (es m ds : Entries) → inserted m (es ++ ds) ≡ inserted (inserted m es) ds
inserted-append [] m ds = refl
inserted-append (e ∷ es) m ds = inserted-append es _ ds

-- the entries of a chain, inserted from none on, are the chain
pub inserted-chain : (n : ℕ) → inserted [] (chain n) ≡ chain n
inserted-chain zero = refl
inserted-chain (suc n) =
    let x = text (letters_a (suc n)) (suc n) in
    inserted-append (chain n) [] (x ∷ [])
    ∙ ap (λ m. inserted m (x ∷ [])) (inserted-chain n ∙ sym (append-nil (chain n)))
    ∙ put-middle (slice_cmp nat_cmp) nat_list_cmp_total (chain n) x.0 None x.1 [] (sorted_of_rising (chain (suc n)) (chain_rises (suc n)))

-- no two texts part
no_branch_point : (n a b : ℕ) (p : List ℕ) → a ≢ b → IsReached (IsStored (chain n)) (p ++ a ∷ []) → IsReached (IsStored (chain n)) (p ++ b ∷ []) → ⊥
no_branch_point n a b p apart (e, i, q) (e', i', q') = apart (same_Some a b
    (sym (next_after-prefix p (letters n) a (prefix_through _ e _ q (text_begins_longest n e i).1)) ∙ next_after-prefix p (letters n) b (prefix_through _ e' _ q' (text_begins_longest n e' i').1)))

-- the points of a chain are the empty list and its texts
chain_points : (n : ℕ) → Lists (IsPoint (IsStored (chain n))) ([] ∷ stored (chain n))
chain_points n = record { rising = (Each-from_has (IsBefore []) _ later, chain_rises n); exactly = λ p. (to p, from p) }
  where
    later : (x : List ℕ) → Has (stored (chain n)) x → IsBefore [] x
    later x h = let w = first_and_rest x (text_begins_longest n x h).0 in subst (IsBefore []) (sym w.1) tt

    to : (p : List ℕ) → Has ([] ∷ stored (chain n)) p → IsPoint (IsStored (chain n)) p
    to p (inl e) = inl e
    to p (inr h) = inr (inl h)

    from : (p : List ℕ) → IsPoint (IsStored (chain n)) p → Has ([] ∷ stored (chain n)) p
    from p (inl e) = inl e
    from p (inr (inl h)) = inr h
    from p (inr (inr (a, b, apart, i, j))) = absurd (no_branch_point n a b p apart i j)

-- the longest text is stored, or it is empty
longest_is_stored : (n : ℕ) (p : List ℕ) → p ≢ [] → IsPrefix p (letters n) → Has (stored (chain n)) (letters n)
longest_is_stored zero [] e q = absurd (e refl)
longest_is_stored zero (a ∷ p) e (r, i) = absurd (cons_not_empty [] a (p ++ r) (sym i))
longest_is_stored (suc n) p e q = subst (λ l. Has l (letters (suc n))) (sym (next_texts n)) (Has-right (stored (chain n)) _ _ (inl refl))

-- the non-empty prefixes of a chain's texts are those of its longest text
chain_prefixes : (n : ℕ) → Lists (IsSomePrefix (IsStored (chain n))) (fronts_after [] (letters n))
chain_prefixes n = record { rising = fronts_after_rise [] (letters n); exactly = λ p. (to p, from p) }
  where
    to : (p : List ℕ) → Has (fronts_after [] (letters n)) p → IsSomePrefix (IsStored (chain n)) p
    to p h =
        let (x, e, some, q) = fronts_after_gives [] (letters n) p h in
        let begun = subst (λ l. IsPrefix l (letters n)) (sym e) q in
        (subst (λ l. l ≢ []) (sym e) some, (letters n, longest_is_stored n x some q, begun))

    from : (p : List ℕ) → IsSomePrefix (IsStored (chain n)) p → Has (fronts_after [] (letters n)) p
    from p (some, (e, i, q)) = fronts_after_has [] (letters n) p some (prefix_through _ e _ q (text_begins_longest n e i).1)

-- the computed points of a chain are the empty list and its texts
pub points-chain : (n : ℕ) → points (chain n) ≡ [] ∷ stored (chain n)
points-chain n = Lists-unique (IsPoint (IsStored (chain n))) _ _ (points_list (chain n)) (chain_points n)

-- a chain of n texts has n entries
chain_length : (n : ℕ) → length (chain n) ≡ n
chain_length zero = refl
chain_length (suc n) = let a = length-append (chain n) (text (letters_a (suc n)) (suc n) ∷ []) in let b = chain_length n in omega (arith, a, b)

-- a chain of n texts has n + 1 computed points
nodes_are : (n : ℕ) → length (points (chain n)) ≡ suc n
nodes_are n = ap length (points-chain n) ∙ ap suc (length-map (chain n) (λ e. e.0) ∙ chain_length n)

-- a chain of n texts has 2 n computed prefixes
nibbles_are : (n : ℕ) → length (prefixes (chain n)) ≡ 2 * n
nibbles_are n = ap length (Lists-unique (IsSomePrefix (IsStored (chain n))) _ _ (prefixes_list (chain n)) (chain_prefixes n)) ∙ length-fronts_after [] (letters n) ∙ letters_length n

-- a chain of n texts has n + 1 points, and 2 n nibbles in their fragments
pub footprint-chain : (n : ℕ) → footprint (chain n) ≡ (suc n, 2 * n)
footprint-chain n = λ i. (nodes_are n i, nibbles_are n i)
