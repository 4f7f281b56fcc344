-- How many lists of a set, as its points, are prefixes of one list.
use Rattle.std.proofs.Common.{◌≡◌, ℕ, suc, ◌+◌, ◌≤◌, List, [], ◌∷◌, ◌++◌, filter, length, Bool, cond, true, false, refl, inl, inr, arith}
use Rattle.nibble_map.specs.Lists.{IsBefore, IsPrefix, is_prefix, Has, IsRising, Lists, Counts}
use Rattle.nibble_map.proofs.ComputedLemmas.Filters.{filter_has, has_filter, filter_rises}
use Rattle.nibble_map.proofs.ListLemmas.Cut.{cons_head, cons_tail}
use Rattle.nibble_map.proofs.ListLemmas.Parted.{prefix_by_test, is_prefix_true, prefix_length}
use Rattle.nibble_map.proofs.ListLemmas.Unique.{Each-has, Counts-unique}

-- of two prefixes of one list the one that comes first is shorter
before_is_shorter : (x y e : List ℕ) → IsBefore x y → IsPrefix x e → IsPrefix y e → suc (length x) ≤ length y
before_is_shorter x [] e b h k = absurd b
before_is_shorter [] (d ∷ y) e b h k = omega arith
before_is_shorter (a ∷ x) (d ∷ y) [] b (r, h) k = absurd (let i : [] ≡ a ∷ (x ++ r) = h in cc i)
before_is_shorter (a ∷ x) (d ∷ y) (c ∷ e) (inl l) (r, h) (s, k) = absurd (let i = cons_head h in let j = cons_head k in omega (arith, l, i, j))
before_is_shorter (a ∷ x) (d ∷ y) (c ∷ e) (inr b) (r, h) (s, k) = omega (arith, before_is_shorter x y e b.1 (r, cons_tail h) (s, cons_tail k))

-- rising prefixes of e that have `low` nibbles or more are at most as many as e has from there on, and one
prefixes_are_few : (e : List ℕ) (low : ℕ) (xs : List (List ℕ)) → IsRising xs → ((x : List ℕ) → Has xs x → IsPrefix x e × (low ≤ length x)) → low ≤ suc (length e) → length xs + low ≤ suc (length e)
prefixes_are_few e low [] r each l = omega (arith, l)
prefixes_are_few e low (x ∷ xs) r each l =
    let own = each x (inl refl) in
    let within = prefix_length x e own.0 in
    let rest = prefixes_are_few e (suc (length x)) xs r.1 longer (omega (arith, within)) in
    omega (arith, rest, own.1)
  where
    longer : (y : List ℕ) → Has xs y → IsPrefix y e × (suc (length x) ≤ length y)
    longer y h =
        let p = (each y (inr h)).0 in
        (p, before_is_shorter x y e (Each-has (IsBefore x) xs y r.0 h) (each x (inl refl)).0 p)

-- a set has at most as many prefixes of e as e has nibbles, and one
pub few_prefixes : (S : List ℕ → Type 0) (e : List ℕ) (n : ℕ) → Counts (λ p. S p × IsPrefix p e) n → n ≤ suc (length e)
few_prefixes S e n c =
    let few = prefixes_are_few e 0 c.list c.lists.rising (λ x h. (((c.lists.exactly x).0 h).1, omega arith)) (omega arith) in
    omega (arith, few, c.length_is)

-- of a rising list of a set those that are prefixes of e are a rising list of the set's prefixes of e
pub prefixes_listed : (S : List ℕ → Type 0) (ps : List (List ℕ)) (e : List ℕ) → Lists S ps → Lists (λ p. S p × IsPrefix p e) (filter (λ p. is_prefix p e) ps)
prefixes_listed S ps e l = record { rising = filter_rises (λ p. is_prefix p e) ps l.rising; exactly = λ p. (to p, from p) }
  where
    to : (p : List ℕ) → Has (filter (λ p. is_prefix p e) ps) p → S p × IsPrefix p e
    to p h = let r = filter_has (λ p. is_prefix p e) ps p h in ((l.exactly p).0 r.0, prefix_by_test p e r.1)

    from : (p : List ℕ) → S p × IsPrefix p e → Has (filter (λ p. is_prefix p e) ps) p
    from p h = has_filter (λ p. is_prefix p e) ps p ((l.exactly p).1 h.0) (is_prefix_true p e h.1)

-- the prefixes of e among a rising list of a set are as many as the set's prefixes of e
pub prefixes_counted : (S : List ℕ → Type 0) (ps : List (List ℕ)) (e : List ℕ) → Lists S ps → Counts (λ p. S p × IsPrefix p e) (length (filter (λ p. is_prefix p e) ps))
prefixes_counted S ps e l = record { list = filter (λ p. is_prefix p e) ps; lists = prefixes_listed S ps e l; length_is = refl }

-- a filtered list is no longer than the list
length-filtered : (t : List ℕ → Bool) (xs : List (List ℕ)) → length (filter t xs) ≤ length xs
length-filtered t [] = omega arith
length-filtered t (x ∷ xs) = kept (t x) (length-filtered t xs)
  where
    kept : (b : Bool) → length (filter t xs) ≤ length xs → length (cond b (x ∷ filter t xs) (filter t xs)) ≤ suc (length xs)
    kept true l = omega (arith, l)
    kept false l = omega (arith, l)

-- a set has at most as many prefixes of e as it has lists
pub prefixes_are_fewer : (S : List ℕ → Type 0) (e : List ℕ) (n k : ℕ) → Counts (λ p. S p × IsPrefix p e) n → Counts S k → n ≤ k
prefixes_are_fewer S e n k c d =
    let same = Counts-unique (λ p. S p × IsPrefix p e) n _ c (prefixes_counted S d.list e d.lists) in
    let most = length-filtered (λ p. is_prefix p e) d.list in
    omega (arith, same, most, d.length_is)
