-- The nibbles of the fragments are within `u128`: they are no more than the nibbles of all stored lists.
use Rattle.nibble_map.specs.Points.{IsSomePrefix}
use Rattle.std.proofs.Common.{◌≡◌, ℕ, suc, ◌-◌, ◌*◌, ◌≤◌, ◌^◌, List, [], ◌∷◌, flat_map, length, refl, ap, ◌∙◌, arith, nat_cmp, Less, Equal, Greater}
use Rattle.std.proofs.Math.Nat.{suc-mul}
use Rattle.std.proofs.lemmas.List.{length-append, length-map}
use Rattle.std.specs.Cmp.Lexicographic.{slice_cmp}
use Rattle.std.specs.FinMap.{put}
use Rattle.std.specs.FinMap.Entries.{by_order}
use Rattle.nibble_map.specs.Computed.{prefixes, fronts, gathered}
use Rattle.nibble_map.specs.Lists.{Counts}
use Rattle.nibble_map.specs.Stored.{stored, IsStored}
use Rattle.nibble_map.proofs.ComputedLemmas.Prefixes.{prefixes_list}
use Rattle.nibble_map.proofs.ListLemmas.Unique.{Counts-unique}
use Rattle.radix_trie.specs.Roots.{AllKeyed}

-- a put makes the entries at most one more
length-put_le : {X : Type 0} (p : List ℕ) (v : X) (es : List (List ℕ × X)) → length (put (slice_cmp nat_cmp) p v es) ≤ suc (length es)
length-put_le p v [] = omega arith
length-put_le p v (e ∷ es) =
    elim (slice_cmp nat_cmp p e.0) as (λ o. length (by_order o ((p, v) ∷ e ∷ es) ((e.0, v) ∷ es) (e ∷ put (slice_cmp nat_cmp) p v es)) ≤ suc (length (e ∷ es))) [
      | Less ↦ omega arith
      | Equal ↦ omega arith
      | Greater ↦ omega (arith, length-put_le p v es)
    ]

-- gathered lists are no more than the lists that were gathered
length-gathered : (ps : List (List ℕ)) → length (gathered ps) ≤ length ps
length-gathered [] = omega arith
length-gathered (p ∷ ps) = omega (arith, length-put_le p tt (gathered ps), length-gathered ps)

-- a list has as many non-empty prefixes as items
length-fronts : (p : List ℕ) → length (fronts p) ≡ length p
length-fronts [] = refl
length-fronts (a ∷ p) = ap suc (length-map (fronts p) (λ q. a ∷ q) ∙ length-fronts p)

-- lists of less than 2^64 nibbles each have no more non-empty prefixes than this
module _ {K V : Type 0} (enc : K → List ℕ) where
  -- all non-empty prefixes of n keyed lists, one list after another, are at most n * (2 ^ 64 - 1)
  fronts_bound : (es : List (List ℕ × (K × V))) → AllKeyed enc es → length (flat_map fronts (stored es)) ≤ length es * (2 ^ 64 - 1)
  fronts_bound [] h = omega arith
  fronts_bound (e ∷ es) h =
      let later = fronts_bound es h.2 in
      let own = h.1 in
      let both = length-append (fronts e.0) (flat_map fronts (stored es)) in
      let count = suc-mul (length es) (2 ^ 64 - 1) in
      omega (arith, later, own, both, count, length-fronts e.0)

  -- n keyed lists have at most n * (2 ^ 64 - 1) different non-empty prefixes
  pub some_prefixes_bound : (es : List (List ℕ × (K × V))) (n : ℕ) → AllKeyed enc es → Counts (IsSomePrefix (IsStored es)) n → n ≤ length es * (2 ^ 64 - 1)
  some_prefixes_bound es n h counts =
      let listed = prefixes_list es in
      let slow : Counts (IsSomePrefix (IsStored es)) (length (prefixes es)) = record { list = prefixes es; lists = listed; length_is = refl } in
      let same = Counts-unique (IsSomePrefix (IsStored es)) n (length (prefixes es)) counts slow in
      let few = length-gathered (flat_map fronts (stored es)) in
      let shown = length-map (gathered (flat_map fronts (stored es))) (λ e. e.0) in
      omega (arith, same, few, shown, fronts_bound es h)
