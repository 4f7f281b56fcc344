-- The rows of maps, and the map of a file.
use Rattle.std.proofs.Common.{◌≡◌, ℕ, ◌+◌, ◌<◌, ◌^◌, List, [], ◌∷◌, ◌++◌, length, take, slice_get, IfSome, None, Option, Some, inl, inr, Result, Ok, Err, OnOk, refl, sym, ap, subst, ◌∙◌, arith}
use Rattle.std.proofs.lemmas.List.{length-map, take_all}
use Rattle.nibble_map.proofs.ListLemmas.Rising.{Each-append}
use Rattle.nibble_map.specs.Lists.{Each, IsRising}
use Rattle.nibble_map.specs.Maps.{PairMap}
use Rattle.radix_trie.specs.Views.{pairs_below}
use Rattle.frozen_trie.specs.FileRows.{FitsRow, IsFault, IsFaultBehind}
use Rattle.frozen_trie.specs.Files.{AreItems, AreSamePairs, IsExact, IsFileFault, IsFileable, IsSameMap, RefusesRow, file_of, pair_rows}
use Rattle.frozen_trie.specs.Frozen.{codes_of, map_of_pairs}
use Rattle.frozen_trie.specs.Texts.{IsBehindAll}
use Rattle.frozen_trie.specs.declared.file.FileWhy.{FileWhy}
use Rattle.frozen_trie.proofs.FileLemmas.Distinct.{file_tells_rows}
use Rattle.frozen_trie.proofs.FileLemmas.Rows.{taken}
use Rattle.frozen_trie.proofs.FrozenLemmas.Whole.{count_whole}
use Rattle.frozen_trie.proofs.TextLemmas.Appended.{behind_if_rising}

-- what follows of two facts at `Ok`
pub on_ok_both : {T E P Q S : Type 0} (r : Result T E) → (P → Q → S) → OnOk r P → OnOk r Q → OnOk r S
on_ok_both (Ok x) f p q = f p q
on_ok_both (Err e) f p q = tt

-- what comes behind no pair of a map keeps the codes from rising
pub not_rising : {K V : Type 0} (enc : K → List ℕ) (m : PairMap K V) (e : List ℕ) → m ≡ map_of_pairs enc (pairs_below m []) → IsRising (codes_of enc (pairs_below m []))
    → (IsBehindAll m e → ⊥) → IsRising (codes_of enc (pairs_below m []) ++ e ∷ []) → ⊥
not_rising enc m e mapped rises front more = front (subst (λ x. IsBehindAll x e) (sym mapped) (behind_if_rising enc (pairs_below m []) rises e more))

module _ {K V : Type 0} (key : K → List ℕ) (value : V → List ℕ) where
  -- as many rows as pairs
  pub count_rows : (ps : List (K × V)) → length (pair_rows key value ps) ≡ length ps
  count_rows ps = length-map ps (λ p. (key p.0, value p.1))

  module _ (is_key : K → Type 0) (is_value : V → Type 0) where
    -- all pairs are looked at
    pub all_items : (ps : List (K × V)) → AreItems is_key is_value (take (length (pair_rows key value ps)) ps) → AreItems is_key is_value ps
    all_items ps h = subst (AreItems is_key is_value) (take_all _ ps (omega (arith, count_rows ps))) h

    -- one pair more is looked at
    pub next_item : (ps : List (K × V)) (k : ℕ) (p : K × V) → slice_get ps k ≡ Some p → is_key p.0 → is_value p.1
        → AreItems is_key is_value (take k ps) → AreItems is_key is_value (take (k + 1) ps)
    next_item ps k p e a b h = subst (AreItems is_key is_value) (sym (taken ps k p e)) (Each-append (λ q. is_key q.0 × is_value q.1) (take k ps) (p ∷ []) h ((a, b), tt))

    -- what was written or read of a map can be
    pub fileable : (enc : K → List ℕ) (m : PairMap K V) → Each FitsRow (pair_rows key value (pairs_below m [])) → length (pair_rows key value (pairs_below m [])) < 2 ^ 64
        → AreItems is_key is_value (take (length (pair_rows key value (pairs_below m []))) (pairs_below m [])) → m ≡ map_of_pairs enc (pairs_below m [])
        → IsFileable key value is_key is_value enc m
    fileable enc m fits few items mapped = record {
      rows = fits;
      items = all_items (pairs_below m []) items;
      few = omega (arith, few, count_rows (pairs_below m []), count_whole m);
      mapped = mapped;
    }

    -- what is at fault behind pairs that were all looked at
    pub fault_of_map : (enc : K → List ℕ) (why : FileWhy) (known : Option (List ℕ)) (pair place : ℕ)
        → IfSome known (λ bytes. IsFault (λ m. pair_rows key value (pairs_below m []))
        (λ m. AreItems is_key is_value (take (length (pair_rows key value (pairs_below m []))) (pairs_below m []))) (RefusesRow key value is_key is_value enc) why bytes pair place)
        → IfSome known (λ bytes. IsFileFault key value is_key is_value enc why bytes pair place)
    fault_of_map enc why None pair place h = tt
    fault_of_map enc why (Some x) pair place (inl h) = inl h
    fault_of_map enc why (Some x) pair place (inr h) =
        let behind : IsFaultBehind (λ (m : PairMap K V). pair_rows key value (pairs_below m [])) (λ m. AreItems is_key is_value (pairs_below m [])) (RefusesRow key value is_key is_value enc) why x pair place =
        record {
          map = h.map;
          count = h.count;
          rest = h.rest;
          few = h.few;
          fits = h.fits;
          items = all_items (pairs_below h.map []) h.items;
          begin = h.begin;
          pairs = h.pairs;
          ends = h.ends;
          fault = h.fault;
        } in
        inr behind

    module _ (same_key : K → K → Type 0) (same_value : V → V → Type 0) (told_key : (x y : K) → is_key x → is_key y → key x ≡ key y → same_key x y)
        (told_value : (x y : V) → is_value x → is_value y → value x ≡ value y → same_value x y) where
      -- equal rows are of pairs that are the same
      same_pairs : (ps qs : List (K × V)) → AreItems is_key is_value ps → AreItems is_key is_value qs → pair_rows key value ps ≡ pair_rows key value qs → AreSamePairs same_key same_value ps qs
      same_pairs [] [] f g e = tt
      same_pairs [] (q ∷ qs) f g e = cc
      same_pairs (p ∷ ps) [] f g e = cc
      same_pairs (p ∷ ps) (q ∷ qs) f g e =
          let one : ◌≡◌ {A = List ℕ × List ℕ} (key p.0, value p.1) (key q.0, value q.1) = cc in
          let others : pair_rows key value ps ≡ pair_rows key value qs = cc in
          (told_key p.0 q.0 f.0.0 g.0.0 (ap (λ r. r.0) one), told_value p.1 q.1 f.0.1 g.0.1 (ap (λ r. r.1) one), same_pairs ps qs f.1 g.1 others)

      -- and are equal where that tells keys and values
      equal_pairs : (ps qs : List (K × V)) → IsExact same_key → IsExact same_value → AreSamePairs same_key same_value ps qs → ps ≡ qs
      equal_pairs [] [] k v h = refl
      equal_pairs [] (q ∷ qs) k v h = absurd h
      equal_pairs (p ∷ ps) [] k v h = absurd h
      equal_pairs (p ∷ ps) (q ∷ qs) k v h =
          ap (λ a. (a, p.1) ∷ ps) (k p.0 q.0 h.0) ∙ ap (λ b. (q.0, b) ∷ ps) (v p.1 q.1 h.1) ∙ ap (λ xs. q ∷ xs) (equal_pairs ps qs k v h.2)

      -- a file tells its map
      pub file_tells_map : (enc : K → List ℕ) (m n : PairMap K V) → IsFileable key value is_key is_value enc m → IsFileable key value is_key is_value enc n
          → file_of key value m ≡ file_of key value n → IsSameMap same_key same_value m n
      file_tells_map enc m n f g e =
          let ps = pairs_below m [] in
          let qs = pairs_below n [] in
          let rows : pair_rows key value ps ≡ pair_rows key value qs =
          file_tells_rows _ _ (omega (arith, f.few, count_rows ps, count_whole m)) (omega (arith, g.few, count_rows qs, count_whole n)) f.rows g.rows e in
          let same = same_pairs ps qs f.items g.items rows in
          record {
            pairs = same;
            equal = λ k v. f.mapped ∙ ap (map_of_pairs enc) (equal_pairs ps qs k v same) ∙ sym g.mapped;
          }
