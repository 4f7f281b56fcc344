-- The bytes of a file have no fault.
use Rattle.std.proofs.Common.{◌≡◌, ℕ, ◌+◌, ◌<◌, ◌≤◌, ◌^◌, ◌⊎◌, List, [], ◌∷◌, ◌++◌, append_assoc, drop, inl, inr, length, take, take-append-drop, refl, sym, ap, subst, ◌∙◌, arith}
use Rattle.std.proofs.lemmas.List.{length-drop, map-append}
use Rattle.std.specs.FinMap as fin
use Rattle.std.specs.List.{drop-map, take-map}
use Rattle.nibble_map.specs.Lists.{Each, IsRising}
use Rattle.nibble_map.specs.Maps.{PairMap}
use Rattle.radix_trie.specs.Views.{pairs_below}
use Rattle.frozen_trie.specs.declared.file.FileWhy.{FileWhy}
use Rattle.frozen_trie.specs.declared.file.FileWhy.TheVariants.{Full, Key, Long, Memory, Read, Short, OutOfOrder, Value}
use Rattle.frozen_trie.specs.FileItems.{same_u64}
use Rattle.frozen_trie.specs.FileRows.{FitsRow, IsRefusedRow, IsRestFault, file_rows, head_of}
use Rattle.frozen_trie.specs.Files.{AreItems, IsFileFault, IsFileable, RefusesRow, file_of, pair_rows}
use Rattle.frozen_trie.specs.Frozen.{codes_of}
use Rattle.frozen_trie.proofs.FileLemmas.Distinct.{same_front, same_halves, same_row, whole_head}
use Rattle.frozen_trie.proofs.FileLemmas.Maps.{count_rows}
use Rattle.encoded_keys.proofs.CodeLemmas.Appended.{rising_front}
use Rattle.frozen_trie.proofs.FrozenLemmas.Whole.{count_whole}

-- what holds of each of joined lists holds of each of either
Each-parted : {A : Type 0} (Q : A → Type 0) (xs ys : List A) → Each Q (xs ++ ys) → Each Q xs × Each Q ys
Each-parted Q [] ys h = (tt, h)
Each-parted Q (x ∷ xs) ys h = let rest = Each-parted Q xs ys h.1 in ((h.0, rest.0), rest.1)

module _ {K V : Type 0} (key : K → List ℕ) (value : V → List ℕ) (is_key : K → Type 0) (is_value : V → Type 0) (enc : K → List ℕ)
    (told : (x y : K) → is_key x → is_key y → key x ≡ key y → enc x ≡ enc y) where
  -- pairs whose rows are equal have equal codes
  same_codes : (ps qs : List (K × V)) → AreItems is_key is_value ps → AreItems is_key is_value qs → pair_rows key value ps ≡ pair_rows key value qs → codes_of enc ps ≡ codes_of enc qs
  same_codes [] [] f g e = refl
  same_codes [] (q ∷ qs) f g e = cc
  same_codes (p ∷ ps) [] f g e = cc
  same_codes (p ∷ ps) (q ∷ qs) f g e =
      let one : ◌≡◌ {A = List ℕ × List ℕ} (key p.0, value p.1) (key q.0, value q.1) = cc in
      let others : pair_rows key value ps ≡ pair_rows key value qs = cc in
      ap (λ c. c ∷ codes_of enc ps) (told p.0 q.0 f.0.0 g.0.0 (ap (λ r. r.0) one)) ∙ ap (λ cs. enc q.0 ∷ cs) (same_codes ps qs f.1 g.1 others)

  -- the row that is refused is the next one of the map's, which is of a key and a value of their types and comes behind the others
  not_refused : (m : PairMap K V) (why : FileWhy) (p : List ℕ × List ℕ) (q : K × V) (behind : List (K × V)) → is_key q.0 → is_value q.1 → (key q.0, value q.1) ≡ p
      → IsRising (codes_of enc (pairs_below m []) ++ codes_of enc (q ∷ behind)) → fin.len m + 1 < 2 ^ 32
      → IsRefusedRow (RefusesRow key value is_key is_value enc) why m p → why ≡ Memory
  not_refused m Memory p q behind is of same rises few h = refl
  not_refused m Key p q behind is of same rises few h = absurd (h q.0 is (ap (λ r. r.0) same))
  not_refused m Value p q behind is of same rises few h = absurd (h q.1 of (ap (λ r. r.1) same))
  not_refused m OutOfOrder p q behind is of same rises few h =
      absurd (h.3 (subst (λ c. IsRising (codes_of enc (pairs_below m []) ++ c ∷ [])) (told q.0 h.0 is h.1 (ap (λ r. r.0) same ∙ sym h.2))
      (rising_front (codes_of enc (pairs_below m []) ++ enc q.0 ∷ []) (codes_of enc behind) (subst IsRising (sym (append_assoc (codes_of enc (pairs_below m [])) (enc q.0 ∷ []) (codes_of enc behind))) rises))))
  not_refused m Full p q behind is of same rises few h = absurd (omega (arith, few, h))
  not_refused m why p q behind is of same rises few h = absurd h

  -- behind the first rows of a file the others are read
  rest_is_read : (m : PairMap K V) (why : FileWhy) (count : ℕ) (rest : List ℕ) (qs : List (K × V)) → AreItems is_key is_value qs → Each FitsRow (pair_rows key value qs)
      → rest ≡ file_rows (pair_rows key value qs) → length (pairs_below m []) + length qs ≡ count → IsRising (codes_of enc (pairs_below m []) ++ codes_of enc qs) → count < 2 ^ 32
      → IsRestFault (λ n. pair_rows key value (pairs_below n [])) (RefusesRow key value is_key is_value enc) why m count rest → (why ≡ Memory) ⊎ (why ≡ Read)
  rest_is_read m Memory count rest qs items fits e n rises few h = inl refl
  rest_is_read m Read count rest qs items fits e n rises few h = inr refl
  rest_is_read m Long count rest [] items fits e n rises few h = absurd (h.1 e)
  rest_is_read m Long count rest (q ∷ qs) items fits e n rises few h = absurd (omega (arith, h.0, n, count_rows key value (pairs_below m [])))
  rest_is_read m Short count rest [] items fits e n rises few h = absurd (omega (arith, h.0, n, count_rows key value (pairs_below m [])))
  rest_is_read m Short count rest (q ∷ qs) items fits e n rises few h = absurd (h.1 (key q.0, value q.1) (fits.0, (file_rows (pair_rows key value qs), e)))
  rest_is_read m why count rest [] items fits e n rises few h = absurd (omega (arith, h.0, n, count_rows key value (pairs_below m [])))
  rest_is_read m why count rest (q ∷ qs) items fits e n rises few h =
      let next = h.1.1 in
      let same = same_row (key q.0, value q.1) h.1.0 (file_rows (pair_rows key value qs)) next.1.0 fits.0 next.0 (sym e ∙ next.1.1) in
      inl (not_refused m why h.1.0 q qs items.0.0 items.0.1 same.0 rises (omega (arith, few, n, count_whole m)) h.1.2)

  -- rows that aren't read are no more than the file has, but for memory or a failed read
  at_most : (m : PairMap K V) (why : FileWhy) (count : ℕ) (rest : List ℕ)
      → IsRestFault (λ n. pair_rows key value (pairs_below n [])) (RefusesRow key value is_key is_value enc) why m count rest
      → ((why ≡ Memory) ⊎ (why ≡ Read)) ⊎ (length (pair_rows key value (pairs_below m [])) ≤ count)
  at_most m Memory count rest h = inl (inl refl)
  at_most m Read count rest h = inl (inr refl)
  at_most m Long count rest h = inr (omega (arith, h.0))
  at_most m why count rest h = inr (omega (arith, h.0))

  behind : (m n : PairMap K V) (rest : List ℕ) (why : FileWhy) → Each FitsRow (pair_rows key value (pairs_below m [])) → AreItems is_key is_value (pairs_below m [])
      → IsRising (codes_of enc (pairs_below m [])) → fin.len m < 2 ^ 32 → Each FitsRow (pair_rows key value (pairs_below n [])) → AreItems is_key is_value (pairs_below n [])
      → file_rows (pair_rows key value (pairs_below m [])) ≡ file_rows (pair_rows key value (pairs_below n [])) ++ rest
      → length (pair_rows key value (pairs_below n [])) ≤ length (pair_rows key value (pairs_below m []))
      → IsRestFault (λ x. pair_rows key value (pairs_below x [])) (RefusesRow key value is_key is_value enc) why n (length (pair_rows key value (pairs_below m []))) rest → (why ≡ Memory) ⊎ (why ≡ Read)
  behind m n rest why fits items rises few fits_own items_own e le h =
      let row : K × V → List ℕ × List ℕ = λ p. (key p.0, value p.1) in
      let ps = pairs_below m [] in
      let own = pairs_below n [] in
      let k = length (pair_rows key value own) in
      let front = same_front (pair_rows key value own) (pair_rows key value ps) rest le fits_own fits e in
      let parted = Each-parted (λ (p : K × V). is_key p.0 × is_value p.1) (take k ps) (drop k ps) (subst (AreItems is_key is_value) (sym (take-append-drop k ps)) items) in
      let rows_behind = drop-map row k ps in
      let fits_behind = (Each-parted FitsRow (take k (pair_rows key value ps)) (drop k (pair_rows key value ps)) (subst (Each FitsRow) (sym (take-append-drop k (pair_rows key value ps))) fits)).1 in
      let codes = same_codes own (take k ps) items_own parted.0 (front.0 ∙ take-map row k ps) in
      let rising = subst IsRising (ap (codes_of enc) (sym (take-append-drop k ps)) ∙ map-append (λ (p : K × V). enc p.0) (take k ps) (drop k ps) ∙ ap (λ cs. cs ++ codes_of enc (drop k ps)) (sym codes)) rises in
      rest_is_read n why (length (pair_rows key value ps)) rest (drop k ps) parted.1 (subst (Each FitsRow) rows_behind fits_behind) (front.1 ∙ ap file_rows rows_behind)
      (omega (arith, le, count_rows key value own, count_rows key value ps, length-drop k ps)) rising (omega (arith, few, count_rows key value ps, count_whole m)) h

  -- the bytes of a map's file have no fault
  pub no_fault : (m : PairMap K V) → IsFileable key value is_key is_value enc m → IsRising (codes_of enc (pairs_below m [])) → fin.len m < 2 ^ 32 → (why : FileWhy) (pair place : ℕ)
      → IsFileFault key value is_key is_value enc why (file_of key value m) pair place → (why ≡ Memory) ⊎ (why ≡ Read)
  no_fault m f rises few why pair place (inl h) = inr (whole_head why (pair_rows key value (pairs_below m [])) pair place h)
  no_fault m f rises few why pair place (inr b) =
      let rs = pair_rows key value (pairs_below m []) in
      let own = pair_rows key value (pairs_below b.map []) in
      let heads = same_halves (head_of (length rs)) (head_of b.count) (file_rows rs) (file_rows own ++ b.rest) refl (b.begin ∙ append_assoc (head_of b.count) (file_rows own) b.rest) in
      let count : length rs ≡ b.count = same_u64 (length rs) b.count (omega (arith, few, count_rows key value (pairs_below m []), count_whole m)) b.few (ap (drop 12) heads.0) in
      elim (at_most b.map why b.count b.rest b.fault) [
        | inl which ↦ which
        | inr le ↦ behind m b.map b.rest why f.rows f.items rises few b.fits b.items heads.1 (omega (arith, le, count))
            (subst (λ n. IsRestFault (λ x. pair_rows key value (pairs_below x [])) (RefusesRow key value is_key is_value enc) why b.map n b.rest) (sym count) b.fault)
      ]
