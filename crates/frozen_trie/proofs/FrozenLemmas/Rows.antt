-- The map of pairs in order: what it answers, by the pairs' indices.
use Rattle.std.proofs.Common.{◌≡◌, ℕ, zero, suc, ◌-◌, ◌<◌, ◌≤◌, Bool, true, false, cond, T, List, [], ◌∷◌, length, map, take, drop, get_or, Some, None, refl, sym, ap, subst, ◌∙◌, arith, nat_cmp, is_eq}
use Rattle.std.proofs.lemmas.List.{length-map}
use Rattle.std.proofs.lemmas.Cmp.{nat_list_cmp_total}
use Rattle.std.specs.Cmp.{tied_itself}
use Rattle.std.specs.Cmp.Lexicographic.{slice_cmp}
use Rattle.std.specs.FinMap as fin
use Rattle.std.specs.FinMap.Entries.{find, is_sorted}
use Rattle.std.specs.List.{filter}
use Rattle.std.specs.Ordering.{eq_by_cmp}
use Rattle.nibble_map.specs.Lists.{IsBefore, IsRising}
use Rattle.nibble_map.specs.Stored.{stored}
use Rattle.nibble_map.proofs.MapLemmas.Bridge.{equal_by_test}
use Rattle.nibble_map.proofs.ListLemmas.Sorted.{tied_lists_equal, sorted_of_rising}
use Rattle.nibble_map.proofs.ListLemmas.Unique.{before_not_itself}
use Rattle.sorted_tables.proofs.TableLemmas.Parts.{filter_part}
use Rattle.encoded_keys.specs.Codes.{code_at}
use Rattle.frozen_trie.specs.Frozen.{codes_of, coded_pairs, map_of_pairs}
use Rattle.encoded_keys.specs.Index.{AreKeys}
use Rattle.encoded_keys.proofs.CodeLemmas.Parts.{Each-at}

-- a list ties with itself
ties : (q x : List ℕ) → q ≡ x → eq_by_cmp (slice_cmp nat_cmp) q x ≡ true
ties q x e = ap (λ l. is_eq (slice_cmp nat_cmp q l)) (sym e) ∙ ap is_eq (tied_itself nat_list_cmp_total q)

-- lists that aren't equal don't tie
parts : (q x : List ℕ) → (q ≡ x → ⊥) → eq_by_cmp (slice_cmp nat_cmp) q x ≡ false
parts q x n = by _ refl
  where
    by : (b : Bool) → eq_by_cmp (slice_cmp nat_cmp) q x ≡ b → eq_by_cmp (slice_cmp nat_cmp) q x ≡ false
    by false e = e
    by true e = absurd (n (tied_lists_equal q x (equal_by_test _ (subst T (sym e) (tt {0})))))

module _ {K V : Type 0} (enc : K → List ℕ) where
  -- the lists of the rows are the codes
  pub stored_rows : (ps : List (K × V)) → stored (coded_pairs enc ps) ≡ codes_of enc ps
  stored_rows [] = refl
  stored_rows (p ∷ ps) = ap (λ l. enc p.0 ∷ l) (stored_rows ps)

  -- the pairs of the rows are the pairs
  pub pairs_of_rows : (ps : List (K × V)) → map (λ e. e.1) (coded_pairs enc ps) ≡ ps
  pairs_of_rows [] = refl
  pairs_of_rows (p ∷ ps) = ap (λ l. p ∷ l) (pairs_of_rows ps)

  -- rows whose codes rise are sorted
  sorted_rows : (ps : List (K × V)) → IsRising (codes_of enc ps) → T (is_sorted (slice_cmp nat_cmp) (coded_pairs enc ps))
  sorted_rows ps h = sorted_of_rising (coded_pairs enc ps) (subst IsRising (sym (stored_rows ps)) h)

  -- the map's entries are the rows
  pub entries_are_rows : (ps : List (K × V)) → IsRising (codes_of enc ps) → fin.entries (map_of_pairs enc ps) ≡ coded_pairs enc ps
  entries_are_rows ps h = fin.entries-from_sorted (slice_cmp nat_cmp) (coded_pairs enc ps) (sorted_rows ps h)

  -- the map has as many entries as there are pairs
  pub len_is : (ps : List (K × V)) → IsRising (codes_of enc ps) → length ps ≡ fin.len (map_of_pairs enc ps)
  len_is ps h = sym (fin.len-entries _ ∙ ap length (entries_are_rows ps h) ∙ length-map ps _)

  -- the code at an index is that of the pair
  pub code_of_pair : (ps : List (K × V)) (i : ℕ) (x : K × V) → i < length ps → x ≡ get_or ps i x → code_at (codes_of enc ps) i ≡ enc x.0
  code_of_pair [] i x l e = absurd (omega (arith, l))
  code_of_pair (p ∷ ps) zero x l e = ap (λ y. enc y.0) (sym e)
  code_of_pair (p ∷ ps) (suc i) x l e = code_of_pair ps i x (omega (arith, l)) e

  -- so the pairs' keys are those of the codes
  pub keys_of_codes : (cs : List (List ℕ)) (ps : List (K × V)) → cs ≡ codes_of enc ps → AreKeys enc ps cs
  keys_of_codes cs ps e = subst (AreKeys enc ps) (sym e) (code_of_pair ps)

  -- the pair at an index is found at its code
  find_at : (ps : List (K × V)) (q : List ℕ) (i : ℕ) (x : K × V) → IsRising (codes_of enc ps) → i < length ps → x ≡ get_or ps i x
      → code_at (codes_of enc ps) i ≡ q → find (slice_cmp nat_cmp) q (coded_pairs enc ps) ≡ Some x
  find_at [] q i x h l e k = absurd (omega (arith, l))
  find_at (p ∷ ps) q zero x h l e k =
      ap (λ b. cond b (Some p) (find (slice_cmp nat_cmp) q (coded_pairs enc ps))) (ties q (enc p.0) (sym k)) ∙ ap Some (sym e)
  find_at (p ∷ ps) q (suc i) x h l e k =
      ap (λ b. cond b (Some p) (find (slice_cmp nat_cmp) q (coded_pairs enc ps))) (parts q (enc p.0) apart) ∙ find_at ps q i x h.1 (omega (arith, l)) e k
    where
      apart : q ≡ enc p.0 → ⊥
      apart same = before_not_itself (enc p.0) (subst (IsBefore (enc p.0)) (k ∙ same) (Each-at (IsBefore (enc p.0)) (codes_of enc ps) i [] h.0 (omega (arith, l, length-map ps (λ (z : K × V). enc z.0)))))

  -- where no code is q nothing is found at q
  find_none : (ps : List (K × V)) (q : List ℕ) → ((k : ℕ) → k < length (codes_of enc ps) → code_at (codes_of enc ps) k ≡ q → ⊥)
      → find (slice_cmp nat_cmp) q (coded_pairs enc ps) ≡ None
  find_none [] q n = refl
  find_none (p ∷ ps) q n =
      ap (λ b. cond b (Some p) (find (slice_cmp nat_cmp) q (coded_pairs enc ps))) (parts q (enc p.0) (λ e. n 0 (omega arith) (sym e)))
      ∙ find_none ps q (λ k l. n (suc k) (omega (arith, l)))

  -- the map's answer at a code is its pair
  pub get_at : (ps : List (K × V)) (q : List ℕ) (i : ℕ) (x : K × V) → IsRising (codes_of enc ps) → i < length ps → x ≡ get_or ps i x
      → code_at (codes_of enc ps) i ≡ q → fin.get (map_of_pairs enc ps) q ≡ Some x
  get_at ps q i x h l e k = fin.get-from_sorted (slice_cmp nat_cmp) (coded_pairs enc ps) q (sorted_rows ps h) ∙ find_at ps q i x h l e k

  -- where no code is q the map has nothing at q
  pub get_none : (ps : List (K × V)) (q : List ℕ) → IsRising (codes_of enc ps)
      → ((k : ℕ) → k < length (codes_of enc ps) → code_at (codes_of enc ps) k ≡ q → ⊥) → fin.get (map_of_pairs enc ps) q ≡ None
  get_none ps q h n = fin.get-from_sorted (slice_cmp nat_cmp) (coded_pairs enc ps) q (sorted_rows ps h) ∙ find_none ps q n

  -- the pairs whose codes pass a test
  pub filter_rows : (t : List ℕ → Bool) (ps : List (K × V)) → map (λ e. e.1) (filter (λ e. t e.0) (coded_pairs enc ps)) ≡ filter (λ p. t (enc p.0)) ps
  filter_rows t [] = refl
  filter_rows t (p ∷ ps) = by (t (enc p.0)) (filter_rows t ps)
    where
      by : (b : Bool) → map (λ e. e.1) (filter (λ e. t e.0) (coded_pairs enc ps)) ≡ filter (λ y. t (enc y.0)) ps
          → map (λ e. e.1) (cond b ((enc p.0, p) ∷ filter (λ e. t e.0) (coded_pairs enc ps)) (filter (λ e. t e.0) (coded_pairs enc ps)))
          ≡ cond b (p ∷ filter (λ y. t (enc y.0)) ps) (filter (λ y. t (enc y.0)) ps)
      by true e = ap (λ l. p ∷ l) e
      by false e = e

  -- a test of a pair's encoding is one of the code at its index
  pub test_at : (t : List ℕ → Bool) (ps : List (K × V)) (k : ℕ) → k < length ps → get_or (map (λ (p : K × V). t (enc p.0)) ps) k false ≡ t (code_at (codes_of enc ps) k)
  test_at t [] k l = absurd (omega (arith, l))
  test_at t (p ∷ ps) zero l = refl
  test_at t (p ∷ ps) (suc k) l = test_at t ps k (omega (arith, l))

  -- where a test passes the codes from lo up to hi alone, it keeps the pairs from lo up to hi
  pub filter_is_part : (t : List ℕ → Bool) (ps : List (K × V)) (lo hi : ℕ) → lo ≤ hi → hi ≤ length ps
      → ((k : ℕ) → k < lo → t (code_at (codes_of enc ps) k) ≡ false)
      → ((k : ℕ) → lo ≤ k → k < hi → t (code_at (codes_of enc ps) k) ≡ true)
      → ((k : ℕ) → hi ≤ k → k < length ps → t (code_at (codes_of enc ps) k) ≡ false)
      → filter (λ p. t (enc p.0)) ps ≡ take (hi - lo) (drop lo ps)
  filter_is_part t ps lo hi a b f g h = sym (filter_part (λ p. t (enc p.0)) ps lo hi a b
      (λ k l. test_at t ps k (omega (arith, l, a, b)) ∙ f k l)
      (λ k l m. test_at t ps k (omega (arith, m, b)) ∙ g k l m)
      (λ k l m. test_at t ps k m ∙ h k l m))
