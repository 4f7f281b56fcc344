-- What walks hold, and that the encodings in them rise.
use Rattle.std.proofs.Common.{◌≡◌, ◌↔◌, ℕ, zero, suc, ◌⊎◌, inl, inr, Bool, true, false, cond, T, List, [], ◌∷◌, filter, map as each, Some, None, nat_cmp, is_le, is_lt, Less, Ordering, refl, sym, ap, ◌∙◌, subst, arith}
use Rattle.std.proofs.lemmas.Cmp.{nat_list_cmp_total}
use Rattle.std.specs.Cmp.Lexicographic.{slice_cmp}
use Rattle.std.specs.FinMap as map
use Rattle.std.specs.List.{AllPairs, Contains}
use Rattle.nibble_map.specs.Lists.{Each, Has, IsBefore, IsPrefix, IsRising, is_prefix}
use Rattle.nibble_map.specs.Maps.{PairMap, below, walk}
use Rattle.nibble_map.proofs.ListLemmas.Parted.{is_prefix_true, prefix_by_test}
use Rattle.nibble_map.proofs.ListLemmas.Rising.{Each-from_has}
use Rattle.nibble_map.proofs.ListLemmas.Sorted.{tied_lists_equal}
use Rattle.nibble_map.proofs.MapLemmas.Below.{get-retained_lists}
use Rattle.nibble_map.proofs.MapLemmas.Bridge.{entries-retain_keys}
use Rattle.nibble_map.proofs.MapLemmas.Edits.{has_get, keys_list_stored, not_None}
use Rattle.radix_trie.specs.Keys.{IsKeptOrder, IsKeyed}
use Rattle.radix_trie.specs.Views.{pairs_above, pairs_after, pairs_below, pairs_from}
use Rattle.radix_trie.proofs.ChangeLemmas.Keyed.{keyed_part}
use Rattle.radix_trie.proofs.LawLemmas.Orders.{before_by_test, from_by_test, keys_rise, test_by_before, test_by_from}

-- std's word for an item of a list, and this repository's
Contains-has : {A : Type 0} (xs : List A) (x : A) → Has xs x → Contains xs x
Contains-has [] x h = absurd h
Contains-has (y ∷ ys) x (inl e) = (0, omega arith, sym e)
Contains-has (y ∷ ys) x (inr h) = (let at = Contains-has ys x h in (suc at.0, omega (arith, at.1), at.2))

Has-contains : {A : Type 0} (xs : List A) (x : A) → Contains xs x → Has xs x
Has-contains [] x h = absurd (omega (arith, h.1))
Has-contains (y ∷ ys) x (zero, lt, e) = inl (sym e)
Has-contains (y ∷ ys) x (suc k, lt, e) = inr (Has-contains ys x (k, omega (arith, lt), e))

module _ {K V : Type 0} (enc : K → List ℕ) where
  -- each pair of the map stands at its key's encoding
  abbrev pub AreAtEncodings : PairMap K V → Type 0
  AreAtEncodings m = (e : List ℕ) (p : K × V) → map.get m e ≡ Some p → e ≡ enc p.0

  module _ (m : PairMap K V) (keyed : AreAtEncodings m) where
    -- a pair of an entry, and the entry of a pair
    has_pair : (es : List (List ℕ × (K × V))) (p : K × V) → ((e : List ℕ) → Has es (e, p) → e ≡ enc p.0) → Has (each (λ e. e.1) es) p → Has es (enc p.0, p)
    has_pair [] p at h = absurd h
    has_pair (x ∷ es) p at (inl i) = (let entry : (x.0, p) ≡ x = (λ j. (x.0, i j)) in inl (ap (λ l. (l, p)) (sym (at x.0 (inl entry))) ∙ entry))
    has_pair (x ∷ es) p at (inr h) = inr (has_pair es p (λ e i. at e (inr i)) h)

    pair_has : (es : List (List ℕ × (K × V))) (e : List ℕ) (p : K × V) → Has es (e, p) → Has (each (λ e. e.1) es) p
    pair_has [] e p h = absurd h
    pair_has (x ∷ es) e p (inl i) = inl (ap (λ z. z.1) i)
    pair_has (x ∷ es) e p (inr h) = inr (pair_has es e p h)

    -- the pairs of the map are those that it answers at their keys' encodings
    pub pairs_have : (p : K × V) → Has (each (λ e. e.1) (map.entries m)) p ↔ (map.get m (enc p.0) ≡ Some p)
    pairs_have p = (
      λ h. (has_get m (enc p.0) p).0 (has_pair (map.entries m) p (λ e i. keyed e p ((has_get m e p).0 i)) h),
      λ h. pair_has (map.entries m) (enc p.0) p ((has_get m (enc p.0) p).1 h),
    )

    pub pairs_held : (p : K × V) → Contains (each (λ e. e.1) (map.entries m)) p ↔ (map.get m (enc p.0) ≡ Some p)
    pairs_held p = (λ h. (pairs_have p).0 (Has-contains _ p h), λ h. Contains-has _ p ((pairs_have p).1 h))

    -- the lists of entries at their keys' encodings are these encodings
    encodings_of : (es : List (List ℕ × (K × V))) → Each (λ e. e.0 ≡ enc e.1.0) es → each (λ e. e.0) es ≡ each (λ p. enc p.0) (each (λ e. e.1) es)
    encodings_of [] h = refl
    encodings_of (e ∷ es) h = (let first = h.0 in let later = encodings_of es h.1 in λ i. first i ∷ later i)

    -- so the encodings of the keys rise
    pub encodings_rise : IsRising (each (λ p. enc p.0) (each (λ e. e.1) (map.entries m)))
    encodings_rise = subst IsRising (encodings_of (map.entries m) (Each-from_has _ _ (λ e h. keyed e.0 e.1 ((has_get m e.0 e.1).0 h)))) (keys_list_stored m).rising

    -- the part of the map whose lists pass a test
    module _ (t : List ℕ → Bool) where
      abbrev part : PairMap K V
      part = map.retain_keys m t

      part_get : (e : List ℕ) (p : K × V) → (map.get part e ≡ Some p) ↔ (T (t e) × (map.get m e ≡ Some p))
      part_get e p = by (t e) refl
        where
          by : (b : Bool) → t e ≡ b → (map.get part e ≡ Some p) ↔ (T (t e) × (map.get m e ≡ Some p))
          by true is = (λ h. (subst T (sym is) tt, sym (get-retained_lists m t e ∙ ap (λ b. cond b (map.get m e) None) is) ∙ h), λ h. get-retained_lists m t e ∙ ap (λ b. cond b (map.get m e) None) is ∙ h.1)
          by false is = (λ h. absurd (not_None p (sym (get-retained_lists m t e ∙ ap (λ b. cond b (map.get m e) None) is) ∙ h)), λ h. absurd (subst T is h.0))

      pub part_keyed : AreAtEncodings part
      part_keyed e p h = keyed e p ((part_get e p).0 h).1

      -- its pairs are in the entries that pass
      pub part_entries : map.entries part ≡ filter (λ e. t e.0) (map.entries m)
      part_entries = entries-retain_keys (slice_cmp nat_cmp) nat_list_cmp_total tied_lists_equal m t

  -- the pairs of the map whose lists pass are those whose keys' encodings do
  pub part_holds : (m : PairMap K V) (keyed : AreAtEncodings m) (t : List ℕ → Bool) (p : K × V)
      → Contains (each (λ e. e.1) (map.entries (map.retain_keys m t))) p ↔ (T (t (enc p.0)) × (map.get m (enc p.0) ≡ Some p))
  part_holds m keyed t p =
      let held = pairs_held (map.retain_keys m t) (part_keyed m keyed t) p in
      let got = part_get m keyed t (enc p.0) p in
      (λ h. got.0 (held.0 h), λ h. held.1 (got.1 h))

pub true_by_test : (b : Bool) → T b → b ≡ true
true_by_test true h = refl
true_by_test false h = absurd h

module _ {K V : Type 0} (enc : K → List ℕ) (m : PairMap K V) (keyed : AreAtEncodings enc m) where
  -- of a walk below a path, the pairs whose lists pass a test
  walk_holds : (e : List ℕ) (t : List ℕ → Bool) (p : K × V) → Contains (each (λ x. x.1) (filter (λ x. t x.0) (walk m e))) p ↔ (T (t (enc p.0)) × (map.get (below m e) (enc p.0) ≡ Some p))
  walk_holds e t p =
      let held = part_holds enc (below m e) (part_keyed enc m keyed (is_prefix e)) t p in
      let same = ap (λ es. Contains (each (λ x. x.1) es) p) (part_entries enc (below m e) (part_keyed enc m keyed (is_prefix e)) t) in
      (λ h. held.0 (subst (λ X. X) (sym same) h), λ h. subst (λ X. X) same (held.1 h))

  -- a test of prefixes
  prefix_tests : (p e : List ℕ) → T (is_prefix p e) ↔ IsPrefix p e
  prefix_tests p e = (λ h. prefix_by_test p e (true_by_test (is_prefix p e) h), λ h. subst T (sym (is_prefix_true p e h)) tt)

  pub below_holds : (e : List ℕ) (p : K × V) → Contains (pairs_below m e) p ↔ (IsPrefix e (enc p.0) × (map.get m (enc p.0) ≡ Some p))
  below_holds e p = (let held = part_holds enc m keyed (is_prefix e) p in let begins = prefix_tests e (enc p.0) in (λ h. (let both = held.0 h in (begins.0 both.0, both.1)), λ h. held.1 (begins.1 h.0, h.1)))

  pub above_holds : (e : List ℕ) (p : K × V) → Contains (pairs_above m e) p ↔ (IsPrefix (enc p.0) e × (map.get m (enc p.0) ≡ Some p))
  above_holds e p = (let held = part_holds enc m keyed (λ q. is_prefix q e) p in let begins = prefix_tests (enc p.0) e in (λ h. (let both = held.0 h in (begins.0 both.0, both.1)), λ h. held.1 (begins.1 h.0, h.1)))

  -- what a walk below a path holds that passes
  pub passed : (e : List ℕ) (t : List ℕ → Bool) (Passes : List ℕ → Type 0) → ((x : List ℕ) → T (t x) ↔ Passes x) → (p : K × V)
      → Contains (each (λ x. x.1) (filter (λ x. t x.0) (walk m e))) p ↔ (Contains (pairs_below m e) p × Passes (enc p.0))
  passed e t Passes tells p =
      let held = walk_holds e t p in
      let whole = pairs_held enc (below m e) (part_keyed enc m keyed (is_prefix e)) p in
      (λ h. (let both = held.0 h in (whole.1 both.1, (tells (enc p.0)).0 both.0)), λ h. held.1 ((tells (enc p.0)).1 h.1, whole.0 h.0))

  pub from_holds : (e q : List ℕ) (p : K × V) → Contains (pairs_from m e q) p ↔ (Contains (pairs_below m e) p × ((enc p.0 ≡ q) ⊎ IsBefore q (enc p.0)))
  from_holds e q = passed e (λ x. is_le (slice_cmp nat_cmp q x)) (λ x. (x ≡ q) ⊎ IsBefore q x) (λ x. (from_by_test q x, test_by_from q x))

  pub after_holds : (e q : List ℕ) (p : K × V) → Contains (pairs_after m e q) p ↔ (Contains (pairs_below m e) p × IsBefore q (enc p.0))
  after_holds e q = passed e (λ x. is_lt (slice_cmp nat_cmp q x)) (IsBefore q) (λ x. (before_by_test q x, test_by_before q x))

  pub rising_above : (e : List ℕ) → IsRising (each (λ p. enc p.0) (pairs_above m e))
  rising_above e = encodings_rise enc (map.retain_keys m (λ q. is_prefix q e)) (part_keyed enc m keyed (λ q. is_prefix q e))

  pub rising_walk : (e : List ℕ) (t : List ℕ → Bool) → IsRising (each (λ p. enc p.0) (each (λ x. x.1) (filter (λ x. t x.0) (walk m e))))
  rising_walk e t =
      let under = part_keyed enc m keyed (is_prefix e) in
      subst (λ es. IsRising (each (λ p. enc p.0) (each (λ x. x.1) es))) (part_entries enc (below m e) under t) (encodings_rise enc (map.retain_keys (below m e) t) (part_keyed enc (below m e) under t))

module _ {K V : Type 0} (enc : K → List ℕ) (is : K → Type 0) (cmp : K → K → Ordering) (kept : IsKeptOrder enc is cmp) where
  is_each : (es : List (List ℕ × (K × V))) → Each (λ e. is e.1.0) es → Each (λ p. is p.0) (each (λ e. e.1) es)
  is_each [] h = tt
  is_each (e ∷ es) h = (h.0, is_each es h.1)

  -- the keys of a keyed map rise in an order that the encodings keep
  keys_of_map_rise : (m : PairMap K V) → IsKeyed enc is m → AllPairs (λ x y. cmp x y ≡ Less) (each (λ p. p.0) (each (λ e. e.1) (map.entries m)))
  keys_of_map_rise m keyed =
      keys_rise enc is cmp kept (each (λ e. e.1) (map.entries m))
      (is_each (map.entries m) (Each-from_has (λ e. is e.1.0) (map.entries m) (λ e h. (keyed e.0 e.1 ((has_get m e.0 e.1).0 h)).1)))
      (encodings_rise enc m (λ e p at. (keyed e p at).0))

  -- so do those of the lists that pass a test
  pub keys_of_part_rise : (m : PairMap K V) → IsKeyed enc is m → (t : List ℕ → Bool) → AllPairs (λ x y. cmp x y ≡ Less) (each (λ p. p.0) (each (λ e. e.1) (map.entries (map.retain_keys m t))))
  keys_of_part_rise m keyed t = keys_of_map_rise (map.retain_keys m t) (keyed_part enc is m t keyed)

  -- and of a walk's
  pub keys_of_walk_rise : (m : PairMap K V) → IsKeyed enc is m → (e : List ℕ) (t : List ℕ → Bool) → AllPairs (λ x y. cmp x y ≡ Less) (each (λ p. p.0) (each (λ x. x.1) (filter (λ x. t x.0) (walk m e))))
  keys_of_walk_rise m keyed e t =
      let under = keyed_part enc is m (is_prefix e) keyed in
      subst (λ es. AllPairs (λ x y. cmp x y ≡ Less) (each (λ p. p.0) (each (λ x. x.1) es))) (part_entries enc (below m e) (λ x p at. (under x p at).0) t) (keys_of_part_rise (below m e) under t)
