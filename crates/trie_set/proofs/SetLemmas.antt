-- Sets side by side, and the walks that stand for them.
use Rattle.std.proofs.Common.{◌≡◌, ◌-◌, ◌↔◌, ◌⊎◌, inl, inr, ℕ, Bool, true, false, cond, not, T, List, [], ◌∷◌, length, slice_get, Option, Some, None, IsTrue, is_some, option_copied, option_map, map as each, nat_cmp, refl, sym, ap, ◌∙◌, subst}
use Rattle.std.proofs.lemmas.Cmp.{nat_list_cmp_total}
use Rattle.std.proofs.lemmas.List.{length-map}
use Rattle.std.proofs.lemmas.Option.{slice_get-map}
use Rattle.std.specs.Cmp.Lexicographic.{slice_cmp}
use Rattle.std.specs.Borrow.{Bor}
use Rattle.std.specs.FinMap as map
use Rattle.std.specs.FinMap.{find}
use Rattle.std.specs.Option.{ForSome}
use Rattle.std.specs.Ordering.{eq_by_cmp}
use Rattle.nibble_map.specs.Lists.{Has}
use Rattle.nibble_map.specs.Maps.{IsStored, NibbleMap, PairMap, below}
use Rattle.nibble_map.proofs.ListLemmas.Cut.{empty_of_length}
use Rattle.nibble_map.proofs.MapLemmas.Below.{get-retained_lists}
use Rattle.nibble_map.proofs.MapLemmas.Edits.{has_get}
use Rattle.radix_trie.specs.Views.{pairs_below}
use Rattle.radix_trie.specs.Combinations.{has_entry}
use Rattle.radix_trie.specs.Sets.{common, joined, lacking, with_entries}
use Rattle.radix_trie.proofs.CombinationLemmas.Maps.{whole_walk}
use Rattle.trie_set.specs.Sets.{keys_in}

true_by_test : (b : Bool) → T b → b ≡ true
true_by_test true h = refl
true_by_test false h = absurd h

false_by_test : (b : Bool) → (T b → ⊥) → b ≡ false
false_by_test true h = absurd (h tt)
false_by_test false h = refl

negated : (b : Bool) → T (not b) ↔ (T b → ⊥)
negated true = (λ h. absurd h, λ h. absurd (h tt))
negated false = (λ h k. k, λ h. tt)

-- a test that can't fail passes
by_two : (b : Bool) → ((T b → ⊥) → ⊥) → T b
by_two true h = tt
by_two false h = absurd (h (λ k. k))

module _ {K V : Type 0} where
  keys_of_pairs : (es : List (List ℕ × (K × V))) → each (λ p. p.0) (each (λ e. e.1) es) ≡ each (λ e. e.1.0) es
  keys_of_pairs [] = refl
  keys_of_pairs (e ∷ es) = ap (λ xs. e.1.0 ∷ xs) (keys_of_pairs es)

  -- the keys of the whole walk are those of the map
  pub keys_of_walk : (m : PairMap K V) → each (λ p. p.0) (pairs_below m []) ≡ keys_in m
  keys_of_walk m = ap (λ es. each (λ p. p.0) (each (λ e. e.1) es)) (whole_walk m) ∙ keys_of_pairs (map.entries m)

  -- so each key of the map is that of a pair of the walk
  pub key_of_walk : (m : PairMap K V) (i : ℕ) → slice_get (keys_in m) i ≡ option_map (λ p. p.0) (slice_get (pairs_below m []) i)
  key_of_walk m i = ap (λ ks. slice_get ks i) (sym (keys_of_walk m)) ∙ slice_get-map (λ p. p.0) (pairs_below m []) i

  -- the last one too
  pub last_of_walk : (m : PairMap K V) → slice_get (keys_in m) (length (keys_in m) - 1)
      ≡ option_map (λ p. p.0) (slice_get (pairs_below m []) (length (pairs_below m []) - 1))
  last_of_walk m =
      ap (λ n. slice_get (keys_in m) (n - 1)) (ap length (sym (keys_of_walk m)) ∙ length-map (pairs_below m []) (λ p. p.0))
      ∙ key_of_walk m (length (pairs_below m []) - 1)

  -- the key of such a pair
  pub key_by_walk : (m : PairMap K V) (i : ℕ) (o : Option (K × V)) → o ≡ slice_get (pairs_below m []) i → option_map (λ p. p.0) o ≡ slice_get (keys_in m) i
  key_by_walk m i o same = ap (option_map (λ p. p.0)) same ∙ sym (key_of_walk m i)

  pub last_by_walk : (m : PairMap K V) (o : Option (K × V)) → o ≡ slice_get (pairs_below m []) (length (pairs_below m []) - 1)
      → option_map (λ p. p.0) o ≡ slice_get (keys_in m) (length (keys_in m) - 1)
  last_by_walk m o same = ap (option_map (λ p. p.0)) same ∙ sym (last_of_walk m)

-- the walk below the empty list is over as many pairs as the map has
pub len-whole : {P : Type 0} (m : NibbleMap P) → map.len (below m []) ≡ map.len m
len-whole m = map.len-entries (below m []) ∙ ap length (whole_walk m) ∙ sym (map.len-entries m)

-- what the maps of two sets hold
module _ {P : Type 0} where
  -- a part answers as the map does at the lists that it keeps
  pub get-common : (m n : NibbleMap P) (e : List ℕ) → map.get (common m n) e ≡ cond (map.contains_key n e) (map.get m e) None
  get-common m n e = get-retained_lists m (λ q. map.contains_key n q) e

  pub get-lacking : (m n : NibbleMap P) (e : List ℕ) → map.get (lacking m n) e ≡ cond (not (map.contains_key n e)) (map.get m e) None
  get-lacking m n e = get-retained_lists m (λ q. not (map.contains_key n q)) e

  kept : (b : Bool) (o : Option P) → T (is_some (cond b o None)) ↔ (T (is_some o) × T b)
  kept true o = (λ h. (h, tt), λ h. h.0)
  kept false o = (λ h. absurd h, λ h. absurd h.1)

  pub stored-common : (m n : NibbleMap P) (e : List ℕ) → IsStored (common m n) e ↔ (IsStored m e × IsStored n e)
  stored-common m n e =
      let same = ap is_some (get-common m n e) in
      let both = kept (map.contains_key n e) (map.get m e) in
      (λ h. both.0 (subst T same h), λ h. subst T (sym same) (both.1 h))

  pub stored-lacking : (m n : NibbleMap P) (e : List ℕ) → IsStored (lacking m n) e ↔ (IsStored m e × (IsStored n e → ⊥))
  stored-lacking m n e =
      let same = ap is_some (get-lacking m n e) in
      let both = kept (not (map.contains_key n e)) (map.get m e) in
      let no = negated (map.contains_key n e) in
      (λ h. (let k = both.0 (subst T same h) in (k.0, no.0 k.1)), λ h. subst T (sym same) (both.1 (h.0, no.1 h.1)))

  first_else : (b : Bool) (v : P) (o p : Option P) → cond b (Some v) (cond (is_some o) o p) ≡ cond (is_some (cond b (Some v) o)) (cond b (Some v) o) p
  first_else true v o p = refl
  first_else false v o p = refl

  pub get-with_entries : (es : List (List ℕ × P)) (n : NibbleMap P) (q : List ℕ) → map.get (with_entries es n) q ≡ cond (has_entry es q) (find (slice_cmp nat_cmp) q es) (map.get n q)
  get-with_entries [] n q = refl
  get-with_entries (e ∷ es) n q =
      map.get-insert nat_list_cmp_total (with_entries es n) e.0 e.1 q
      ∙ ap (cond (eq_by_cmp (slice_cmp nat_cmp) q e.0) (Some e.1)) (get-with_entries es n q)
      ∙ first_else (eq_by_cmp (slice_cmp nat_cmp) q e.0) e.1 (find (slice_cmp nat_cmp) q es) (map.get n q)

  -- two maps together answer as the first does where it stores the list, and else as the other
  pub get-joined : (m n : NibbleMap P) (e : List ℕ) → map.get (joined m n) e ≡ cond (map.contains_key m e) (map.get m e) (map.get n e)
  get-joined m n e = get-with_entries (map.entries m) n e ∙ ap (λ o. cond (is_some o) o (map.get n e)) (sym (map.get-entries m e))

  one : (o p : Option P) → T (is_some (cond (is_some o) o p)) ↔ (T (is_some o) ⊎ T (is_some p))
  one None p = (λ h. inr h, λ h. elim h [ inl k ↦ absurd k | inr k ↦ k ])
  one (Some x) p = (λ h. inl tt, λ h. tt)

  pub stored-joined : (m n : NibbleMap P) (e : List ℕ) → IsStored (joined m n) e ↔ (IsStored m e ⊎ IsStored n e)
  stored-joined m n e =
      let same = ap is_some (get-joined m n e) in
      let either = one (map.get m e) (map.get n e) in
      (λ h. either.0 (subst T same h), λ h. subst T (sym same) (either.1 h))

  pub get-common_ours : (m n : NibbleMap P) (e : List ℕ) → IsStored n e → map.get (common m n) e ≡ map.get m e
  get-common_ours m n e h = get-common m n e ∙ ap (λ b. cond b (map.get m e) None) (true_by_test (map.contains_key n e) h)

  pub get-joined_ours : (m n : NibbleMap P) (e : List ℕ) → IsStored m e → map.get (joined m n) e ≡ map.get m e
  get-joined_ours m n e h = get-joined m n e ∙ ap (λ b. cond b (map.get m e) (map.get n e)) (true_by_test (map.contains_key m e) h)

  pub get-joined_theirs : (m n : NibbleMap P) (e : List ℕ) → (IsStored m e → ⊥) → map.get (joined m n) e ≡ map.get n e
  get-joined_theirs m n e h = get-joined m n e ∙ ap (λ b. cond b (map.get m e) (map.get n e)) (false_by_test (map.contains_key m e) h)

  -- a map has no first entry just where it stores nothing
  some_stored : (m : NibbleMap P) (e : List ℕ) → IsStored m e → (x : P) × (map.get m e ≡ Some x)
  some_stored m e h = by (map.get m e) refl h
    where
      by : (o : Option P) → map.get m e ≡ o → T (is_some o) → (x : P) × (map.get m e ≡ Some x)
      by None same h = absurd h
      by (Some x) same h = (x, same)

  none_stored : (m : NibbleMap P) → map.entries m ≡ [] → (e : List ℕ) → IsStored m e → ⊥
  none_stored m bare e h = let at = some_stored m e h in subst (λ es. Has es (e, at.0)) bare ((has_get m e at.0).1 at.1)

  -- a map without a pair stores nothing
  pub len_none_stored : (m : NibbleMap P) → map.len m ≡ 0 → (e : List ℕ) → IsStored m e → ⊥
  len_none_stored m bare = none_stored m (empty_of_length (map.entries m) (sym (map.len-entries m) ∙ bare))

module _ {K V : Type 0} where
  first_key : (es : List (List ℕ × (K × V))) → slice_get (each (λ e. e.1.0) es) 0 ≡ None → es ≡ []
  first_key [] h = refl
  first_key (e ∷ es) h = absurd (let never : Some e.1.0 ≡ None = h in cc)

  -- where there is no first key, nothing is stored
  pub none_first : (m : PairMap K V) → slice_get (keys_in m) 0 ≡ None → (e : List ℕ) → IsStored m e → ⊥
  none_first m h = none_stored m (first_key (map.entries m) h)

  -- where nothing is stored, there is no first key
  pub first_none : (m : PairMap K V) → ((e : List ℕ) → IsStored m e → ⊥) → slice_get (keys_in m) 0 ≡ None
  first_none m h = by (map.entries m) refl
    where
      by : (es : List (List ℕ × (K × V))) → map.entries m ≡ es → slice_get (each (λ e. e.1.0) es) 0 ≡ None
      by [] same = refl
      by (e ∷ es) same = absurd (h e.0 (subst (λ o. T (is_some o)) (sym ((has_get m e.0 e.1).0 (subst (λ l. Has l (e.0, e.1)) (sym same) (inl refl)))) tt))

module _ {K V : Type 0} where
  -- no key is lacking just where the other map stores all lists
  pub subset_by_first : (m n : PairMap K V) → (slice_get (keys_in (lacking m n)) 0 ≡ None) ↔ ((e : List ℕ) → IsStored m e → IsStored n e)
  subset_by_first m n = (
    λ none e h. by_two (map.contains_key n e) (λ no. none_first (lacking m n) none e ((stored-lacking m n e).1 (h, no))),
    λ all. first_none (lacking m n) (λ e h. (let both = (stored-lacking m n e).0 h in both.1 (all e both.0))),
  )

  -- no key is common just where the maps store no list both
  pub disjoint_by_first : (m n : PairMap K V) → (slice_get (keys_in (common m n)) 0 ≡ None) ↔ ((e : List ℕ) → IsStored m e → IsStored n e → ⊥)
  disjoint_by_first m n = (
    λ none e h k. none_first (common m n) none e ((stored-common m n e).1 (h, k)),
    λ apart. first_none (common m n) (λ e h. (let both = (stored-common m n e).0 h in apart e both.0 both.1)),
  )

-- a call that returns whether there was a first one
pub first_tested : {K : Type 0} (P : Type 0) (b : Bool) (o : Option (Bor K)) (first : Option K) → is_some o ≡ not b → option_copied o ≡ first → ((first ≡ None) ↔ P) → IsTrue b ↔ P
first_tested P true None first test same tells = (λ h. tells.0 (sym same), λ h. refl)
first_tested P false None first test same tells = absurd (cc)
first_tested P true (Some x) first test same tells = absurd (cc)
first_tested P false (Some x) first test same tells = (λ h. absurd (let never : false ≡ true = h in cc), λ h. absurd (let never : Some x.now ≡ None = same ∙ tells.1 h in cc))

-- what holds of a key of the map, if there is one, holds of that of the walk's pair
module _ {K V : Type 0} (m : PairMap K V) (P : K → Type 0) where
  pub key_holds : (i : ℕ) → ForSome (slice_get (keys_in m) i) P → ForSome (slice_get (pairs_below m []) i) (λ p. P p.0)
  key_holds i h = λ p same. h p.0 (key_of_walk m i ∙ ap (option_map (λ q. q.0)) same)

  pub last_holds : ForSome (slice_get (keys_in m) (length (keys_in m) - 1)) P → ForSome (slice_get (pairs_below m []) (length (pairs_below m []) - 1)) (λ p. P p.0)
  last_holds h = λ p same. h p.0 (last_of_walk m ∙ ap (option_map (λ q. q.0)) same)
