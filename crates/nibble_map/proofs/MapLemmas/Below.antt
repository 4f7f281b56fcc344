-- Edits and the part of a map below a prefix.
use Rattle.std.proofs.Common.{◌≡◌, ℕ, Bool, true, false, cond, not, ◌&&◌, T, List, Option, Some, None, refl, sym, ap, ◌∙◌, subst, nat_cmp}
use Rattle.std.specs.Ordering.{eq_by_cmp}
use Rattle.std.specs.Cmp.Lexicographic.{slice_cmp}
use Rattle.std.proofs.lemmas.Cmp.{nat_list_cmp_total}
use Rattle.std.specs.FinMap as map
use Rattle.nibble_map.specs.Lists.{is_prefix}
use Rattle.nibble_map.specs.Maps.{NibbleMap, below}
use Rattle.nibble_map.proofs.MapLemmas.Bridge.{test-tied_keys, equal_by_test}
use Rattle.nibble_map.proofs.ListLemmas.Sorted.{tied_lists_equal}

-- a test that holds at e holds at each list that compares as equal to e
passes_at : (t : List ℕ → Bool) (q e : List ℕ) → T (t e) → T (eq_by_cmp (slice_cmp nat_cmp) q e) → T (t q)
passes_at t q e h b = subst (λ l. T (t l)) (sym (tied_lists_equal q e (equal_by_test _ b))) h

module _ {P : Type 0} where
  -- the map restricted to a test answers as the map where the test passes, and else nothing
  pub get-retained_lists : (m : NibbleMap P) (t : List ℕ → Bool) (q : List ℕ) → map.get (map.retain_keys m t) q ≡ cond (t q) (map.get m q) None
  get-retained_lists m t q = map.get-retain_keys m t q (test-tied_keys (slice_cmp nat_cmp) tied_lists_equal t q)

  -- a test t at q, and an entry at e that q may be; b is whether it is
  -- where the test passes at e, testing after an entry is set at e is testing before
  cond-inside : (t : Bool) (b : Bool) (v o : Option P) → (T b → T t) → cond t (cond b v o) None ≡ cond b v (cond t o None)
  cond-inside true b v o h = refl
  cond-inside false true v o h = absurd (h tt)
  cond-inside false false v o h = refl

  -- where the test fails at e, what is set at e isn't seen after the test
  cond-outside : (t : Bool) (b : Bool) (v o : Option P) → (T b → T (not t)) → cond t (cond b v o) None ≡ cond t o None
  cond-outside true true v o h = absurd (h tt)
  cond-outside true false v o h = refl
  cond-outside false b v o h = refl

  -- what is cut at e may be cut before the test or after it
  cond-cut : (t : Bool) (b : Bool) (o : Option P) → cond t (cond b None o) None ≡ cond b None (cond t o None)
  cond-cut true b o = refl
  cond-cut false true o = refl
  cond-cut false false o = refl

  -- two tests, one after the other, are both tests at once
  cond-twice : (s t : Bool) (o : Option P) → cond t (cond s o None) None ≡ cond (s && t) o None
  cond-twice true t o = refl
  cond-twice false true o = refl
  cond-twice false false o = refl

  -- below p, an insertion at a list with the prefix p is an insertion into the part below p
  pub below-insert_inside : (m : NibbleMap P) (p e : List ℕ) (v : P) → T (is_prefix p e) → below (map.insert m e v) p ≡ map.insert (below m p) e v
  below-insert_inside m p e v h = map.same_map nat_list_cmp_total tied_lists_equal _ _ (λ q. get-retained_lists _ (is_prefix p) q ∙ ap (λ o. cond (is_prefix p q) o None) (map.get-insert nat_list_cmp_total m e v q)
      ∙ cond-inside (is_prefix p q) (eq_by_cmp (slice_cmp nat_cmp) q e) (Some v) (map.get m q) (passes_at (is_prefix p) q e h)
      ∙ ap (cond (eq_by_cmp (slice_cmp nat_cmp) q e) (Some v)) (sym (get-retained_lists m (is_prefix p) q)) ∙ sym (map.get-insert nat_list_cmp_total (below m p) e v q))

  -- below p, an insertion at a list without the prefix p changes nothing
  pub below-insert_outside : (m : NibbleMap P) (p e : List ℕ) (v : P) → T (not (is_prefix p e)) → below (map.insert m e v) p ≡ below m p
  below-insert_outside m p e v h = map.same_map nat_list_cmp_total tied_lists_equal _ _ (λ q. get-retained_lists _ (is_prefix p) q ∙ ap (λ o. cond (is_prefix p q) o None) (map.get-insert nat_list_cmp_total m e v q)
      ∙ cond-outside (is_prefix p q) (eq_by_cmp (slice_cmp nat_cmp) q e) (Some v) (map.get m q) (passes_at (λ l. not (is_prefix p l)) q e h) ∙ sym (get-retained_lists m (is_prefix p) q))

  -- below p, a removal is a removal from the part below p
  pub below-remove : (m : NibbleMap P) (p e : List ℕ) → below (map.remove m e) p ≡ map.remove (below m p) e
  below-remove m p e = map.same_map nat_list_cmp_total tied_lists_equal _ _ (λ q. get-retained_lists _ (is_prefix p) q ∙ ap (λ o. cond (is_prefix p q) o None) (map.get-remove nat_list_cmp_total m e q)
      ∙ cond-cut (is_prefix p q) (eq_by_cmp (slice_cmp nat_cmp) q e) (map.get m q)
      ∙ ap (cond (eq_by_cmp (slice_cmp nat_cmp) q e) None) (sym (get-retained_lists m (is_prefix p) q)) ∙ sym (map.get-remove nat_list_cmp_total (below m p) e q))

  -- the part below q of the part below p holds the lists with both prefixes
  pub below-below : (m : NibbleMap P) (p q : List ℕ) → below (below m p) q ≡ map.retain_keys m (λ e. is_prefix p e && is_prefix q e)
  below-below m p q = map.same_map nat_list_cmp_total tied_lists_equal _ _ (λ x. get-retained_lists _ (is_prefix q) x ∙ ap (λ o. cond (is_prefix q x) o None) (get-retained_lists m (is_prefix p) x)
      ∙ cond-twice (is_prefix p x) (is_prefix q x) (map.get m x) ∙ sym (get-retained_lists m (λ e. is_prefix p e && is_prefix q e) x))

  -- `cond` on a test that holds is its first branch
  true_at : (b : Bool) → T b → (o : Option P) → cond b o None ≡ o
  true_at true h o = refl
  true_at false h o = absurd h

  -- at a list with the prefix p, the part below p answers as the map does
  pub get-below : (m : NibbleMap P) (p e : List ℕ) → T (is_prefix p e) → map.get (below m p) e ≡ map.get m e
  get-below m p e h = get-retained_lists m (is_prefix p) e ∙ true_at _ h _
