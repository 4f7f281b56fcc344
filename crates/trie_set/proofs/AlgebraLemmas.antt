-- The algebra of sets, by what their maps answer at each list.
use Rattle.std.proofs.Common.{◌≡◌, ◌+◌, ℕ, true, false, cond, not, T, List, [], ◌∷◌, filter, length, Option, Some, None, is_eq, is_some, nat_cmp, refl, sym, ap, ◌∙◌, arith}
use Rattle.std.proofs.lemmas.Cmp.{nat_list_cmp_total}
use Rattle.std.proofs.lemmas.List.Filters.{length-filter_both}
use Rattle.std.specs.Cmp.Lexicographic.{slice_cmp}
use Rattle.std.specs.FinMap as map
use Rattle.std.specs.FinMap.{find, is_sorted}
use Rattle.std.specs.FinMap.Entries.{below_all}
use Rattle.nibble_map.specs.Maps.{NibbleMap}
use Rattle.nibble_map.proofs.ListLemmas.Sorted.{tied_lists_equal}
use Rattle.nibble_map.proofs.MapLemmas.Bridge.{entries-retain_keys, first_of_both, less_by_test, second_of_both}
use Rattle.radix_trie.specs.Sets.{common, joined, lacking, with_entries}
use Rattle.trie_set.proofs.SetLemmas.{get-common, get-joined, get-lacking, get-with_entries}

module _ {P : Type 0} where
  -- what two maps answer together
  abbrev either_of : Option P → Option P → Option P
  either_of a b = cond (is_some a) a b

  -- in common
  abbrev both_of : Option P → Option P → Option P
  both_of a b = cond (is_some b) a None

  -- the first without the other
  abbrev first_without : Option P → Option P → Option P
  first_without a b = cond (not (is_some b)) a None

  -- what is in common with two together is together what is in common with each
  both_over : (a b c : Option P) → both_of a (either_of b c) ≡ either_of (both_of a b) (both_of a c)
  both_over a None c = refl
  both_over None (Some y) None = refl
  both_over None (Some y) (Some z) = refl
  both_over (Some x) (Some y) c = refl

  -- what comes to what two have in common is in common of what comes to each
  either_over : (a b c : Option P) → either_of a (both_of b c) ≡ both_of (either_of a b) (either_of a c)
  either_over None b c = refl
  either_over (Some x) b c = refl

  -- in common with what one is a part of it is itself
  both_absorbs : (a b : Option P) → both_of a (either_of a b) ≡ a
  both_absorbs None None = refl
  both_absorbs None (Some y) = refl
  both_absorbs (Some x) b = refl

  -- nor does a part of it add to it
  either_absorbs : (a b : Option P) → either_of a (both_of a b) ≡ a
  either_absorbs None None = refl
  either_absorbs None (Some y) = refl
  either_absorbs (Some x) b = refl

  -- without two together it is without one and then the other
  without_either : (a b c : Option P) → first_without a (either_of b c) ≡ first_without (first_without a b) c
  without_either a None c = refl
  without_either a (Some y) None = refl
  without_either a (Some y) (Some z) = refl

  -- without what two have in common it is together without each
  without_both : (a b c : Option P) → first_without a (both_of b c) ≡ either_of (first_without a b) (first_without a c)
  without_both None None None = refl
  without_both (Some x) None None = refl
  without_both a (Some y) None = refl
  without_both None None (Some z) = refl
  without_both (Some x) None (Some z) = refl
  without_both a (Some y) (Some z) = refl

  -- its two parts are it together
  either_parts : (a b : Option P) → either_of (both_of a b) (first_without a b) ≡ a
  either_parts None None = refl
  either_parts (Some x) None = refl
  either_parts None (Some y) = refl
  either_parts (Some x) (Some y) = refl

  -- of three together it is one which two come first
  either_apart : (a b c : Option P) → either_of (either_of a b) c ≡ either_of a (either_of b c)
  either_apart None b c = refl
  either_apart (Some x) b c = refl

  -- nor in common
  both_apart : (a b c : Option P) → both_of (both_of a b) c ≡ both_of a (both_of b c)
  both_apart a b None = refl
  both_apart a b (Some z) = refl

  module _ (m n : NibbleMap P) (e : List ℕ) (a b : Option P) (ours : map.get m e ≡ a) (theirs : map.get n e ≡ b) where
    -- what two maps answer together
    joined_as : map.get (joined m n) e ≡ either_of a b
    joined_as = get-joined m n e ∙ ap (λ x. either_of x (map.get n e)) ours ∙ ap (either_of a) theirs

    -- in common
    common_as : map.get (common m n) e ≡ both_of a b
    common_as = get-common m n e ∙ ap (λ x. both_of x (map.get n e)) ours ∙ ap (both_of a) theirs

    -- and of the first without the other
    lacking_as : map.get (lacking m n) e ≡ first_without a b
    lacking_as = get-lacking m n e ∙ ap (λ x. first_without x (map.get n e)) ours ∙ ap (first_without a) theirs

  -- maps that answer alike are equal
  by_answers : (m n : NibbleMap P) → ((e : List ℕ) → map.get m e ≡ map.get n e) → m ≡ n
  by_answers m n is = map.same_map nat_list_cmp_total tied_lists_equal m n is

  -- the intersection with a union is the union of the intersections
  pub common_over : (m n o : NibbleMap P) → common m (joined n o) ≡ joined (common m n) (common m o)
  common_over m n o = by_answers _ _ (λ e.
      common_as m (joined n o) e _ _ refl (joined_as n o e _ _ refl refl) ∙ both_over (map.get m e) (map.get n e) (map.get o e)
      ∙ sym (joined_as (common m n) (common m o) e _ _ (common_as m n e _ _ refl refl) (common_as m o e _ _ refl refl)))

  -- the union with an intersection is the intersection of the unions
  pub joined_over : (m n o : NibbleMap P) → joined m (common n o) ≡ common (joined m n) (joined m o)
  joined_over m n o = by_answers _ _ (λ e.
      joined_as m (common n o) e _ _ refl (common_as n o e _ _ refl refl) ∙ either_over (map.get m e) (map.get n e) (map.get o e)
      ∙ sym (common_as (joined m n) (joined m o) e _ _ (joined_as m n e _ _ refl refl) (joined_as m o e _ _ refl refl)))

  -- the intersection with a union of itself is the set
  pub common_absorbs : (m n : NibbleMap P) → common m (joined m n) ≡ m
  common_absorbs m n = by_answers _ _ (λ e. common_as m (joined m n) e _ _ refl (joined_as m n e _ _ refl refl) ∙ both_absorbs (map.get m e) (map.get n e))

  -- so is the union with an intersection of itself
  pub joined_absorbs : (m n : NibbleMap P) → joined m (common m n) ≡ m
  joined_absorbs m n = by_answers _ _ (λ e. joined_as m (common m n) e _ _ refl (common_as m n e _ _ refl refl) ∙ either_absorbs (map.get m e) (map.get n e))

  -- what lies in neither of two is taken away one after the other
  pub lacking_both : (m n o : NibbleMap P) → lacking m (joined n o) ≡ lacking (lacking m n) o
  lacking_both m n o = by_answers _ _ (λ e.
      lacking_as m (joined n o) e _ _ refl (joined_as n o e _ _ refl refl) ∙ without_either (map.get m e) (map.get n e) (map.get o e)
      ∙ sym (lacking_as (lacking m n) o e _ _ (lacking_as m n e _ _ refl refl) refl))

  -- what does not lie in both of two lacks one or the other
  pub lacking_one : (m n o : NibbleMap P) → lacking m (common n o) ≡ joined (lacking m n) (lacking m o)
  lacking_one m n o = by_answers _ _ (λ e.
      lacking_as m (common n o) e _ _ refl (common_as n o e _ _ refl refl) ∙ without_both (map.get m e) (map.get n e) (map.get o e)
      ∙ sym (joined_as (lacking m n) (lacking m o) e _ _ (lacking_as m n e _ _ refl refl) (lacking_as m o e _ _ refl refl)))

  -- a set is the union of its two parts beside another
  pub parts_joined : (m n : NibbleMap P) → joined (common m n) (lacking m n) ≡ m
  parts_joined m n = by_answers _ _ (λ e.
      joined_as (common m n) (lacking m n) e _ _ (common_as m n e _ _ refl refl) (lacking_as m n e _ _ refl refl) ∙ either_parts (map.get m e) (map.get n e))

  -- unions can be made in either order
  pub joined_apart : (m n o : NibbleMap P) → joined (joined m n) o ≡ joined m (joined n o)
  joined_apart m n o = by_answers _ _ (λ e.
      joined_as (joined m n) o e _ _ (joined_as m n e _ _ refl refl) refl ∙ either_apart (map.get m e) (map.get n e) (map.get o e)
      ∙ sym (joined_as m (joined n o) e _ _ refl (joined_as n o e _ _ refl refl)))

  -- so can intersections
  pub common_apart : (m n o : NibbleMap P) → common (common m n) o ≡ common m (common n o)
  common_apart m n o = by_answers _ _ (λ e.
      common_as (common m n) o e _ _ (common_as m n e _ _ refl refl) refl ∙ both_apart (map.get m e) (map.get n e) (map.get o e)
      ∙ sym (common_as m (common n o) e _ _ refl (common_as n o e _ _ refl refl)))

  -- a list that comes before all entries has none
  no_entry : (q : List ℕ) (es : List (List ℕ × P)) → T (below_all (slice_cmp nat_cmp) q es) → find (slice_cmp nat_cmp) q es ≡ None
  no_entry q [] h = refl
  no_entry q (e ∷ es) h =
      ap (λ r. cond (is_eq r) (Some e.1) (find (slice_cmp nat_cmp) q es)) (less_by_test _ (first_of_both _ _ h)) ∙ no_entry q es (second_of_both _ _ h)

  -- entries that come to a map are those at whose lists it holds nothing
  len-with_entries : (es : List (List ℕ × P)) (n : NibbleMap P) → T (is_sorted (slice_cmp nat_cmp) es)
      → map.len (with_entries es n) ≡ length (filter (λ e. not (map.contains_key n e.0)) es) + map.len n
  len-with_entries [] n sorted = omega arith
  len-with_entries (e ∷ es) n sorted =
      let rest : map.len (with_entries es n) ≡ length (filter (λ e. not (map.contains_key n e.0)) es) + map.len n = len-with_entries es n (second_of_both _ _ sorted) in
      let alike : map.contains_key (with_entries es n) e.0 ≡ map.contains_key n e.0 =
      ap is_some (get-with_entries es n e.0 ∙ ap (λ (o : Option P). cond (is_some o) o (map.get n e.0)) (no_entry e.0 es (first_of_both _ _ sorted))) in
      map.len-insert nat_list_cmp_total (with_entries es n) e.0 e.1
      ∙ ap (λ b. cond b (map.len (with_entries es n)) (map.len (with_entries es n) + 1)) alike
      ∙ elim (map.contains_key n e.0) as (λ b. cond b (map.len (with_entries es n)) (map.len (with_entries es n) + 1)
      ≡ length (cond (not b) (e ∷ filter (λ e. not (map.contains_key n e.0)) es) (filter (λ e. not (map.contains_key n e.0)) es)) + map.len n) [
        | true ↦ rest
        | false ↦ omega (arith, rest)
      ]

  -- two sets have as many keys together and in common as one and the other
  pub counts : (m n : NibbleMap P) → map.len (joined m n) + map.len (common m n) ≡ map.len m + map.len n
  counts m n =
      let all = len-with_entries (map.entries m) n (map.entries_sorted m) in
      let part = map.len-entries (common m n) ∙ ap length (entries-retain_keys (slice_cmp nat_cmp) nat_list_cmp_total tied_lists_equal m (λ e. map.contains_key n e)) in
      let both = length-filter_both (λ (e : List ℕ × P). map.contains_key n e.0) (λ e. not (map.contains_key n e.0)) (λ e. refl) (map.entries m) in
      omega (arith, all, part, both, map.len-entries m)
