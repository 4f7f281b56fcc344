-- Pairs put into a map from the last to the first.
use Rattle.std.proofs.Common.{◌≡◌, ℕ, List, [], ◌∷◌, ◌++◌, None, refl, sym, ap, subst, ◌∙◌, append_assoc}
use Rattle.std.proofs.lemmas.List.{map-append}
use Rattle.std.specs.Cmp.Lexicographic.{slice_cmp}
use Rattle.std.specs.FinMap as fin
use Rattle.std.specs.Ordering.{nat_cmp}
use Rattle.nibble_map.specs.Lists.{IsRising}
use Rattle.nibble_map.specs.Maps.{PairMap}
use Rattle.nibble_map.proofs.MapLemmas.Bridge.{from_sorted-nil}
use Rattle.nibble_map.proofs.MapLemmas.Edits.{from_sorted-lists_swapped_over}
use Rattle.radix_trie.specs.Views.{pairs_below}
use Rattle.frozen_trie.specs.Frozen.{codes_of, coded_pairs, map_of_pairs}
use Rattle.frozen_trie.proofs.FrozenLemmas.Queries.{whole_is}
use Rattle.frozen_trie.proofs.FrozenLemmas.Rows.{stored_rows}

-- the last part of rising codes rises
rising_behind : (xs ys : List (List ℕ)) → IsRising (xs ++ ys) → IsRising ys
rising_behind [] ys h = h
rising_behind (x ∷ xs) ys h = rising_behind xs ys h.1

module _ {K V : Type 0} (enc : K → List ℕ) where
  -- a pair whose code comes before all others is put in front
  insert_first : (p : K × V) (ps : List (K × V)) → IsRising (codes_of enc (p ∷ ps)) → fin.insert (map_of_pairs enc ps) (enc p.0) p ≡ map_of_pairs enc (p ∷ ps)
  insert_first p ps h =
      sym (from_sorted-lists_swapped_over (enc p.0) None p (coded_pairs enc ps) (coded_pairs enc (p ∷ ps))
      (subst IsRising (sym (stored_rows enc ps)) h.1) (subst IsRising (sym (stored_rows enc (p ∷ ps))) h)
      (record { before = []; after = coded_pairs enc ps; was = refl; is = refl }))

  -- the empty map has no pair
  pub none_of_empty : pairs_below {K = K} {V = V} fin.empty [] ≡ []
  none_of_empty = ap (λ m. pairs_below m []) (sym (from_sorted-nil (slice_cmp nat_cmp))) ∙ whole_is enc [] tt

  -- the map of no pair is empty
  pub empty_of_none : map_of_pairs enc (pairs_below {K = K} {V = V} fin.empty []) ≡ fin.empty
  empty_of_none = ap (map_of_pairs enc) none_of_empty ∙ from_sorted-nil (slice_cmp nat_cmp)

  -- what is left of all pairs in front, and the map of those behind
  pub record IsThawed (all front : List (K × V)) (m : PairMap K V) : Type 0 where
    pub order : front ++ pairs_below m [] ≡ all
    pub mapped : m ≡ map_of_pairs enc (pairs_below m [])

  -- at first all are left
  pub none_thawed : (all : List (K × V)) (m : PairMap K V) → m ≡ fin.empty → all ++ [] ≡ all → IsThawed all all m
  none_thawed all m e n = record {
    order = ap (λ x. all ++ pairs_below x []) e ∙ ap (λ x. all ++ x) none_of_empty ∙ n;
    mapped = e ∙ sym empty_of_none ∙ ap (λ x. map_of_pairs enc (pairs_below x [])) (sym e);
  }

  -- the last of those in front is put into the map
  pub one_thawed : (all front : List (K × V)) (p : K × V) (m n : PairMap K V) → IsRising (codes_of enc all) → IsThawed all (front ++ p ∷ []) m
      → n ≡ fin.insert m (enc p.0) p → IsThawed all front n
  one_thawed all front p m n rises before put =
      let rest = pairs_below m [] in
      let here : front ++ p ∷ rest ≡ all = sym (append_assoc front (p ∷ []) rest) ∙ before.order in
      let rising = rising_behind (codes_of enc front) (codes_of enc (p ∷ rest)) (subst IsRising (ap (codes_of enc) (sym here) ∙ map-append (λ q. enc q.0) front (p ∷ rest)) rises) in
      let made : n ≡ map_of_pairs enc (p ∷ rest) = put ∙ ap (λ x. fin.insert x (enc p.0) p) before.mapped ∙ insert_first p rest rising in
      let pairs : pairs_below n [] ≡ p ∷ rest = ap (λ x. pairs_below x []) made ∙ whole_is enc (p ∷ rest) rising in
      record {
        order = ap (λ x. front ++ x) pairs ∙ here;
        mapped = made ∙ ap (map_of_pairs enc) (sym pairs);
      }
