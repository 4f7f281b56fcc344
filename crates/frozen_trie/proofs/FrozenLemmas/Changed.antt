-- Pairs whose values are changed, one after the other.
use Rattle.std.proofs.Common.{◌≡◌, ℕ, zero, suc, ◌<◌, ◌≤◌, List, [], ◌∷◌, ◌++◌, length, take, drop, get_or, slice_set, append-nil, refl, sym, ap, subst, ◌∙◌, arith}
use Rattle.masked_tree.specs.Same.{AreEntryCopies}
use Rattle.frozen_trie.specs.Changes.{AreChanged}
use Rattle.nibble_map.specs.Copies.{IsMapCopy}
use Rattle.nibble_map.specs.Lists.{IsRising}
use Rattle.frozen_trie.specs.Frozen.{IsFrozen, coded_pairs, codes_of, map_of_pairs}
use Rattle.frozen_trie.proofs.FrozenLemmas.Copied.{codes_copied, map_of_copies}
use Rattle.std.proofs.lemmas.List.{drop_all, take_all}

module _ {K V : Type 0} (R : K × V → V → Type 0) where
  -- the pairs before an index are changed, and the others aren't
  abbrev pub AreChangedTo : ℕ → List (K × V) → List (K × V) → Type 0
  AreChangedTo zero old now = now ≡ old
  AreChangedTo (suc i) [] [] = Unit {0}
  AreChangedTo (suc i) [] (q ∷ qs) = ⊥
  AreChangedTo (suc i) (p ∷ ps) [] = ⊥
  AreChangedTo (suc i) (p ∷ ps) (q ∷ qs) = (q.0 ≡ p.0) × R p q.1 × AreChangedTo i ps qs

  -- the one at the index is as it was
  pub not_changed_yet : (i : ℕ) (old now : List (K × V)) (d : K × V) → AreChangedTo i old now → get_or now i d ≡ get_or old i d
  not_changed_yet zero old now d h = ap (λ xs. get_or xs 0 d) h
  not_changed_yet (suc i) [] [] d h = refl
  not_changed_yet (suc i) [] (q ∷ qs) d h = absurd h
  not_changed_yet (suc i) (p ∷ ps) [] d h = absurd h
  not_changed_yet (suc i) (p ∷ ps) (q ∷ qs) d h = not_changed_yet i ps qs d h.2

  -- once it is changed, those before the next index are
  pub one_changed : (i : ℕ) (old now : List (K × V)) (p q : K × V) → i < length now → p ≡ get_or now i p → AreChangedTo i old now → q.0 ≡ p.0 → R p q.1
      → AreChangedTo (suc i) old (slice_set now i q)
  one_changed zero old [] p q l at h e r = absurd (omega (arith, l))
  one_changed zero old (x ∷ now) p q l at h e r =
      subst (λ o. AreChangedTo 1 o (q ∷ now)) h (e ∙ ap (λ y. y.0) at, subst (λ y. R y q.1) at r, refl)
  one_changed (suc i) [] [] p q l at h e r = absurd (omega (arith, l))
  one_changed (suc i) [] (x ∷ now) p q l at h e r = absurd h
  one_changed (suc i) (o ∷ old) [] p q l at h e r = absurd h
  one_changed (suc i) (o ∷ old) (x ∷ now) p q l at h e r = (h.0, h.1, one_changed i old now p q (omega (arith, l)) at h.2 e r)

  -- at the end all are
  pub all_changed : (i : ℕ) (old now : List (K × V)) → length old ≤ i → AreChangedTo i old now → AreChanged R old now
  all_changed zero [] now l h = subst (AreChanged R []) (sym h) tt
  all_changed zero (p ∷ ps) now l h = absurd (omega (arith, l))
  all_changed (suc i) [] [] l h = tt
  all_changed (suc i) [] (q ∷ qs) l h = absurd h
  all_changed (suc i) (p ∷ ps) [] l h = absurd h
  all_changed (suc i) (p ∷ ps) (q ∷ qs) l h = (h.0, h.1, all_changed i ps qs (omega (arith, l)) h.2)

  -- the pairs keep their encodings, each with its changed value
  pub changed_copies : (enc : K → List ℕ) (old now : List (K × V)) → AreChanged R old now
      → AreEntryCopies (λ p q. (q.0 ≡ p.0) × R p q.1) (coded_pairs enc old) (coded_pairs enc now)
  changed_copies enc [] [] h = tt
  changed_copies enc [] (q ∷ qs) h = absurd h
  changed_copies enc (p ∷ ps) [] h = absurd h
  changed_copies enc (p ∷ ps) (q ∷ qs) h = (ap enc h.0, (h.0, h.1), changed_copies enc ps qs h.2)

  -- there are as many
  as_many_kept : (old now : List (K × V)) → AreChanged R old now → length now ≡ length old
  as_many_kept [] [] h = refl
  as_many_kept [] (q ∷ qs) h = absurd h
  as_many_kept (p ∷ ps) [] h = absurd h
  as_many_kept (p ∷ ps) (q ∷ qs) h = let r = as_many_kept ps qs h.2 in omega (arith, r)

  -- what is written back in their place
  pub written_back : (len : ℕ) (old now : List (K × V)) → len ≡ length old → AreChanged R old now → take len (now ++ drop (length now) old) ≡ now
  written_back len old now e h =
      let many = as_many_kept old now h in
      ap (λ xs. take len (now ++ xs)) (drop_all (length now) old (omega (arith, many))) ∙ ap (take len) (append-nil now) ∙ take_all len now (omega (arith, many, e))

  module _ (enc : K → List ℕ) (old now : List (K × V)) (h : AreChanged R old now) where
    -- so their codes and links stay
    pub changed_kept : (cs : List (List ℕ)) (parents : List ℕ) → IsFrozen enc cs old parents → IsFrozen enc cs now parents
    changed_kept cs parents kept = record { keyed = kept.keyed ∙ sym (codes_copied enc _ old now (changed_copies enc old now h)); linked = kept.linked }

    -- and each value of their map is changed
    pub changed_map : IsRising (codes_of enc old) → IsMapCopy (λ p q. (q.0 ≡ p.0) × R p q.1) (map_of_pairs enc old) (map_of_pairs enc now)
    changed_map rises = map_of_copies enc _ old now rises (changed_copies enc old now h)
