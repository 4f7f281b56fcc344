-- Pairs that are copies of others, with the same encodings.
use Rattle.std.proofs.Common.{◌≡◌, ℕ, List, [], ◌∷◌, refl, sym, ap, subst, ◌∙◌}
use Rattle.std.specs.FinMap as fin
use Rattle.nibble_map.specs.Copies.{IsMapCopy}
use Rattle.nibble_map.specs.Lists.{IsRising}
use Rattle.masked_tree.specs.Same.{AreEntryCopies}
use Rattle.masked_tree.proofs.SameLemmas.Copies.{map_copied}
use Rattle.frozen_trie.specs.Frozen.{codes_of, coded_pairs, map_of_pairs}
use Rattle.frozen_trie.proofs.FrozenLemmas.Rows.{entries_are_rows}

module _ {K V : Type 0} (enc : K → List ℕ) (R : K × V → K × V → Type 0) where
  -- copies have the same encodings
  pub codes_copied : (ps qs : List (K × V)) → AreEntryCopies R (coded_pairs enc ps) (coded_pairs enc qs) → codes_of enc qs ≡ codes_of enc ps
  codes_copied [] [] h = refl
  codes_copied [] (q ∷ qs) h = absurd h
  codes_copied (p ∷ ps) [] h = absurd h
  codes_copied (p ∷ ps) (q ∷ qs) h = ap (λ c. c ∷ codes_of enc qs) h.0 ∙ ap (λ cs. enc p.0 ∷ cs) (codes_copied ps qs h.2)

  -- so their map is a copy
  pub map_of_copies : (ps qs : List (K × V)) → IsRising (codes_of enc ps) → AreEntryCopies R (coded_pairs enc ps) (coded_pairs enc qs)
      → IsMapCopy R (map_of_pairs enc ps) (map_of_pairs enc qs)
  map_of_copies ps qs rises h =
      let others = subst IsRising (sym (codes_copied ps qs h)) rises in
      map_copied R (map_of_pairs enc ps) (map_of_pairs enc qs)
      (subst (λ es. AreEntryCopies R es (fin.entries (map_of_pairs enc qs))) (sym (entries_are_rows enc ps rises))
      (subst (AreEntryCopies R (coded_pairs enc ps)) (sym (entries_are_rows enc qs others)) h))
