-- Pairs appended one by one, each behind all others.
use Rattle.std.proofs.Common.{◌≡◌, ℕ, inl, inr, List, [], ◌∷◌, ◌++◌, sym, ap, subst, ◌∙◌}
use Rattle.std.proofs.lemmas.List.{map-append}
use Rattle.std.proofs.lemmas.List.Sums.{fold-append}
use Rattle.std.specs.FinMap as fin
use Rattle.nibble_map.specs.Lists.{IsBefore, IsRising, Has}
use Rattle.nibble_map.specs.Maps.{IsStored}
use Rattle.nibble_map.proofs.ListLemmas.Rising.{IsRising-append}
use Rattle.frozen_trie.specs.Frozen.{codes_of, map_of_pairs}
use Rattle.frozen_trie.specs.Texts.{IsBehindAll}
use Rattle.encoded_keys.proofs.CodeLemmas.Appended.{all_before_more}
use Rattle.encoded_keys.proofs.CodeLemmas.Parts.{has_index}
use Rattle.frozen_trie.proofs.FrozenLemmas.Queries.{index_stored, stored_index}
use Rattle.frozen_trie.proofs.FrozenLemmas.Whole.{map_of_is_stored}

module _ {K V : Type 0} (enc : K → List ℕ) (ps : List (K × V)) (rises : IsRising (codes_of enc ps)) where
  -- the code of one pair more
  pub codes_of-more : (p : K × V) → codes_of enc (ps ++ p ∷ []) ≡ codes_of enc ps ++ enc p.0 ∷ []
  codes_of-more p = map-append (λ q. enc q.0) ps (p ∷ [])

  -- each code is stored
  code_stored : (x : List ℕ) → Has (codes_of enc ps) x → IsStored (map_of_pairs enc ps) x
  code_stored x h = let r = has_index (codes_of enc ps) x h in subst (IsStored (map_of_pairs enc ps)) r.2 (index_stored enc ps rises r.0 r.1)

  -- what comes behind all that is stored keeps the codes rising
  pub rising_if_behind : (e : List ℕ) → IsBehindAll (map_of_pairs enc ps) e → IsRising (codes_of enc ps ++ e ∷ [])
  rising_if_behind e behind = IsRising-append (codes_of enc ps) (e ∷ []) rises (tt, tt) before
    where
      before : (x : List ℕ) → Has (codes_of enc ps) x → (y : List ℕ) → Has (e ∷ []) y → IsBefore x y
      before x i y (inr k) = absurd k
      before x i y (inl same) = subst (IsBefore x) (sym same) (behind x (code_stored x i))

  -- and what keeps them rising comes behind all that is stored
  pub behind_if_rising : (e : List ℕ) → IsRising (codes_of enc ps ++ e ∷ []) → IsBehindAll (map_of_pairs enc ps) e
  behind_if_rising e more x s =
      let i = stored_index enc ps rises x s in
      subst (λ l. IsBefore l e) i.2 (all_before_more (codes_of enc ps) e more i.0 i.1)

  -- a pair behind all others is inserted at the end
  pub inserted_last : (p : K × V) → IsRising (codes_of enc (ps ++ p ∷ [])) → fin.insert (map_of_pairs enc ps) (enc p.0) p ≡ map_of_pairs enc (ps ++ p ∷ [])
  inserted_last p more =
      ap (λ m. fin.insert m (enc p.0) p) (sym (map_of_is_stored enc ps rises))
      ∙ sym (fold-append (λ m q. fin.insert m (enc q.0) q) fin.empty ps (p ∷ []))
      ∙ map_of_is_stored enc (ps ++ p ∷ []) more
