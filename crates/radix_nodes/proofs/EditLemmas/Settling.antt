-- Results by value, and results by reference that say the same.
use Rattle.std.proofs.Common.{◌≡◌, Option, Some, None, IsSome, MatchOption, Result, Ok, Err, IsErr, sym, subst}
use Rattle.std.proofs.lemmas.Bool.{false≢true}
use Rattle.radix_nodes.specs.declared.trie_node.KeyValue.{KeyValue}
use Rattle.radix_nodes.specs.declared.insertion.change.Change.{Change}
use Rattle.radix_nodes.specs.Nodes.{Settles}
use Rattle.radix_nodes.proofs.NodeLemmas.Options.{match_implies}

module _ {K V A E : Type 0} where
  -- what follows from a result by value follows from it by reference
  pub settles_map : {O P : KeyValue K V → Result (Change K V) (KeyValue K V) → Type 0} (r : Result A E) (old new : Change K V) →
      ((x : KeyValue K V) (outcome : Result (Change K V) (KeyValue K V)) → O x outcome → P x outcome) → Settles r old new O → Settles r old new P
  settles_map (Ok a) old new f s = match_implies old.was (λ z. z) (λ x. f x (Ok new)) s
  settles_map (Err e) old new f s = match_implies old.was (λ z. z) (λ x. match_implies new.was (λ z. z) (λ y. f x (Err y))) s

  -- a refusal leaves the pair where it was
  pub settles_back : (O : KeyValue K V → Result (Change K V) (KeyValue K V) → Type 0) (r : Result A E) (old new : Change K V) → IsErr r → IsSome old.was →
      new.was ≡ old.was → ((x : KeyValue K V) → O x (Err x)) → Settles r old new O
  settles_back O (Err e) old new refused some back f = by old.was some back
    where
      by : (o : Option (KeyValue K V)) → IsSome o → new.was ≡ o → MatchOption o ⊥ (λ x. MatchOption new.was ⊥ (λ y. O x (Err y)))
      by (Some x) given is = subst (λ z. MatchOption z ⊥ (λ y. O x (Err y))) (sym is) (f x)
      by None given is = absurd (false≢true given)
  settles_back O (Ok a) old new refused some back f = absurd (false≢true refused)
