use Rattle.std.proofs.Common.{◌∙◌, ap, refl, slice_get}
use Rattle.trie_set.proofs.SetLemmas.{first_tested, disjoint_by_first, len_none_stored}
use Rattle.trie_set.proofs.set.TrieSet.is_disjoint.Goals as goal
use Rattle.trie_set.proofs.set.TrieSet.is_disjoint.Goals.{then-is_empty-via-then-is_empty, then-is_empty-via-else-is_empty+then-is_empty-2}

pub returns-then-is_empty-clause-disjoint : goal.returns-then-is_empty-clause-disjoint
returns-then-is_empty-clause-disjoint g c = elim c.then-is_empty.branch [
  | then-is_empty-via-then-is_empty w ↦ (λ _ e h k. len_none_stored c.args.self.now (c.is_empty.ensures.0 w.if-is_empty.true) e h, λ _. refl)
  | then-is_empty-via-else-is_empty+then-is_empty-2 w ↦
      (λ _ e h k. len_none_stored c.args.other.now (w.is_empty-else-is_empty.ensures.0 w.if-is_empty-2.true) e k, λ _. refl)
]

pub returns-clause-disjoint : goal.returns-clause-disjoint
returns-clause-disjoint g c =
    first_tested _ c.is_none.result c.in_ok-next.field-0 _ c.is_none.ensures
    (c.in_ok-next.ensures.key ∙ ap (λ ks. slice_get ks 0) c.in_ok-shared.ensures.keys) (disjoint_by_first c.args.self.now c.args.other.now)
