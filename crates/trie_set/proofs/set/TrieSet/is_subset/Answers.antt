use Rattle.std.proofs.Common.{◌∙◌, ap, refl, slice_get}
use Rattle.trie_set.proofs.SetLemmas.{first_tested, len_none_stored, subset_by_first}
use Rattle.trie_set.proofs.set.TrieSet.is_subset.Goals as goal

pub returns-then-is_empty-clause-subset : goal.returns-then-is_empty-clause-subset
returns-then-is_empty-clause-subset g c = (λ _ e h. absurd (len_none_stored c.args.self.now (c.is_empty.ensures.0 c.if-is_empty.true) e h), λ _. refl)

pub returns-clause-subset : goal.returns-clause-subset
returns-clause-subset g c =
    first_tested _ c.is_none.result c.in_ok-next.field-0 _ c.is_none.ensures
    (c.in_ok-next.ensures.key ∙ ap (λ ks. slice_get ks 0) c.in_ok-missing.ensures.keys) (subset_by_first c.args.self.now c.args.other.now)
