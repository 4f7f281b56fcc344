use Rattle.std.proofs.Common.{[], ap, drop, sym, subst, ◌∙◌}
use Rattle.radix_trie.specs.Views.{is_above}
use Rattle.radix_trie.specs.Walks.{ReachesDown, bound_behind, bound_now}
use Rattle.radix_trie.proofs.WalkLemmas.Cuts.{ends_above, nil_after_none}
use Rattle.radix_trie.proofs.iter.span.cuts.counts_above.Goals as goal

pub returns-in-Included : goal.returns-in-Included
returns-in-Included c =
    ends_above c.in-Included.list.now c.args.depth c.len.result (subst (λ b. ReachesDown c.args.depth (bound_now b)) c.in-Included.is c.requires) c.len.ensures
    ∙ sym (ap (λ b. is_above (bound_behind c.args.depth (bound_now b)) []) c.in-Included.is)

pub returns-in-Excluded : goal.returns-in-Excluded
returns-in-Excluded c =
    nil_after_none (drop c.args.depth c.in-Excluded.field-0.now) ∙ sym (ap (λ b. is_above (bound_behind c.args.depth (bound_now b)) []) c.in-Excluded.is)
