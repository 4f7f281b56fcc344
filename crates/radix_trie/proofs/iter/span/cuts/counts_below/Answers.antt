use Rattle.std.proofs.Common.{[], ap, sym, subst, ◌∙◌}
use Rattle.radix_trie.specs.Views.{is_below}
use Rattle.radix_trie.specs.Walks.{ReachesDown, bound_behind, bound_now}
use Rattle.radix_trie.proofs.WalkLemmas.Cuts.{goes_below}
use Rattle.radix_trie.proofs.iter.span.cuts.counts_below.Goals as goal

pub returns-in-Excluded : goal.returns-in-Excluded
returns-in-Excluded c =
    goes_below c.in-Excluded.list.now c.args.depth c.len.result (subst (λ b. ReachesDown c.args.depth (bound_now b)) c.in-Excluded.is c.requires) c.len.ensures
    ∙ sym (ap (λ b. is_below (bound_behind c.args.depth (bound_now b)) []) c.in-Excluded.is)
