use Rattle.std.proofs.Common.{◌++◌, ◌∙◌, ap, arith, sym}
use Rattle.topic_filters.proofs.SearchLemmas.{all_turns-push, all_wanted-push, none_wanted}
use Rattle.topic_filters.specs.Search.{all_turns, all_wanted}
use Rattle.topic_filters.proofs.search.add.Goals as goal

pub returns-then-is_empty-clause-wanted : goal.returns-then-is_empty-clause-wanted
returns-then-is_empty-clause-wanted g c =
    ap (λ xs. xs ++ all_wanted c.args.pending.now.items) (sym (none_wanted c.args.at c.args.levels (c.is_empty.ensures.0 c.if-is_empty.true)))

pub returns-in-Ok-clause-wanted : goal.returns-in-Ok-clause-wanted
returns-in-Ok-clause-wanted g c = ap all_wanted c.in-Ok.ensures.items ∙ all_wanted-push c.args.pending.now.items _

pub returns-in-Ok-clause-turns : goal.returns-in-Ok-clause-turns
returns-in-Ok-clause-turns g c = let turns = ap all_turns c.in-Ok.ensures.items ∙ all_turns-push c.args.pending.now.items _ in omega (arith, turns)
