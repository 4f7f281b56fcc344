-- The best hops of both halves, or of either.
use Rattle.std.proofs.Common.{◌≡◌, ◌<◌, ◌++◌, length, rules, arith, sym, ap, subst, ◌∙◌}
use Rattle.std.specs.List.{filter}
use Rattle.std.specs.List.Sorted.{IsPermutation}
use Rattle.std.proofs.lemmas.Fn.{filter_same}
use Rattle.std.proofs.lemmas.Grind.{common_steps}
use Rattle.std.proofs.lemmas.List.Sorted.{IsNonDecreasingBy-from_sort}
use Rattle.least_routes.specs.Plans.{plan_tree}
use Rattle.least_routes.specs.Trees.{hops_of, has}
use Rattle.least_routes.proofs.Hops.{best_shared, best_either}
use Rattle.least_routes.proofs.plans.Plan.best_hops.Goals as goal

pub returns-then-not-is_empty : goal.returns-then-not-is_empty
returns-then-not-is_empty c =
    let low = hops_of (plan_tree c.args.low.now) in
    let high = hops_of (plan_tree c.args.high.now) in
    let kept = filter_same _ (has high) _
    (λ x b f' k. search rules) c.in_ok-both.both.items c.retain.new.self.items c.retain.ensures.filtered in
    let some : 0 < length c.retain.new.self.items = grind (arith, common_steps) in
    best_shared low high c.retain.new.self.items c.requires.low_rise
    (kept ∙ ap (filter (has high)) (c.in_ok-both.ensures)) some

pub returns : goal.returns
returns c =
    let low = hops_of (plan_tree c.args.low.now) in
    let high = hops_of (plan_tree c.args.high.now) in
    let kept = filter_same _ (has high) _
    (λ x b f' k. search rules) c.in_ok-both.both.items c.retain.new.self.items c.retain.ensures.filtered in
    let empty : length c.retain.new.self.items ≡ 0 = grind (arith, common_steps) in
    let joined : c.extend_from_slice.new.self.items ≡ low ++ high =
    (c.in_ok-extend_from_slice.ensures.items)
    ∙ ap (λ l. l ++ c.deref.result.now) (c.in_ok-either.ensures)
    ∙ ap (λ l. low ++ l) (c.deref.ensures.value ∙ (c.in_ok-hops.ensures)) in
    let moved : IsPermutation (low ++ high) c.sort_unstable.new.self.items = subst
    (λ l. IsPermutation l c.sort_unstable.new.self.items) joined c.sort_unstable.ensures.permutation in
    best_either low high c.sort_unstable.new.self.items
    (IsNonDecreasingBy-from_sort (λ x. x) c.sort_unstable.new.self.items c.sort_unstable.ensures.sorted)
    moved (ap length (sym (kept ∙ ap (filter (has high))
    (c.in_ok-both.ensures))) ∙ empty) c.requires.low_some
