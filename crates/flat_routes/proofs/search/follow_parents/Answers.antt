use Rattle.std.proofs.Common.{◌<◌, ◌≤◌, ℕ, get_or, subst}
use Rattle.sorted_tables.specs.Tables.{IsLastOf}
use Rattle.flat_routes.specs.Images.{bases}
use Rattle.flat_routes.specs.RowLaws.{AreSorted, FirstRows, IsHolderIn}
use Rattle.flat_routes.proofs.search.follow_parents.Goals as goal

pub returns-clause-last : goal.returns-clause-last
returns-clause-last c = λ linked.
    let a = c.args.number in
    subst (λ (r : FirstRows). AreSorted r → ((k : ℕ) → k < c.args.from → get_or (bases r.wide r.bytes) k 0 ≤ a)
    → IsLastOf (IsHolderIn r a) c.args.floor.count c.args.floor.around → IsLastOf (IsHolderIn r a) c.args.from c.follow_parents.result)
    c.first-rows.ensures c.follow_parents.ensures.last linked
