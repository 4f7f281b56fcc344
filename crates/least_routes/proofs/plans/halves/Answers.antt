-- The middle of the block parts the routes.
use Rattle.std.proofs.Common.{◌≡◌, ◌+◌, ◌-◌, ◌*◌, ◌^◌, ltb, rules, subst, sym}
use Rattle.std.specs.List.{All}
use Rattle.std.proofs.lemmas.List.Sorted.{IsPartitionPoint-from_clause, IsPartitionedBy-ltb}
use Rattle.least_routes.specs.Routes.{IsWithin}
use Rattle.least_routes.proofs.Slices.{all_low, all_high, bases_rise}
use Rattle.least_routes.proofs.plans.halves.Goals as goal

pub returns-clause-low : goal.returns-clause-low
returns-clause-low c =
    let b = c.args.block in
    let xs = c.args.routes.now in
    let middle = c.first-middle.result in
    let i = c.partition_point.result in
    let at : middle ≡ (2 * b.number + 1) * 2 ^ (b.free - 1) = cc in
    let point = IsPartitionPoint-from_clause
    (λ r. ltb r.base middle) xs i c.partition_point.ensures.partitioned
    (IsPartitionedBy-ltb (λ r. r.base) xs middle (bases_rise xs c.requires.order))
    (λ a r f' k. search rules) in
    subst (All (IsWithin b.width (b.free - 1) (2 * b.number))) (sym c.split_at.ensures.front)
    (all_low b.width b.free b.number middle i xs at c.requires.within c.requires.narrow point)

pub returns-clause-high : goal.returns-clause-high
returns-clause-high c =
    let b = c.args.block in
    let xs = c.args.routes.now in
    let middle = c.first-middle.result in
    let i = c.partition_point.result in
    let at : middle ≡ (2 * b.number + 1) * 2 ^ (b.free - 1) = cc in
    let point = IsPartitionPoint-from_clause
    (λ r. ltb r.base middle) xs i c.partition_point.ensures.partitioned
    (IsPartitionedBy-ltb (λ r. r.base) xs middle (bases_rise xs c.requires.order))
    (λ a r f' k. search rules) in
    subst (All (IsWithin b.width (b.free - 1) (2 * b.number + 1))) (sym c.split_at.ensures.back)
    (all_high b.width b.free b.number middle i xs at c.requires.within c.requires.narrow point)
