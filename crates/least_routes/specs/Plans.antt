-- The tree of a plan.
use Rattle.least_routes.specs.declared.plans.Plan.{Plan, One, Open', Closed'}
use Rattle.least_routes.specs.Trees.{PlanTree, one, open_at, closed_at}

-- the tree of a plan
abbrev pub plan_tree : Plan → PlanTree
plan_tree (One o) = one o
plan_tree (Open' p low q high) = open_at (plan_tree low) (plan_tree high)
plan_tree (Closed' hops p low q high) = closed_at hops.items (plan_tree low) (plan_tree high)
