-- The routes that are chosen for the block of all addresses are as few as can be.
use Rattle.std.proofs.Common.{◌++◌, None, ap, ◌∙◌}
use Rattle.least_routes.specs.Plans.{plan_tree}
use Rattle.least_routes.specs.Trees.{chosen, last_answer}
use Rattle.least_routes.proofs.LeastLemmas.{IsLeast, is_least}
use Rattle.least_routes.proofs.Upper.{sound}
use Rattle.least_routes.proofs.routes.least.Goals as goal
use Rattle.least_routes.proofs.routes.least.Goals.{Joined-plan-2}

pub write-requires : goal.write-requires
write-requires c =
    let b = c.all-all.result in
    sound (last_answer b.width None c.args.routes.now) (plan_tree c.in_ok-plan.plan) b.free b.number (c.in_ok-plan.ensures)

-- what the routes that are returned are
known : (c : Joined-plan-2) → IsLeast c.args.width c.args.routes.now c.write.new.out.items
known c =
    let b = c.all-all.result in
    let t = plan_tree c.in_ok-plan.plan in
    is_least c.args.width b.width b.free b.number c.args.routes.now c.write.new.out.items t
    c.all-all.ensures.width c.all-all.ensures.free c.all-all.ensures.number c.requires.table (c.in_ok-plan.ensures)
    ((c.in_ok-write.ensures) ∙ ap (λ l. l ++ chosen b.width b.free b.number t None) c.new-chosen.ensures.items)

pub returns-clause-same : goal.returns-clause-same
returns-clause-same c = (known c).same

pub returns-clause-least : goal.returns-clause-least
returns-clause-least c = (known c).least

pub returns-clause-hops : goal.returns-clause-hops
returns-clause-hops c = (known c).hops

pub returns-clause-table : goal.returns-clause-table
returns-clause-table c = (known c).table
