use Rattle.route_tool.proofs.HeldLemmas.{held_by_both}
use Rattle.route_tool.proofs.table.Routes.freeze.Goals as goal

pub invariant_of-self : goal.invariant_of-self
invariant_of-self g c =
    let w = g.A.Address.BITS in
    let number = g.A.Address.number in
    let m = c.self.inside.trie in
    let rows = c.self.inside.frozen.rows in
    held_by_both w number m rows c.in-Ok.rows (λ none. let yes = c.is_empty.ensures.1 none in let no = c.if-not-is_empty.true in cc) c.self.invariant.0 c.in-Ok.ensures.rows
