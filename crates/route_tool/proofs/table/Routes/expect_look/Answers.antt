use Rattle.std.proofs.Common.{refl}
use Rattle.route_tool.proofs.HeldLemmas.{held_still}
use Rattle.route_tool.proofs.table.Routes.expect_look.Goals as goal

pub invariant_of-self : goal.invariant_of-self
invariant_of-self g c =
    let m = c.self.inside.trie in
    held_still g.A.Address.BITS g.A.Address.number m m c.self.inside.frozen.rows c.is_due.new.self.rows refl c.is_due.ensures c.self.invariant

pub invariant_of-self-else-is_due : goal.invariant_of-self-else-is_due
invariant_of-self-else-is_due g c =
    let m = c.self.inside.trie in
    held_still g.A.Address.BITS g.A.Address.number m m c.self.inside.frozen.rows c.is_due.new.self.rows refl c.is_due.ensures c.self.invariant
