use Rattle.std.proofs.Common.{refl}
use Rattle.route_tool.proofs.HeldLemmas.{held_still}
use Rattle.route_tool.proofs.table.Routes.compact.Goals as goal

pub invariant_of-self : goal.invariant_of-self
invariant_of-self g c =
    let rows = c.self.inside.frozen.rows in
    held_still g.A.Address.BITS g.A.Address.number c.self.inside.trie c.compact.new.self rows rows c.compact.ensures.same refl c.self.invariant

pub invariant_of-self-2 : goal.invariant_of-self-2
invariant_of-self-2 g c =
    let rows = c.self.inside.frozen.rows in
    held_still g.A.Address.BITS g.A.Address.number c.self.inside.trie c.compact.new.self rows rows c.compact.ensures.same refl c.self.invariant
