use Rattle.std.proofs.Common.{◌∙◌}
use Rattle.route_tool.proofs.HeldLemmas.{held_by_trie, with_no_rows}
use Rattle.route_tool.proofs.table.Routes.new.Goals as goal

pub invariant_of-result : goal.invariant_of-result
invariant_of-result g c =
    held_by_trie g.A.Address.BITS g.A.Address.number c.new.result c.new-2.result.rows (c.stored_keys_are_equal.ensures.empty c.new.result c.new.ensures) c.new-2.ensures

pub returns : goal.returns
returns g c = with_no_rows g.A.Address.BITS g.A.Address.number c.new.result c.new-2.result.rows c.new-2.ensures ∙ c.new.ensures
