use Rattle.std.proofs.Common.{◌∙◌, ap, sym, subst}
use Rattle.route_tool.specs.Routes.{AreNetworks, with_route}
use Rattle.route_tool.proofs.AnswerLemmas.{still_err, still_ok}
use Rattle.route_tool.proofs.HeldLemmas.{held_by_trie, held_still, with_no_rows}
use Rattle.route_tool.proofs.RouteLemmas.{kept}
use Rattle.route_tool.proofs.table.Routes.add.Goals as goal

pub invariant_of-self : goal.invariant_of-self
invariant_of-self g c =
    held_still g.A.Address.BITS g.A.Address.number c.self.inside.trie c.grow.new.trie c.self.inside.frozen.rows c.grow.new.frozen.rows c.in_err-grow.ensures.trie c.in_err-grow.ensures.rows c.self.invariant

pub invariant_of-self-2 : goal.invariant_of-self-2
invariant_of-self-2 g c =
    let w = g.A.Address.BITS in
    let number = g.A.Address.number in
    let networks = subst (AreNetworks w number) (sym c.in_ok-grow.ensures.grown) c.self.invariant.0 in
    held_by_trie w number c.insert.new.self c.grow.new.frozen.rows
    (kept (AreNetworks w number) c.insert.result c.grow.new.trie (with_route w number c.grow.new.trie c.args.network c.in_ok-hop.hop) c.insert.new.self networks
    (c.stored_keys_are_equal.ensures.inserted c.grow.new.trie c.args.network c.in_ok-hop.hop networks)
    c.insert.ensures.is_value c.insert.ensures.stored c.insert.ensures.unchanged)
    c.in_ok-grow.ensures.dropped

pub returns-clause-added : goal.returns-clause-added
returns-clause-added g c =
    let w = g.A.Address.BITS in
    let number = g.A.Address.number in
    still_ok c.insert.result c.map_err.result _ _ c.map_err.ensures.variant
    (λ stored. with_no_rows w number c.insert.new.self c.grow.new.frozen.rows c.in_ok-grow.ensures.dropped ∙ stored
    ∙ ap (λ k. with_route w number k c.args.network c.in_ok-hop.hop) (c.in_ok-grow.ensures.grown ∙ c.self.view_is)
    ∙ ap (with_route w number c.args.self.now c.args.network) (c.in_ok-hop.ensures ∙ c.as_bytes.ensures.value))
    c.insert.ensures.stored

pub returns-clause-unchanged : goal.returns-clause-unchanged
returns-clause-unchanged g c =
    let w = g.A.Address.BITS in
    let number = g.A.Address.number in
    still_err c.insert.result c.map_err.result _ _ c.map_err.ensures.variant
    (λ same. with_no_rows w number c.insert.new.self c.grow.new.frozen.rows c.in_ok-grow.ensures.dropped ∙ same ∙ c.in_ok-grow.ensures.grown ∙ c.self.view_is)
    c.insert.ensures.unchanged
