use Rattle.std.proofs.Common.{◌∙◌, ap, refl, sym, subst}
use Rattle.route_tool.specs.Routes.{AreNetworks, place, without_route}
use Rattle.route_tool.proofs.AnswerLemmas.{still_err, still_ok}
use Rattle.route_tool.proofs.HeldLemmas.{held_by_trie, held_still, with_no_rows}
use Rattle.route_tool.proofs.RouteLemmas.{kept}
use Rattle.route_tool.proofs.table.Routes.del.Goals as goal

pub invariant_of-self : goal.invariant_of-self
invariant_of-self g c =
    held_still g.A.Address.BITS g.A.Address.number c.self.inside.trie c.grow.new.trie c.self.inside.frozen.rows c.grow.new.frozen.rows c.in_err-grow.ensures.trie c.in_err-grow.ensures.rows c.self.invariant

pub invariant_of-self-2 : goal.invariant_of-self-2
invariant_of-self-2 g c =
    let w = g.A.Address.BITS in
    let number = g.A.Address.number in
    let networks = subst (AreNetworks w number) (sym c.in_ok-grow.ensures.grown) c.self.invariant.0 in
    held_by_trie w number c.remove.new.self c.grow.new.frozen.rows
    (kept (AreNetworks w number) c.remove.result c.grow.new.trie (without_route w number c.grow.new.trie c.args.network.now) c.remove.new.self networks
    (λ _. c.stored_keys_are_equal.ensures.removed c.grow.new.trie (place w number c.args.network.now) networks)
    c.remove.ensures.removed c.remove.ensures.removed c.remove.ensures.unchanged)
    c.in_ok-grow.ensures.dropped

pub returns-clause-removed : goal.returns-clause-removed
returns-clause-removed g c =
    let w = g.A.Address.BITS in
    let number = g.A.Address.number in
    still_ok c.remove.result c.remove.result _ _ refl
    (λ removed. with_no_rows w number c.remove.new.self c.grow.new.frozen.rows c.in_ok-grow.ensures.dropped ∙ removed
    ∙ ap (λ k. without_route w number k c.args.network.now) (c.in_ok-grow.ensures.grown ∙ c.self.view_is))
    c.remove.ensures.removed

pub returns-clause-unchanged : goal.returns-clause-unchanged
returns-clause-unchanged g c =
    let w = g.A.Address.BITS in
    let number = g.A.Address.number in
    still_err c.remove.result c.remove.result _ _ refl
    (λ same. with_no_rows w number c.remove.new.self c.grow.new.frozen.rows c.in_ok-grow.ensures.dropped ∙ same ∙ c.in_ok-grow.ensures.grown ∙ c.self.view_is)
    c.remove.ensures.unchanged
