use Rattle.std.proofs.Common.{◌∙◌, ◌++◌, ap, subst, sym}
use Rattle.std.proofs.lemmas.List.{append-nil}
use Rattle.route_tool.specs.Routes.{AreNetworks, in_order}
use Rattle.route_tool.proofs.HeldLemmas.{all_rows, none_listed, of_trie}
use Rattle.route_tool.proofs.table.Routes.rest.Goals as goal

pub returns-then-is_empty-clause-walk : goal.returns-then-is_empty-clause-walk
returns-then-is_empty-clause-walk g c =
    let w = g.A.Address.BITS in
    let number = g.A.Address.number in
    let m = c.self.inside.trie in
    let rows = c.self.inside.frozen.rows in
    let none = c.is_empty.ensures.0 c.if-is_empty.true in
    c.new.ensures ∙ ap (λ l. c.rows-rows.result.now ++ l) (c.cursor.ensures.walk ∙ none_listed w number m none) ∙ append-nil c.rows-rows.result.now
    ∙ c.rows-rows.ensures.rows ∙ c.rows.ensures ∙ sym (all_rows w number m rows none c.self.invariant.1) ∙ ap in_order c.self.view_is

pub returns-then-is_empty-clause-networks : goal.returns-then-is_empty-clause-networks
returns-then-is_empty-clause-networks g c = subst (AreNetworks g.A.Address.BITS g.A.Address.number) c.self.view_is c.self.invariant.0

pub returns-clause-walk : goal.returns-clause-walk
returns-clause-walk g c =
    let w = g.A.Address.BITS in
    let number = g.A.Address.number in
    let m = c.self.inside.trie in
    let rows = c.self.inside.frozen.rows in
    c.new-2.ensures ∙ c.cursor-2.ensures.walk ∙ ap in_order (sym (of_trie w number m rows (λ none. let yes = c.is_empty.ensures.1 none in let no = c.if-is_empty.false in cc)) ∙ c.self.view_is)

pub returns-clause-networks : goal.returns-clause-networks
returns-clause-networks g c = subst (AreNetworks g.A.Address.BITS g.A.Address.number) c.self.view_is c.self.invariant.0
