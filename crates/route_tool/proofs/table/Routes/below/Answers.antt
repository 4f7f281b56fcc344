use Rattle.std.proofs.Common.{◌≡◌, ◌∙◌, ◌++◌, ap, sym, subst, length, option_map, Some}
use Rattle.std.specs.List.{filter}
use Rattle.std.specs.Option.{IfSome}
use Rattle.std.proofs.lemmas.List.{append-nil}
use Rattle.frozen_routes.specs.Routes.{is_inside}
use Rattle.nibble_map.specs.MapQueries.{IsRawDescendant}
use Rattle.radix_trie.specs.Views.{pairs_below}
use Rattle.radix_trie.proofs.PathLemmas.Below.{len-pairs_below, pairs_below-none, pairs_below-shortest}
use Rattle.route_tool.specs.Routes.{held_routes, place, routes_within}
use Rattle.route_tool.proofs.HeldLemmas.{all_rows, none_listed, of_trie, rows_within}
use Rattle.route_tool.proofs.table.Routes.below.Goals as goal

pub invariant_of-result : goal.invariant_of-result
invariant_of-result g c =
    let none = none_listed g.A.Address.BITS g.A.Address.number c.self.inside.trie (c.is_empty.ensures.0 c.if-is_empty.true) in
    record { counted = ap length (sym (c.new.ensures ∙ ap (λ l. c.below-rows.result.now ++ l) (c.cursor.ensures.walk ∙ none) ∙ append-nil c.below-rows.result.now)) }

pub invariant_of-result-in-Some : goal.invariant_of-result-in-Some
invariant_of-result-in-Some g c = record {
  counted = c.len-count.ensures ∙ len-pairs_below c.in-Some.view.map c.in-Some.view.path ∙ ap length (sym (c.new-in-Some.ensures ∙ c.cursor-walk.ensures.walk));
}

pub returns-then-is_empty-clause-rows : goal.returns-then-is_empty-clause-rows
returns-then-is_empty-clause-rows g c =
    let w = g.A.Address.BITS in
    let number = g.A.Address.number in
    let m = c.self.inside.trie in
    let rows = c.self.inside.frozen.rows in
    let none = c.is_empty.ensures.0 c.if-is_empty.true in
    let net = c.args.network.now in
    c.new.ensures ∙ ap (λ l. c.below-rows.result.now ++ l) (c.cursor.ensures.walk ∙ none_listed w number m none) ∙ append-nil c.below-rows.result.now
    ∙ c.below-rows.ensures.rows ∙ ap (filter (is_inside w number net)) (c.rows.ensures ∙ sym (all_rows w number m rows none c.self.invariant.1))
    ∙ rows_within w number net c.base.ensures.first (held_routes w number m rows) c.self.invariant.0 ∙ ap (λ k. routes_within w number k net) c.self.view_is

pub returns-in-Some-clause-rows : goal.returns-in-Some-clause-rows
returns-in-Some-clause-rows g c =
    let w = g.A.Address.BITS in
    let number = g.A.Address.number in
    let m = c.self.inside.trie in
    let rows = c.self.inside.frozen.rows in
    let e = place w number c.args.network.now in
    let q = c.in-Some.view.path in
    let same : c.in-Some.view.map ≡ m = subst (λ o. IfSome o (λ v. v.map ≡ m)) c.in-Some.is c.in_ok-view.ensures.same_map in
    let nearest : IsRawDescendant m e (Some q) = subst (λ o. IsRawDescendant m e (option_map (λ v. v.path) o)) c.in-Some.is c.in_ok-view.ensures.nearest in
    c.new-in-Some.ensures ∙ c.cursor-walk.ensures.walk ∙ ap (λ n. pairs_below n q) same ∙ pairs_below-shortest m e q nearest
    ∙ ap (λ n. pairs_below n e) (sym (of_trie w number m rows (λ none. let yes = c.is_empty.ensures.1 none in let no = c.if-is_empty.false in cc)) ∙ c.self.view_is)

pub returns-in-None-clause-none : goal.returns-in-None-clause-none
returns-in-None-clause-none g c =
    let w = g.A.Address.BITS in
    let number = g.A.Address.number in
    let m = c.self.inside.trie in
    let rows = c.self.inside.frozen.rows in
    let e = place w number c.args.network.now in
    sym (ap (λ n. pairs_below n e) (sym (of_trie w number m rows (λ none. let yes = c.is_empty.ensures.1 none in let no = c.if-is_empty.false in cc)) ∙ c.self.view_is))
    ∙ pairs_below-none m e (subst (λ o. IsRawDescendant m e (option_map (λ v. v.path) o)) c.in-None.is c.in_ok-view.ensures.nearest)
