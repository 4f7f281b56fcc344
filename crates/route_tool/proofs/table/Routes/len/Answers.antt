use Rattle.std.proofs.Common.{[], ap, length, sym, ◌∙◌}
use Rattle.std.specs.FinMap as map
use Rattle.radix_trie.proofs.PathLemmas.Below.{len-pairs_below}
use Rattle.radix_trie.proofs.PathLemmas.Loci.{below-nil}
use Rattle.route_tool.specs.Routes.{in_order}
use Rattle.route_tool.proofs.HeldLemmas.{all_rows, of_trie}
use Rattle.route_tool.proofs.table.Routes.len.Goals as goal

pub returns-then-is_empty : goal.returns-then-is_empty
returns-then-is_empty g c =
    let w = g.A.Address.BITS in
    let number = g.A.Address.number in
    let m = c.self.inside.trie in
    let rows = c.self.inside.frozen.rows in
    c.len.ensures ∙ ap length (c.rows.ensures ∙ sym (all_rows w number m rows (c.is_empty.ensures.0 c.if-is_empty.true) c.self.invariant.1) ∙ ap in_order c.self.view_is)

pub returns : goal.returns
returns g c =
    let w = g.A.Address.BITS in
    let number = g.A.Address.number in
    let m = c.self.inside.trie in
    let rows = c.self.inside.frozen.rows in
    c.len-2.ensures ∙ ap map.len (sym (below-nil m)) ∙ len-pairs_below m [] ∙ ap (λ k. length (in_order k)) (sym (of_trie w number m rows (λ none. let yes = c.is_empty.ensures.1 none in let no = c.if-is_empty.false in cc)) ∙ c.self.view_is)
