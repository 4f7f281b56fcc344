use Rattle.std.proofs.Common.{◌+◌, ◌*◌, get_or, refl, subst, sym, arith, ◌∙◌}
use Rattle.frozen_routes.specs.Routes.{IsLastHolder, base_numbers, bit_counts}
use Rattle.flat_routes.specs.Images.{AreLinkedTo, IsNext, bases, links, row_size, sizes, width}
use Rattle.flat_routes.proofs.ImageLemmas.{at_most_next, link_stored, linked_more, linked_there, none_of_none}
use Rattle.flat_routes.proofs.WriteLemmas.{change_through}
use Rattle.flat_routes.proofs.merging.put_links.Goals as goal

pub loop-at-preserved : goal.loop-at-preserved
loop-at-preserved c =
    let wide = c.args.wide in
    let w = width wide in
    let plan = c.args.plan in
    let at = c.loop-at.at in
    let out = c.loop-at.out in
    let new = c.put_link.new.out in
    let fs = bases wide out in
    let bs = sizes wide out in
    let inside = c.loop-at-test.true in
    let known = c.loop-at.invariant in
    let counted = known.plan.rows in
    let counted_new = c.put_link.ensures.plan.rows in
    let next = subst (λ rs. IsNext w (base_numbers (λ n. n) rs) (bit_counts rs) at) (sym known.rows) (c.requires.next at inside) in
    let first = c.first_at-first.ensures.value in
    let holder = c.follow_parents-link.ensures.last known.linked
    (λ k l. let le = at_most_next w fs bs (links wide out) at known.linked next k l in omega (arith, le, first)) (none_of_none w fs bs c.first_at-first.result) in
    let own = link_stored wide new at (omega (arith, inside, counted_new)) ∙ c.put_link.ensures.link in
    let so_far = linked_there w fs bs fs bs at (λ k l. refl) (λ k l. refl) (links wide out) (links wide new)
    (λ k l. link_stored wide new k (omega (arith, l, inside, counted_new)) ∙ c.put_link.ensures.others k l ∙ sym (link_stored wide out k (omega (arith, l, inside, counted)))) known.linked in
    let more = linked_more w fs bs (links wide new) at so_far next
    (subst (IsLastHolder w fs bs at (get_or fs at 0)) (sym own) (subst (λ a. IsLastHolder w fs bs at a c.follow_parents-link.result) first holder)) in
    let end = 112 + row_size wide * plan.rows in
    record {
      plan = c.put_link.ensures.plan;
      rows = c.put_link.ensures.rows ∙ known.rows;
      linked = subst (λ rs. AreLinkedTo w (base_numbers (λ n. n) rs) (bit_counts rs) (links wide new) (at + 1)) (sym c.put_link.ensures.rows) more;
      change = change_through 112 end 112 end 112 end c.args.out.now out new known.change c.put_link.ensures.change (omega arith) (omega arith) (omega arith) (omega arith);
    }
