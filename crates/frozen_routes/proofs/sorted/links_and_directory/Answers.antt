use Rattle.std.proofs.Common.{◌≡◌, ◌+◌, ◌++◌, [], ◌∷◌, ◌<◌, ◌^◌, length, take, refl, sym, subst, arith, get_or}
use Rattle.std.proofs.lemmas.List.{length-take, take_all, take_more}
use Rattle.frozen_routes.specs.Routes.{AreRowsInOrder, AreUplinks, base_numbers, bit_counts}
use Rattle.frozen_routes.proofs.RouteLemmas.Growing.{linked_row, table_less, topped}
use Rattle.frozen_routes.proofs.sorted.links_and_directory.Goals as goal

pub returns-in_default-clause-unsorted : goal.returns-in_default-clause-unsorted
returns-in_default-clause-unsorted g c =
    let w = g.A.Address.BITS in
    let number = g.A.Address.number in
    let rows = c.args.rows.now in
    let i = c.loop-i.i in
    let row = get_or rows i c.index-rows-i.result in
    let step : take (i + 1) rows ≡ take i rows ++ row ∷ [] = take_more rows i c.index-rows-i.result c.loop-i-test.true in
    record {
      within = c.loop-i-test.true;
      before = c.loop-i.invariant.linked.rising;
      unsorted = λ h. c.in_default.ensures (table_less w number (take i rows) row (subst (AreRowsInOrder w number) step h));
    }

pub loop-i-preserved : goal.loop-i-preserved
loop-i-preserved g c =
    let w = g.A.Address.BITS in
    let number = g.A.Address.number in
    let rows = c.args.rows.now in
    let i = c.loop-i.i in
    let row = get_or rows i c.index-rows-i.result in
    let directory = c.room.inside.directory in
    let held = c.room.invariant in
    let limit = held.0 in
    let step : take (i + 1) rows ≡ take i rows ++ row ∷ [] = take_more rows i c.index-rows-i.result c.loop-i-test.true in
    let few : length (take i rows) + 1 < 2 ^ 32 = omega (arith, length-take i rows, c.loop-i-test.true, c.requires, c.room.view_is, limit) in
    record {
      linked = linked_row w number (take i rows) row c.loop-i.parents.items _ directory.rest directory.rest directory.cells.items _ directory.uppers.items _ _ c.in-Some.link c.loop-i.invariant.linked few c.in-Some.ensures.0 c.in-Some.ensures.1 step
          c.push_reserved.ensures.items held.3 held.4 held.5;
      len = omega (arith, c.push_reserved.ensures.len, c.loop-i.invariant.len);
      room = omega (arith, c.push_reserved.ensures.capacity, c.loop-i.invariant.room);
    }

pub returns-clause-ok : goal.returns-clause-ok
returns-clause-ok g c =
    let w = g.A.Address.BITS in
    let number = g.A.Address.number in
    let rows = c.args.rows.now in
    let i = c.loop-i.i in
    let directory = c.room.inside.directory in
    topped w number (take i rows) rows c.loop-i.parents.items _ directory.rest directory.cells.items directory.uppers.items _ _ _ c.loop-i.invariant.linked (sym (take_all i rows (omega (arith, c.loop-i-test.false)))) refl c.filled-directory.ensures.cells c.filled-directory.ensures.uppers

pub filled-directory-requires-clause-links : goal.filled-directory-requires-clause-links
filled-directory-requires-clause-links g c =
    let w = g.A.Address.BITS in
    let number = g.A.Address.number in
    rw (c.deref-2.ensures.value)
    (subst (λ rs. AreUplinks w (base_numbers number rs) (bit_counts rs) c.loop-i.parents.items) (take_all c.loop-i.i c.args.rows.now (omega (arith, c.loop-i-test.false))) c.loop-i.invariant.linked.links)
