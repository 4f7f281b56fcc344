use Rattle.std.proofs.Common.{◌+◌, ◌++◌, [], ◌∷◌, ◌<◌, ◌^◌, length, arith, ap, sym, subst, ◌∙◌}
use Rattle.frozen_routes.specs.Routes.{AreRising, IsLastHolder, AreRowsInOrder, base_numbers, bit_counts}
use Rattle.frozen_routes.proofs.RouteLemmas.Growing.{linked_row, table_more}
use Rattle.frozen_routes.proofs.frozen.FrozenRoutes.push.Goals as goal

pub returns : goal.returns
returns g c =
    let w = g.A.Address.BITS in
    let number = g.A.Address.number in
    let rows = c.self.inside.rows.items in
    let row : _ × g.row.V.Denot = (c.args.network, c.args.value) in
    let is = c.push_reserved-2.ensures.items ∙ ap (λ xs. xs ++ row ∷ []) c.reserve.ensures.items in
    let rising = subst (λ rs. AreRising w (base_numbers number rs ++ number c.args.network.base ∷ []) (bit_counts rs ++ c.args.network.bits ∷ [])) c.deref.ensures.value c.in-Some.ensures.0 in
    record {
      ok = is ∙ ap (λ xs. xs ++ row ∷ []) c.self.view_is;
      rising = subst (AreRowsInOrder w number) (sym is) (table_more w number rows row rising);
      unsorted = tt;
      full = tt;
      room = tt;
      memory = tt;
      handed_back = tt;
      unchanged = tt;
    }

pub returns-then-is_err-clause-memory : goal.returns-then-is_err-clause-memory
returns-then-is_err-clause-memory g c = λ e.
    let w = g.A.Address.BITS in
    let number = g.A.Address.number in
    let rows = c.self.inside.rows.items in
    let row : _ × g.row.V.Denot = (c.args.network, c.args.value) in
    let rising = subst (λ rs. AreRising w (base_numbers number rs ++ number c.args.network.base ∷ []) (bit_counts rs ++ c.args.network.bits ∷ [])) c.deref.ensures.value c.in-Some.ensures.0 in
    subst (λ rs. AreRowsInOrder w number (rs ++ row ∷ [])) c.self.view_is (table_more w number rows row rising)

pub invariant_of-self-2 : goal.invariant_of-self-2
invariant_of-self-2 g c =
    let w = g.A.Address.BITS in
    let number = g.A.Address.number in
    let rows = c.self.inside.rows.items in
    let row : _ × g.row.V.Denot = (c.args.network, c.args.value) in
    let is = c.push_reserved-2.ensures.items ∙ ap (λ xs. xs ++ row ∷ []) c.reserve.ensures.items in
    let link = c.in-Some.link in
    let ups = c.push_reserved.ensures.items ∙ ap (λ xs. xs ++ link ∷ []) c.reserve-else-is_err.ensures.items in
    let rising = subst (λ rs. AreRising w (base_numbers number rs ++ number c.args.network.base ∷ []) (bit_counts rs ++ c.args.network.bits ∷ [])) c.deref.ensures.value c.in-Some.ensures.0 in
    let last = subst (λ rs. IsLastHolder w (base_numbers number rs) (bit_counts rs) (length rs) (number c.args.network.base) link) c.deref.ensures.value c.in-Some.ensures.1 in
    let few : length rows + 1 < 2 ^ 32 = omega (arith, c.len.ensures, c.if-len.false) in
    let had = c.self.inside.directory in
    linked_row w number rows row c.self.inside.parents.items _ had.rest _ had.cells.items _ had.uppers.items _ _ link c.self.invariant few rising last is ups c.none.ensures.rest c.none.ensures.cells c.none.ensures.uppers

pub link_after-requires-clause-rising : goal.link_after-requires-clause-rising
link_after-requires-clause-rising g c = rw (c.deref.ensures.value) c.self.invariant.rising

pub link_after-requires-clause-links : goal.link_after-requires-clause-links
link_after-requires-clause-links g c = rw (c.deref.ensures.value, c.deref-2.ensures.value) c.self.invariant.links
