use Rattle.std.proofs.Common.{◌-◌, ◌<◌, length, arith, subst, ap, ◌∙◌, get_or, refl}
use Rattle.std.proofs.lemmas.Option.{slice_get_read}
use Rattle.frozen_routes.specs.Routes.{IsLastAround, AreRowsInOrder, row_of_refs, base_numbers, bit_counts}
use Rattle.frozen_routes.proofs.RouteLemmas.Rows.{last_around_is_longest, none_around}
use Rattle.frozen_routes.proofs.frozen.FrozenRoutes.longest_match.Goals as goal

pub returns-then-found-eq0 : goal.returns-then-found-eq0
returns-then-found-eq0 g c =
    let w = g.A.Address.BITS in
    let number = g.A.Address.number in
    let net = c.network.result in
    let found = c.last_around-found.result in
    let last = subst (λ rs. IsLastAround w (base_numbers number rs) (bit_counts rs) (length rs) (number net.base) net.bits found) (c.deref.ensures.value ∙ c.self.view_is) c.last_around-found.ensures in
    record { row = rw (← c.network.ensures) (none_around w number c.args.self.now (subst (AreRowsInOrder w number) c.self.view_is c.self.invariant.rising) net found c.if-found-eq0.true last) }

pub returns : goal.returns
returns g c =
    let w = g.A.Address.BITS in
    let number = g.A.Address.number in
    let net = c.network.result in
    let found = c.last_around-found.result in
    let same = c.deref.ensures.value ∙ c.self.view_is in
    let last = subst (λ rs. IsLastAround w (base_numbers number rs) (bit_counts rs) (length rs) (number net.base) net.bits found) same c.last_around-found.ensures in
    let some : 0 < found = omega (arith, c.if-found-eq0.false) in
    let row = row_of_refs c.entry_at.result in
    let is = c.entry_at.ensures ∙ ap (λ rs. get_or rs (found - 1) row) (c.deref-3.ensures.value ∙ c.self.view_is) in
    let within : found - 1 < length c.args.self.now = omega (arith, some, last.within) in
    record {
      row = rw (← c.network.ensures) (last_around_is_longest w number c.args.self.now (subst (AreRowsInOrder w number) c.self.view_is c.self.invariant.rising) net found row some last
          (slice_get_read c.args.self.now (length c.args.self.now) (found - 1) row refl within is));
    }

pub last_around-found-requires-clause-rising : goal.last_around-found-requires-clause-rising
last_around-found-requires-clause-rising g c = rw (c.deref.ensures.value) c.self.invariant.rising

pub last_around-found-requires-clause-links : goal.last_around-found-requires-clause-links
last_around-found-requires-clause-links g c = rw (c.deref.ensures.value, c.deref-2.ensures.value) c.self.invariant.links

pub last_around-found-requires-clause-directory : goal.last_around-found-requires-clause-directory
last_around-found-requires-clause-directory g c = rw (c.deref.ensures.value) c.self.invariant.directory

pub last_around-found-requires-clause-uppers : goal.last_around-found-requires-clause-uppers
last_around-found-requires-clause-uppers g c = rw (c.deref.ensures.value) c.self.invariant.uppers
