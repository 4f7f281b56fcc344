use Rattle.std.proofs.Common.{length, reverse, subst, ap, ◌∙◌}
use Rattle.std.proofs.lemmas.List.{reverse-reverse}
use Rattle.std.specs.List.{filter}
use Rattle.frozen_routes.specs.Routes.{AreRowsInOrder, IsLastAround, base_numbers, bit_counts, is_around}
use Rattle.frozen_routes.proofs.RouteLemmas.Above.{whole_walk_up}
use Rattle.frozen_routes.proofs.frozen.FrozenRoutes.common_prefixes.Goals as goal

pub returns : goal.returns
returns g c =
    let w = g.A.Address.BITS in
    let number = g.A.Address.number in
    let rows = c.args.self.now in
    let net = c.network.result in
    let found = c.last_around-last.result in
    let last = subst (λ rs. IsLastAround w (base_numbers number rs) (bit_counts rs) (length rs) (number net.base) net.bits found) (c.deref.ensures.value ∙ c.self.view_is) c.last_around-last.ensures in
    record {
      walk = c.new.ensures ∙ ap reverse (whole_walk_up w number rows (subst (AreRowsInOrder w number) c.self.view_is c.self.invariant.rising) net found last)
          ∙ reverse-reverse _ ∙ ap (λ n. filter (is_around w number n) rows) c.network.ensures;
    }

pub last_around-last-requires-clause-rising : goal.last_around-last-requires-clause-rising
last_around-last-requires-clause-rising g c = rw (c.deref.ensures.value) c.self.invariant.rising

pub last_around-last-requires-clause-links : goal.last_around-last-requires-clause-links
last_around-last-requires-clause-links g c = rw (c.deref.ensures.value, c.deref-2.ensures.value) c.self.invariant.links

pub last_around-last-requires-clause-directory : goal.last_around-last-requires-clause-directory
last_around-last-requires-clause-directory g c = rw (c.deref.ensures.value) c.self.invariant.directory

pub last_around-last-requires-clause-uppers : goal.last_around-last-requires-clause-uppers
last_around-last-requires-clause-uppers g c = rw (c.deref.ensures.value) c.self.invariant.uppers
