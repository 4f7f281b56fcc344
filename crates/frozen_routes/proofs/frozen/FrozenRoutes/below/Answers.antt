use Rattle.std.proofs.Common.{◌-◌, ◌/◌, ◌^◌, true, false, take, drop, ap, subst, ◌∙◌}
use Rattle.frozen_routes.specs.Routes.{AreInFront, base_numbers, bit_counts}
use Rattle.frozen_routes.proofs.RouteLemmas.Parts.{cuts_in_order, part_within}
use Rattle.frozen_routes.proofs.frozen.FrozenRoutes.below.Goals as goal

pub slice_bounds-result-count : goal.slice_bounds-result-count
slice_bounds-result-count g c =
    let w = g.A.Address.BITS in
    let number = g.A.Address.number in
    let net = c.args.network.now in
    let q = number net.base / 2 ^ (w - net.bits) in
    let from = subst (λ rs. AreInFront w false net.bits q (base_numbers number rs) (bit_counts rs) c.cut-from.result) c.deref.ensures.value c.cut-from.ensures in
    let to = subst (λ rs. AreInFront w true net.bits q (base_numbers number rs) (bit_counts rs) c.cut-to.result) c.deref-2.ensures.value c.cut-to.ensures in
    cuts_in_order w net.bits q _ _ _ _ from to

pub slice_bounds-result-start : goal.slice_bounds-result-start
slice_bounds-result-start g c =
    let w = g.A.Address.BITS in
    let number = g.A.Address.number in
    let net = c.args.network.now in
    let q = number net.base / 2 ^ (w - net.bits) in
    let from = subst (λ rs. AreInFront w false net.bits q (base_numbers number rs) (bit_counts rs) c.cut-from.result) c.deref.ensures.value c.cut-from.ensures in
    let to = subst (λ rs. AreInFront w true net.bits q (base_numbers number rs) (bit_counts rs) c.cut-to.result) c.deref-2.ensures.value c.cut-to.ensures in
    cuts_in_order w net.bits q _ _ _ _ from to

pub returns : goal.returns
returns g c =
    let w = g.A.Address.BITS in
    let number = g.A.Address.number in
    let net = c.args.network.now in
    let q = number net.base / 2 ^ (w - net.bits) in
    let from = subst (λ rs. AreInFront w false net.bits q (base_numbers number rs) (bit_counts rs) c.cut-from.result) (c.deref.ensures.value ∙ c.self.view_is) c.cut-from.ensures in
    let to = subst (λ rs. AreInFront w true net.bits q (base_numbers number rs) (bit_counts rs) c.cut-to.result) (c.deref-2.ensures.value ∙ c.self.view_is) c.cut-to.ensures in
    record {
      rows = ap (λ rs. take (c.cut-to.result - c.cut-from.result) (drop c.cut-from.result rs)) (c.deref-3.ensures.value ∙ c.self.view_is)
          ∙ part_within w number net c.args.self.now c.cut-from.result c.cut-to.result from to;
    }

pub cut-from-requires : goal.cut-from-requires
cut-from-requires g c = record { rising = rw (c.deref.ensures.value) c.self.invariant.rising }

pub cut-to-requires : goal.cut-to-requires
cut-to-requires g c = record { rising = rw (c.deref-2.ensures.value) c.self.invariant.rising }
