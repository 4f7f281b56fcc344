use Rattle.std.proofs.Common.{◌-◌, ◌<◌, length, not, arith, refl, ap, sym, ◌∙◌, subst, get_or}
use Rattle.std.proofs.lemmas.List.{length-map}
use Rattle.radix_keys.specs.Networks.{IsBase}
use Rattle.frozen_routes.specs.Routes.{base_numbers, bit_counts}
use Rattle.frozen_routes.proofs.RouteLemmas.Growing.{as_many, by_firsts, by_sizes, follow_by, if_some, tested_as}
use Rattle.frozen_routes.proofs.linked.follows.Goals as goal

pub returns-then-count-eq0 : goal.returns-then-count-eq0
returns-then-count-eq0 g c =
    let w = g.A.Address.BITS in
    let number = g.A.Address.number in
    let rows = c.args.rows.now in
    let all = length-map rows (λ r. number r.0.base) in
    let base : IsBase w c.bits.result (number c.base.result) =
    if_some c.new.result _ _ _ (λ n h. h.2) c.new.ensures (c.is_none.ensures ∙ ap not c.if-is_none.false) in
    let own = subst (λ k. IsBase w k (number c.args.network.now.base)) c.bits.ensures (subst (λ a. IsBase w c.bits.result (number a)) c.base.ensures.value base) in
    follow_by w (base_numbers number rows) (bit_counts rows) (number c.args.network.now.base) c.args.network.now.bits (as_many number rows) _ c.requires own
    (λ e some. absurd (omega (arith, some, all, c.if-count-eq0.true)), λ h. refl)

pub returns-then-last-number : goal.returns-then-last-number
returns-then-last-number g c =
    let w = g.A.Address.BITS in
    let number = g.A.Address.number in
    let rows = c.args.rows.now in
    let all = length-map rows (λ r. number r.0.base) in
    let base : IsBase w c.bits.result (number c.base.result) =
    if_some c.new.result _ _ _ (λ n h. h.2) c.new.ensures (c.is_none.ensures ∙ ap not c.if-is_none.false) in
    let own = subst (λ k. IsBase w k (number c.args.network.now.base)) c.bits.ensures (subst (λ a. IsBase w c.bits.result (number a)) c.base.ensures.value base) in
    let some : 0 < length (base_numbers number rows) = omega (arith, all, c.if-count-eq0.false) in
    let value = c.to_number-number.ensures.value ∙ ap number c.base-2.ensures.value in
    let first = c.first_at-last.ensures ∙ ap (λ n. get_or (base_numbers number rows) (n - 1) 0) (sym all) in
    follow_by w (base_numbers number rows) (bit_counts rows) (number c.args.network.now.base) c.args.network.now.bits (as_many number rows) _ c.requires own
    (tested_as _ (0 < length (base_numbers number rows)) _ (get_or (bit_counts rows) (length (base_numbers number rows) - 1) 0) _ c.args.network.now.bits _ _ _ _ first refl value refl
    (by_firsts c.first_at-last.result _ c.to_number-number.result _ _ some c.if-last-number.true))

pub returns : goal.returns
returns g c =
    let w = g.A.Address.BITS in
    let number = g.A.Address.number in
    let rows = c.args.rows.now in
    let all = length-map rows (λ r. number r.0.base) in
    let base : IsBase w c.bits.result (number c.base.result) =
    if_some c.new.result _ _ _ (λ n h. h.2) c.new.ensures (c.is_none.ensures ∙ ap not c.if-is_none.false) in
    let own = subst (λ k. IsBase w k (number c.args.network.now.base)) c.bits.ensures (subst (λ a. IsBase w c.bits.result (number a)) c.base.ensures.value base) in
    let some : 0 < length (base_numbers number rows) = omega (arith, all, c.if-count-eq0.false) in
    let value = c.to_number-number.ensures.value ∙ ap number c.base-2.ensures.value in
    let first = c.first_at-last.ensures ∙ ap (λ n. get_or (base_numbers number rows) (n - 1) 0) (sym all) in
    let size = c.bits_at.ensures ∙ ap (λ n. get_or (bit_counts rows) (n - 1) 0) (sym all) in
    follow_by w (base_numbers number rows) (bit_counts rows) (number c.args.network.now.base) c.args.network.now.bits (as_many number rows) _ c.requires own
    (tested_as _ (0 < length (base_numbers number rows)) _ _ _ _ _ _ _ _ first size value c.bits-2.ensures
    (by_sizes c.first_at-last.result c.bits_at.result c.to_number-number.result c.bits-2.result _ some c.if-last-number.false))
