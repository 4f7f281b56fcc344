use Rattle.std.proofs.Common.{◌≡◌, ◌-◌, ◌/◌, ◌^◌, ◌<◌, false, length, refl, ap, sym, subst, ◌∙◌, arith, get_or}
use Rattle.std.proofs.lemmas.Option.{slice_get_read}
use Rattle.frozen_routes.specs.Routes.{AreInFront, AreRowsInOrder, row_of_refs, base_numbers, bit_counts}
use Rattle.frozen_routes.proofs.RouteLemmas.Rows.{stored_at}
use Rattle.frozen_routes.proofs.RouteLemmas.Single.{row_at_cut}
use Rattle.frozen_routes.proofs.frozen.FrozenRoutes.get_key_value.Goals as goal
use Rattle.frozen_routes.proofs.frozen.FrozenRoutes.get_key_value.Goals.{then-at-len-via-then-at-len, then-at-len-via-else-at-len+then-not-is_of}

pub returns-then-at-len : goal.returns-then-at-len
returns-then-at-len g c = record {
  row = λ r of.
      let w = g.A.Address.BITS in
      let number = g.A.Address.number in
      let net = c.args.network.now in
      let rows = c.args.self.now in
      let at = c.cut-at.result in
      let cut = subst (λ rs. AreInFront w false net.bits (number net.base / 2 ^ (w - net.bits)) (base_numbers number rs) (bit_counts rs) at) (c.deref.ensures.value ∙ c.self.view_is) c.cut-at.ensures in
      let here = row_at_cut w number rows net at (subst (AreRowsInOrder w number) c.self.view_is c.self.invariant.rising) cut r of in
      elim c.then-at-len.branch [
        | then-at-len-via-then-at-len b ↦ (let l = here.0 in omega (arith, l, b.if-at-len, c.len.ensures, ap length c.self.view_is))
        | then-at-len-via-else-at-len+then-not-is_of b ↦
            let yes = b.is_of.ensures.1 (rw (b.deref-else-at-len.ensures.value ∙ c.self.view_is) (here.1, here.2)) in
            let no = b.if-not-is_of.true in
            cc (yes, no)
      ];
}

pub returns : goal.returns
returns g c =
    let number = g.A.Address.number in
    let rows = c.args.self.now in
    let at = c.cut-at.result in
    let row = row_of_refs c.entry_at.result in
    let is = c.entry_at.ensures ∙ ap (λ rs. get_or rs at row) (c.deref-2.ensures.value ∙ c.self.view_is) in
    let within : at < length rows = omega (arith, c.if-at-len.false, ap length c.self.view_is) in
    let stored = slice_get_read rows (length rows) at row refl within is in
    let of = subst (λ rs. (get_or (base_numbers number rs) at 0 ≡ number c.args.network.now.base) × (get_or (bit_counts rs) at 0 ≡ c.args.network.now.bits))
    (c.deref-else-at-len.ensures.value ∙ c.self.view_is) (c.is_of.ensures.0 c.if-not-is_of.false) in
    record {
      row = record {
        at = at;
        stored = stored;
        base = sym (stored_at (λ s. number s.0.base) rows at row stored).1 ∙ of.0;
        bits = sym (stored_at (λ s. s.0.bits) rows at row stored).1 ∙ of.1;
      };
    }
