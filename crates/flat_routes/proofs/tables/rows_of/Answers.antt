use Rattle.std.proofs.Common.{◌≡◌, ◌<◌, ap, refl, map as each, subst, sym, arith, ◌∙◌}
use Rattle.radix_keys.specs.Networks.{IsBase}
use Rattle.image_parts.specs.Parts.{listed, row_count}
use Rattle.flat_routes.specs.Images.{network, row_in, width}
use Rattle.flat_routes.proofs.ImageLemmas.{row_read}
use Rattle.flat_routes.proofs.TableLemmas.{read_base, shown_more}
use Rattle.flat_routes.proofs.tables.rows_of.Goals as goal

pub unreachable-requires : goal.unreachable-requires
unreachable-requires g c =
    let wide = c.WIDE-wide.result in
    let bs = c.args.image.now in
    let inside : c.loop-at.at < row_count bs = omega (arith, c.loop-at-test.true, c.in-Ok.ensures.plan.rows) in
    let base = read_base wide bs c.loop-at.at _ _ (c.in-Ok.ensures.image.0 refl) inside c.first_at-first.ensures.value c.bits_at-bits.ensures in
    c.in_default-of_numbers.ensures (subst (λ b. IsBase (width b) c.bits_at-bits.result c.first_at-first.result) c.WIDE-wide.ensures base)

pub loop-at-init : goal.loop-at-init
unfolding listed
loop-at-init g c = record {
  rows = ap (λ xs. each g.R.FlatRow.shown xs) c.in-Ok-with_capacity.ensures.items;
  len = c.in-Ok-with_capacity.ensures.len;
  room = omega (arith, c.in-Ok-with_capacity.ensures.exact);
}

pub loop-at-preserved : goal.loop-at-preserved
loop-at-preserved g c =
    let wide = c.WIDE-wide.result in
    let bs = c.args.image.now in
    let at = c.loop-at.at in
    let inside : at < row_count bs = omega (arith, c.loop-at-test.true, c.in-Ok.ensures.plan.rows) in
    let base = read_base wide bs at _ _ (c.in-Ok.ensures.image.0 refl) inside c.first_at-first.ensures.value c.bits_at-bits.ensures in
    let shown = c.in-Some.ensures (subst (λ b. IsBase (width b) c.bits_at-bits.result c.first_at-first.result) c.WIDE-wide.ensures base) in
    let own = g.R.FlatRow.shown in
    let read = subst (λ b. row_in b bs at ≡ (network c.first_at-first.result c.bits_at-bits.result, c.value_at.result)) c.WIDE-wide.ensures
    (row_read wide bs at _ _ _ inside c.first_at-first.ensures.value c.bits_at-bits.ensures c.value_at.ensures.value) in
    let here : own c.in-Some.row ≡ row_in g.R.FlatRow.WIDE bs at =
    ◌∙◌ {b = (network c.first_at-first.result c.bits_at-bits.result, c.value_at.result)} shown (sym read) in
    record {
      rows = shown_more own (row_in g.R.FlatRow.WIDE bs) c.loop-at.rows.items c.push_reserved.new.self.items at c.in-Some.row c.push_reserved.ensures.items c.loop-at.invariant.rows here;
      len = omega (arith, c.push_reserved.ensures.len, c.loop-at.invariant.len);
      room = omega (arith, c.push_reserved.ensures.capacity, c.loop-at.invariant.room);
    }
