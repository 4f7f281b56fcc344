use Rattle.std.proofs.Common.{◌≤◌, length, map as each, subst, sym, arith}
use Rattle.std.proofs.lemmas.List.{length-map}
use Rattle.flat_routes.specs.Written.{CanWrite, image_size}
use Rattle.flat_routes.proofs.tables.image_of.Goals as goal

pub unreachable-requires : goal.unreachable-requires
unreachable-requires g c =
    let given = c.args.rows.now in
    let size = length c.args.payload.now in
    let room = length c.deref_mut.result.now in
    let many = length-map given g.R.FlatRow.shown in
    let few = c.in-Some.ensures.0.0 in
    let fits : image_size g.R.FlatRow.WIDE (length given) size ≤ room = omega (arith, c.in-Some.ensures.1, c.deref_mut.ensures.len, c.in_ok-image.ensures.len) in
    let can : CanWrite g.R.FlatRow.WIDE (each g.R.FlatRow.shown given) size room = record {
      few = omega (arith, few, many);
      fits = subst (λ n. image_size g.R.FlatRow.WIDE n size ≤ room) (sym many) fits;
      rising = c.requires;
    } in
    let no = c.in_default-write.ensures.ok.1 can in
    cc no
