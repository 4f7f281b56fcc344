use Rattle.std.proofs.Common.{rules, length, take, drop, ap, ◌≡◌, ◌∙◌, ◌+◌, ◌-◌, arith}
use borrow.Rule.Slice.PartMut.{put_mid}
use Rattle.std.proofs.lemmas.Slice.{between-put_mid}
use Rattle.image_parts.proofs.stores.put_bytes.Goals as goal

pub returns-clause-bytes : goal.returns-clause-bytes
returns-clause-bytes c =
    let at = c.args.at in
    let end = at + length c.args.bytes.now in
    let whole : length c.args.bytes.now ≡ end - at = omega arith in
    ap (λ n. take n (drop at (put_mid at (end - at) c.args.out.now c.copy_from_slice.new.self))) whole
    ∙ between-put_mid at (end - at) c.args.out.now c.copy_from_slice.new.self end (search rules) (search rules) ∙ c.copy_from_slice.ensures.after
