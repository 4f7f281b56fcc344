use Rattle.std.proofs.Common.{◌≡◌, ◌+◌, ◌-◌, ◌*◌, ap, sym, arith, ◌∙◌}
use Rattle.std.proofs.lemmas.Nat.{mul-le}
use Rattle.flat_routes.specs.Images.{row_size}
use Rattle.flat_routes.proofs.MergeLemmas.{copied, row_moved}
use Rattle.flat_routes.proofs.WriteLemmas.{row_placed, row_room}
use Rattle.flat_routes.proofs.merging.put_run.Goals as goal

pub returns-clause-rows : goal.returns-clause-rows
returns-clause-rows c = λ k from to.
    let wide = c.args.wide in
    let plan = c.args.plan in
    let image = c.args.image.now in
    let s = row_size wide in
    let d = k - c.args.from in
    let is : k ≡ c.args.from + d = omega (arith, from) in
    let rest : c.args.to ≡ c.args.from + (c.args.to - c.args.from) = omega (arith, from, to) in
    let at = ap (λ n. s * n) is in
    let last = row_room wide k c.args.to to in
    let start = c.size_of_rows.ensures.value in
    let end = c.size_of_rows-2.ensures.value in
    let place = c.size_of_rows-3.ensures.value in
    let inside = c.requires.plan.inside in
    let within = mul-le s c.args.to s plan.rows (omega arith) c.requires.within in
    let upto = ap (λ n. s * n) rest in
    row_moved wide image c.put_bytes.new.out (plan.rows_at + s * k) (112 + s * (c.args.count + d))
    (λ j m least most moved. copied image c.put_bytes.new.out _ _ _ (omega (arith, start, end, inside, within, upto)) c.put_bytes.ensures.bytes j m (omega (arith, least, at, start)) (omega (arith, most, last, start, end)) (omega (arith, moved, at, start, place)))
    ∙ sym (row_placed wide image plan k c.requires.plan)
