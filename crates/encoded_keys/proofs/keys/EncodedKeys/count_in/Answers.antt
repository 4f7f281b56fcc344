use Rattle.std.proofs.Common.{◌≡◌, ◌+◌, ◌-◌, ◌*◌, length, sym, ap, subst, ◌∙◌, arith}
use Rattle.encoded_keys.specs.Blocks.{IsBlock, IsCounted, IsSharedBy}
use Rattle.encoded_keys.proofs.CodeLemmas.Blocks.{block_part, part_length}
use Rattle.encoded_keys.proofs.CodeLemmas.Narrowing.{counted_between}
use Rattle.encoded_keys.proofs.keys.EncodedKeys.count_in.Goals as goal

pub returns-then-from-to : goal.returns-then-from-to
returns-then-from-to c = c.bounds_in-from.ensures.whole c.if-from-to.true

pub part-requires-clause-within : goal.part-requires-clause-within
part-requires-clause-within c = c.bounds_in-from.ensures.within

pub part-requires-clause-order : goal.part-requires-clause-order
part-requires-clause-order c = c.bounds_in-from.ensures.order

pub count_by_bytes-count-requires-clause-block : goal.count_by_bytes-count-requires-clause-block
count_by_bytes-count-requires-clause-block c =
    let b = c.args.block.now in
    let from = c.bounds_in-from.result.0 in
    subst (λ hs. IsBlock c.args.self.now hs (b.first + from * b.step) b.step (2 * b.skip)) (sym c.part.ensures)
    (block_part c.args.self.now c.requires.rising b.heads.now b.first b.step (2 * b.skip) c.requires.sought.block from c.bounds_in-from.result.1 c.bounds_in-from.ensures.order c.bounds_in-from.ensures.within)

pub count_by_bytes-count-requires-clause-shared : goal.count_by_bytes-count-requires-clause-shared
count_by_bytes-count-requires-clause-shared c =
    let b = c.args.block.now in
    let from = c.bounds_in-from.result.0 in
    let to = c.bounds_in-from.result.1 in
    let many : length c.part.result.now ≡ to - from = ap length c.part.ensures ∙ part_length b.heads.now from to c.bounds_in-from.ensures.within in
    subst (λ m. IsSharedBy c.args.self.now m (b.first + from * b.step) b.step (2 * b.skip + 15) c.args.sought.now.list.now) (sym many)
    (c.bounds_in-from.ensures.shared (omega (arith, c.bounds_in-from.ensures.order, c.if-from-to.false)))

pub returns : goal.returns
returns c =
    let b = c.args.block.now in
    let from = c.bounds_in-from.result.0 in
    let to = c.bounds_in-from.result.1 in
    let t = c.args.sought.now.is_through in
    let q = c.args.sought.now.list.now in
    let many : length c.part.result.now ≡ to - from = ap length c.part.ensures ∙ part_length b.heads.now from to c.bounds_in-from.ensures.within in
    counted_between t q c.args.self.now b.first b.step (length b.heads.now) (2 * b.skip + 15) from to c.bounds_in-from.result.2 c.bounds_in-from.ensures
    (omega (arith, c.bounds_in-from.ensures.order, c.if-from-to.false)) c.count_by_bytes-count.result.0 c.count_by_bytes-count.result.1
    (subst (λ m. IsCounted t q c.args.self.now (b.first + from * b.step) b.step m c.count_by_bytes-count.result.0 c.count_by_bytes-count.result.1) many c.count_by_bytes-count.ensures)
