use Rattle.std.proofs.Common.{◌≡◌, ◌+◌, ◌-◌, ◌*◌, ◌≤◌, length, sym, ap, subst, ◌∙◌, arith}
use Rattle.encoded_keys.specs.Blocks.{IsBlock, IsCounted, IsSharedBy}
use Rattle.encoded_keys.specs.Heads.{AreNibbles, bound_of}
use Rattle.encoded_keys.proofs.CodeLemmas.Blocks.{block_part, part_length}
use Rattle.encoded_keys.proofs.CodeLemmas.Narrowing.{counted_between, shared_in_fewer}
use Rattle.encoded_keys.proofs.keys.EncodedKeys.count_in_both.Goals as goal

pub returns-then-from-to : goal.returns-then-from-to
returns-then-from-to c = c.bounds_in-from.ensures.whole c.if-from-to.true

pub part-requires-clause-order : goal.part-requires-clause-order
part-requires-clause-order c = c.bounds_in-from.ensures.order

pub part-requires-clause-within : goal.part-requires-clause-within
part-requires-clause-within c = omega (arith, c.bounds_in-from.ensures.within, c.requires.many)

pub count_in-count-requires-clause-sought : goal.count_in-count-requires-clause-sought
count_in-count-requires-clause-sought c =
    let cs = c.args.self.now in
    let b = c.args.block.now in
    let q = c.args.sought.now.list.now in
    let from = c.bounds_in-from.result.0 in
    let to = c.bounds_in-from.result.1 in
    let first = b.first + from * b.step in
    let within : to ≤ length c.args.more.now = omega (arith, c.bounds_in-from.ensures.within, c.requires.many) in
    let many : length c.part.result.now ≡ to - from = ap length c.part.ensures ∙ part_length c.args.more.now from to within in
    record {
      block = subst (λ hs. IsBlock cs hs first b.step (2 * (7 + b.skip))) (sym c.part.ensures)
          (block_part cs c.requires.rising c.args.more.now b.first b.step (2 * (7 + b.skip)) c.requires.more from to c.bounds_in-from.ensures.order within);
      shared = shared_in_fewer cs _ first b.step (2 * b.skip + 15) (2 * (7 + b.skip)) q (omega arith)
          (subst (λ m. IsSharedBy cs m first b.step (2 * b.skip + 15) q) (sym many) (c.bounds_in-from.ensures.shared (omega (arith, c.bounds_in-from.ensures.order, c.if-from-to.false))));
      head = c.head_of-head.ensures.head ∙ ap (bound_of c.args.sought.now.is_through) c.behind.ensures;
      nibbles = subst (AreNibbles 15) c.behind.ensures (λ k _. c.head_of-head.ensures.nibbles k);
    }

pub returns : goal.returns
returns c =
    let b = c.args.block.now in
    let from = c.bounds_in-from.result.0 in
    let to = c.bounds_in-from.result.1 in
    let t = c.args.sought.now.is_through in
    let q = c.args.sought.now.list.now in
    let many : length c.part.result.now ≡ to - from =
    ap length c.part.ensures ∙ part_length c.args.more.now from to (omega (arith, c.bounds_in-from.ensures.within, c.requires.many)) in
    counted_between t q c.args.self.now b.first b.step (length b.heads.now) (2 * b.skip + 15) from to c.bounds_in-from.result.2 c.bounds_in-from.ensures
    (omega (arith, c.bounds_in-from.ensures.order, c.if-from-to.false)) c.count_in-count.result.0 c.count_in-count.result.1
    (subst (λ m. IsCounted t q c.args.self.now (b.first + from * b.step) b.step m c.count_in-count.result.0 c.count_in-count.result.1) many c.count_in-count.ensures)
