use Rattle.std.proofs.Common.{arith}
use Rattle.flat_texts.proofs.CountLemmas.{image_then, none_unsorted, pairs_then, payload_then, plan_then}
use Rattle.flat_texts.proofs.writing.write.Goals as goal

pub returns-in-Some-unsorted-clause-ok : goal.returns-in-Some-unsorted-clause-ok
returns-in-Some-unsorted-clause-ok c = (
  λ e. absurd (cc e),
  λ can. absurd (none_unsorted c.args.pairs.now c.in-Some-unsorted.at can.rising c.in-Some-unsorted.ensures),
)

pub put_counts-requires-clause-plan : goal.put_counts-requires-clause-plan
put_counts-requires-clause-plan c =
    plan_then c.args.pairs.now c.args.payload.now c.in-Some.plan c.put_head.new.out c.put_pairs.new.out c.in-Some.ensures (omega (arith, c.if-out-payload_at.false, c.put_head.ensures.length))
    c.put_head.ensures.head c.put_pairs.ensures.head c.put_pairs.ensures.length

pub returns-clause-image : goal.returns-clause-image
returns-clause-image c =
    image_then c.args.pairs.now c.args.payload.now c.in-Some.plan c.put_head.new.out c.put_pairs.new.out c.in-Some.ensures (omega (arith, c.if-out-payload_at.false, c.put_head.ensures.length))
    c.put_head.ensures.head c.put_pairs.ensures.head c.put_pairs.ensures.length c.put_counts.new.out c.put_bytes.new.out c.put_pairs.ensures.pairs c.put_counts.ensures.stay c.put_counts.ensures.counts
    c.put_bytes.ensures.before c.put_bytes.ensures.length c.put_bytes.ensures.bytes

pub returns-clause-pairs : goal.returns-clause-pairs
returns-clause-pairs c =
    pairs_then c.args.pairs.now c.args.payload.now c.in-Some.plan c.put_head.new.out c.put_pairs.new.out c.in-Some.ensures (omega (arith, c.if-out-payload_at.false, c.put_head.ensures.length))
    c.put_head.ensures.head c.put_pairs.ensures.head c.put_pairs.ensures.length c.put_counts.new.out c.put_bytes.new.out c.put_pairs.ensures.pairs c.put_counts.ensures.stay c.put_counts.ensures.counts
    c.put_bytes.ensures.before c.put_bytes.ensures.length c.put_bytes.ensures.bytes

pub returns-clause-payload : goal.returns-clause-payload
returns-clause-payload c =
    payload_then c.args.pairs.now c.args.payload.now c.in-Some.plan c.put_head.new.out c.put_pairs.new.out c.in-Some.ensures (omega (arith, c.if-out-payload_at.false, c.put_head.ensures.length))
    c.put_head.ensures.head c.put_pairs.ensures.head c.put_pairs.ensures.length c.put_counts.new.out c.put_bytes.new.out c.put_pairs.ensures.pairs c.put_counts.ensures.stay c.put_counts.ensures.counts
    c.put_bytes.ensures.before c.put_bytes.ensures.length c.put_bytes.ensures.bytes
