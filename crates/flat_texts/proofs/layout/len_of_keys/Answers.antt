use Rattle.std.proofs.Common.{[], arith}
use Rattle.flat_texts.specs.declared.pair.Pair.{Pair}
use Rattle.flat_texts.proofs.WriteLemmas.{keys_more}
use Rattle.flat_texts.proofs.layout.len_of_keys.Goals as goal

pub returns-then-own-len-clause-long : goal.returns-then-own-len-clause-long
returns-then-own-len-clause-long c =
    let none : Pair = record { key = record { ref_ptr = (0, 0); now = [] }; value = 0 } in
    let most = keys_more c.args.pairs.now c.loop-at.at none c.loop-at-test.true in
    omega (arith, most, c.if-own-len.true, c.loop-at.invariant.len)
