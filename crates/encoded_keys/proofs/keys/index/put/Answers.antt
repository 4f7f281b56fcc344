use Rattle.std.proofs.Common.{arith}
use Rattle.encoded_keys.proofs.CodeLemmas.Slots.{now_slotted, still_slotted}
use Rattle.encoded_keys.proofs.keys.index.put.Goals as goal

pub returns-in-Some-clause-slotted : goal.returns-in-Some-clause-slotted
returns-in-Some-clause-slotted c =
    let free = c.in-Some.ensures in
    now_slotted c.args.slots.now c.in-Some.at c.args.entry (omega (arith, free.within, c.requires.within)) c.requires.some free.free c.args.first free

pub returns-in-Some-clause-kept : goal.returns-in-Some-clause-kept
returns-in-Some-clause-kept c =
    let free = c.in-Some.ensures in
    still_slotted c.args.slots.now c.in-Some.at c.args.entry (omega (arith, free.within, c.requires.within)) c.requires.some free.free
