use Rattle.std.proofs.Common.{◌≡◌, arith, true, false}
use Rattle.radix_keys.proofs.NibbleLemmas.Packing.{length-packed_even, unpacked-push_even, nibbles-push_odd}
use Rattle.radix_keys.proofs.nibbles.NibbleVec.push.Goals as goal

pub returns-then-self-clause-ok : goal.returns-then-self-clause-ok
returns-then-self-clause-ok c =
    rw (← c.self.view_is, c.deref_mut.ensures.value, c.len-last.ensures.value)
    (nibbles-push_odd c.self.inside.bytes.items c.self.inside.is_odd c.args.n c.if-self.true c.self.invariant.padded c.requires)

pub returns-in_err-push-clause-succeeds : goal.returns-in_err-push-clause-succeeds
returns-in_err-push-clause-succeeds c = λ lt.
    let refused : false ≡ true = c.in_err-push.ensures.succeeds (omega (arith, length-packed_even c.self.invariant c.self.view_is c.if-self.false)) in
    cc

pub returns-clause-ok : goal.returns-clause-ok
returns-clause-ok c =
    rw (← c.self.view_is, c.in_ok-push.ensures.ok)
    (unpacked-push_even c.self.inside.bytes.items c.self.inside.is_odd c.args.n c.if-self.false c.requires)
