use Rattle.std.proofs.Common.{arith}
use Rattle.radix_keys.proofs.NibbleLemmas.Slices.{byte_count, even_nibble, odd_nibble}
use Rattle.radix_keys.proofs.slices.NibbleSlice.get.Goals as goal

pub bounds-self-inside-i : goal.bounds-self-inside-i
bounds-self-inside-i c = omega (arith, c.requires, byte_count c.self.inside.bytes.now c.self.inside.is_odd c.args.self.now c.self.invariant c.self.view_is)

pub returns-then-i-eq0-clause-value : goal.returns-then-i-eq0-clause-value
returns-then-i-eq0-clause-value c = even_nibble c.self.inside.bytes.now c.self.inside.is_odd c.args.self.now c.self.invariant c.self.view_is c.args.i c.requires (omega (arith, c.if-i-eq0.true))

pub returns-else-i-eq0-clause-value : goal.returns-else-i-eq0-clause-value
returns-else-i-eq0-clause-value c = odd_nibble c.self.inside.bytes.now c.self.inside.is_odd c.args.self.now c.self.invariant c.self.view_is c.args.i c.requires (omega (arith, c.if-i-eq0.false))
