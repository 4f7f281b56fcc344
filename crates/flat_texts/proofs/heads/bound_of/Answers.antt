use Rattle.std.proofs.Common.{arith, ◌∙◌}
use Rattle.flat_texts.proofs.HeadLemmas.{bound_fits, bound_of_long, bound_of_short, bound_plain, nibbles_fit}
use Rattle.flat_texts.proofs.heads.bound_of.Goals as goal

pub returns-then-not-is_through-clause-bound : goal.returns-then-not-is_through-clause-bound
returns-then-not-is_through-clause-bound c = bound_plain c.args.is_through c.args.key.now c.head_of-head.result c.if-not-is_through.true c.head_of-head.ensures

pub returns-then-key-ge8-clause-bound : goal.returns-then-key-ge8-clause-bound
returns-then-key-ge8-clause-bound c = c.head_of-head.ensures ∙ bound_of_long c.args.is_through c.args.key.now c.if-key-ge8.true

pub overflow_add-result : goal.overflow_add-result
overflow_add-result c =
    let bound = bound_of_short c.args.is_through c.args.key.now c.head_of-head.result c.if-not-is_through.false c.if-key-ge8.false (λ i. (c.type_inv.key i).fits) c.head_of-head.ensures in
    omega (arith, bound, bound_fits c.args.is_through c.args.key.now (λ i. (c.type_inv.key i).fits))

pub returns-clause-bound : goal.returns-clause-bound
returns-clause-bound c = bound_of_short c.args.is_through c.args.key.now c.head_of-head.result c.if-not-is_through.false c.if-key-ge8.false (λ i. (c.type_inv.key i).fits) c.head_of-head.ensures

pub returns-then-not-is_through-clause-nibbles : goal.returns-then-not-is_through-clause-nibbles
returns-then-not-is_through-clause-nibbles c = nibbles_fit c.args.key.now (λ i. (c.type_inv.key i).fits)

pub returns-then-key-ge8-clause-nibbles : goal.returns-then-key-ge8-clause-nibbles
returns-then-key-ge8-clause-nibbles c = nibbles_fit c.args.key.now (λ i. (c.type_inv.key i).fits)

pub returns-clause-nibbles : goal.returns-clause-nibbles
returns-clause-nibbles c = nibbles_fit c.args.key.now (λ i. (c.type_inv.key i).fits)
