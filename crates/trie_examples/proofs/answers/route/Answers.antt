use Rattle.std.proofs.Common.{arith, ap, sym, ◌∙◌, ◌++◌}
use Rattle.trie_examples.proofs.answers.route.Goals as goal

pub returns-in-Some-clause-holds : goal.returns-in-Some-clause-holds
returns-in-Some-clause-holds g c = λ a n fits le same.
    let above = (rw c.in-Some.is at c.in_ok-view.ensures.nearest).above in
    (c.first_bits_tell_networks.ensures 32 a c.args.address n 32 fits c.ranges.address.fits le (omega arith)).0
    (above.0, sym c.in_ok-bits.ensures.ok ∙ above.1 ∙ ap (λ p. p ++ above.0) same)

pub returns-in-Some-clause-longest : goal.returns-in-Some-clause-longest
returns-in-Some-clause-longest g c = λ a n fits le stored same.
    let h = (c.first_bits_tell_networks.ensures 32 a c.args.address n 32 fits c.ranges.address.fits le (omega arith)).1 same in
    let most = (rw c.in-Some.is at c.in_ok-view.ensures.nearest).longest _ stored (h.0, c.in_ok-bits.ensures.ok ∙ h.1) in
    omega (arith, most, le, c.first_bits_are_digits.ensures.count 32 a n)

pub returns-clause-none : goal.returns-clause-none
returns-clause-none g c = λ a n fits le stored same.
    let h = (c.first_bits_tell_networks.ensures 32 a c.args.address n 32 fits c.ranges.address.fits le (omega arith)).1 same in
    (rw c.in-None.is at c.in_ok-view.ensures.nearest) _ stored (h.0, c.in_ok-bits.ensures.ok ∙ h.1)
