use Rattle.std.proofs.Common.{◌∙◌, ap, sym, arith}
use Rattle.nibble_map.specs.Maps.{below, without_below}
use Rattle.nibble_map.proofs.ListLemmas.Cut.{empty_of_length}
use Rattle.radix_trie.proofs.PathLemmas.Loci.{below-nil, without_below-nil}
use Rattle.radix_trie.proofs.trie.Trie.split_off_prefix.Goals as goal

pub returns-then-len-eq0-clause-split : goal.returns-then-len-eq0-clause-split
returns-then-len-eq0-clause-split g c =
    let none = sym c.in_ok-list.ensures.ok ∙ empty_of_length c.in_ok-list.list (omega (arith, c.len.ensures, c.if-len-eq0.true)) in
    c.replace-then-len-eq0.ensures.value ∙ sym (ap (below c.args.self.now) none ∙ below-nil c.args.self.now)

pub returns-then-len-eq0-clause-removed : goal.returns-then-len-eq0-clause-removed
returns-then-len-eq0-clause-removed g c =
    let none = sym c.in_ok-list.ensures.ok ∙ empty_of_length c.in_ok-list.list (omega (arith, c.len.ensures, c.if-len-eq0.true)) in
    c.replace-then-len-eq0.ensures.after ∙ c.new.ensures ∙ sym (ap (without_below c.args.self.now) none ∙ without_below-nil c.args.self.now)

pub returns-clause-split : goal.returns-clause-split
returns-clause-split g c = rw (← c.in_ok-list.ensures.ok) c.split_at.ensures.split

pub returns-clause-removed : goal.returns-clause-removed
returns-clause-removed g c = rw (← c.in_ok-list.ensures.ok) c.split_at.ensures.removed

pub returns-clause-inline_none : goal.returns-clause-inline_none
returns-clause-inline_none g c = λ _ none. c.split_at.ensures.none (rw c.in_ok-list.ensures.ok none)
