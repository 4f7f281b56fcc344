use Rattle.std.proofs.Common.{ap, arith, length, option_map, sym, ◌∙◌}
use Rattle.std.proofs.lemmas.List.{length-map}
use Rattle.radix_trie.specs.Walks.{deref_pair, deref_pairs}
use Rattle.radix_trie.proofs.PathLemmas.Loci.{false_is_not_true}
use Rattle.radix_trie.proofs.WalkLemmas.Pages.{all_taken, enough_taken, none_comes_next, rest_is_empty}
use Rattle.radix_trie.proofs.iter.pages.first_pairs.Goals as goal

pub returns-in_err-pair-clause-none : goal.returns-in_err-pair-clause-none
returns-in_err-pair-clause-none g c = λ bare.
    let none = rest_is_empty (deref_pairs c.loop-left.list.items) c.loop-left.left (c.loop-left.invariant.same ∙ bare) in
    absurd (false_is_not_true (c.in_err-pair.ensures.end (omega (arith, ap length none))))

pub returns-in_err-push-clause-none : goal.returns-in_err-push-clause-none
returns-in_err-push-clause-none g c = λ bare.
    absurd (none_comes_next (deref_pairs c.loop-left.list.items) c.loop-left.left (deref_pair c.in-Some.pair) (c.loop-left.invariant.same ∙ bare)
    (sym (ap (option_map deref_pair) c.in-Some.is) ∙ c.in_ok-pair.ensures.pair))

pub returns-in_default-clause-pairs : goal.returns-in_default-clause-pairs
returns-in_default-clause-pairs g c =
    let items = c.loop-left.list.items in
    all_taken (deref_pairs items) c.loop-left.left _ c.loop-left.invariant.same c.args.most (omega (arith, length-map items deref_pair, c.loop-left.invariant.few))
    (sym (ap (option_map deref_pair) c.in_default.is) ∙ c.in_ok-pair.ensures.pair)

pub returns-clause-pairs : goal.returns-clause-pairs
returns-clause-pairs g c =
    let items = c.loop-left.list.items in
    enough_taken (deref_pairs items) c.loop-left.left _ c.loop-left.invariant.same c.args.most (omega (arith, length-map items deref_pair, c.loop-left.invariant.few))
    (omega (arith, length-map items deref_pair, c.loop-left-test.false, c.len.ensures, c.loop-left.list.ok.0))
