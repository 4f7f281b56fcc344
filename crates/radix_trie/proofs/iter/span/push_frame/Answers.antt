use Rattle.std.proofs.Common.{[], ap, append-nil, length, sym, ◌∙◌}
use Rattle.std.specs.Bool.{◌==◌}
use Rattle.std.specs.Option.{is_some}
use Rattle.radix_trie.specs.Walks.{left_in, left_of}
use Rattle.radix_trie.proofs.PathLemmas.Loci.{false_is_not_true}
use Rattle.radix_trie.proofs.WalkLemmas.Back.{full-pushed, left-pushed}
use Rattle.radix_trie.proofs.WalkLemmas.Stacks.{bare_rest, stacked-pushed}
use Rattle.radix_trie.proofs.iter.span.push_frame.Goals as goal
use Rattle.radix_trie.proofs.iter.span.push_frame.Goals.{then-is_some-via-then-is_some, then-is_some-via-else-is_some+then-not-is_empty}

pub returns-in_err-push-clause-none : goal.returns-in_err-push-clause-none
returns-in_err-push-clause-none g c = λ none.
    let bare = bare_rest c.args.rest.own c.args.rest.row.now c.requires.row none in
    elim c.then-is_some.branch [
      | then-is_some-via-then-is_some w ↦ absurd (false_is_not_true (ap is_some (sym bare.0) ∙ sym c.is_some.ensures ∙ w.if-is_some.true))
      | then-is_some-via-else-is_some+then-not-is_empty w ↦ absurd (false_is_not_true (sym w.if-not-is_empty.true ∙ w.is_empty.ensures ∙ ap (λ bs. length bs == 0) bare.1))
    ]

pub returns-in_ok-push-clause-last : goal.returns-in_ok-push-clause-last
returns-in_ok-push-clause-last g c = stacked-pushed c.args.stack.now.items c.push.new.self.items c.args.rest c.in_ok-push.ensures.items

pub returns-in_ok-push-clause-below : goal.returns-in_ok-push-clause-below
returns-in_ok-push-clause-below g c =
    sym (append-nil (left_in c.push.new.self.items))
    ∙ left-pushed c.args.stack.now.items c.push.new.self.items c.args.rest c.in_ok-push.ensures.items [] (left_of c.args.rest) (append-nil (left_of c.args.rest))

pub returns-in_ok-push-clause-rows : goal.returns-in_ok-push-clause-rows
returns-in_ok-push-clause-rows g c = full-pushed c.args.stack.now.items c.push.new.self.items c.args.rest c.in_ok-push.ensures.items c.requires.rows c.requires.row
