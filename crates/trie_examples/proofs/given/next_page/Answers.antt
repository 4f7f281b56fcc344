use Rattle.std.proofs.Common.{subst}
use Rattle.std.specs.List.{Contains}
use Rattle.trie_examples.proofs.given.next_page.Goals as goal

pub returns : goal.returns
returns g c = λ keyed p h.
    c.keys_of_pages_are_given.ensures.after c.args.trie.now keyed _ _ _ p (subst (λ ps. Contains ps p) c.in_ok-first_after.ensures.pairs h)
