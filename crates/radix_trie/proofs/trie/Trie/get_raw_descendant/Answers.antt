use Rattle.radix_trie.proofs.PathLemmas.Loci.{false_is_not_true}
use Rattle.radix_trie.proofs.trie.Trie.get_raw_descendant.Goals as goal

pub new-requires : goal.new-requires
new-requires g c = rw c.in-Some.is at c.in_ok-node.ensures.node _ c.find.ensures

pub returns-in-Some-clause-nearest : goal.returns-in-Some-clause-nearest
returns-in-Some-clause-nearest g c =
    rw (← c.in_ok-list.ensures.ok, c.new.ensures.path) (rw c.in-Some.is at c.in_ok-node.ensures.nearest _ c.find.ensures)

pub returns-clause-nearest : goal.returns-clause-nearest
returns-clause-nearest g c =
    rw (← c.in_ok-list.ensures.ok) (rw c.in-None.is at c.in_ok-node.ensures.nearest _ c.find.ensures)

pub returns-in_err-node-clause-short : goal.returns-in_err-node-clause-short
returns-in_err-node-clause-short g c = λ inline short.
    absurd (false_is_not_true (c.in_err-node.ensures.short _ c.find.ensures (rw (← c.in_ok-list.ensures.ok) at short)))
