use Rattle.std.proofs.Common.{sym, ◌∙◌}
use Rattle.nibble_map.proofs.PointLemmas.Descendant.{len-below_leaf, get-nothing_below, nothing_below_leaf}
use Rattle.radix_trie.proofs.PathLemmas.Loci.{false_is_not_true}
use Rattle.radix_trie.proofs.locus.Locus.is_empty.Goals as goal

pub returns-in-Some : goal.returns-in-Some
returns-in-Some g c = λ m p locus. (
  λ t. absurd (false_is_not_true t),
  λ none. let held = rw c.in-Some.is at c.pair.ensures m p locus in let i = held ∙ get-nothing_below m p none in cc i,
)

pub returns-in-None : goal.returns-in-None
returns-in-None g c = λ m p locus.
    let free = sym (rw c.in-None.is at c.pair.ensures m p locus) in
    (λ t. len-below_leaf m p free ((c.is_leaf.ensures m p locus).0 t), λ none. (c.is_leaf.ensures m p locus).1 (nothing_below_leaf m p none))
