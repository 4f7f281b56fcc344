use Rattle.std.proofs.Common.{rules, subst, sym}
use Rattle.radix_trie.specs.Refusals.{JoinsAreShort}
use Rattle.radix_trie.specs.WriteViews.{map_behind}
use Rattle.radix_trie.proofs.PathLemmas.Loci.{false_is_not_true}
use Rattle.radix_trie.proofs.view.edit.SubTrieMut+K+V.remove.Goals as goal

pub returns-clause-why : goal.returns-clause-why
returns-clause-why g c = λ inline. (
  search rules,
  search rules,
  search rules,
  λ short. false_is_not_true (c.in-Err.ensures.join (subst (JoinsAreShort (map_behind c.args.self.now)) (sym c.in_ok-list.ensures.list) short)),
)
