use Rattle.std.proofs.Common.{subst}
use Rattle.nibble_map.specs.MapQueries.{AreChildren}
use Rattle.radix_trie.specs.Views.{paths_of}
use Rattle.trie_tests.proofs.spent.walks.children_at.Goals as goal

pub returns-in-Ok-into_children : goal.returns-in-Ok-into_children
returns-in-Ok-into_children g c =
    let paths = paths_of c.in-Ok-into_children.children in record {
      children = subst (λ p. AreChildren c.args.trie.now p paths) c.in-Ok.ensures.path (subst (λ m. AreChildren m c.in-Ok.view.path paths) c.in-Ok.ensures.map c.in-Ok-into_children.ensures.children);
    }
