use Rattle.std.proofs.Common.{subst, List, ℕ}
use Rattle.std.specs.Prelude.{IsOk, IfOk}
use Rattle.nibble_map.specs.MapQueries.{AreChildren, IsChild}
use Rattle.nibble_map.specs.Nibbles.{IsShort}
use Rattle.radix_trie.specs.Views.{paths_of}
use Rattle.radix_trie.proofs.trie.Trie.children.Goals as goal

pub returns-clause-short : goal.returns-clause-short
returns-clause-short g c =
    subst (λ p. ((q : List ℕ) → IsChild c.args.self.now p q → IsShort q) → IsOk c.children.result) c.top-top.ensures c.children.ensures.short

pub returns-clause-children : goal.returns-clause-children
returns-clause-children g c =
    subst (λ p. IfOk c.children.result (λ children. AreChildren c.args.self.now p (paths_of children))) c.top-top.ensures c.children.ensures.children
