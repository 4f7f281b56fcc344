use Rattle.std.proofs.Common.{◌≡◌, subst, IsOk, List, ℕ, IfOk}
use Rattle.nibble_map.specs.Lists.{Each}
use Rattle.nibble_map.specs.MapQueries.{IsChild}
use Rattle.nibble_map.specs.Nibbles.{IsShort}
use Rattle.radix_trie.specs.WriteViews.{map_behind}
use Rattle.radix_trie.proofs.view.subtrie_mut.SubTrieMut+K+V.into_children.Goals as goal

pub returns-clause-same_map : goal.returns-clause-same_map
returns-clause-same_map g c = subst (λ m. IfOk c.children.result (λ children. Each (λ v. v.map ≡ m) children)) c.into_parts-path.ensures.map c.children.ensures.same_map

pub returns-clause-short : goal.returns-clause-short
returns-clause-short g c =
    subst (λ p. ((q : List ℕ) → IsChild (map_behind c.args.self) p q → IsShort q) → IsOk c.children.result) c.into_parts-path.ensures.path
    (subst (λ m. ((q : List ℕ) → IsChild m c.into_parts-path.result.1 q → IsShort q) → IsOk c.children.result) c.into_parts-path.ensures.map c.children.ensures.short)
