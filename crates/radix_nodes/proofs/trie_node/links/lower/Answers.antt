use Rattle.std.proofs.Common.{◌≡◌, ◌∙◌, sym, ap, subst, refl}
use Rattle.masked_tree.specs.Edits.{lowered}
use Rattle.radix_nodes.specs.Nodes.{IsUpper, fragment_of, tree_of}
use Rattle.radix_nodes.proofs.NodeLemmas.Nodes.{tree_of-lowered}
use Rattle.radix_nodes.proofs.trie_node.links.lower.Goals as goal

pub returns-clause-tree : goal.returns-clause-tree
returns-clause-tree g c =
    let u = c.deref_mut-2.result.now in
    let s = c.deref_mut.result.now in
    let eu : u ≡ c.args.upper.value = c.deref_mut-2.ensures.value ∙ ap (λ b. b.value) c.replace-below.ensures.after in
    let es : s ≡ c.args.slot.now.value = c.deref_mut.ensures.value ∙ ap (λ b. b.value) c.replace-below.ensures.value in
    let up : IsUpper (fragment_of u) c.args.tail u = subst (λ n. IsUpper (fragment_of n) c.args.tail n) (sym eu) c.requires in
    tree_of-lowered u s _ c.push.new.self c.args.tail up (rw c.unwrap.ensures at c.push.ensures.items) refl
    ∙ ap (λ n. lowered (fragment_of n) c.args.tail (tree_of s)) eu
    ∙ ap (λ n. lowered (fragment_of c.args.upper.value) c.args.tail (tree_of n)) es
