use Rattle.std.proofs.Common.{rules, refl, ap, sym, ◌∙◌}
use Rattle.nibble_map.proofs.ListLemmas.Cut.{empty_of_length}
use Rattle.radix_nodes.specs.declared.trie_node.TrieNode.{out-TrieNode, out-roll-TrieNode}
use Rattle.radix_nodes.proofs.NodeLemmas.Dropping.{work_of_turn, work_of_only_child, work_without_leaf}
use Rattle.radix_nodes.proofs.trie_node.TrieNode.+drop.Goals as goal

pub loop-children-smaller-then-is_empty : goal.loop-children-smaller-then-is_empty
loop-children-smaller-then-is_empty g t c =
    rw c.into_inner-self.ensures (work_of_only_child c.loop-children.self c.pop.new.self.items c.in-Some.below c.in-Some.ensures.items (empty_of_length c.pop.new.self.items (search rules)))

pub loop-children-smaller-in-None-pop : goal.loop-children-smaller-in-None-pop
loop-children-smaller-in-None-pop g t c =
    work_without_leaf c.loop-children.self _ c.pop.new.self.items c.in-Some.below c.in-Some.ensures.items (search rules) (ap (λ x. x.children.items) (out-roll-TrieNode _ _ _))

pub loop-children-smaller : goal.loop-children-smaller
loop-children-smaller g t c =
    work_of_turn c.loop-children.self _ c.pop.new.self.items c.pop-else-is_empty.new.self.items _ c.in-Some.below c.in-Some-pop.next _
    c.in-Some.ensures.items
    (search rules)
    (ap (λ n. (out-TrieNode g.row.K.Denot g.row.V.Denot n).children.items) (sym c.deref_mut.ensures.value) ∙ c.in-Some-pop.ensures.items)
    (ap (λ n. (out-TrieNode g.row.K.Denot g.row.V.Denot n).children.items) (c.replace-turned.ensures.value ∙ c.deref_mut-in-Some-pop.ensures.value) ∙ ap (λ x. x.children.items) (out-roll-TrieNode _ _ _))
    (ap (λ x. x.children.items) (out-roll-TrieNode _ _ _) ∙ (rw c.unwrap-in-Some-pop.ensures at c.insert.ensures.items))
    c.replace-turned.new.dest
    refl
    (ap (λ n. (out-TrieNode g.row.K.Denot g.row.V.Denot n).children.items) c.replace-turned.ensures.after ∙ ap (λ x. x.children.items) (out-roll-TrieNode _ _ _) ∙ (rw c.unwrap.ensures at c.push.ensures.items))
