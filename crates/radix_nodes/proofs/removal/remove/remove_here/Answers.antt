use Rattle.std.proofs.Common.{◌++◌, ◌∙◌, refl, sym, ap, arith}
use Rattle.radix_nodes.proofs.EditLemmas.Steps.{free_here, held_here}
use Rattle.radix_nodes.specs.declared.trie_node.TrieNode.{out-TrieNode}
use Rattle.masked_tree.specs.Edits.{merged}
use Rattle.radix_nodes.specs.Nodes.{tree_of}
use Rattle.radix_nodes.proofs.NodeLemmas.Nodes.{fragment-tree_of}
use Rattle.radix_nodes.proofs.EditLemmas.Merging.{merged_fragment, has_one_child, tree_of-unpaired, merged_cut, pair_cut}
use Rattle.radix_nodes.proofs.EditLemmas.Removal.{long_here}
use Rattle.radix_nodes.proofs.removal.remove.remove_here.Goals as goal

pub absorb-requires-clause-joined : goal.absorb-requires-clause-joined
absorb-requires-clause-joined g c =
    let n = c.args.node.now in
    let one = sym (out-TrieNode g.row.K.Denot g.row.V.Denot n).children.ok.0 ∙ sym c.len.ensures ∙ c.if-len-eq1.true in
    merged_fragment (tree_of n).fragment c.in-Ok.joined (tree_of n).children (has_one_child n one) (λ u a. c.in-Ok.ensures.made u a ∙ ap (λ f. f ++ u.fragment) (sym (fragment-tree_of n)))
    ∙ ap (λ t. (merged t).fragment) (sym (tree_of-unpaired n c.take_pair.new.at c.take_pair.ensures.none))

pub returns-in-Some : goal.returns-in-Some
returns-in-Some g c =
    let n = c.args.node.now in
    let one = sym (out-TrieNode g.row.K.Denot g.row.V.Denot n).children.ok.0 ∙ sym c.len.ensures ∙ c.if-len-eq1.true in
    merged_cut n c.in-Some.pair c.in-Some.ensures.was c.requires.placed _ one c.requires.some (c.absorb.ensures ∙ ap merged (tree_of-unpaired n c.take_pair.new.at c.take_pair.ensures.none))

pub returns-in-Some-take_pair : goal.returns-in-Some-take_pair
returns-in-Some-take_pair g c =
    let n = c.args.node.now in
    let o = (out-TrieNode g.row.K.Denot g.row.V.Denot n).children.ok.0 in
    pair_cut n c.in-Some-take_pair.pair c.in-Some-take_pair.ensures.was c.requires.placed _ (omega (arith, o, c.len.ensures, c.if-len-eq1.false, c.requires.inner))
    (tree_of-unpaired n c.take_pair-else-len-eq1.new.at c.take_pair-else-len-eq1.ensures.none)

pub returns-then-not-has_pair : goal.returns-then-not-has_pair
returns-then-not-has_pair g c = (refl, free_here c.args.node.now c.requires.placed c.if-not-has_pair.ensures)

pub returns-in-Err : goal.returns-in-Err
returns-in-Err g c =
    let n = c.args.node.now in
    let o = (out-TrieNode g.row.K.Denot g.row.V.Denot n).children.ok.0 in
    (refl, held_here n c.if-not-has_pair.ensures, long_here n (omega (arith, o, c.len.ensures, c.if-len-eq1.true)) c.in-Err.ensures.long)
