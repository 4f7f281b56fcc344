use Rattle.std.proofs.Common.{arith, subst}
use Rattle.nibble_map.specs.Lists.{Counts}
use Rattle.nibble_map.specs.Maps.{IsPoint, IsSomePrefix}
use Rattle.nibble_map.proofs.ListLemmas.Unique.{Counts-unique}
use Rattle.trie_examples.proofs.by_keys.costs.insert_measured.Goals as goal

pub overflow_sub-result : goal.overflow_sub-result
overflow_sub-result g c =
    c.edits_make_few_nodes.ensures.insert_takes_none _ _ _ _ _ c.footprint-nodes.ensures.nodes (rw c.in_ok-insert.ensures.stored at c.footprint-nodes_now.ensures.nodes)

pub overflow_sub-result-2 : goal.overflow_sub-result-2
overflow_sub-result-2 g c =
    c.edits_make_few_nibbles.ensures.insert_takes_none _ _ _ _ _ c.footprint-nodes.ensures.nibbles (rw c.in_ok-insert.ensures.stored at c.footprint-nodes_now.ensures.nibbles)

pub returns-clause-nodes : goal.returns-clause-nodes
returns-clause-nodes g c =
    let most = c.edits_make_few_nodes.ensures.insert_makes_two _ _ _ _ _ c.footprint-nodes.ensures.nodes (rw c.in_ok-insert.ensures.stored at c.footprint-nodes_now.ensures.nodes) in
    omega (arith, most)

pub returns-clause-nibbles : goal.returns-clause-nibbles
returns-clause-nibbles g c =
    let most = c.edits_make_few_nibbles.ensures.insert_makes_few _ _ _ _ _ c.footprint-nodes.ensures.nibbles (rw c.in_ok-insert.ensures.stored at c.footprint-nodes_now.ensures.nibbles) in
    omega (arith, most)

pub returns-clause-more_nodes : goal.returns-clause-more_nodes
returns-clause-more_nodes g c n counted =
    let same = Counts-unique _ n _ counted c.footprint-nodes.ensures.nodes in
    let more = c.edits_make_few_nodes.ensures.insert_takes_none _ _ _ _ _ c.footprint-nodes.ensures.nodes (rw c.in_ok-insert.ensures.stored at c.footprint-nodes_now.ensures.nodes) in
    subst (Counts (IsPoint c.insert.new.self)) (omega (arith, same, more)) c.footprint-nodes_now.ensures.nodes

pub returns-clause-more_nibbles : goal.returns-clause-more_nibbles
returns-clause-more_nibbles g c n counted =
    let same = Counts-unique _ n _ counted c.footprint-nodes.ensures.nibbles in
    let more = c.edits_make_few_nibbles.ensures.insert_takes_none _ _ _ _ _ c.footprint-nodes.ensures.nibbles (rw c.in_ok-insert.ensures.stored at c.footprint-nodes_now.ensures.nibbles) in
    subst (Counts (IsSomePrefix c.insert.new.self)) (omega (arith, same, more)) c.footprint-nodes_now.ensures.nibbles
