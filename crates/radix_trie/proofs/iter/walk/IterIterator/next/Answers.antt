use Rattle.std.proofs.Common.{◌≡◌, ◌<◌, [], ◌∷◌, ◌++◌, suc, vec_capacity, ap, sym, subst, ◌∙◌, arith}
use Rattle.masked_tree.specs.Tree.{front}
use Rattle.radix_nodes.specs.Nodes.{children_of, tree_of}
use Rattle.radix_nodes.specs.Pairs.{pairs_in_all}
use Rattle.radix_nodes.proofs.EditLemmas.Removal.{children_of-no_boxes}
use Rattle.radix_trie.specs.Walks.{HasRowRoom, deref_pair, first_pair, left_of, left_rows, stacked}
use Rattle.radix_nodes.specs.declared.trie_node.TrieNode.{out-TrieNode}
use Rattle.radix_nodes.proofs.NodeLemmas.Sizes.{levels_out}
use Rattle.radix_trie.proofs.WalkLemmas.Rows.{levels-some}
use Rattle.radix_trie.proofs.WalkLemmas.Back.{turns-up}
use Rattle.radix_trie.proofs.WalkLemmas.Walks.{item_progress, turns_left}
use Rattle.radix_trie.proofs.WalkLemmas.Steps.{bare-up, node-next, own-first, room-up, turn_falls, turn_fits, turn_room}
use Rattle.radix_trie.proofs.iter.walk.IterIterator.next.Given.{Over}
use Rattle.radix_trie.proofs.iter.walk.IterIterator.next.Goals as goal

-- the own pair comes first, and then what is left without it
comes_next : (g : Over) (c : goal.After-parts g)
    → c.args.self.now
    ≡ deref_pair c.parts.result ∷ stacked (c.loop-pair.self-inside.stack.items ++ record { own = c.take.new.self; row = c.loop-pair.self-inside.at.row } ∷ [])
comes_next g c =
    sym c.loop-pair.invariant.same ∙ own-first c.loop-pair.self-inside.stack.items c.loop-pair.self-inside.at c.in-Some.pair (sym c.in-Some.ensures.value)
    ∙ (λ i. sym c.parts.ensures i ∷ stacked (c.loop-pair.self-inside.stack.items ++ record { own = sym c.in-Some.ensures.after i; row = c.loop-pair.self-inside.at.row } ∷ []))

pub returns-in-Some-clause-steps : goal.returns-in-Some-clause-steps
returns-in-Some-clause-steps g c = comes_next g c

pub returns-in-Some-clause-goes : goal.returns-in-Some-clause-goes
returns-in-Some-clause-goes g c = item_progress _ _ _ _ (comes_next g c)

pub enter-self-inside-requires : goal.enter-self-inside-requires
enter-self-inside-requires g c =
    let self = c.loop-pair.self-inside in
    let others = children_of c.in-Some-split_first.others.now in
    let n = c.deref.result.now in
    let boxes = (out-TrieNode g.row.K.Denot g.row.V.Denot n).children in
    let is = ap children_of c.in-Some-split_first.ensures.cases.0 ∙ ap (λ n. front (tree_of n) others) (sym c.deref.ensures) in
    record {
      room = λ some beside.
          let tall = levels-some boxes.items (omega (arith, some, boxes.ok.0)) in
          omega (arith, turn_fits self.stack.items self.at (tree_of n) others is _ c.loop-pair.invariant.room (omega (arith, tall, levels_out n)), self.stack.ok.0);
    }

pub loop-pair-smaller-in-Some-split_first : goal.loop-pair-smaller-in-Some-split_first
loop-pair-smaller-in-Some-split_first g c =
    let others = children_of c.in-Some-split_first.others.now in
    let t = tree_of c.deref.result.now in
    let is = ap children_of c.in-Some-split_first.ensures.cases.0 ∙ ap (λ n. front (tree_of n) others) (sym c.deref.ensures) in
    let rows = c.enter-self-inside.ensures.rows in
    turn_falls c.loop-pair.self-inside.stack.items c.loop-pair.self-inside.at t others is _ rows

pub loop-pair-preserved-in-Some-split_first : goal.loop-pair-preserved-in-Some-split_first
loop-pair-preserved-in-Some-split_first g c =
    let rs = c.loop-pair.self-inside.stack.items in
    let at = c.loop-pair.self-inside.at in
    let t = tree_of c.deref.result.now in
    let others = children_of c.in-Some-split_first.others.now in
    let is = ap children_of c.in-Some-split_first.ensures.cases.0 ∙ ap (λ n. front (tree_of n) others) (sym c.deref.ensures) in
    let rows = c.enter-self-inside.ensures.rows in
    record {
      same = c.enter-self-inside.ensures.pairs
          ∙ sym (node-next rs at t others (sym c.in_default.ensures.value) is) ∙ c.loop-pair.invariant.same;
      room = turn_room rs at t others is _ rows _ _ (omega (arith, c.enter-self-inside.ensures.capacity)) c.loop-pair.invariant.room;
    }

pub loop-pair-smaller : goal.loop-pair-smaller
loop-pair-smaller g c =
    let self = c.loop-pair.self-inside in
    subst (λ rs. turns_left (left_rows rs) < turns_left (left_rows (self.stack.items ++ self.at ∷ []))) c.in_ok-self-inside.ensures.items (turns-up self.stack.items self.at)

pub loop-pair-preserved : goal.loop-pair-preserved
loop-pair-preserved g c =
    let self = c.loop-pair.self-inside in
    let none = children_of-no_boxes _ c.in_default-split_first.ensures.cases in
    let bare : left_of self.at ≡ [] = (λ i. first_pair (sym c.in_default.ensures.value i) ++ pairs_in_all (none i)) in
    record {
      same = ap stacked (sym c.in_ok-self-inside.ensures.items) ∙ sym (bare-up self.stack.items self.at bare) ∙ c.loop-pair.invariant.same;
      room = subst (λ n. HasRowRoom n 0 (left_rows (c.pop.new.self.items ++ c.in_ok-self-inside.field-0 ∷ []))) (ap suc (sym c.pop.ensures.capacity))
          (subst (λ rs. HasRowRoom (suc (vec_capacity self.stack)) 0 (left_rows rs)) c.in_ok-self-inside.ensures.items (room-up self.stack.items self.at _ c.loop-pair.invariant.room));
    }
