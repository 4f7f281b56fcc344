use Rattle.std.proofs.Common.{◌≡◌, ◌<◌, [], ◌∷◌, ◌++◌, drop, length, slice_get, ap, sym, subst, ◌∙◌, arith}
use Rattle.masked_tree.specs.Sizes.{levels}
use Rattle.masked_tree.specs.Tree.{front}
use Rattle.radix_nodes.specs.declared.trie_node.TrieNode.{out-TrieNode}
use Rattle.radix_nodes.specs.Nodes.{children_of, tree_of}
use Rattle.radix_nodes.specs.Pairs.{pairs_in, pairs_in_all}
use Rattle.radix_nodes.proofs.EditLemmas.Removal.{children_of-no_boxes}
use Rattle.radix_trie.specs.Walks.{HasFullRows, deref_pair, first_pair, left_of, left_rows, rows_at, stacked}
use Rattle.radix_trie.proofs.WalkLemmas.Back.{full-popped, turns-up, two_stacked}
use Rattle.radix_nodes.proofs.NodeLemmas.Sizes.{levels_out}
use Rattle.radix_trie.proofs.WalkLemmas.Rows.{levels-some}
use Rattle.radix_trie.proofs.WalkLemmas.Walks.{turns_left}
use Rattle.radix_trie.proofs.WalkLemmas.Steps.{bare-up, node-next, own-first, turn_falls, turn_full}
use Rattle.radix_trie.proofs.iter.cursor.Cursor.next.Given.{Over}
use Rattle.radix_trie.proofs.iter.cursor.Cursor.next.Goals as goal

-- the own pair comes first, and then what is left without it
comes_next : (g : Over) (c : goal.After-parts g)
    → c.args.self.now
    ≡ deref_pair c.parts.result ∷ stacked (c.loop-pair.self-inside.stack.items ++ record { own = c.take.new.self; row = c.loop-pair.self-inside.at.row } ∷ [])
comes_next g c =
    sym c.loop-pair.invariant.same ∙ own-first c.loop-pair.self-inside.stack.items c.loop-pair.self-inside.at c.in-Some.pair (sym c.in-Some.ensures.value)
    ∙ (λ i. sym c.parts.ensures i ∷ stacked (c.loop-pair.self-inside.stack.items ++ record { own = sym c.in-Some.ensures.after i; row = c.loop-pair.self-inside.at.row } ∷ []))

pub returns-in-Some-clause-pair : goal.returns-in-Some-clause-pair
returns-in-Some-clause-pair g c = sym (ap (λ s. slice_get s 0) (comes_next g c))

pub returns-in-Some-clause-rest : goal.returns-in-Some-clause-rest
returns-in-Some-clause-rest g c = sym (ap (λ s. drop 1 s) (comes_next g c))

pub returns-in_err-make_room-clause-end : goal.returns-in_err-make_room-clause-end
returns-in_err-make_room-clause-end g c = λ few.
    let self = c.loop-pair.self-inside in
    let others = children_of c.in-Some-split_first.others.now in
    let node = c.deref.result.now in
    let is = ap children_of c.in-Some-split_first.ensures.cases.0 ∙ ap (λ n. front (tree_of n) others) (sym c.deref.ensures) in
    let out = out-TrieNode g.row.K.Denot g.row.V.Denot node in
    let child : 0 < length out.children.items = omega (arith, c.in_err-make_room.ensures.parent, out.children.ok.0) in
    let some : 0 < levels (tree_of node).children = omega (arith, levels-some _ child, levels_out node) in
    absurd (omega (arith, few, ap length c.loop-pair.invariant.same, two_stacked self.stack.items self.at (tree_of node) others is some c.loop-pair.invariant.full))

pub loop-pair-smaller-in-Some-split_first : goal.loop-pair-smaller-in-Some-split_first
loop-pair-smaller-in-Some-split_first g c =
    let others = children_of c.in-Some-split_first.others.now in
    let t = tree_of c.deref-in-Some-split_first.result.now in
    let is = ap children_of c.in-Some-split_first.ensures.cases.0 ∙ ap (λ n. front (tree_of n) others) (sym c.deref-in-Some-split_first.ensures) in
    let rows = c.enter-self-inside.ensures.rows ∙ ap (λ rs. rows_at (left_rows rs) t.children others) c.make_room.ensures.same in
    turn_falls c.loop-pair.self-inside.stack.items c.loop-pair.self-inside.at t others is _ rows

pub loop-pair-preserved-in-Some-split_first : goal.loop-pair-preserved-in-Some-split_first
loop-pair-preserved-in-Some-split_first g c =
    let rs = c.loop-pair.self-inside.stack.items in
    let at = c.loop-pair.self-inside.at in
    let t = tree_of c.deref-in-Some-split_first.result.now in
    let others = children_of c.in-Some-split_first.others.now in
    let is = ap children_of c.in-Some-split_first.ensures.cases.0 ∙ ap (λ n. front (tree_of n) others) (sym c.deref-in-Some-split_first.ensures) in
    let rows = c.enter-self-inside.ensures.rows ∙ ap (λ qs. rows_at (left_rows qs) t.children others) c.make_room.ensures.same in
    record {
      same = c.enter-self-inside.ensures.pairs ∙ ap (λ qs. pairs_in t ++ (pairs_in_all others ++ stacked qs)) c.make_room.ensures.same
          ∙ sym (node-next rs at t others (sym c.in_default.ensures.value) is) ∙ c.loop-pair.invariant.same;
      full = turn_full rs at t others is _ rows c.loop-pair.invariant.full;
    }

pub loop-pair-smaller : goal.loop-pair-smaller
loop-pair-smaller g c =
    let self = c.loop-pair.self-inside in
    subst (λ rs. turns_left (left_rows rs) < turns_left (left_rows (self.stack.items ++ self.at ∷ []))) c.in-Some-pop.ensures.items (turns-up self.stack.items self.at)

pub loop-pair-preserved : goal.loop-pair-preserved
loop-pair-preserved g c =
    let self = c.loop-pair.self-inside in
    let none = children_of-no_boxes _ c.in_default-split_first.ensures.cases in
    let bare : left_of self.at ≡ [] = (λ i. first_pair (sym c.in_default.ensures.value i) ++ pairs_in_all (none i)) in
    record {
      same = ap stacked (sym c.in-Some-pop.ensures.items) ∙ sym (bare-up self.stack.items self.at bare) ∙ c.loop-pair.invariant.same;
      full = subst (λ rs. HasFullRows (left_rows rs)) c.in-Some-pop.ensures.items (full-popped self.stack.items self.at c.loop-pair.invariant.full).0;
    }
