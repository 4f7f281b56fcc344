use Rattle.std.proofs.Common.{◌≡◌, ◌<◌, ◌∙◌, sym, ap, subst, take, drop, ◌-◌}
use Rattle.nibble_map.specs.Trees.{first}
use Rattle.radix_nodes.specs.Nodes.{tree_of, fragment_of}
use Rattle.radix_nodes.proofs.NodeLemmas.Nodes.{fragment-tree_of}
use Rattle.radix_nodes.proofs.EditLemmas.Insertion.{parted_firsts, branch_beside_step}
use Rattle.radix_nodes.proofs.EditLemmas.Grafts.{refitted_is_grafted}
use Rattle.radix_nodes.proofs.insertion.graft.split_beside.Goals as goal

pub lower_beside-requires-clause-apart : goal.lower_beside-requires-clause-apart
lower_beside-requires-clause-apart g c =
    parted_firsts c.args.slot.now.value c.in-Ok.tail c.args.list.now c.args.depth c.args.n c.get.result
    (c.in-Ok.ensures.1 ∙ ap (λ m. drop c.args.n (fragment_of m)) c.deref.ensures) c.get.ensures.value c.requires.apart

pub returns : goal.returns
returns g c =
    let s = c.args.slot.now.value in
    let n = c.args.n in
    let key = c.args.list.now in
    let b = c.args.branch.value in
    let tail : c.in-Ok.tail ≡ drop n (fragment_of s) = c.in-Ok.ensures.1 ∙ ap (λ m. drop n (fragment_of m)) c.deref.ensures in
    branch_beside_step (tree_of b) key c.args.depth c.get.result c.requires.depth c.get.ensures.value c.get.ensures.nibble c.requires.below c.requires.full
    (tree_of s) _ (tree_of c.refitted.result.value) (fragment_of s) (fragment_of c.in-Ok.upper.value) c.in-Ok.tail n _ (sym (fragment-tree_of s))
    (c.in-Ok.ensures.0.0 ∙ ap (λ m. take n (fragment_of m)) c.deref.ensures)
    tail
    c.requires.some c.requires.within
    (subst (λ z. first z < 16) (sym c.in-Ok.ensures.1) c.in-Ok.ensures.0.5)
    c.requires.placed
    (parted_firsts s c.in-Ok.tail key c.args.depth n c.get.result tail c.get.ensures.value c.requires.apart)
    (refitted_is_grafted b c.deref-2.result.now c.refitted.result.value c.in-Ok-joined_tail.fragment (drop c.args.depth key) c.deref-2.ensures c.in-Ok-joined_tail.ensures c.refitted.ensures)
    c.lower_beside.ensures
    (ap (λ l. l - c.args.depth) c.len.ensures)
