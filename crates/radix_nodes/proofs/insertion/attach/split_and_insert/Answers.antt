use Rattle.std.proofs.Common.{◌≡◌, ◌<◌, ◌∙◌, length, refl, sym, ap, subst, take, drop, arith, ◌-◌, Some}
use Rattle.std.proofs.Math.Seq.{drop-length}
use Rattle.nibble_map.specs.Trees.{first}
use Rattle.masked_tree.specs.Edits.{with_pair}
use Rattle.radix_nodes.specs.Nodes.{tree_of, fragment_of}
use Rattle.radix_nodes.proofs.NodeLemmas.Nodes.{tree_of-written_pair, fragment-tree_of}
use Rattle.radix_nodes.proofs.NodeLemmas.Options.{match_implies}
use Rattle.radix_nodes.proofs.EditLemmas.Insertion.{here_step, beside_step, parted_free, parted_firsts}
use Rattle.radix_nodes.proofs.EditLemmas.Settling.{settles_back}
use Rattle.radix_nodes.proofs.insertion.attach.split_and_insert.Goals as goal

pub returns-in_ok-b : goal.returns-in_ok-b
returns-in_ok-b g c =
    let s = c.args.slot.now.value in
    let n = c.args.n in
    let key = c.args.list.now in
    let m = c.deref_mut.result.now in
    let x = c.in_ok-b.b.value in
    let whole : c.args.depth ≡ length key = c.if-depth-len.true ∙ c.len-2.ensures in
    let no_more : c.len.result - c.args.depth ≡ 0 = omega (arith, whole, c.len.ensures) in
    rw c.in_ok-b.ensures.made
    (here_step (tree_of s) _ (fragment_of s) (fragment_of c.in_ok-upper.upper.value) c.in_ok-upper.tail (drop c.args.depth key) n _ x _
    (sym (fragment-tree_of s))
    (c.in_ok-upper.ensures.0.0 ∙ ap (λ m. take n (fragment_of m)) c.deref.ensures)
    (c.in_ok-upper.ensures.1 ∙ ap (λ m. drop n (fragment_of m)) c.deref.ensures)
    c.requires.some c.requires.within
    (subst (λ z. first z < 16) (sym c.in_ok-upper.ensures.1) c.in_ok-upper.ensures.0.5)
    c.requires.placed
    (ap (λ d. drop d key) whole ∙ drop-length key)
    (tree_of-written_pair m (Some c.in_ok-b.b) ∙ ap (with_pair x) (ap (λ n. tree_of n) c.deref_mut.ensures.value ∙ c.lower.ensures.tree))
    c.in_ok-b.ensures.taken no_more)

pub lower_beside-requires-clause-apart : goal.lower_beside-requires-clause-apart
lower_beside-requires-clause-apart g c = parted_firsts c.args.slot.now.value c.in_ok-upper.tail c.args.list.now c.args.depth c.args.n c.get.result
    (c.in_ok-upper.ensures.1 ∙ ap (λ m. drop c.args.n (fragment_of m)) c.deref.ensures) c.get.ensures.value
    (c.requires.apart (omega (arith, c.requires.depth, c.if-depth-len.false, c.len-2.ensures)))

pub returns-in_ok-leaf : goal.returns-in_ok-leaf
returns-in_ok-leaf g c =
    let s = c.args.slot.now.value in
    let n = c.args.n in
    let key = c.args.list.now in
    let lt : c.args.depth < length key = omega (arith, c.requires.depth, c.if-depth-len.false, c.len-2.ensures) in
    let tail : c.in_ok-upper.tail ≡ drop n (fragment_of s) = c.in_ok-upper.ensures.1 ∙ ap (λ m. drop n (fragment_of m)) c.deref.ensures in
    match_implies c.args.change.now.was (λ z. z)
    (λ x made. beside_step (tree_of s) _ _ (fragment_of s) (fragment_of c.in_ok-upper.upper.value) c.in_ok-upper.tail key n c.args.depth c.get.result _ x _
    (sym (fragment-tree_of s))
    (c.in_ok-upper.ensures.0.0 ∙ ap (λ m. take n (fragment_of m)) c.deref.ensures)
    tail
    c.requires.some c.requires.within
    (subst (λ z. first z < 16) (sym c.in_ok-upper.ensures.1) c.in_ok-upper.ensures.0.5)
    c.requires.placed
    lt
    c.get.ensures.value c.get.ensures.nibble
    (parted_firsts s c.in_ok-upper.tail key c.args.depth n c.get.result tail c.get.ensures.value (c.requires.apart lt))
    made
    c.lower_beside.ensures c.in_ok-leaf.ensures.taken
    (ap (λ l. l - c.args.depth) c.len.ensures))
    c.in_ok-leaf.ensures.made

pub returns-in_err-upper : goal.returns-in_err-upper
returns-in_err-upper g c =
    settles_back _ _ c.args.change.now _ c.from_residual.ensures.0 c.requires.given refl
    (λ x. (refl, refl, parted_free c.args.slot.now.value c.args.list.now c.args.depth c.args.n c.requires.within c.requires.apart))

pub returns-in_err-b : goal.returns-in_err-b
returns-in_err-b g c =
    settles_back _ _ c.args.change.now _ c.from_residual-in_err-b.ensures.0 c.requires.given c.in_err-b.ensures.back
    (λ x. (refl, refl, parted_free c.args.slot.now.value c.args.list.now c.args.depth c.args.n c.requires.within c.requires.apart))

pub returns-in_err-leaf : goal.returns-in_err-leaf
returns-in_err-leaf g c =
    settles_back _ _ c.args.change.now _ c.from_residual-in_err-leaf.ensures.0 c.requires.given c.in_err-leaf.ensures.back
    (λ x. (refl, refl, parted_free c.args.slot.now.value c.args.list.now c.args.depth c.args.n c.requires.within c.requires.apart))
