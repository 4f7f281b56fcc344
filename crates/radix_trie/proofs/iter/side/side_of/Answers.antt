use Rattle.std.proofs.Common.{◌+◌, ◌<◌, arith, drop, length, ◌∙◌}
use Rattle.std.proofs.lemmas.List.{get_or-drop, length-drop}
use Rattle.radix_nodes.proofs.EditLemmas.KeyParts.{append-agreed_fragment}
use Rattle.radix_trie.proofs.WalkLemmas.Order.{after_ended, after_parted, before_parted}
use Rattle.radix_trie.proofs.iter.side.side_of.Goals as goal

pub returns-then-same-len : goal.returns-then-same-len
returns-then-same-len c =
    let whole = c.if-same-len.true ∙ c.len.ensures in (
      omega (arith, whole),
      c.compare-same.ensures.inside,
      append-agreed_fragment c.args.fragment.now c.args.list.now c.args.depth c.compare-same.result.same whole c.compare-same.ensures.same,
    )

pub returns-then-end-len : goal.returns-then-end-len
returns-then-end-len c =
    λ y.
    after_ended c.args.fragment.now (drop c.args.depth c.args.list.now) c.compare-same.result.same y c.compare-same.ensures.same
    (omega (arith, c.compare-same.ensures.within, c.if-same-len.false, c.len.ensures))
    (omega (arith, length-drop c.args.depth c.args.list.now, c.if-end-len.true, c.len-2.ensures))

pub returns-then-get : goal.returns-then-get
returns-then-get c =
    λ y.
    before_parted c.args.fragment.now (drop c.args.depth c.args.list.now) c.compare-same.result.same y c.compare-same.ensures.same
    (omega (arith, c.compare-same.ensures.within, c.if-same-len.false, c.len.ensures))
    (omega (arith, length-drop c.args.depth c.args.list.now, c.compare-same.ensures.inside, c.if-end-len.false, c.len-2.ensures))
    (omega (arith, c.if-get.true, c.get.ensures.value, c.get-2.ensures.value, get_or-drop c.args.depth c.args.list.now c.compare-same.result.same 0))

pub returns-else-get : goal.returns-else-get
returns-else-get c =
    let lt : c.compare-same.result.same < length c.args.fragment.now = omega (arith, c.compare-same.ensures.within, c.if-same-len.false, c.len.ensures) in
    let in_list : c.args.depth + c.compare-same.result.same < length c.args.list.now = omega (arith, c.compare-same.ensures.inside, c.if-end-len.false, c.len-2.ensures) in
    λ y.
    after_parted c.args.fragment.now (drop c.args.depth c.args.list.now) c.compare-same.result.same y c.compare-same.ensures.same lt
    (omega (arith, length-drop c.args.depth c.args.list.now, in_list))
    (omega (arith, c.compare-same.ensures.apart lt in_list, c.if-get.false, c.get.ensures.value, c.get-2.ensures.value, get_or-drop c.args.depth c.args.list.now c.compare-same.result.same 0))
