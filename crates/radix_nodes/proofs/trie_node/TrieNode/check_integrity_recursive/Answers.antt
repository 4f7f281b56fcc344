use Rattle.std.proofs.Common.{◌<◌, ◌^◌, ◌↔◌, ◌∙◌, IsTrue, cond, ap, sym, subst}
use Rattle.radix_nodes.specs.Nodes.{tree_of}
use Rattle.radix_nodes.specs.Soundness.{IsSoundAt}
use Rattle.radix_nodes.proofs.EditLemmas.Merging.{if_ok_implies}
use Rattle.radix_nodes.proofs.CheckerLemmas.Nodes.{test_of_decides, pairs_at}
use Rattle.radix_nodes.proofs.trie_node.TrieNode.check_integrity_recursive.Goals as goal

pub test-requires : goal.test-requires
test-requires g c = subst (λ k. k < 2 ^ 64) (pairs_at c.args.prefix.now c.args.self.now) c.requires

pub returns-clause-sound : goal.returns-clause-sound
returns-clause-sound g c =
    let n = c.args.self.now in
    let e = g.K.TrieKey.encoding in
    if_ok_implies _ _ c.test.result c.test.ensures.sound (λ r is. subst (λ b. IsTrue b ↔ IsSoundAt e c.args.prefix.now (tree_of n)) (sym is) (test_of_decides e c.args.prefix.now n))

pub returns-clause-count : goal.returns-clause-count
returns-clause-count g c =
    let n = c.args.self.now in
    if_ok_implies _ _ c.test.result c.test.ensures.count (λ r is. is ∙ ap (λ k. cond r.0 k 0) (sym (pairs_at c.args.prefix.now n)))
