use Rattle.std.proofs.Common.{subst}
use Rattle.radix_trie.specs.Limits.{AreLimits}
use Rattle.radix_trie.specs.Walks.{bound_now}
use Rattle.radix_trie.proofs.view.trie_common.frames_in.Goals as goal

pub frames-requires : goal.frames-requires
frames-requires g c =
    let low = bound_now c.as_ref.result in
    let high = bound_now c.as_ref-2.result in
    (g.T.Locate.map c.args.at, g.T.Locate.path c.args.at, low, high, c.locus.ensures, subst (λ p. AreLimits p low high c.of-limits.result) c.path.ensures c.of-limits.ensures)
