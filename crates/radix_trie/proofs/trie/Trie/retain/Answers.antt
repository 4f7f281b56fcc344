use Rattle.std.proofs.Common.{◌∙◌, [], OnErr, OnOk, ap, subst}
use Rattle.std.specs.FinMap as map
use Rattle.nibble_map.specs.Maps.{below}
use Rattle.radix_trie.specs.Retains.{Retains, RetainsAtLeast, RetainsBefore, ReturnsAtPair}
use Rattle.radix_trie.proofs.PathLemmas.Loci.{below-nil}
use Rattle.radix_trie.proofs.trie.Trie.retain.Goals as goal

pub returns-clause-retained : goal.returns-clause-retained
returns-clause-retained g c =
    let old = c.args.self.now in
    let new = c.retain_at.new.self in
    let R = Retains (ReturnsAtPair g.F.Fn c.args.keep) in
    subst (λ m. OnOk c.retain_at.result (R m new)) (below-nil old)
    (subst (λ n. OnOk c.retain_at.result (R (below old []) n)) (below-nil new)
    (subst (λ p. OnOk c.retain_at.result (R (below old p) (below new p))) c.new-whole.ensures c.retain_at.ensures.retained))

pub returns-clause-at_least : goal.returns-clause-at_least
returns-clause-at_least g c =
    let old = c.args.self.now in
    let new = c.retain_at.new.self in
    let R = RetainsAtLeast (ReturnsAtPair g.F.Fn c.args.keep) in
    subst (λ m. R m new) (below-nil old)
    (subst (λ n. R (below old []) n) (below-nil new)
    (subst (λ p. R (below old p) (below new p)) c.new-whole.ensures c.retain_at.ensures.at_least))

pub returns-clause-stopped : goal.returns-clause-stopped
returns-clause-stopped g c =
    let old = c.args.self.now in
    let new = c.retain_at.new.self in
    let R = RetainsBefore (ReturnsAtPair g.F.Fn c.args.keep) in
    subst (λ m. OnErr c.retain_at.result (R m new)) (below-nil old)
    (subst (λ n. OnErr c.retain_at.result (R (below old []) n)) (below-nil new)
    (subst (λ p. OnErr c.retain_at.result (R (below old p) (below new p))) c.new-whole.ensures c.retain_at.ensures.stopped))

pub returns-clause-none : goal.returns-clause-none
returns-clause-none g c = λ e. c.retain_at.ensures.none (ap map.len (ap (below c.args.self.now) c.new-whole.ensures ∙ below-nil c.args.self.now) ∙ e)
