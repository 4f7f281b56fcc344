use Rattle.std.proofs.Common.{OnErr, OnOk, refl, subst}
use Rattle.nibble_map.specs.Maps.{below}
use Rattle.radix_trie.specs.Retains.{Retains, RetainsAtLeast, RetainsBefore, ReturnsAtPair}
use Rattle.radix_trie.proofs.ChangeLemmas.Retained.{on_err_always, retains_before_nil}
use Rattle.radix_trie.proofs.trie.Trie.retain_below.Goals as goal

pub returns-clause-retained : goal.returns-clause-retained
returns-clause-retained g c =
    subst (λ p. OnOk c.retain_at.result (Retains (ReturnsAtPair g.F.Fn c.args.keep) (below c.args.self.now p) (below c.retain_at.new.self p)))
    c.in_ok-list.ensures.ok c.retain_at.ensures.retained

pub returns-clause-at_least : goal.returns-clause-at_least
returns-clause-at_least g c =
    subst (λ p. RetainsAtLeast (ReturnsAtPair g.F.Fn c.args.keep) (below c.args.self.now p) (below c.retain_at.new.self p))
    c.in_ok-list.ensures.ok c.retain_at.ensures.at_least

pub returns-in_err-list-clause-stopped : goal.returns-in_err-list-clause-stopped
returns-in_err-list-clause-stopped g c = on_err_always c.from_residual.result _ (retains_before_nil (ReturnsAtPair g.F.Fn c.args.keep) _ _ refl)

pub returns-clause-stopped : goal.returns-clause-stopped
returns-clause-stopped g c =
    subst (λ p. OnErr c.retain_at.result (RetainsBefore (ReturnsAtPair g.F.Fn c.args.keep) (below c.args.self.now p) (below c.retain_at.new.self p)))
    c.in_ok-list.ensures.ok c.retain_at.ensures.stopped
