use Rattle.std.proofs.Common.{OnErr, OnOk, subst}
use Rattle.nibble_map.specs.Maps.{below}
use Rattle.radix_trie.specs.Retains.{Retains, RetainsAtLeast, RetainsBefore, ReturnsAtPair}
use Rattle.radix_trie.proofs.view.trie_edit.TrieTrieEdit.retain.Goals as goal

pub returns-clause-retained : goal.returns-clause-retained
returns-clause-retained g c =
    subst (λ p. OnOk c.retain_at.result (Retains (ReturnsAtPair g.F.Fn c.args.keep) (below c.args.self.now p) (below c.retain_at.new.self p)))
    c.new-whole.ensures c.retain_at.ensures.retained

pub returns-clause-at_least : goal.returns-clause-at_least
returns-clause-at_least g c =
    subst (λ p. RetainsAtLeast (ReturnsAtPair g.F.Fn c.args.keep) (below c.args.self.now p) (below c.retain_at.new.self p))
    c.new-whole.ensures c.retain_at.ensures.at_least

pub returns-clause-stopped : goal.returns-clause-stopped
returns-clause-stopped g c =
    subst (λ p. OnErr c.retain_at.result (RetainsBefore (ReturnsAtPair g.F.Fn c.args.keep) (below c.args.self.now p) (below c.retain_at.new.self p)))
    c.new-whole.ensures c.retain_at.ensures.stopped
