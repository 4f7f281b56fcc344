use Rattle.std.proofs.Common.{sym, subst}
use Rattle.nibble_map.specs.Maps.{IsPoint}
use Rattle.radix_trie.proofs.view.subtrie.SubTrie.subtrie.Goals as goal

pub returns-in-Some-clause-point : goal.returns-in-Some-clause-point
returns-in-Some-clause-point g c = subst (IsPoint c.args.self.now.map) c.in_ok-path.ensures.list (subst (λ v. IsPoint v.map c.in_ok-path.path) c.self.view_is c.in-Some.ensures.point)

pub returns-clause-point : goal.returns-clause-point
returns-clause-point g c = λ p. c.in-None.ensures.point (subst (λ v. IsPoint v.map c.in_ok-path.path) (sym c.self.view_is) (subst (IsPoint c.args.self.now.map) (sym c.in_ok-path.ensures.list) p))
