use Rattle.std.proofs.Common.{sym, subst}
use Rattle.nibble_map.specs.Maps.{IsPoint}
use Rattle.radix_trie.proofs.trie.Trie.locus_of.Goals as goal

pub returns-in_default-clause-point : goal.returns-in_default-clause-point
returns-in_default-clause-point g c = λ p. c.in_default.ensures.point (subst (IsPoint c.args.self.now) (sym c.in_ok-path.ensures.ok) p)

pub returns-clause-point : goal.returns-clause-point
returns-clause-point g c = subst (IsPoint c.args.self.now) c.in_ok-path.ensures.ok c.in-Some.ensures.point

pub returns-clause-fragment : goal.returns-clause-fragment
returns-clause-fragment g c =
    rw (c.in_ok-fragment.ensures.ok, ← c.in_ok-path.ensures.ok) c.in-Some.ensures.fragment
