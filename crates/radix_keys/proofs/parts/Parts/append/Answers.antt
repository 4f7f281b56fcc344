use Rattle.std.proofs.Common.{◌≡◌, ◌++◌, [], ◌∷◌, rules}
use Rattle.radix_keys.proofs.PartLemmas.{one_more}
use Rattle.radix_keys.proofs.parts.Parts.append.Goals as goal

pub invariant_of-self-else-is_err : goal.invariant_of-self-else-is_err
invariant_of-self-else-is_err c =
    let new : c.push.new.self.items ≡ (c.self.inside.bytes.items ++ c.args.part.now) ++ 0 ∷ [] = search rules in
    (one_more c.self.inside.bytes.items c.args.part.now c.push.new.self.items c.self.invariant c.requires new).1

pub returns-clause-ok : goal.returns-clause-ok
returns-clause-ok c =
    let new : c.push.new.self.items ≡ (c.self.inside.bytes.items ++ c.args.part.now) ++ 0 ∷ [] = search rules in
    rw (← c.self.view_is) (one_more c.self.inside.bytes.items c.args.part.now c.push.new.self.items c.self.invariant c.requires new).0
