use Rattle.std.proofs.Common.{◌≡◌, ◌+◌, ◌-◌, ◌==◌, [], ◌∷◌, length, take, drop, rules, arith, sym, ap, ◌∙◌}
use Rattle.std.proofs.lemmas.List.{take_rest}
use Rattle.std.specs.List.{slice_split}
use Rattle.radix_keys.specs.Parts.{parts_left}
use Rattle.radix_keys.specs.PartBytes.{uncut}
use Rattle.radix_keys.proofs.PartLemmas.{cut_first}
use Rattle.radix_keys.proofs.parts.iter.PartsIterIterator.next.Goals.{In-Some, In-None}
use Rattle.radix_keys.proofs.parts.iter.PartsIterIterator.next.Goals as goal

-- the first part ends at the first separator
at_separator : (c : In-Some) → c.args.self.now ≡ take c.in-Some.end c.in_ok-rest.rest.now
    ∷ slice_split (λ b. b == c.self.inside.separator) (take (length c.in_ok-rest.rest.now - (c.in-Some.end + 1)) (drop (c.in-Some.end + 1) c.in_ok-rest.rest.now))
at_separator c =
    let s = c.self.inside.separator in
    let rest = c.in_ok-rest.rest.now in
    let at = c.in-Some.end in
    sym c.self.view_is ∙ ap (parts_left s) c.in_ok-rest.was
    ∙ cut_first s rest at (search rules) (search rules) (search rules)
    ∙ ap (λ t. take at rest ∷ slice_split (λ b. b == s) t) (sym (take_rest rest (at + 1)))

-- without a separator all that is left is one part
at_end : (c : In-None) → c.args.self.now ≡ c.in_ok-rest.rest.now ∷ []
at_end c =
    sym c.self.view_is ∙ ap (parts_left c.self.inside.separator) c.in_ok-rest.was ∙ uncut c.self.inside.separator c.in_ok-rest.rest.now (search rules)

pub returns-in-Some-clause-steps : goal.returns-in-Some-clause-steps
returns-in-Some-clause-steps c = at_separator (goal.at.returns-in-Some-clause-steps c).In-Some

pub returns-in-Some-clause-goes : goal.returns-in-Some-clause-goes
returns-in-Some-clause-goes c =
    record { on = λ _. (tt, tt, omega (arith, ap length (at_separator (goal.at.returns-in-Some-clause-goes c).In-Some))); keeps = tt; rests = λ _. tt }

pub returns-in-None-clause-steps : goal.returns-in-None-clause-steps
returns-in-None-clause-steps c = at_end (goal.at.returns-in-None-clause-steps c).In-None

pub returns-in-None-clause-goes : goal.returns-in-None-clause-goes
returns-in-None-clause-goes c =
    record { on = λ _. (tt, tt, omega (arith, ap length (at_end (goal.at.returns-in-None-clause-goes c).In-None))); keeps = tt; rests = λ _. tt }
