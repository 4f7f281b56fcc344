use Rattle.std.proofs.Common.{ap, ◌∙◌, rules, FitsSigned}
use Rattle.std.proofs.lemmas.Int.{to_z-of_z}
use Rattle.std.specs.Int.{w128, to_be_bytes, cast_unsigned}
use Rattle.std.specs.Prelude.{slice_index}
use Rattle.radix_keys.proofs.keys.wide.I128KeyInt.byte.Goals as goal

pub returns-clause-byte : goal.returns-clause-byte
returns-clause-byte c =
    let fits : FitsSigned w128 c.args.self.now = search rules in
    ap (λ xs. slice_index xs c.args.i) c.to_be_bytes.ensures
    ∙ ap (λ z. slice_index (to_be_bytes w128 (cast_unsigned w128 z)) c.args.i) (to_z-of_z w128 c.args.self.now fits)
