use Rattle.std.proofs.Common.{[], refl, sym, subst, ◌∙◌, arith}
use Rattle.std.proofs.lemmas.Bool.{eqb-true}
use Rattle.encoded_keys.specs.Blocks.{IsLevel}
use Rattle.encoded_keys.specs.Laid.{codes_in, halves, odds}
use Rattle.encoded_keys.proofs.CodeLemmas.Making.{level_of_all, no_skip}
use Rattle.encoded_keys.proofs.CodeLemmas.Reading.{as_many_ends}
use Rattle.encoded_keys.proofs.keys.levels.forget_levels.Goals as goal

pub fill_heads-requires-clause-within : goal.fill_heads-requires-clause-within
fill_heads-requires-clause-within c =
    let ends = as_many_ends c.args.bytes.now c.args.ends.now c.requires.laid in
    omega (arith, ends, c.requires.headed.level.many)

pub returns-clause-plain : goal.returns-clause-plain
returns-clause-plain c =
    let cs = codes_in c.args.bytes.now 0 (halves c.args.ends.now) (odds c.args.ends.now) in
    let kept = c.requires.headed.level in
    level_of_all cs _ [] kept.nibbles (omega (arith, c.fill_heads.ensures.many, kept.many, kept.rest)) c.fill_heads.ensures.heads (λ k. no_skip cs _ _ _ refl)

pub returns-then-is_empty-clause-plain : goal.returns-then-is_empty-clause-plain
returns-then-is_empty-clause-plain c =
    let cs = codes_in c.args.bytes.now 0 (halves c.args.ends.now) (odds c.args.ends.now) in
    subst (λ ks. IsLevel cs 1 c.args.heads.now ks) (c.requires.headed.plain (sym c.args.levels.now.ok.0 ∙ eqb-true _ _ (sym c.is_empty.ensures ∙ c.if-is_empty.true))) c.requires.headed.level
