use Rattle.std.proofs.Common.{inl, inr, subst}
use Rattle.route_tool.specs.Commands.{word_text}
use Rattle.route_tool.specs.Reasons.{IsWorded}
use Rattle.route_tool.specs.declared.command.Word.TheVariants as word
use Rattle.route_tool.proofs.reason.wrong_with_text.Goals as goal

pub returns-in_default : goal.returns-in_default
returns-in_default c = λ rest. (
  c.in_default.ensures word.Add rest,
  c.in_default.ensures word.Del rest,
  c.in_default.ensures word.Below rest,
  c.in_default.ensures word.Look rest,
  c.in_default.ensures word.Find rest,
)

pub returns-in-Add : goal.returns-in-Add
returns-in-Add c =
    let added = subst (λ w. IsWorded c.args.text.now (word_text w) c.in-Some.rest.now) c.in-Add.is c.in-Some.ensures in
    elim c.wrong_with_addition.ensures [
      | inl shown ↦ rw shown.0 (c.in-Some.rest.now, inl (added, shown.1))
      | inr none ↦ rw none.0 (c.in-Some.rest.now, added, none.1)
    ]

pub returns-in-Del : goal.returns-in-Del
returns-in-Del c =
    elim c.in-Del.is [
      | inl is ↦ (c.in-Some.rest.now, inr (inl (subst (λ w. IsWorded c.args.text.now (word_text w) c.in-Some.rest.now) is c.in-Some.ensures)))
      | inr is ↦ (c.in-Some.rest.now, inr (inr (subst (λ w. IsWorded c.args.text.now (word_text w) c.in-Some.rest.now) is c.in-Some.ensures)))
    ]

pub returns-in-Look : goal.returns-in-Look
returns-in-Look c =
    elim c.in-Look.is [
      | inl is ↦ (c.in-Some.rest.now, inl (subst (λ w. IsWorded c.args.text.now (word_text w) c.in-Some.rest.now) is c.in-Some.ensures))
      | inr is ↦ (c.in-Some.rest.now, inr (subst (λ w. IsWorded c.args.text.now (word_text w) c.in-Some.rest.now) is c.in-Some.ensures))
    ]
