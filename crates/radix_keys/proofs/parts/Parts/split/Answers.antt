use Rattle.std.proofs.Common.{◌≡◌, ◌==◌, [], ◌∷◌, ◌++◌, rules, sym, ap, subst, ◌∙◌, append_assoc}
use Rattle.std.proofs.lemmas.List.Elements.{All-head, All-rest}
use Rattle.std.specs.List.{slice_split}
use Rattle.radix_keys.specs.Parts.{IsPart, AreParts}
use Rattle.radix_keys.proofs.parts.Parts.split.Goals as goal

pub loop-part-init : goal.loop-part-init
loop-part-init c =
    let cut : c.into_iter-part-iterator.result ≡ slice_split (λ b. b == c.args.separator) c.args.text.now = search rules in
    let same : c.into_iter-part-iterator.result ≡ c.in_ok-part-items.part-items = search rules in
    record { parts = ap (λ t. t ++ c.into_iter-part-iterator.result) c.new-parts.ensures ∙ cut; left = subst AreParts (sym same) c.in_ok-part-items.ensures.parts }

pub append-requires : goal.append-requires
append-requires c = All-head IsPart c.in-Some.part.now c.next.new.self (subst AreParts c.in-Some.ensures.steps c.loop-part.invariant.left)

pub loop-part-preserved : goal.loop-part-preserved
loop-part-preserved c =
    let part = c.in-Some.part.now in
    let rest = c.next.new.self in
    let step : c.loop-part.part-iterator ≡ part ∷ rest = c.in-Some.ensures.steps in
    record {
      parts = ap (λ t. t ++ rest) c.in_ok-append.ensures.ok ∙ append_assoc c.loop-part.parts (part ∷ []) rest
          ∙ ap (λ t. c.loop-part.parts ++ t) (sym step) ∙ c.loop-part.invariant.parts;
      left = All-rest IsPart part rest c.loop-part.part-iterator step c.loop-part.invariant.left;
    }
