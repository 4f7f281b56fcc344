use Rattle.std.proofs.Common.{◌≡◌, ◌==◌, [], ◌∷◌, ◌++◌, length, drop, take, reverse, rules, sym, ap, subst, ◌∙◌, append_assoc}
use Rattle.std.proofs.Math.Seq.{drop-append_seam, take-append_seam}
use Rattle.std.proofs.lemmas.List.{reverse-append}
use Rattle.std.proofs.lemmas.List.Elements.{All-head, All-drop, All-take}
use Rattle.std.specs.Iterator.Adapters.{rev_source}
use Rattle.std.specs.List.{slice_split}
use Rattle.radix_keys.specs.Parts.{IsPart, AreParts}
use Rattle.radix_keys.proofs.parts.Parts.reversed.Goals as goal

pub loop-label-init : goal.loop-label-init
loop-label-init c =
    let cut : rev_source c.into_iter-label-iterator.result ≡ slice_split (λ b. b == c.args.separator) c.args.text.now = search rules in
    let same : rev_source c.into_iter-label-iterator.result ≡ c.in_ok-of_text.field-0 = search rules in
    record { parts = ap (λ t. t ++ reverse (rev_source c.into_iter-label-iterator.result)) c.new-parts.ensures ∙ ap reverse cut; left = subst AreParts (sym same) c.in_ok-of_text.ensures.parts }

pub append-requires : goal.append-requires
append-requires c =
    let part = c.in-Some.label.now in
    let rest = rev_source c.next.new.self in
    let step : rev_source c.loop-label.label-iterator ≡ rest ++ part ∷ [] = c.in-Some.ensures.steps in
    All-head IsPart part []
    (subst AreParts (ap (drop (length rest)) step ∙ drop-append_seam rest (part ∷ []))
    (All-drop IsPart (length rest) (rev_source c.loop-label.label-iterator) c.loop-label.invariant.left))

pub loop-label-preserved : goal.loop-label-preserved
loop-label-preserved c =
    let part = c.in-Some.label.now in
    let rest = rev_source c.next.new.self in
    let step : rev_source c.loop-label.label-iterator ≡ rest ++ part ∷ [] = c.in-Some.ensures.steps in
    record {
      parts = ap (λ t. t ++ reverse rest) c.in_ok-append.ensures.ok ∙ append_assoc c.loop-label.parts (part ∷ []) (reverse rest)
          ∙ ap (λ t. c.loop-label.parts ++ t) (sym (ap reverse step ∙ reverse-append rest (part ∷ [])))
          ∙ c.loop-label.invariant.parts;
      left = subst AreParts (ap (take (length rest)) step ∙ take-append_seam rest (part ∷ []))
          (All-take IsPart (length rest) (rev_source c.loop-label.label-iterator) c.loop-label.invariant.left);
    }
