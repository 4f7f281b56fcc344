use Rattle.std.proofs.Common.{◌≡◌, ◌==◌, Bool, true, false, cond, not, List, ℕ, [], ◌∷◌, ◌++◌, length, filter, rules, sym, ap, subst, ◌∙◌, append_assoc}
use Rattle.std.proofs.lemmas.List.Elements.{All-head, All-rest}
use Rattle.std.specs.List.{slice_split}
use Rattle.radix_keys.specs.Parts.{IsPart, AreParts}
use Rattle.radix_keys.proofs.parts.Parts.of_path.Goals as goal

-- whether a part isn't empty
abbrev is_full : List ℕ → Bool
is_full part = not (length part == 0)

pub loop-name-init : goal.loop-name-init
loop-name-init c =
    let cut : c.into_iter-name-iterator.result ≡ slice_split (λ b. b == c.args.separator) c.args.text.now = search rules in
    let same : c.into_iter-name-iterator.result ≡ c.in_ok-name-items.name-items = search rules in
    record { parts = ap (λ t. t ++ filter is_full (c.into_iter-name-iterator.result)) c.new-parts.ensures ∙ ap (filter is_full) cut; left = subst AreParts (sym same) c.in_ok-name-items.ensures.parts }

pub append-requires : goal.append-requires
append-requires c = All-head IsPart c.in-Some.name.now c.next.new.self (subst AreParts c.in-Some.ensures.steps c.loop-name.invariant.left)

pub loop-name-preserved-then-is_empty : goal.loop-name-preserved-then-is_empty
loop-name-preserved-then-is_empty c =
    let part = c.in-Some.name.now in
    let rest = c.next.new.self in
    let step : c.loop-name.name-iterator ≡ part ∷ rest = c.in-Some.ensures.steps in
    let empty : is_full part ≡ false = ap not (sym c.is_empty.ensures ∙ c.if-is_empty.true) in
    record {
      parts = ap (λ t. c.loop-name.parts ++ t) (sym (ap (filter is_full) step ∙ ap (λ b. cond b (part ∷ filter is_full rest) (filter is_full rest)) empty))
          ∙ c.loop-name.invariant.parts;
      left = All-rest IsPart part rest c.loop-name.name-iterator step c.loop-name.invariant.left;
    }

pub loop-name-preserved : goal.loop-name-preserved
loop-name-preserved c =
    let part = c.in-Some.name.now in
    let rest = c.next.new.self in
    let step : c.loop-name.name-iterator ≡ part ∷ rest = c.in-Some.ensures.steps in
    let full : is_full part ≡ true = ap not (sym c.is_empty.ensures ∙ c.if-is_empty.false) in
    record {
      parts = ap (λ t. t ++ filter is_full rest) c.in_ok-append.ensures.ok ∙ append_assoc c.loop-name.parts (part ∷ []) (filter is_full rest)
          ∙ ap (λ t. c.loop-name.parts ++ t) (sym (ap (filter is_full) step ∙ ap (λ b. cond b (part ∷ filter is_full rest) (filter is_full rest)) full))
          ∙ c.loop-name.invariant.parts;
      left = All-rest IsPart part rest c.loop-name.name-iterator step c.loop-name.invariant.left;
    }
