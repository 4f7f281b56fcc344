use Rattle.std.proofs.Common.{◌++◌, [], ◌∷◌, length, sym, ap, subst, ◌∙◌, arith}
use Rattle.encoded_keys.specs.Codes.{IsLastPrefix, IsLinked}
use Rattle.encoded_keys.proofs.CodeLemmas.Appended.{all_before_more, linked_more}
use Rattle.encoded_keys.proofs.linked.push_linked.Goals as goal

pub follow_parents-link-requires-clause-before : goal.follow_parents-link-requires-clause-before
follow_parents-link-requires-clause-before c = λ k l. all_before_more c.args.codes.now c.args.list.now c.requires.rising k (omega (arith, l, c.len.ensures))

pub returns-clause-linked : goal.returns-clause-linked
returns-clause-linked c =
    let cs = c.args.codes.now in
    let q = c.args.list.now in
    let r = c.follow_parents-link.result in
    let last : IsLastPrefix cs (length cs) q r = subst (λ k. IsLastPrefix cs k q r) c.len.ensures c.follow_parents-link.ensures in
    let ups = c.push_reserved.ensures.items ∙ ap (λ us. us ++ r ∷ []) c.in_ok-reserve.ensures.items in
    subst (λ ds. IsLinked ds c.push_reserved.new.self.items) (sym c.in_ok-push.ensures.ok)
    (subst (IsLinked (cs ++ q ∷ [])) (sym ups) (linked_more cs c.args.parents.now.items q r c.requires.linked c.requires.rising last))
