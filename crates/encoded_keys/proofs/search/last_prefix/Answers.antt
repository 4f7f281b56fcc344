use Rattle.std.proofs.Common.{◌≡◌, refl, true, false, sym, ◌∙◌}
use Rattle.encoded_keys.proofs.CodeLemmas.Order.{before_by_test}
use Rattle.encoded_keys.proofs.CodeLemmas.Links.{last_is_itself, last_before}
use Rattle.encoded_keys.proofs.search.last_prefix.Goals as goal

pub follow_parents-requires-clause-before : goal.follow_parents-requires-clause-before
follow_parents-requires-clause-before c = λ k l. before_by_test _ _ (c.cut-at.ensures.cut.before k l)

pub returns-then-is_found : goal.returns-then-is_found
returns-then-is_found c =
    let here = (c.cut-at.ensures.found refl).0 c.if-is_found.true in
    last_is_itself c.args.codes.now c.args.list.now c.cut-at.result.0 c.requires.rising c.cut-at.ensures.cut here.0 here.1

pub returns-else-is_found : goal.returns-else-is_found
returns-else-is_found c =
    last_before c.args.codes.now c.args.list.now c.cut-at.result.0 c.follow_parents.result c.requires.rising c.cut-at.ensures.cut
    (λ l e. let no : true ≡ false = sym ((c.cut-at.ensures.found refl).1 (l, e)) ∙ c.if-is_found.false in cc no) c.follow_parents.ensures
