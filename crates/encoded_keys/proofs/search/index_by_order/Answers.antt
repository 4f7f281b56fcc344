use Rattle.std.proofs.Common.{◌≡◌, ◌<◌, length, refl, true, false, subst, sym, ◌∙◌}
use Rattle.encoded_keys.specs.Codes.{code_at}
use Rattle.encoded_keys.proofs.CodeLemmas.Links.{equal_stands_at}
use Rattle.encoded_keys.proofs.search.index_by_order.Goals as goal

pub returns-else-is_found : goal.returns-else-is_found
returns-else-is_found c = λ k l e.
    let at = equal_stands_at c.args.codes.now c.args.list.now c.cut-at.result.0 c.requires c.cut-at.ensures.cut k l e in
    let yes = (c.cut-at.ensures.found refl).1 (subst (λ i. i < length c.args.codes.now) at l, subst (λ i. code_at c.args.codes.now i ≡ c.args.list.now) at e) in
    let no : true ≡ false = sym yes ∙ c.if-is_found.false in
    cc no
