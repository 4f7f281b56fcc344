use Rattle.std.proofs.Common.{◌≡◌, refl, true, false, sym, ◌∙◌}
use Rattle.encoded_keys.proofs.CodeLemmas.Links.{behind_itself, behind_none}
use Rattle.encoded_keys.proofs.search.behind.Goals as goal

pub returns-then-is_found : goal.returns-then-is_found
returns-then-is_found c =
    let here = (c.cut-at.ensures.found refl).0 c.if-is_found.true in
    behind_itself c.args.codes.now c.args.list.now c.cut-at.result.0 c.requires c.cut-at.ensures.cut here.0 here.1

pub returns-else-is_found : goal.returns-else-is_found
returns-else-is_found c =
    behind_none c.args.codes.now c.args.list.now c.cut-at.result.0 c.requires c.cut-at.ensures.cut
    (λ l e. let no : true ≡ false = sym ((c.cut-at.ensures.found refl).1 (l, e)) ∙ c.if-is_found.false in cc no)
