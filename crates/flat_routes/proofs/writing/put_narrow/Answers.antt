use Rattle.std.proofs.Common.{◌+◌, ◌∙◌, arith}
use Rattle.image_parts.proofs.ByteLemmas.{u32_kept}
use Rattle.flat_routes.proofs.writing.put_narrow.Goals as goal

pub returns-clause-row : goal.returns-clause-row
returns-clause-row c =
    let a = c.args.place in
    let by4 = c.put_u32-4.ensures.before in
    let by3 = c.put_u32-3.ensures.before in
    let first = u32_kept _ _ a (λ k l m. by4 k (omega (arith, m)) ∙ by3 k (omega (arith, m)) ∙ c.put_u32-2.ensures.before k m) ∙ c.put_u32.ensures.number in
    let bits = u32_kept _ _ (a + 4) (λ k l m. by4 k (omega (arith, m)) ∙ by3 k (omega (arith, m))) ∙ c.put_u32-2.ensures.number in
    let value = c.put_u32-4.ensures.number in
    cc (first, bits, value)

pub returns-clause-link : goal.returns-clause-link
returns-clause-link c =
    u32_kept _ _ (c.args.place + 8) (λ k l m. c.put_u32-4.ensures.before k (omega (arith, m))) ∙ c.put_u32-3.ensures.number
