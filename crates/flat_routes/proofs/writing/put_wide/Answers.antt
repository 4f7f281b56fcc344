use Rattle.std.proofs.Common.{◌≡◌, ◌+◌, ◌∙◌, arith}
use Rattle.image_parts.specs.Parts.{u128_in}
use Rattle.image_parts.proofs.ByteLemmas.{u32_kept, u64_kept}
use Rattle.flat_routes.proofs.writing.put_wide.Goals as goal

pub returns-clause-row : goal.returns-clause-row
returns-clause-row c =
    let a = c.args.place in
    let by5 = c.put_u64-3.ensures.before in
    let by4 = c.put_u32-2.ensures.before in
    let by3 = c.put_u32.ensures.before in
    let low = u64_kept _ _ a (λ k l m. by5 k (omega (arith, m)) ∙ by4 k (omega (arith, m)) ∙ by3 k (omega (arith, m)) ∙ c.put_u64-2.ensures.before k m) ∙ c.put_u64.ensures.number in
    let high = u64_kept _ _ (a + 8) (λ k l m. by5 k (omega (arith, m)) ∙ by4 k (omega (arith, m)) ∙ by3 k (omega (arith, m))) ∙ c.put_u64-2.ensures.number in
    let bits = u32_kept _ _ (a + 16) (λ k l m. by5 k (omega (arith, m)) ∙ by4 k (omega (arith, m))) ∙ c.put_u32.ensures.number in
    let value = c.put_u64-3.ensures.number in
    let first : u128_in c.put_u64-3.new.out a ≡ c.args.first = omega (arith, low, high) in
    cc (first, bits, value)

pub returns-clause-link : goal.returns-clause-link
returns-clause-link c =
    u32_kept _ _ (c.args.place + 20) (λ k l m. c.put_u64-3.ensures.before k (omega (arith, m))) ∙ c.put_u32-2.ensures.number
