use Rattle.std.proofs.Common.{◌∙◌, ◌+◌, arith}
use Rattle.image_parts.proofs.ByteLemmas.{u32_kept, u64_kept}
use Rattle.image_parts.proofs.parts.put_part.Goals as goal

pub returns-clause-kind : goal.returns-clause-kind
returns-clause-kind c =
    u32_kept _ _ c.args.entry (λ k l m. c.put_u64-2.ensures.before k (omega (arith, m)) ∙ c.put_u64.ensures.before k (omega (arith, m))
    ∙ c.put_u32-2.ensures.before k m) ∙ c.put_u32.ensures.number

pub returns-clause-detail : goal.returns-clause-detail
returns-clause-detail c =
    u32_kept _ _ (c.args.entry + 4) (λ k l m. c.put_u64-2.ensures.before k (omega (arith, m)) ∙ c.put_u64.ensures.before k (omega (arith, m)))
    ∙ c.put_u32-2.ensures.number

pub returns-clause-place : goal.returns-clause-place
returns-clause-place c =
    u64_kept _ _ (c.args.entry + 8) (λ k l m. c.put_u64-2.ensures.before k (omega (arith, m))) ∙ c.put_u64.ensures.number
