use Rattle.std.proofs.Common.{arith, ◌∙◌}
use Rattle.std.proofs.lemmas.Nat.{shr_split}
use Rattle.image_parts.proofs.ByteLemmas.{u64_kept}
use Rattle.flat_routes.proofs.IndexLemmas.{full_start}
use Rattle.flat_routes.proofs.index.put_start.Goals as goal

pub returns-else-is_half-clause-start : goal.returns-else-is_half-clause-start
returns-else-is_half-clause-start c =
    let low = u64_kept _ _ c.args.place (λ k l m. c.put_u64-else-is_half-2.ensures.before k m) ∙ c.put_u64-else-is_half.ensures.number in
    let high = c.put_u64-else-is_half-2.ensures.number in
    let split = shr_split c.args.start 64 in
    full_start c.args.wide c.args.is_half c.put_u64-else-is_half-2.new.out c.args.place c.if-wide.true c.if-is_half.false ∙ omega (arith, low, high, split)
