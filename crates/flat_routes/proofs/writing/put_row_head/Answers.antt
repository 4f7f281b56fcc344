use Rattle.std.proofs.Common.{◌∙◌, arith}
use Rattle.image_parts.proofs.ByteLemmas.{u32_kept, u64_kept}
use Rattle.flat_routes.proofs.writing.put_row_head.Goals as goal

pub returns-clause-head : goal.returns-clause-head
returns-clause-head c =
    let by4 = c.put_part.ensures.before in
    let by3 = c.put_u32-2.ensures.before in
    let by2 = c.put_u32.ensures.before in
    record {
      marked = u64_kept _ _ 0 (λ k l m. by4 k (omega (arith, m)) ∙ by3 k (omega (arith, m)) ∙ by2 k (omega (arith, m))) ∙ c.put_u64.ensures.number ∙ c.mark_of.ensures;
      count = u32_kept _ _ 8 (λ k l m. by4 k (omega (arith, m)) ∙ by3 k (omega (arith, m))) ∙ c.put_u32.ensures.number;
      parts = u32_kept _ _ 12 (λ k l m. by4 k (omega (arith, m))) ∙ c.put_u32-2.ensures.number;
      rows = record {
        kind_is = c.put_part.ensures.kind;
        detail_is = c.put_part.ensures.detail;
        place_is = c.put_part.ensures.place;
        size_is = c.put_part.ensures.size ∙ c.size_of_rows.ensures.value;
      };
    }
