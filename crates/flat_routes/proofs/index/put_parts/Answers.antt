use Rattle.std.proofs.Common.{◌+◌, ◌*◌, ap, arith, ◌∙◌}
use Rattle.image_parts.proofs.ByteLemmas.{entry_kept}
use Rattle.flat_routes.proofs.index.put_parts.Goals as goal

pub returns-clause-listed : goal.returns-clause-listed
returns-clause-listed c =
    let by3 = c.put_part-3.ensures.before in
    let by2 = c.put_part-2.ensures.before in
    record {
      spans_part = entry_kept _ _ 40 _ _ _ _ (λ k l m. by3 k (omega (arith, m)) ∙ by2 k (omega (arith, m))) (record {
        kind_is = c.put_part.ensures.kind;
        detail_is = c.put_part.ensures.detail ∙ c.start_size-start.ensures.value;
        place_is = c.put_part.ensures.place;
        size_is = c.put_part.ensures.size ∙ ap (λ n. (n + 4) * c.args.spans.count) c.start_size-start.ensures.value;
      });
      cells_part = entry_kept _ _ 64 _ _ _ _ (λ k l m. by3 k (omega (arith, m))) (record {
        kind_is = c.put_part-2.ensures.kind;
        detail_is = c.put_part-2.ensures.detail;
        place_is = c.put_part-2.ensures.place;
        size_is = c.put_part-2.ensures.size;
      });
      own_part = record {
        kind_is = c.put_part-3.ensures.kind;
        detail_is = c.put_part-3.ensures.detail;
        place_is = c.put_part-3.ensures.place;
        size_is = c.put_part-3.ensures.size;
      };
    }
