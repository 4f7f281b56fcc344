use Rattle.std.proofs.Common.{◌≡◌, ℕ, ◌+◌, ◌*◌, ◌%◌, ◌^◌, ◌<◌, ◌≤◌, true, get_or}
use Rattle.frozen_routes.specs.Routes.{IsLastHolder}
use Rattle.flat_routes.specs.Images.{answer_of, bases, sizes, begin_of, start_size, width}
use Rattle.flat_routes.specs.Written.{ChangesWithin}
use Rattle.flat_routes.proofs.IndexLemmas.{ArePut, spans_at}
use Rattle.flat_routes.proofs.SpanLemmas.{edges}
use Rattle.flat_routes.proofs.index.put_spans.Given as goal

abbrev pub invariant-loop-span : goal.invariant-loop-span
invariant-loop-span l =
    let spans = spans_at l.at l.is_half in
    let w = width l.wide in
    let fs = bases l.wide l.fn.out in
    let bs = sizes l.wide l.fn.out in
    record {
      change : ChangesWithin l.at (l.at + (start_size l.wide l.is_half + 4) * l.span + start_size l.wide l.is_half) l.fn.out l.out;
      start : begin_of l.wide spans l.out l.span ≡ l.start;
      put : ArePut w fs bs (begin_of l.wide spans l.out) (answer_of l.wide spans l.out) l.span;
      count : l.begun.count ≤ l.plan.rows;
      around : l.begun.around ≤ l.begun.count;
      known : (a : ℕ) × (a ≤ l.start) × ((k : ℕ) → k < l.begun.count → get_or fs k 0 ≤ a) × IsLastHolder w fs bs l.begun.count a l.begun.around;
      few : l.span ≤ edges w fs bs l.start;
      half : l.is_half ≡ true → l.start % 2 ^ 64 ≡ 0;
      fits : l.start < 2 ^ w;
    }
