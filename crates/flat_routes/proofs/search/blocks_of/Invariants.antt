use Rattle.std.proofs.Common.{◌≡◌, ℕ, ◌<◌, ◌≤◌, length, get_or}
use Rattle.flat_routes.specs.Images.{IsImage, start_in}
use Rattle.flat_routes.specs.SpanLaws.{IsCountedBy}
use Rattle.flat_routes.proofs.SpanLemmas.{IsBounded}
use Rattle.flat_routes.proofs.search.blocks_of.Given as goal

abbrev pub invariant-loop-i : goal.invariant-loop-i
invariant-loop-i l = record {
  long : length l.from ≡ 8;
  most : l.left ≤ l.plan.spans.count;
  bounds : (j : ℕ) → j < l.i → IsBounded (start_in l.wide l.image) (IsImage l.wide l.image) l.plan.spans.count (get_or l.numbers j 0) (get_or l.from j 0) l.left;
}

abbrev pub invariant-loop-at : goal.invariant-loop-at
invariant-loop-at l = record {
  long : length l.from ≡ 8;
  bounds : (j : ℕ) → l.at ≤ j → j < 8 → IsBounded (start_in l.wide l.image) (IsImage l.wide l.image) l.plan.spans.count (get_or l.numbers j 0) (get_or l.from j 0) l.left;
  counted : (j : ℕ) → j < l.at → IsCountedBy (start_in l.wide l.image) (IsImage l.wide l.image) l.plan.spans.count (get_or l.numbers j 0) (get_or l.from j 0) l.left;
}
