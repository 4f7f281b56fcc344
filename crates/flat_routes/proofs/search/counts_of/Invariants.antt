use Rattle.std.proofs.Common.{◌≡◌, ℕ, ◌/◌, ◌<◌, ◌≤◌, length, get_or}
use Rattle.flat_routes.specs.Images.{IsImage, start_in}
use Rattle.flat_routes.specs.SpanLaws.{AreCounted, IsCountedBy}
use Rattle.flat_routes.proofs.search.counts_of.Given as goal

abbrev pub invariant-loop-left : goal.invariant-loop-left
invariant-loop-left l = record {
  long : length l.from ≡ 8;
  counted : AreCounted (start_in l.wide l.image) (IsImage l.wide l.image) l.plan.spans.count l.numbers l.from l.left;
}

abbrev pub decreases-loop-left : goal.decreases-loop-left
decreases-loop-left l = l.left

abbrev pub invariant-loop-i : goal.invariant-loop-i
invariant-loop-i l = record {
  long : length l.from ≡ 8;
  done : (j : ℕ) → j < l.i → IsCountedBy (start_in l.wide l.image) (IsImage l.wide l.image) l.plan.spans.count (get_or l.numbers j 0) (get_or l.from j 0) (l.left / 2);
  left : (j : ℕ) → l.i ≤ j → j < 8 → IsCountedBy (start_in l.wide l.image) (IsImage l.wide l.image) l.plan.spans.count (get_or l.numbers j 0) (get_or l.from j 0) l.left;
}
