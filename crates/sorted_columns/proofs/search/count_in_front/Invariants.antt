use Rattle.std.proofs.Common.{ℕ, ◌+◌, ◌<◌, ◌≤◌}
use Rattle.sorted_columns.proofs.search.count_in_front.Given as goal

abbrev pub invariant-loop-left : goal.invariant-loop-left
invariant-loop-left g l = record {
  least : l.fn.lo ≤ l.from;
  most : l.from + l.left ≤ l.fn.hi;
  below : g.C.Columns.is_sorted l.columns → (k : ℕ) → k < l.from → g.C.Fronts.is_front l.columns l.query k;
  above : g.C.Columns.is_sorted l.columns → (k : ℕ) → l.from + l.left ≤ k → k < g.C.Columns.count l.columns
      → g.C.Fronts.is_front l.columns l.query k → ⊥;
}

abbrev pub decreases-loop-left : goal.decreases-loop-left
decreases-loop-left g l = l.left
