use Rattle.std.proofs.Common.{ℕ, ◌<◌, ◌≤◌}
use Rattle.sorted_columns.proofs.search.follow_parents.Given as goal

abbrev pub invariant-loop-at : goal.invariant-loop-at
invariant-loop-at g l = record {
  within : l.at ≤ l.fn.from;
  none : g.C.Columns.is_sorted l.columns
      → ((k : ℕ) → k < l.fn.from → g.C.Links.is_behind l.columns l.query k)
      → (k : ℕ) → l.at ≤ k → k < l.fn.from → g.C.Links.is_sought l.columns l.query k → ⊥;
}

abbrev pub decreases-loop-at : goal.decreases-loop-at
decreases-loop-at g l = l.at
