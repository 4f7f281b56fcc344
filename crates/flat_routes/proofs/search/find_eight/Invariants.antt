use Rattle.std.proofs.Common.{◌≡◌, ℕ, ◌+◌, ◌-◌, ◌<◌, ◌≤◌, length, get_or}
use Rattle.frozen_routes.specs.Routes.{IsLongestRow}
use Rattle.flat_routes.specs.Images.{IsImage, found_row, image_rows, width}
use Rattle.flat_routes.proofs.search.find_eight.Given as goal

abbrev pub invariant-loop-i : goal.invariant-loop-i
invariant-loop-i l = record {
  long : length l.found ≡ length l.fn.found;
  within : (k : ℕ) → l.at ≤ k → k < l.at + l.i → get_or l.found k 0 ≤ l.plan.rows.rows;
  rows : IsImage l.wide l.image → (k : ℕ) → l.at ≤ k → k < l.at + l.i
      → IsLongestRow (width l.wide) (λ n. n) (image_rows l.wide l.image) (get_or l.numbers (k - l.at) 0) (found_row l.wide l.image (get_or l.found k 0));
  before : (k : ℕ) → k < l.at → get_or l.found k 0 ≡ get_or l.fn.found k 0;
  behind : (k : ℕ) → l.at + l.i ≤ k → get_or l.found k 0 ≡ get_or l.fn.found k 0;
}
