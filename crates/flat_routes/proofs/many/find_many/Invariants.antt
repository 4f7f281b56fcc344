use Rattle.std.proofs.Common.{◌≡◌, ℕ, ◌-◌, ◌<◌, ◌≤◌, length, get_or, map as each}
use Rattle.frozen_routes.specs.Routes.{IsLongestRow}
use Rattle.image_parts.specs.Parts.{row_count}
use Rattle.flat_routes.specs.Images.{IsImage, found_row, image_rows, width}
use Rattle.flat_routes.proofs.many.find_many.Given as goal

abbrev pub invariant-loop-at : goal.invariant-loop-at
invariant-loop-at g l = record {
  within : (k : ℕ) → k < l.at → get_or l.found k 0 ≤ row_count l.image;
  rest : (k : ℕ) → l.at ≤ k → get_or l.found k 0 ≡ get_or l.fn.found k 0;
  rows : IsImage g.N.FlatAddress.WIDE l.image → (k : ℕ) → k < l.at
      → IsLongestRow (width g.N.FlatAddress.WIDE) (λ n. n) (image_rows g.N.FlatAddress.WIDE l.image) (get_or (each g.N.FlatAddress.number l.addresses) k 0) (found_row g.N.FlatAddress.WIDE l.image (get_or l.found k 0));
  long : length l.found ≡ length l.fn.found;
  most : l.at ≤ l.count;
}

abbrev pub decreases-loop-at : goal.decreases-loop-at
decreases-loop-at g l = l.count - l.at

abbrev pub invariant-loop-i : goal.invariant-loop-i
invariant-loop-i g l = record {
  within : (k : ℕ) → k < l.i → get_or l.found k 0 ≤ row_count l.image;
  rest : (k : ℕ) → l.i ≤ k → get_or l.found k 0 ≡ get_or l.fn.found k 0;
  rows : IsImage g.N.FlatAddress.WIDE l.image → (k : ℕ) → k < l.i
      → IsLongestRow (width g.N.FlatAddress.WIDE) (λ n. n) (image_rows g.N.FlatAddress.WIDE l.image) (get_or (each g.N.FlatAddress.number l.addresses) k 0) (found_row g.N.FlatAddress.WIDE l.image (get_or l.found k 0));
  long : length l.found ≡ length l.fn.found;
}
