-- Items behind options.
use Rattle.std.specs.Prelude.{List, Option, filter_map}

-- the items that are there
abbrev pub present : {A : Type 0} → List (Option A) → List A
present xs = filter_map (λ o. o) xs
