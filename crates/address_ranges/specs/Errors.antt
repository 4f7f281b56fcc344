-- The texts of refusals.
use Rattle.std.specs.Prelude.{ℕ, List, codes}
use Rattle.address_ranges.specs.declared.errors.RangesError.{RangesError}
use Rattle.address_ranges.specs.declared.errors.RangesError.TheVariants.{Memory, Reversed, OutOfOrder}

-- what `Display` writes of a `RangesError`
abbrev pub ranges_text : RangesError → List ℕ
ranges_text Memory = codes "out of memory"
ranges_text (Reversed _) = codes "the range ends before it begins"
ranges_text (OutOfOrder _) = codes "the range doesn't come after the one before it"
