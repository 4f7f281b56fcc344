-- What the numbers mean that calls return.
use Rattle.std.specs.Prelude.{ℕ, zero, suc, Option, None, Some}
use Rattle.image_parts.specs.declared.errors.ImageError.{ImageError}
use Rattle.image_parts.specs.declared.errors.ImageError.TheVariants.{Cell, Mark, Part, Row, Short, Span, Version}
use Rattle.image_parts.specs.declared.errors.WriteError.{WriteError}
use Rattle.image_parts.specs.declared.errors.WriteError.TheVariants.{Full, OutOfOrder, Short as ShortBuffer}

-- the index that a lookup tells by one more, or None by 0
abbrev pub told_index : ℕ → Option ℕ
told_index zero = None
told_index (suc i) = Some i

-- what a check tells by a number and an index
abbrev pub told_error : ℕ → ℕ → Option ImageError
told_error (suc zero) at = Some Short
told_error (suc (suc zero)) at = Some Mark
told_error (suc (suc (suc zero))) at = Some Version
told_error (suc (suc (suc (suc zero)))) at = Some (Part at)
told_error (suc (suc (suc (suc (suc zero))))) at = Some (Row at)
told_error (suc (suc (suc (suc (suc (suc zero)))))) at = Some (Cell at)
told_error (suc (suc (suc (suc (suc (suc (suc (suc (suc zero))))))))) at = Some (Span at)
told_error n at = None

-- what a write tells
abbrev pub told_write : ℕ → ℕ → Option WriteError
told_write (suc zero) at = Some ShortBuffer
told_write (suc (suc (suc (suc (suc (suc (suc zero))))))) at = Some Full
told_write (suc (suc (suc (suc (suc (suc (suc (suc zero)))))))) at = Some (OutOfOrder at)
told_write n at = None
