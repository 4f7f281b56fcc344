-- The texts of refusals.
use Rattle.std.specs.Prelude.{ℕ, List, codes}
use Rattle.radix_keys.specs.declared.nibbles.BytesError.{BytesError}
use Rattle.radix_keys.specs.declared.nibbles.BytesError.TheVariants.{Memory, Odd}
use Rattle.radix_keys.specs.declared.parts.PartsError.{PartsError}
use Rattle.radix_keys.specs.declared.parts.PartsError.TheVariants as Parts

-- what `Display` writes where memory was refused
abbrev pub memory_text : List ℕ
memory_text = codes "out of memory"

-- what `Display` writes of a `BytesError`
abbrev pub bytes_text : BytesError → List ℕ
bytes_text Memory = memory_text
bytes_text Odd = codes "the key has an odd count of nibbles"

-- what `Display` writes of a `PartsError`
abbrev pub parts_text : PartsError → List ℕ
parts_text Parts.Memory = memory_text
parts_text Parts.Zero = codes "a part has a byte 0"
