use Rattle.radix_keys.proofs.BitLemmas.{first_bits-bit, length-first_bits, bits_of-bytes_high_first}
use Rattle.radix_keys.proofs.laws.first_bits_are_digits.Goals as goal

pub returns : goal.returns
returns c = record { bit = first_bits-bit; count = length-first_bits; of_bytes = bits_of-bytes_high_first }
