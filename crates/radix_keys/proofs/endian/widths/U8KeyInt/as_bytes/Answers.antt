use Rattle.std.proofs.Common.{arith}
use Rattle.std.proofs.lemmas.List.{get_or_default}
use Rattle.radix_keys.proofs.KeyLemmas.Items.{bytes_of_bytes}
use Rattle.radix_keys.proofs.endian.widths.U8KeyInt.as_bytes.Goals as goal

pub returns-clause-bytes : goal.returns-clause-bytes
returns-clause-bytes c = bytes_of_bytes c.args.items.now (λ k. (c.type_inv.items k).fits)

pub returns-clause-values : goal.returns-clause-values
returns-clause-values c = λ k d l. let fits = (c.type_inv.items k).fits in omega (arith, fits, get_or_default c.args.items.now k 0 d l)
