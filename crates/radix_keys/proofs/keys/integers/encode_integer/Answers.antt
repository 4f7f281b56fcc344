use Rattle.std.proofs.Common.{arith, ap, ◌≡◌, true, false, length}
use Rattle.radix_keys.proofs.NibbleLemmas.Bytes.{length-nibbles}
use Rattle.radix_keys.proofs.keys.integers.encode_integer.Goals as goal

pub returns-in_err-push_bytes-clause-inline : goal.returns-in_err-push_bytes-clause-inline
returns-in_err-push_bytes-clause-inline g c = λ short.
    let no : false ≡ true = c.in_err-push_bytes.ensures.succeeds
    (omega (arith, length-nibbles (g.T.KeyInt.bytes c.args.x.now), ap length c.new-bytes.ensures.items)) in
    cc
