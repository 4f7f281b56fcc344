use Rattle.radix_keys.proofs.NetworkLemmas.{no_slash, no_base, no_count, made_of_text}
use Rattle.radix_keys.proofs.networks.Network.parse.Goals as goal

pub returns-in_err-address : goal.returns-in_err-address
returns-in_err-address g c =
    rw c.from_residual.ensures
    (no_slash g.A.Address.is_text g.A.Address.number g.A.Address.BITS g.met.A.Address.bits_fit.1 c.args.text.now c.in_err-address.ensures.cases)

pub returns-in_err-base : goal.returns-in_err-base
returns-in_err-base g c =
    rw c.from_residual-in_err-base.ensures
    (no_base g.A.Address.is_text g.A.Address.number g.A.Address.BITS g.met.A.Address.bits_fit.1 c.args.text.now
    (c.in_ok-address.address, c.in_ok-address.digits) c.in_ok-address.ensures.cases c.in_err-base.ensures)

pub returns-in_err-bits : goal.returns-in_err-bits
returns-in_err-bits g c =
    rw c.from_residual-in_err-bits.ensures
    (no_count g.A.Address.is_text g.A.Address.number g.A.Address.BITS g.met.A.Address.bits_fit.1 c.args.text.now
    (c.in_ok-address.address, c.in_ok-address.digits) c.in_ok-address.ensures.cases c.in_err-bits.ensures)

pub returns : goal.returns
returns g c =
    made_of_text g.A.Address.is_text g.A.Address.number g.A.Address.BITS g.met.A.Address.bits_fit.1 c.args.text.now
    (c.in_ok-address.address, c.in_ok-address.digits) c.in_ok-address.ensures.cases g.met.A.Address.one_address
    c.in_ok-base.base c.in_ok-bits.bits c.in_ok-base.ensures c.in_ok-bits.ensures.1 c.in_ok-bits.ensures.0 c.new.result c.new.ensures
