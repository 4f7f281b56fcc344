use Rattle.radix_keys.proofs.AddressLemmas.{ipv4_of_number}
use Rattle.radix_keys.proofs.networks.address.Ipv4AddrAddress.from_number.Goals as goal

pub returns : goal.returns
returns c = ipv4_of_number c.from_bits.result c.args.n c.requires c.from_bits.ensures
