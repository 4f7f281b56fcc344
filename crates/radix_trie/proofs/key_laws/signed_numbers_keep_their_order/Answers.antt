use Rattle.radix_trie.proofs.LawLemmas.Orders.{signed_kept}
use Rattle.radix_trie.proofs.key_laws.signed_numbers_keep_their_order.Goals as goal

pub returns : goal.returns
returns g c = signed_kept g.T.KeySigned.bits g.T.KeyInt.bytes g.T.KeySigned.number g.T.KeyInt.is_value g.met.T.KeySigned.within g.met.T.KeySigned.twos_complement
