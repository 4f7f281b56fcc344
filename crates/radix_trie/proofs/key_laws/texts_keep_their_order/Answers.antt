use Rattle.radix_trie.proofs.LawLemmas.Orders.{texts_kept}
use Rattle.radix_trie.proofs.key_laws.texts_keep_their_order.Goals as goal

pub returns : goal.returns
returns g c = texts_kept
