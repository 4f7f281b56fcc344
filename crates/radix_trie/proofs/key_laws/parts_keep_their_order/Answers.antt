use Rattle.radix_trie.proofs.LawLemmas.Orders.{parts_kept}
use Rattle.radix_trie.proofs.key_laws.parts_keep_their_order.Goals as goal

pub returns : goal.returns
returns c = parts_kept
