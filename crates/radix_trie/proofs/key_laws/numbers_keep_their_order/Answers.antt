use Rattle.radix_trie.proofs.LawLemmas.Orders.{numbers_kept}
use Rattle.radix_trie.proofs.key_laws.numbers_keep_their_order.Goals as goal

pub returns : goal.returns
returns c = numbers_kept
