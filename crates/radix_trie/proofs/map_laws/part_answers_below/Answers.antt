use Rattle.radix_trie.proofs.LawLemmas.Parts.{count-part, get-inside, get-outside, stored-part}
use Rattle.radix_trie.proofs.map_laws.part_answers_below.Goals as goal

pub returns : goal.returns
returns g c = record { inside = get-inside; outside = get-outside; stored = stored-part; count = count-part }
