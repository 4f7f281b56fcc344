use Rattle.radix_trie.proofs.LawLemmas.Turned.{get-absent, get-turned, points_alike, prefixes_alike}
use Rattle.radix_trie.proofs.map_laws.turned_copies_answer_alike.Goals as goal

pub returns : goal.returns
returns g c = record { stored = get-turned g.V.Clone.is_clone; absent = get-absent g.V.Clone.is_clone; nodes = points_alike; nibbles = prefixes_alike }
