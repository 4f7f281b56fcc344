use Rattle.nibble_map.specs.Lists.{IsPrefix}
use Rattle.radix_trie.proofs.LawLemmas.Pages.{each_of_page}
use Rattle.radix_trie.proofs.WalkLemmas.Keyed.{encodings_rise, keyed_get, keys_below}
use Rattle.radix_trie.proofs.key_laws.keys_stand_at_their_encodings.Goals as goal

pub returns : goal.returns
returns g c =
    let enc = g.K.TrieKey.encoding in
    let keyed = c.root.ensures.keyed in
    record { keyed = λ is e p at. (keyed_get enc c.args.trie.now keyed e p at, is p.0); stored = keyed_get enc c.args.trie.now keyed; below = keys_below enc c.args.trie.now keyed; rising = encodings_rise enc c.args.trie.now keyed; page = λ e n. each_of_page (λ p. p.0) (λ key. IsPrefix e (enc key)) n _ (keys_below enc c.args.trie.now keyed e) }
