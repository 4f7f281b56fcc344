use Rattle.radix_trie.proofs.LawLemmas.Asked.{keys_of_walk_rise}
use Rattle.radix_trie.proofs.LawLemmas.Ranges.{keys_in_range}
use Rattle.radix_trie.proofs.key_laws.keys_of_ranges_rise.Goals as goal

pub returns : goal.returns
returns g c =
    let enc = g.K.TrieKey.encoding in
    let is = g.K.TrieKey.is_value in
    record {
      within = λ cmp kept m keyed e low high from to p. keys_in_range enc is cmp kept m keyed e low high from to p;
      rising = λ cmp kept m keyed e low high. keys_of_walk_rise enc is cmp kept m keyed e _;
    }
