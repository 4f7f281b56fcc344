use Rattle.std.proofs.Common.{◌≡◌, Less}
use Rattle.radix_trie.proofs.LawLemmas.Asked.{keys_of_part_rise, keys_of_walk_rise}
use Rattle.radix_trie.proofs.LawLemmas.Pages.{pairs_of_page}
use Rattle.radix_trie.proofs.key_laws.keys_of_walks_rise.Goals as goal

pub returns : goal.returns
returns g c =
    let enc = g.K.TrieKey.encoding in
    let is = g.K.TrieKey.is_value in
    record {
      below = λ cmp kept m keyed e. keys_of_part_rise enc is cmp kept m keyed _;
      above = λ cmp kept m keyed e. keys_of_part_rise enc is cmp kept m keyed _;
      from = λ cmp kept m keyed e q. keys_of_walk_rise enc is cmp kept m keyed e _;
      after = λ cmp kept m keyed e q. keys_of_walk_rise enc is cmp kept m keyed e _;
      page = λ cmp kept m keyed e n. pairs_of_page (λ p. p.0) (λ x y. cmp x y ≡ Less) n _ (keys_of_part_rise enc is cmp kept m keyed _);
    }
