use Rattle.radix_trie.proofs.LawLemmas.Asked.{above_holds, after_holds, below_holds, from_holds, rising_above, rising_walk}
use Rattle.radix_trie.proofs.WalkLemmas.Keyed.{keyed_get}
use Rattle.radix_trie.proofs.key_laws.walks_miss_no_key.Goals as goal

pub returns : goal.returns
returns g c =
    let enc = g.K.TrieKey.encoding in
    let m = c.args.trie.now in
    let keyed = keyed_get enc m c.root.ensures.keyed in
    record {
      below = below_holds enc m keyed;
      above = above_holds enc m keyed;
      from = from_holds enc m keyed;
      after = after_holds enc m keyed;
      rising_above = rising_above enc m keyed;
      rising_from = λ e q. rising_walk enc m keyed e _;
      rising_after = λ e q. rising_walk enc m keyed e _;
    }
