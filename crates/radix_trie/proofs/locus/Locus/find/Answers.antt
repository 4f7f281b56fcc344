use Rattle.std.proofs.Common.{◌<◌, ◌^◌, arith, rules}
use Rattle.radix_trie.proofs.PathLemmas.Loci.{found_place}
use Rattle.radix_trie.proofs.locus.Locus.find.Goals as goal

pub returns : goal.returns
returns g c =
    let few : c.len-pairs.result < 2 ^ 64 = search rules in (
      found_place g.K.TrieKey.encoding c.args.trie.now c.root.result.now c.args.path.now c.shortest.result c.root.ensures c.shortest.ensures,
      omega (arith, few, c.len-pairs.ensures),
    )
