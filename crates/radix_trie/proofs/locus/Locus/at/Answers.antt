use Rattle.std.proofs.Common.{◌<◌, ◌^◌, arith, rules}
use Rattle.radix_trie.proofs.PathLemmas.Loci.{point_place}
use Rattle.radix_trie.proofs.locus.Locus.at.Goals as goal

pub returns : goal.returns
returns g c =
    let few : c.len-pairs.result < 2 ^ 64 = search rules in (
      point_place g.K.TrieKey.encoding c.args.trie.now c.args.path.now c.args.node c.len.result c.requires c.len.ensures,
      omega (arith, few, c.len-pairs.ensures),
    )
