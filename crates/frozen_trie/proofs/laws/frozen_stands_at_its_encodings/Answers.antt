use Rattle.nibble_map.specs.Lists.{is_prefix}
use Rattle.nibble_map.specs.Maps.{below}
use Rattle.radix_trie.proofs.LawLemmas.Asked.{above_holds, after_holds, below_holds, encodings_rise, from_holds, part_keyed}
use Rattle.frozen_trie.proofs.FrozenLemmas.Laws.{at_encodings, begun_below}
use Rattle.frozen_trie.proofs.laws.frozen_stands_at_its_encodings.Goals as goal

pub returns : goal.returns
returns g c =
    let enc = g.K.TrieKey.encoding in
    let m = c.args.frozen.now in
    let at = at_encodings enc m c.is_of_its_pairs.ensures.mapped c.is_of_its_pairs.ensures.rising in
    record {
      stored = at;
      begun = begun_below enc m at;
      rising = λ e. encodings_rise enc (below m e) (part_keyed enc m at (is_prefix e));
      below = below_holds enc m at;
      above = above_holds enc m at;
      from = from_holds enc m at;
      after = after_holds enc m at;
      keyed = λ is e p h. (at e p h, is p.0);
    }
