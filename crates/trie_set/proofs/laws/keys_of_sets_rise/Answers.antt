use Rattle.std.proofs.Common.{not, subst}
use Rattle.std.specs.FinMap as map
use Rattle.radix_trie.proofs.LawLemmas.Asked.{AreAtEncodings}
use Rattle.radix_trie.specs.Sets.{common, joined, lacking}
use Rattle.trie_set.proofs.OrderLemmas.{joined_keyed, keys_held, keys_rise, part_keyed}
use Rattle.trie_set.proofs.laws.keys_of_sets_rise.Goals as goal

pub returns : goal.returns
returns g c =
    let enc = g.K.TrieKey.encoding in
    let m = c.args.set.now in
    let n = c.args.other.now in
    let ours : AreAtEncodings enc m = subst (AreAtEncodings enc) c.as_trie.ensures c.keys_stand_at_their_encodings.ensures.stored in
    let theirs : AreAtEncodings enc n = subst (AreAtEncodings enc) c.as_trie-2.ensures c.keys_stand_at_their_encodings-2.ensures.stored in
    record {
      held = keys_held enc m ours;
      all = keys_rise enc m ours;
      common = keys_rise enc (common m n) (part_keyed enc (λ e. map.contains_key n e) m ours);
      lacking = keys_rise enc (lacking m n) (part_keyed enc (λ e. not (map.contains_key n e)) m ours);
      joined = keys_rise enc (joined m n) (joined_keyed enc m n ours theirs);
    }
