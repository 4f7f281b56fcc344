use Rattle.keyed_maps.proofs.MergeLemmas as merges
use Rattle.keyed_maps.proofs.part_laws.merges_by_key_compose.Goals as goal

pub returns : goal.returns
returns g c =
    let enc = g.K.TrieKey.encoding in
    let one = c.args.one.now in
    let other = c.args.other.now in
    let ours = c.keys_stand_at_their_encodings.ensures.stored in
    let theirs = c.keys_stand_at_their_encodings-2.ensures.stored in
    record {
      commute = merges.merges_commute enc one ours other theirs;
      associate = merges.merges_associate enc one ours other theirs;
      merge_merge = merges.merge_merge enc one ours;
    }
