use Rattle.std.proofs.Common.{arith, ap, ◌≡◌, true, false, length, flat_map, ◌∙◌, ◌++◌, sym}
use Rattle.radix_keys.proofs.NibbleLemmas.Bytes.{length-nibbles}
use Rattle.radix_keys.proofs.KeyLemmas.Items.{flat_map-one_more, flat_map_room, all-more}
use Rattle.radix_keys.proofs.keys.wrappers.VecTrieKey.encode.Goals as goal

pub returns-in_err-push_bytes-clause-inline : goal.returns-in_err-push_bytes-clause-inline
returns-in_err-push_bytes-clause-inline g c = λ short.
    let no : false ≡ true = c.in_err-push_bytes.ensures.succeeds
    (omega (
      arith,
      length-nibbles (flat_map g.T.KeyInt.bytes c.args.self.now.items),
      ap length c.loop-x.invariant.items,
      ap (λ xs. length (flat_map g.T.KeyInt.bytes xs)) c.deref-x-items.ensures.value,
      flat_map_room g.T.KeyInt.bytes c.deref-x-items.result.now c.loop-x.x-index c.x-item.result (omega arith) c.x-item.is,
    )) in
    cc

pub loop-x-preserved : goal.loop-x-preserved
loop-x-preserved g c = record {
  items = c.in_ok-push_bytes.ensures.ok ∙ ap (λ t. t ++ g.T.KeyInt.bytes c.x-item.result) c.loop-x.invariant.items
      ∙ sym (flat_map-one_more g.T.KeyInt.bytes c.deref-x-items.result.now c.loop-x.x-index c.x-item.result (omega arith) c.x-item.is);
  room = c.push_bytes.ensures.capacity;
  values = all-more g.T.KeyInt.is_value c.deref-x-items.result.now c.loop-x.x-index c.x-item.result (omega arith) c.x-item.is
      c.loop-x.invariant.values c.in_ok-push_bytes.ensures.value;
}
