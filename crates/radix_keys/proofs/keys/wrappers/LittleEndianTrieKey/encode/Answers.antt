use Rattle.std.proofs.Common.{◌≡◌, ◌<◌, ◌++◌, [], ◌∷◌, arith, ap, true, false, length, reverse, take, sym, ◌∙◌}
use Rattle.radix_keys.proofs.NibbleLemmas.Bytes.{length-nibbles}
use Rattle.radix_keys.proofs.KeyLemmas.Items.{take-reverse_more, length-take-reverse}
use Rattle.std.proofs.lemmas.List.{length-reverse}
use Rattle.radix_keys.proofs.keys.wrappers.LittleEndianTrieKey.encode.Goals as goal

pub returns-in_err-push-clause-inline : goal.returns-in_err-push-clause-inline
returns-in_err-push-clause-inline g c = λ short.
    let v = g.T.KeyInt.bytes c.args.self.now in
    let n : length v ≡ g.T.KeyInt.WIDTH = g.met.T.KeyInt.bytes_len c.args.self.now in
    let same = ap (λ x. length (take c.loop-i.i (reverse (g.T.KeyInt.bytes x)))) c.value-value.ensures in
    let refused : false ≡ true = c.in_err-push.ensures.succeeds
    (omega (
      arith,
      n,
      same,
      c.WIDTH-i-end.ensures,
      length-nibbles (reverse v),
      length-reverse v,
      ap length c.loop-i.invariant.items,
      length-take-reverse v c.loop-i.i (omega (arith, n, c.WIDTH-i-end.ensures)),
      c.loop-i.invariant.room,
    )) in
    cc

pub loop-i-preserved : goal.loop-i-preserved
loop-i-preserved g c =
    let v = g.T.KeyInt.bytes c.value-value.result in
    let n : length v ≡ c.WIDTH.result = g.met.T.KeyInt.bytes_len c.value-value.result ∙ sym c.WIDTH.ensures in
    let lt : c.loop-i.i < c.WIDTH.result = omega (arith, c.WIDTH.ensures, c.WIDTH-i-end.ensures) in
    record {
      items = c.in_ok-push.ensures.ok ∙ ap (λ t. t ++ c.byte.result ∷ []) c.loop-i.invariant.items
          ∙ ap (λ b. take c.loop-i.i (reverse v) ++ b ∷ []) c.byte.ensures.byte
          ∙ sym (take-reverse_more v c.WIDTH.result c.loop-i.i n lt);
      room = omega (arith, c.push.ensures.capacity, c.loop-i.invariant.room);
      value = λ _. c.byte.ensures.value;
    }
