use Rattle.std.proofs.Common.{◌≡◌, ◌*◌, ◌/◌, ◌≤◌, length, sym, ap, subst, ◌∙◌, arith}
use Rattle.std.proofs.Math.Nat.{mul-div-le}
use Rattle.encoded_keys.specs.Blocks.{AreHeads}
use Rattle.encoded_keys.specs.Laid.{codes_in, halves, odds}
use Rattle.encoded_keys.proofs.CodeLemmas.Growing.{codes_alike}
use Rattle.encoded_keys.proofs.CodeLemmas.Making.{all_written}
use Rattle.encoded_keys.proofs.CodeLemmas.Reading.{as_many_ends}
use Rattle.encoded_keys.proofs.keys.EncodedKeys.heads_of.Goals as goal

pub fill_heads-requires-clause-within : goal.fill_heads-requires-clause-within
fill_heads-requires-clause-within c =
    let many : length c.deref_mut.result.now ≡ c.len.result / c.args.step = ap length c.deref_mut.ensures.value ∙ sym c.in_ok-heads.heads.ok.0 ∙ c.in_ok-heads.ensures.len in
    let le : c.args.step * (c.len.result / c.args.step) ≤ c.len.result = mul-div-le c.len.result c.args.step in
    omega (
      arith,
      ap (λ n. c.args.step * n) many,
      le,
      c.len.ensures,
      ap length c.deref-2.ensures.value,
      ap length c.self.view_is,
      as_many_ends c.self.inside.bytes.items c.self.inside.ends.items c.self.invariant.laid,
    )

pub returns-clause-many : goal.returns-clause-many
returns-clause-many c =
    let hs = c.fill_heads.new.heads in
    let own = c.in_ok-heads.heads in
    let same : length hs ≡ length own.items = c.fill_heads.ensures.many ∙ ap length c.deref_mut.ensures.value in
    ap length (all_written own.len hs own.items (own.ok.0 ∙ sym same)) ∙ same ∙ sym own.ok.0 ∙ c.in_ok-heads.ensures.len ∙ ap (λ n. n / c.args.step) c.len.ensures

pub returns-clause-heads : goal.returns-clause-heads
returns-clause-heads c =
    let hs = c.fill_heads.new.heads in
    let own = c.in_ok-heads.heads in
    let same : length hs ≡ length own.items = c.fill_heads.ensures.many ∙ ap length c.deref_mut.ensures.value in
    let is : codes_in c.deref.result.now 0 (halves c.deref-2.result.now) (odds c.deref-2.result.now) ≡ c.args.self.now =
    codes_alike _ _ _ _ _ _ c.deref.ensures.value (ap halves c.deref-2.ensures.value) (ap odds c.deref-2.ensures.value) ∙ c.self.view_is in
    subst (λ xs. AreHeads c.args.self.now c.args.step c.args.further xs c.args.skips.now (length xs)) (sym (all_written own.len hs own.items (own.ok.0 ∙ sym same)))
    (subst (λ cs. AreHeads cs c.args.step c.args.further hs c.args.skips.now (length hs)) is c.fill_heads.ensures.heads)
