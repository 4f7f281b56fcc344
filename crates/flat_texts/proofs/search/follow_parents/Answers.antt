use Rattle.std.proofs.Common.{◌≡◌, ◌≢◌, ◌-◌, ◌<◌, length, take, get_or, ap, subst, sym, ◌∙◌, arith}
use Rattle.nibble_map.specs.Lists.{IsPrefix}
use Rattle.nibble_map.specs.Nibbles.{nibbles}
use Rattle.nibble_map.proofs.ListLemmas.Parted.{prefix_itself, prefix_through}
use Rattle.radix_keys.proofs.NibbleLemmas.Bytes.{length-nibbles}
use Rattle.sorted_tables.specs.Tables.{IsLastOf}
use Rattle.sorted_tables.proofs.TableLemmas.Links.{climb_on}
use Rattle.encoded_keys.proofs.CodeLemmas.Links.{shared_prefix, unshared}
use Rattle.encoded_keys.proofs.CodeLemmas.Order.{between_begins}
use Rattle.flat_texts.specs.TextImages.{key_code, key_in}
use Rattle.flat_texts.proofs.ImageLemmas.{code_before}
use Rattle.flat_texts.proofs.search.follow_parents.Goals as goal

pub loop-at-init : goal.loop-at-init
loop-at-init c = record {
  within = omega arith;
  chain = λ right some. prefix_itself (key_code c.args.image.now (c.args.from - 1));
  none = λ right before k l m. absurd (omega (arith, l, m));
}

pub returns-then-key_at-shared-clause-last : goal.returns-then-key_at-shared-clause-last
returns-then-key_at-shared-clause-last c = λ right before.
    let bs = c.args.image.now in
    let at = c.loop-at.at in
    let q = nibbles c.args.key.now in
    let n = c.agreement-shared.result in
    let is = c.from_bytes-before.ensures ∙ ap nibbles c.key_at.ensures in
    let same : take n (key_code bs (c.args.from - 1)) ≡ take n q =
    subst (λ p. take n p ≡ take n q) is (subst (λ p. take n c.from_bytes-before.result ≡ take n p) c.from_bytes.ensures c.agreement-shared.ensures.same) in
    record {
      within = c.loop-at.invariant.within;
      holds = λ some. shared_prefix (key_code bs (at - 1)) (key_code bs (c.args.from - 1)) q n (c.loop-at.invariant.chain right some) same
          (omega (arith, c.if-key_at-shared.true, ap length c.key_at-in-loop-at.ensures, length-nibbles (key_in bs (at - 1))));
      none = c.loop-at.invariant.none right before;
    }

pub loop-at-preserved : goal.loop-at-preserved
loop-at-preserved c =
    let bs = c.args.image.now in
    let at = c.loop-at.at in
    let q = nibbles c.args.key.now in
    let n = c.agreement-shared.result in
    let is = c.from_bytes-before.ensures ∙ ap nibbles c.key_at.ensures in
    let asked = c.from_bytes.ensures in
    let apart : n < length (key_code bs (c.args.from - 1)) → n < length q → get_or (key_code bs (c.args.from - 1)) n 0 ≢ get_or q n 0 = λ l m e.
    c.agreement-shared.ensures.apart (omega (arith, l, ap length is)) (omega (arith, m, ap length asked))
    (ap (λ p. get_or p n 0) is ∙ e ∙ sym (ap (λ p. get_or p n 0) asked)) in
    let inside : at - 1 < c.args.from = omega (arith, c.loop-at.invariant.within, c.loop-at-test.true) in
    record {
      within = omega (arith, c.if-link-at.false, c.loop-at.invariant.within);
      chain = λ right some.
          let link = subst (IsLastOf (λ k. IsPrefix (key_code bs k) (key_code bs (at - 1))) (at - 1)) (sym c.link_at-link.ensures) (right (at - 1) inside).link in
          prefix_through _ _ _ (link.holds some) (c.loop-at.invariant.chain right c.loop-at-test.true);
      none = λ right before.
          let link = subst (IsLastOf (λ k. IsPrefix (key_code bs k) (key_code bs (at - 1))) (at - 1)) (sym c.link_at-link.ensures) (right (at - 1) inside).link in
          climb_on (λ k. IsPrefix (key_code bs k) q) (λ k. IsPrefix (key_code bs k) (key_code bs (at - 1))) c.args.from at _ c.loop-at-test.true
          (λ k l p. between_begins (key_code bs k) (key_code bs (at - 1)) q p (code_before bs c.args.from k (at - 1) right l inside) (before (at - 1) inside))
          (λ p. unshared (key_code bs (at - 1)) (key_code bs (c.args.from - 1)) q n (c.loop-at.invariant.chain right c.loop-at-test.true) p
          (omega (arith, c.if-key_at-shared.false, ap length c.key_at-in-loop-at.ensures, length-nibbles (key_in bs (at - 1)))) apart)
          (c.loop-at.invariant.none right before) link;
    }

pub returns-clause-last : goal.returns-clause-last
returns-clause-last c = λ right before. record {
  within = omega arith;
  holds = λ some. absurd (omega (arith, some));
  none = λ k l m. c.loop-at.invariant.none right before k (omega (arith, c.loop-at-test.false)) m;
}
