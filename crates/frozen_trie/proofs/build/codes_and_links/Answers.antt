use Rattle.std.proofs.Common.{◌≡◌, ◌+◌, All, ◌++◌, [], ◌∷◌, length, take, get_or, sym, ap, subst, ◌∙◌, arith}
use Rattle.std.proofs.lemmas.List.{length-map, length-take, map_more, take-map, take_all}
use Rattle.std.proofs.lemmas.List.Elements.{All-more}
use Rattle.nibble_map.specs.Lists.{IsRising}
use Rattle.encoded_keys.specs.Codes.{IsLinked}
use Rattle.frozen_trie.specs.Frozen.{IsFirstListOutOfOrder, codes_of}
use Rattle.frozen_trie.proofs.build.codes_and_links.Goals as goal

pub returns-in-Err-clause-unsorted : goal.returns-in-Err-clause-unsorted
returns-in-Err-clause-unsorted g c = λ k e.
    let enc = g.K.TrieKey.encoding in
    let ps = c.args.pairs.now in
    let i = c.loop-pair.pair-index in
    let d = c.pair-item.result in
    let cs = c.loop-pair.codes in
    let why = c.why_unsorted.ensures.unsorted k (cc e) in
    let count : k ≡ i = omega (arith, why.1, c.len.ensures, ap length c.in-Err.ensures.codes, ap length c.loop-pair.invariant.keyed, length-map (take i ps) (λ p. enc p.0), length-take i ps, c.loop-pair-test.true) in
    let step : codes_of enc (take (i + 1) ps) ≡ cs ++ c.as_slice.result ∷ [] =
    map_more (λ p. enc p.0) ps i d c.loop-pair-test.true
    ∙ ap (λ t. t ++ enc (get_or ps i d).0 ∷ []) (sym c.loop-pair.invariant.keyed)
    ∙ ap (λ x. cs ++ x ∷ []) (ap (λ p. enc p.0) (sym c.pair-item.is) ∙ sym (c.as_slice.ensures ∙ c.in-Ok-of.ensures.ok)) in
    subst (IsFirstListOutOfOrder (codes_of enc ps)) (sym count) (record {
      within = omega (arith, length-map ps (λ p. enc p.0), c.loop-pair-test.true);
      before = subst IsRising (c.loop-pair.invariant.keyed ∙ sym (take-map (λ p. enc p.0) i ps)) c.loop-pair.invariant.linked.rising;
      unsorted = λ h. c.in-Err.ensures.unsorted why.0 (subst IsRising (take-map (λ p. enc p.0) (i + 1) ps ∙ step) h);
    })

pub returns-in-Err-clause-full : goal.returns-in-Err-clause-full
returns-in-Err-clause-full g c = λ e.
    let enc = g.K.TrieKey.encoding in
    let ps = c.args.pairs.now in
    let i = c.loop-pair.pair-index in
    let full = c.in-Err.ensures.full (c.why_unsorted.ensures.full (cc e)) in
    omega (arith, full, ap length c.loop-pair.invariant.keyed, length-map (take i ps) (λ p. enc p.0), length-take i ps, c.loop-pair-test.true)

pub loop-pair-preserved : goal.loop-pair-preserved
loop-pair-preserved g c =
    let enc = g.K.TrieKey.encoding in
    let ps = c.args.pairs.now in
    let i = c.loop-pair.pair-index in
    let d = c.pair-item.result in
    let cs = c.loop-pair.codes in
    record {
      keyed = c.in_default-push_last.ensures.ok
          ∙ ap (λ x. cs ++ x ∷ []) (c.as_slice.ensures ∙ c.in-Ok-of.ensures.ok ∙ ap (λ p. enc p.0) c.pair-item.is)
          ∙ ap (λ t. t ++ enc (get_or ps i d).0 ∷ []) c.loop-pair.invariant.keyed
          ∙ sym (map_more (λ p. enc p.0) ps i d c.loop-pair-test.true);
      linked = c.in_default-push_last.ensures.linked;
      values = All-more (λ p. g.K.TrieKey.is_value p.0) ps i d c.loop-pair-test.true c.loop-pair.invariant.values (subst (λ p. g.K.TrieKey.is_value p.0) c.pair-item.is c.in-Ok-of.ensures.value);
    }

pub returns-in-Ok-finish-clause-ok : goal.returns-in-Ok-finish-clause-ok
returns-in-Ok-finish-clause-ok g c = record {
  keyed = c.finish.ensures.same ∙ c.loop-pair.invariant.keyed ∙ ap (codes_of g.K.TrieKey.encoding) (take_all c.loop-pair.pair-index c.args.pairs.now (omega (arith, c.loop-pair-test.false)));
  linked = subst (λ cs. IsLinked cs c.loop-pair.parents.items) (sym c.finish.ensures.same) c.loop-pair.invariant.linked;
}

pub returns-in-Ok-finish-clause-values : goal.returns-in-Ok-finish-clause-values
returns-in-Ok-finish-clause-values g c =
    subst (All (λ p. g.K.TrieKey.is_value p.0)) (take_all c.loop-pair.pair-index c.args.pairs.now (omega (arith, c.loop-pair-test.false))) c.loop-pair.invariant.values
