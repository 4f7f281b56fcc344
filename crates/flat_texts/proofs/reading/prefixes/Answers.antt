use Rattle.std.proofs.Common.{◌≡◌, ◌++◌, refl, suc, ◌+◌, ◌-◌, map as each, take, set, ap, sym, ◌∙◌, arith}
use Rattle.std.proofs.lemmas.List.{get_or-set_other}
use Rattle.nibble_map.specs.Nibbles.{nibbles}
use Rattle.frozen_trie.specs.Frozen.{prefixes_up}
use Rattle.flat_texts.specs.TextImages.{image_map, pair_in}
use Rattle.flat_texts.proofs.MapLemmas.{put_next, walk_from, walk_up}
use Rattle.flat_texts.proofs.reading.prefixes.Goals as goal

pub loop-count-init : goal.loop-count-init
loop-count-init c = record {
  within = c.last_prefix-at.ensures.within;
  walk = λ image. walk_up c.args.image.now image (nibbles c.args.key.now) c.last_prefix-at.result (c.last_prefix-at.ensures.last image);
  rest = λ k l. refl;
}

pub loop-count-preserved : goal.loop-count-preserved
loop-count-preserved c =
    let bs = c.args.image.now in
    let n = c.loop-count.count in
    let at = c.loop-count.at in
    let xs = c.loop-count.found in
    record {
      within = omega (arith, c.if-link-at.false, c.loop-count.invariant.within);
      walk = λ image.
          let next : n + 1 ≡ suc n = omega arith in
          let parents = prefixes_up nibbles (image_map bs) in
          ap (λ k. each (pair_in bs) (take k (set xs n (at - 1))) ++ parents c.link_at-link.result) next
          ∙ put_next (pair_in bs) xs n (at - 1) (parents c.link_at-link.result) (omega (arith, c.loop-count-test.true, c.loop-count.auto.found))
          ∙ ap (λ r. each (pair_in bs) (take n xs) ++ r)
          (sym (walk_from bs image at c.link_at-link.result (omega (arith, c.if-at-eq0.false)) (omega (arith, c.loop-count.invariant.within, c.in-Ok.ensures.plan.pairs)) c.link_at-link.ensures))
          ∙ c.loop-count.invariant.walk image;
      rest = λ k l. get_or-set_other xs n k (at - 1) 0 (λ e. omega (arith, e, l)) ∙ c.loop-count.invariant.rest k (omega (arith, l));
    }
