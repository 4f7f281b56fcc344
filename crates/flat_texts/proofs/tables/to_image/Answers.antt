use Rattle.std.proofs.Common.{◌≡◌, [], ◌++◌, ◌∷◌, drop, length, take, map as each, ap, sym, ◌∙◌, arith}
use Rattle.std.proofs.lemmas.List.{map_push, take-append-le, take_all}
use Rattle.radix_trie.specs.Views.{pairs_below}
use Rattle.frozen_trie.proofs.FrozenLemmas.Whole.{count_whole}
use Rattle.flat_texts.specs.TextImages.{image_pairs, given_pair}
use Rattle.flat_texts.specs.declared.pair.Pair.{Pair}
use Rattle.flat_texts.proofs.TableLemmas.{taken_next}
use Rattle.flat_texts.proofs.tables.to_image.Goals as goal

pub loop-at-preserved : goal.loop-at-preserved
loop-at-preserved c =
    let all = pairs_below c.args.texts.now [] in
    let pair : Pair = record { key = c.in-Some.key; value = c.in-Some.value.now } in
    ap (each given_pair) c.in-Ok.ensures.items ∙ map_push given_pair c.loop-at.pairs.items pair ∙ ap (λ xs. xs ++ given_pair pair ∷ []) c.loop-at.invariant
    ∙ sym (taken_next all c.loop-at.at (given_pair pair) c.in-Some.ensures.pair)

pub returns-in-Ok-write-clause-pairs : goal.returns-in-Ok-write-clause-pairs
returns-in-Ok-write-clause-pairs c =
    let all = pairs_below c.args.texts.now [] in
    let same : take c.in-Ok-from_elem.out.len (c.write.new.out ++ drop (length c.write.new.out) c.in-Ok-from_elem.out.items) ≡ c.write.new.out =
    (let long : c.in-Ok-from_elem.out.len ≡ length c.write.new.out = omega (arith, c.write.auto.out, c.deref_mut.ensures.len) in
    let rest = drop (length c.write.new.out) c.in-Ok-from_elem.out.items in
    ap (λ k. take k (c.write.new.out ++ rest)) long ∙ take-append-le (length c.write.new.out) c.write.new.out rest (omega arith) ∙ take_all (length c.write.new.out) c.write.new.out (omega arith)) in
    ap image_pairs same ∙ c.in-Ok-write.ensures.pairs ∙ ap (each given_pair) c.deref-2.ensures.value ∙ c.loop-at.invariant
    ∙ take_all c.loop-at.at all (omega (arith, c.loop-at-test.false, c.len-at-end.ensures, count_whole c.args.texts.now))
