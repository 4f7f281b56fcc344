use Rattle.std.proofs.Common.{◌≡◌, ◌-◌, ◌<◌, [], true, false, length, map as each, ap, sym, ◌∙◌, arith}
use Rattle.std.specs.Ordering.{is_lt}
use Rattle.nibble_map.specs.Nibbles.{nibbles}
use Rattle.encoded_keys.specs.Codes.{code_at, is_before}
use Rattle.frozen_trie.specs.Frozen.{codes_of}
use Rattle.encoded_keys.proofs.CodeLemmas.Order.{before_by_test, before_passes}
use Rattle.flat_texts.specs.TextImages.{given_pair}
use Rattle.flat_texts.specs.declared.pair.Pair.{Pair}
use Rattle.flat_texts.proofs.WriteLemmas.{code_of, length-pair_codes, next_before, next_rises, one_rises}
use Rattle.flat_texts.proofs.writing.unsorted.Goals as goal

pub loop-at-init : goal.loop-at-init
loop-at-init c = record { some = omega arith; rising = one_rises (codes_of nibbles (each given_pair c.args.pairs.now)) }

pub loop-at-preserved : goal.loop-at-preserved
loop-at-preserved c =
    let ps = c.args.pairs.now in
    let cs = codes_of nibbles (each given_pair ps) in
    let at = c.loop-at.at in
    let none : Pair = record { key = record { ref_ptr = (0, 0); now = [] }; value = 0 } in
    let last = c.from_bytes-last.ensures ∙ sym (code_of ps (at - 1) none (omega (arith, c.loop-at-test.true))) in
    let own = c.from_bytes-own.ensures ∙ sym (code_of ps at none c.loop-at-test.true) in
    let test : c.is_lt.result ≡ is_before (code_at cs (at - 1)) (code_at cs at) =
    c.is_lt.ensures ∙ ap is_lt c.cmp.ensures ∙ ap (λ x. is_before x c.from_bytes-own.result) last ∙ ap (is_before (code_at cs (at - 1))) own in
    record {
      some = omega arith;
      rising = next_rises cs at (omega (arith, c.loop-at.invariant.some)) (omega (arith, c.loop-at-test.true, length-pair_codes ps)) c.loop-at.invariant.rising
          (before_by_test _ _ (sym test ∙ c.if-not-is_lt.false));
    }

pub returns-then-not-is_lt : goal.returns-then-not-is_lt
returns-then-not-is_lt c =
    let ps = c.args.pairs.now in
    let cs = codes_of nibbles (each given_pair ps) in
    let at = c.loop-at.at in
    let none : Pair = record { key = record { ref_ptr = (0, 0); now = [] }; value = 0 } in
    let last = c.from_bytes-last.ensures ∙ sym (code_of ps (at - 1) none (omega (arith, c.loop-at-test.true))) in
    let own = c.from_bytes-own.ensures ∙ sym (code_of ps at none c.loop-at-test.true) in
    let test : c.is_lt.result ≡ is_before (code_at cs (at - 1)) (code_at cs at) =
    c.is_lt.ensures ∙ ap is_lt c.cmp.ensures ∙ ap (λ x. is_before x c.from_bytes-own.result) last ∙ ap (is_before (code_at cs (at - 1))) own in
    let inside : at < length cs = omega (arith, c.loop-at-test.true, length-pair_codes ps) in
    record {
      within = inside;
      before = c.loop-at.invariant.rising;
      unsorted = λ rises.
          let no : true ≡ false = sym (before_passes _ _ (next_before cs at (omega (arith, c.loop-at.invariant.some)) inside rises)) ∙ sym test ∙ c.if-not-is_lt.true in
          cc no;
    }
