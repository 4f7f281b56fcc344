use Rattle.std.proofs.Common.{◌≡◌, ◌-◌, Some, [], length, slice_get, sym, ap, subst, arith}
use Rattle.std.specs.FinMap as fin
use Rattle.nibble_map.specs.Nibbles.{nibbles}
use Rattle.radix_trie.specs.Views.{pairs_below}
use Rattle.radix_trie.specs.Walks.{deref_pair}
use Rattle.encoded_keys.specs.Codes.{IsLastPrefix}
use Rattle.frozen_trie.proofs.TextLemmas.Pairs.{code_count, no_text_above, text_above}
use Rattle.frozen_trie.proofs.texts.FrozenTexts.longest_match.Goals as goal

pub returns-then-found-eq0 : goal.returns-then-found-eq0
returns-then-found-eq0 g c =
    let cs = c.self.inside.codes in
    let r = c.last_prefix-found.result in
    let last = subst (λ q. IsLastPrefix cs (length cs) q r) c.from_bytes.ensures c.last_prefix-found.ensures in
    record { pair = rw (← c.self.view_is) (no_text_above _ _ _ c.self.invariant (nibbles c.args.key.now) r c.if-found-eq0.true last) }

pub pair_at-requires : goal.pair_at-requires
pair_at-requires g c =
    omega (arith, c.last_prefix-found.ensures.within, c.if-found-eq0.false, code_count _ _ _ c.self.invariant, ap fin.len c.self.view_is)

pub returns : goal.returns
returns g c =
    let cs = c.self.inside.codes in
    let r = c.last_prefix-found.result in
    let x = deref_pair c.pair_at.result in
    let last = subst (λ q. IsLastPrefix cs (length cs) q r) c.from_bytes.ensures c.last_prefix-found.ensures in
    record {
      pair = rw (← c.self.view_is) (text_above _ _ _ c.self.invariant (nibbles c.args.key.now) r x (omega (arith, c.if-found-eq0.false)) last
          (subst (λ m. slice_get (pairs_below m []) (r - 1) ≡ Some x) (sym c.self.view_is) c.pair_at.ensures.pair));
    }
