use Rattle.std.proofs.Common.{◌≡◌, ◌+◌, ◌∷◌, subst, sym, ◌∙◌, arith}
use Rattle.nibble_map.specs.Lists.{IsPrefix}
use Rattle.nibble_map.specs.Nibbles.{nibbles}
use Rattle.sorted_tables.specs.Tables.{IsLastOf}
use Rattle.frozen_trie.specs.Frozen.{prefixes_up}
use Rattle.flat_texts.specs.TextImages.{image_map, key_code, pair_in}
use Rattle.flat_texts.proofs.MapLemmas.{pair_step, place_back}
use Rattle.flat_texts.proofs.reading.above.Goals as goal

pub returns-then-link-eq0-clause-walk : goal.returns-then-link-eq0-clause-walk
returns-then-link-eq0-clause-walk c = λ image l.
    let bs = c.args.image.now in
    pair_step bs image c.args.at 0 l (subst (IsLastOf (λ k. IsPrefix (key_code bs k) (key_code bs c.args.at)) c.args.at) (sym c.link_at-link.ensures ∙ c.if-link-eq0.true) (image.pairs c.args.at l).link)

pub returns-then-link-at-clause-walk : goal.returns-then-link-at-clause-walk
returns-then-link-at-clause-walk c = λ image l.
    let le = (image.pairs c.args.at l).link.within in
    absurd (omega (arith, le, c.link_at-link.ensures, c.if-link-at.true))

pub returns-clause-walk : goal.returns-clause-walk
returns-clause-walk c = λ image l.
    let bs = c.args.image.now in
    let link = c.link_at-link.result in
    subst (λ n. prefixes_up nibbles (image_map bs) (c.args.at + 1) ≡ pair_in bs c.args.at ∷ prefixes_up nibbles (image_map bs) n) (sym (place_back link (omega (arith, c.if-link-eq0.false))))
    (pair_step bs image c.args.at link l (subst (IsLastOf (λ k. IsPrefix (key_code bs k) (key_code bs c.args.at)) c.args.at) (sym c.link_at-link.ensures) (image.pairs c.args.at l).link))
