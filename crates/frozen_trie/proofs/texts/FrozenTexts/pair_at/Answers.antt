use Rattle.std.proofs.Common.{◌<◌, Some, length, sym, ap, ◌∙◌, arith}
use Rattle.std.specs.FinMap as fin
use Rattle.frozen_trie.proofs.TextLemmas.Pairs.{code_count, pair_found, text_short}
use Rattle.frozen_trie.proofs.texts.FrozenTexts.pair_at.Goals as goal

pub bytes_at-requires : goal.bytes_at-requires
bytes_at-requires g c = omega (arith, c.requires, code_count _ _ _ c.self.invariant, ap fin.len c.self.view_is)

pub index-requires : goal.index-requires
index-requires g c =
    omega (arith, c.requires, code_count _ _ _ c.self.invariant, ap fin.len c.self.view_is, c.self.inside.values.ok.0, c.self.invariant.valued)

pub returns-clause-pair : goal.returns-clause-pair
returns-clause-pair g c =
    let v = c.index.result.now in
    let inside : c.args.at < length c.self.inside.codes = omega (arith, c.requires, code_count _ _ _ c.self.invariant, ap fin.len c.self.view_is) in
    rw (← c.self.view_is) (pair_found _ _ _ c.self.invariant c.args.at v inside c.index.ensures ∙ ap (λ b. Some (b, v)) (sym c.bytes_at.ensures.bytes))

pub returns-clause-short : goal.returns-clause-short
returns-clause-short g c =
    let v = c.index.result.now in
    let inside : c.args.at < length c.self.inside.codes = omega (arith, c.requires, code_count _ _ _ c.self.invariant, ap fin.len c.self.view_is) in
    let short = text_short _ _ _ c.self.invariant c.args.at v inside c.index.ensures in
    omega (arith, ap length c.bytes_at.ensures.bytes, short c.bytes_at.ensures.few)
