use Rattle.std.proofs.Common.{◌≡◌, ◌∙◌, ap, subst, sym}
use Rattle.std.specs.Prelude.{⊤}
use Rattle.radix_trie.specs.Building.{pairs_in_order, why_of, with_pairs}
use Rattle.radix_trie.specs.Keys.{IsKeyed}
use Rattle.radix_trie.specs.Refusals.{RefusesInsert}
use Rattle.radix_trie.proofs.ChangeLemmas.Keyed.{keyed_empty}
use Rattle.radix_trie.proofs.trie.Trie.from_iter.Goals as goal

pub returns-in-Ok-clause-pairs : goal.returns-in-Ok-clause-pairs
returns-in-Ok-clause-pairs g c =
    let r = c.in-Ok.ensures.pairs in
    (r.0, r.1, r.2, r.3 ∙ ap (λ m. with_pairs g.K.TrieKey.encoding m r.0.items) c.new-trie.ensures)

pub returns-in-Ok-clause-keyed : goal.returns-in-Ok-clause-keyed
returns-in-Ok-clause-keyed g c =
    let enc = g.K.TrieKey.encoding in
    let is = g.K.TrieKey.is_value in
    c.extend.ensures.keyed (subst (IsKeyed enc is) (sym c.new-trie.ensures) (keyed_empty enc is))

pub returns-in-Err-clause-why : goal.returns-in-Err-clause-why
returns-in-Err-clause-why g c =
    let enc = g.K.TrieKey.encoding in
    let r = c.in-Err.ensures.stopped in
    let others = r.2.0 in
    let last : g.row.K.Denot × g.row.V.Denot = (c.in-Err.error.key, c.in-Err.error.value) in
    let built : c.extend.new.self ≡ pairs_in_order enc others = r.2.2 ∙ ap (λ m. with_pairs enc m others) c.new-trie.ensures in
    let inline = g.K.TrieKey.is_inline last.0 in
    let why = subst (RefusesInsert c.extend.new.self (enc last.0) ⊤ inline) c.why_not_built.ensures c.in-Err.ensures.why in
    (r.0, r.1, (others, last, r.2.1, subst (λ m. RefusesInsert m (enc last.0) ⊤ inline (why_of c.why_not_built.result)) built why))
