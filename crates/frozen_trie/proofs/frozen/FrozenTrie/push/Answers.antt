use Rattle.std.proofs.Common.{◌≡◌, ◌++◌, [], ◌∷◌, false, true, true≢false, refl, length, sym, ap, subst, ◌∙◌, arith}
use Rattle.std.specs.FinMap as fin
use Rattle.nibble_map.specs.Lists.{IsRising}
use Rattle.radix_trie.specs.Views.{pairs_below}
use Rattle.frozen_trie.specs.Frozen.{map_of_pairs}
use Rattle.frozen_trie.specs.Texts.{IsBehindAll}
use Rattle.frozen_trie.proofs.FrozenLemmas.Queries.{as_many, whole_is}
use Rattle.frozen_trie.proofs.FrozenLemmas.Rows.{len_is}
use Rattle.frozen_trie.proofs.TextLemmas.Appended.{behind_if_rising, codes_of-more, inserted_last, rising_if_behind}
use Rattle.frozen_trie.proofs.frozen.FrozenTrie.push.Goals as goal

pub returns-in-Ok-push_linked-clause-stored : goal.returns-in-Ok-push_linked-clause-stored
returns-in-Ok-push_linked-clause-stored g c =
    let enc = g.K.TrieKey.encoding in
    let ps = c.self.inside.pairs.items in
    let key = c.args.key in
    let p : g.row.K.Denot × g.row.V.Denot = (key, c.args.value) in
    let rises = subst IsRising c.self.invariant.keyed c.self.invariant.linked.rising in
    let codes = c.in-Ok-push_linked.ensures.ok ∙ ap (λ x. c.self.inside.codes ++ x ∷ []) (c.as_slice-list.ensures ∙ c.in-Ok.ensures.ok) ∙ ap (λ cs. cs ++ enc key ∷ []) c.self.invariant.keyed in
    let more = subst IsRising (codes ∙ sym (codes_of-more enc ps rises p)) c.in-Ok-push_linked.ensures.linked.rising in
    ap (map_of_pairs enc) (c.push_reserved.ensures.items ∙ ap (λ xs. xs ++ p ∷ []) c.reserve.ensures.items)
    ∙ sym (inserted_last enc ps rises p more) ∙ ap (λ m. fin.insert m (enc key) p) c.self.view_is

pub returns-in-Ok-push_linked-clause-pairs : goal.returns-in-Ok-push_linked-clause-pairs
returns-in-Ok-push_linked-clause-pairs g c =
    let enc = g.K.TrieKey.encoding in
    let ps = c.self.inside.pairs.items in
    let key = c.args.key in
    let p : g.row.K.Denot × g.row.V.Denot = (key, c.args.value) in
    let rises = subst IsRising c.self.invariant.keyed c.self.invariant.linked.rising in
    let codes = c.in-Ok-push_linked.ensures.ok ∙ ap (λ x. c.self.inside.codes ++ x ∷ []) (c.as_slice-list.ensures ∙ c.in-Ok.ensures.ok) ∙ ap (λ cs. cs ++ enc key ∷ []) c.self.invariant.keyed in
    let more = subst IsRising (codes ∙ sym (codes_of-more enc ps rises p)) c.in-Ok-push_linked.ensures.linked.rising in
    ap (λ xs. pairs_below (map_of_pairs enc xs) []) (c.push_reserved.ensures.items ∙ ap (λ xs. xs ++ p ∷ []) c.reserve.ensures.items)
    ∙ whole_is enc (ps ++ p ∷ []) more ∙ ap (λ xs. xs ++ p ∷ []) (sym (whole_is enc ps rises)) ∙ ap (λ m. pairs_below m [] ++ p ∷ []) c.self.view_is

pub returns-in-Ok-push_linked-clause-behind : goal.returns-in-Ok-push_linked-clause-behind
returns-in-Ok-push_linked-clause-behind g c =
    let enc = g.K.TrieKey.encoding in
    let ps = c.self.inside.pairs.items in
    let key = c.args.key in
    let rises = subst IsRising c.self.invariant.keyed c.self.invariant.linked.rising in
    let codes = c.in-Ok-push_linked.ensures.ok ∙ ap (λ x. c.self.inside.codes ++ x ∷ []) (c.as_slice-list.ensures ∙ c.in-Ok.ensures.ok) ∙ ap (λ cs. cs ++ enc key ∷ []) c.self.invariant.keyed in
    subst (λ m. IsBehindAll m (enc key)) c.self.view_is (behind_if_rising enc ps rises (enc key) (subst IsRising codes c.in-Ok-push_linked.ensures.linked.rising))

pub returns-then-is_full-clause-full : goal.returns-then-is_full-clause-full
returns-then-is_full-clause-full g c = λ e.
    let enc = g.K.TrieKey.encoding in
    let ps = c.self.inside.pairs.items in
    let rises = subst IsRising c.self.invariant.keyed c.self.invariant.linked.rising in
    omega (arith, c.is_full.ensures.full c.if-is_full.true, ap length c.self.invariant.keyed, as_many enc ps rises, len_is enc ps rises, ap fin.len c.self.view_is)

pub returns-in_default-clause-room : goal.returns-in_default-clause-room
returns-in_default-clause-room g c = λ e.
    let enc = g.K.TrieKey.encoding in
    let ps = c.self.inside.pairs.items in
    let rises = subst IsRising c.self.invariant.keyed c.self.invariant.linked.rising in
    omega (arith, c.is_full.ensures.room c.if-is_full.false, ap length c.self.invariant.keyed, as_many enc ps rises, len_is enc ps rises, ap fin.len c.self.view_is)

pub returns-then-not-follows-clause-unsorted : goal.returns-then-not-follows-clause-unsorted
returns-then-not-follows-clause-unsorted g c = λ e behind.
    let enc = g.K.TrieKey.encoding in
    let ps = c.self.inside.pairs.items in
    let key = c.args.key in
    let rises = subst IsRising c.self.invariant.keyed c.self.invariant.linked.rising in
    let codes = ap (λ x. c.self.inside.codes ++ x ∷ []) (c.as_slice-list.ensures ∙ c.in-Ok.ensures.ok) ∙ ap (λ cs. cs ++ enc key ∷ []) c.self.invariant.keyed in
    let more = subst IsRising (sym codes) (rising_if_behind enc ps rises (enc key) (subst (λ m. IsBehindAll m (enc key)) (sym c.self.view_is) behind)) in
    let no : false ≡ true = c.if-not-follows.ensures.1 more in true≢false (sym no)

pub returns-then-not-follows-clause-room : goal.returns-then-not-follows-clause-room
returns-then-not-follows-clause-room g c = λ e.
    let enc = g.K.TrieKey.encoding in
    let ps = c.self.inside.pairs.items in
    let rises = subst IsRising c.self.invariant.keyed c.self.invariant.linked.rising in
    omega (arith, c.is_full.ensures.room c.if-is_full.false, ap length c.self.invariant.keyed, as_many enc ps rises, len_is enc ps rises, ap fin.len c.self.view_is)

pub returns-then-is_err-clause-room : goal.returns-then-is_err-clause-room
returns-then-is_err-clause-room g c = λ e.
    let enc = g.K.TrieKey.encoding in
    let ps = c.self.inside.pairs.items in
    let rises = subst IsRising c.self.invariant.keyed c.self.invariant.linked.rising in
    omega (arith, c.is_full.ensures.room c.if-is_full.false, ap length c.self.invariant.keyed, as_many enc ps rises, len_is enc ps rises, ap fin.len c.self.view_is)

pub returns-then-is_err-clause-memory : goal.returns-then-is_err-clause-memory
returns-then-is_err-clause-memory g c = λ e inline.
    let enc = g.K.TrieKey.encoding in
    let ps = c.self.inside.pairs.items in
    let key = c.args.key in
    let rises = subst IsRising c.self.invariant.keyed c.self.invariant.linked.rising in
    let codes = ap (λ x. c.self.inside.codes ++ x ∷ []) (c.as_slice-list.ensures ∙ c.in-Ok.ensures.ok) ∙ ap (λ cs. cs ++ enc key ∷ []) c.self.invariant.keyed in
    subst (λ m. IsBehindAll m (enc key)) c.self.view_is (behind_if_rising enc ps rises (enc key) (subst IsRising codes (c.if-not-follows.ensures.0 refl)))

pub returns-clause-room : goal.returns-clause-room
returns-clause-room g c = λ e.
    let enc = g.K.TrieKey.encoding in
    let ps = c.self.inside.pairs.items in
    let rises = subst IsRising c.self.invariant.keyed c.self.invariant.linked.rising in
    omega (arith, c.is_full.ensures.room c.if-is_full.false, ap length c.self.invariant.keyed, as_many enc ps rises, len_is enc ps rises, ap fin.len c.self.view_is)

pub returns-clause-memory : goal.returns-clause-memory
returns-clause-memory g c = λ e inline.
    let enc = g.K.TrieKey.encoding in
    let ps = c.self.inside.pairs.items in
    let key = c.args.key in
    let rises = subst IsRising c.self.invariant.keyed c.self.invariant.linked.rising in
    let codes = ap (λ x. c.self.inside.codes ++ x ∷ []) (c.as_slice-list.ensures ∙ c.in-Ok.ensures.ok) ∙ ap (λ cs. cs ++ enc key ∷ []) c.self.invariant.keyed in
    subst (λ m. IsBehindAll m (enc key)) c.self.view_is (behind_if_rising enc ps rises (enc key) (subst IsRising codes (c.if-not-follows.ensures.0 refl)))
