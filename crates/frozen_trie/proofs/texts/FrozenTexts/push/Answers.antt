use Rattle.std.proofs.Common.{◌≡◌, ◌++◌, [], ◌∷◌, false, true, true≢false, refl, sym, ap, subst, ◌∙◌, arith}
use Rattle.std.specs.FinMap as fin
use Rattle.nibble_map.specs.Lists.{IsRising}
use Rattle.nibble_map.specs.Nibbles.{nibbles}
use Rattle.radix_trie.specs.Views.{pairs_below}
use Rattle.encoded_keys.specs.Codes.{IsLinked}
use Rattle.frozen_trie.specs.Texts.{AreTexts, IsBehindAll, text_map}
use Rattle.frozen_trie.proofs.TextLemmas.Growth.{all_texts_more, list_behind, lists_rise, text_map_more, texts_more}
use Rattle.frozen_trie.proofs.TextLemmas.Pairs.{code_count}
use Rattle.frozen_trie.proofs.texts.FrozenTexts.push.Goals as goal

pub invariant_of-self-in-Ok : goal.invariant_of-self-in-Ok
invariant_of-self-in-Ok g c =
    let cs = c.self.inside.codes in
    let vs = c.self.inside.values.items in
    let bs = c.args.key.now in
    let v = c.args.value in
    let links = c.push_linked.new.parents.items in
    let codes = c.in-Ok.ensures.ok ∙ ap (λ q. cs ++ q ∷ []) c.from_bytes-list.ensures in
    let values = c.push_reserved.ensures.items ∙ ap (λ xs. xs ++ v ∷ []) c.reserve.ensures.items in
    subst (λ ds. AreTexts ds c.push_reserved.new.self.items links) (sym codes) (subst (λ xs. AreTexts (cs ++ nibbles bs ∷ []) xs links) (sym values)
    (texts_more cs vs _ c.self.invariant bs v links (subst (λ ds. IsLinked ds links) codes c.in-Ok.ensures.linked)))

pub returns-in-Ok-clause-stored : goal.returns-in-Ok-clause-stored
returns-in-Ok-clause-stored g c =
    let cs = c.self.inside.codes in
    let vs = c.self.inside.values.items in
    let bs = c.args.key.now in
    let v = c.args.value in
    let codes = c.in-Ok.ensures.ok ∙ ap (λ q. cs ++ q ∷ []) c.from_bytes-list.ensures in
    let values = c.push_reserved.ensures.items ∙ ap (λ xs. xs ++ v ∷ []) c.reserve.ensures.items in
    let rises = subst IsRising codes c.in-Ok.ensures.linked.rising in
    ap (λ ds. text_map ds c.push_reserved.new.self.items) codes ∙ ap (text_map (cs ++ nibbles bs ∷ [])) values
    ∙ rw (← c.self.view_is) (text_map_more cs vs _ c.self.invariant bs v rises)

pub returns-in-Ok-clause-pairs : goal.returns-in-Ok-clause-pairs
returns-in-Ok-clause-pairs g c =
    let cs = c.self.inside.codes in
    let vs = c.self.inside.values.items in
    let bs = c.args.key.now in
    let v = c.args.value in
    let codes = c.in-Ok.ensures.ok ∙ ap (λ q. cs ++ q ∷ []) c.from_bytes-list.ensures in
    let values = c.push_reserved.ensures.items ∙ ap (λ xs. xs ++ v ∷ []) c.reserve.ensures.items in
    let rises = subst IsRising codes c.in-Ok.ensures.linked.rising in
    ap (λ ds. pairs_below (text_map ds c.push_reserved.new.self.items) []) codes ∙ ap (λ xs. pairs_below (text_map (cs ++ nibbles bs ∷ []) xs) []) values
    ∙ rw (← c.self.view_is) (all_texts_more cs vs _ c.self.invariant bs v rises)

pub returns-in-Ok-clause-behind : goal.returns-in-Ok-clause-behind
returns-in-Ok-clause-behind g c =
    let cs = c.self.inside.codes in
    let q = nibbles c.args.key.now in
    let codes = c.in-Ok.ensures.ok ∙ ap (λ x. cs ++ x ∷ []) c.from_bytes-list.ensures in
    subst (λ m. IsBehindAll m q) c.self.view_is (list_behind _ _ _ c.self.invariant q (subst IsRising codes c.in-Ok.ensures.linked.rising))

pub returns-then-is_full-clause-full : goal.returns-then-is_full-clause-full
returns-then-is_full-clause-full g c = λ e. omega (arith, c.is_full.ensures.full c.if-is_full.true, code_count _ _ _ c.self.invariant, ap fin.len c.self.view_is)

pub returns-then-not-follows-clause-unsorted : goal.returns-then-not-follows-clause-unsorted
returns-then-not-follows-clause-unsorted g c = λ e behind.
    let q = nibbles c.args.key.now in
    let rises = subst (λ x. IsRising (c.self.inside.codes ++ x ∷ [])) (sym c.from_bytes-list.ensures) (lists_rise _ _ _ c.self.invariant q (subst (λ m. IsBehindAll m q) (sym c.self.view_is) behind)) in
    let no : false ≡ true = c.if-not-follows.ensures.1 rises in true≢false (sym no)

pub returns-then-not-follows-clause-room : goal.returns-then-not-follows-clause-room
returns-then-not-follows-clause-room g c = λ e. omega (arith, c.is_full.ensures.room c.if-is_full.false, code_count _ _ _ c.self.invariant, ap fin.len c.self.view_is)

pub returns-then-is_err-clause-room : goal.returns-then-is_err-clause-room
returns-then-is_err-clause-room g c = λ e. omega (arith, c.is_full.ensures.room c.if-is_full.false, code_count _ _ _ c.self.invariant, ap fin.len c.self.view_is)

pub returns-then-is_err-clause-memory : goal.returns-then-is_err-clause-memory
returns-then-is_err-clause-memory g c = λ e.
    let q = nibbles c.args.key.now in
    let rises = c.if-not-follows.ensures.0 refl in
    subst (λ m. IsBehindAll m q) c.self.view_is (list_behind _ _ _ c.self.invariant q (subst (λ x. IsRising (c.self.inside.codes ++ x ∷ [])) c.from_bytes-list.ensures rises))

pub returns-in-Err-clause-room : goal.returns-in-Err-clause-room
returns-in-Err-clause-room g c = λ e. omega (arith, c.is_full.ensures.room c.if-is_full.false, code_count _ _ _ c.self.invariant, ap fin.len c.self.view_is)

pub returns-in-Err-clause-memory : goal.returns-in-Err-clause-memory
returns-in-Err-clause-memory g c = λ e.
    let q = nibbles c.args.key.now in
    let rises = c.if-not-follows.ensures.0 refl in
    subst (λ m. IsBehindAll m q) c.self.view_is (list_behind _ _ _ c.self.invariant q (subst (λ x. IsRising (c.self.inside.codes ++ x ∷ [])) c.from_bytes-list.ensures rises))
