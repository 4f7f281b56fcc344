use Rattle.std.proofs.Common.{rules, ◌≡◌, ◌+◌, ◌≤◌, ◌∙◌, ap, sym, subst, length, arith}
use Rattle.std.specs.FinMap as fin
use Rattle.serde_json.specs.Data.{no_members}
use Rattle.serde_json.specs.Find.{get_member}
use Rattle.serde_json.specs.View.{members_view}
use Rattle.radix_trie.proofs.JsonLemmas.Objects.{len-insert-le, get-object_of, put_all, put_all_is, members_view-insert, texts_inserted, texts_empty, members_view-empty}
use Rattle.radix_trie.proofs.JsonLemmas.Texts.{text_encoding, AreTexts}
use Rattle.radix_trie.proofs.json.from_members.Goals as goal

pub loop-key-init : goal.loop-key-init
loop-key-init c =
    let none = members_view-empty c.new-trie.result c.new-trie.ensures in
    let whole : put_all c.into_iter-key-iterator.result no_members ≡ members_view c.args.members.now.entries = search (rules, put_all_is) in
    let len : fin.len c.new-trie.result ≡ 0 = ap fin.len c.new-trie.ensures ∙ fin.len-empty _ _ in
    let all = ap length c.into_iter-key-iterator.ensures.into_iter_gives in
    let rest = ap length c.iter-key-items.ensures.rest in
    record { texts = texts_empty c.new-trie.result c.new-trie.ensures; rest = ap (put_all c.into_iter-key-iterator.result) none ∙ whole; counted = omega (arith, len, all, rest) }

pub loop-key-preserved : goal.loop-key-preserved
loop-key-preserved c =
    let key = c.in_ok-clone.field-0 in
    let value = c.in_ok-clone-2.field-0 in
    let old = c.loop-key.trie in
    let stored : c.store.new.trie ≡ fin.insert old (text_encoding key) (key, value) = search rules in
    let grown = subst (λ m. fin.len m ≤ fin.len old + 1) (sym stored) (len-insert-le old (text_encoding key) (key, value)) in
    let inserted = members_view-insert key value old c.loop-key.invariant.texts in
    let next : put_all c.loop-key.key-iterator (members_view (fin.values old)) ≡ put_all c.next.new.self (members_view (fin.values c.store.new.trie)) = search rules in
    record {
      texts = subst (λ m. AreTexts (fin.entries m)) (sym stored) (texts_inserted key value old c.loop-key.invariant.texts);
      rest = sym next ∙ c.loop-key.invariant.rest;
      counted = omega (arith, grown, ap length c.in-Some.ensures.steps, c.loop-key.invariant.counted);
    }

pub returns-clause-members : goal.returns-clause-members
returns-clause-members c = λ name.
    let whole : members_view (fin.values c.loop-key.trie) ≡ members_view c.args.members.now.entries = search rules in
    sym (get-object_of c.loop-key.trie c.loop-key.invariant.texts name) ∙ ap (get_member name) whole

pub store-requires : goal.store-requires
store-requires c =
    let count = c.len-count.ensures in
    omega (arith, ap length c.in-Some.ensures.steps, c.loop-key.invariant.counted, count.len, count.small)
