use Rattle.std.proofs.Common.{◌∷◌, ◌++◌, [], ap, arith, length, sym, subst, ◌∙◌, append_assoc}
use Rattle.std.proofs.lemmas.Grind.{common_steps}
use Rattle.std.proofs.lemmas.List.{length-append}
use Rattle.std.specs.FinMap as fin
use Rattle.radix_trie.specs.Keys.{IsKeyed}
use Rattle.radix_trie.proofs.ChangeLemmas.Keyed.{keyed_inserted}
use Rattle.radix_trie.proofs.PathLemmas.Loci.{below-nil, no_pairs_below}
use Rattle.radix_trie.proofs.trie.Trie.merge.Goals as goal

pub returns-in-Err-clause-none : goal.returns-in-Err-clause-none
returns-in-Err-clause-none g c = λ none. c.in-Err.ensures.none (ap fin.len (below-nil c.args.other) ∙ none)

pub returns-in-Err-insert-clause-keyed : goal.returns-in-Err-insert-clause-keyed
returns-in-Err-insert-clause-keyed g c = λ h.
    subst (IsKeyed g.K.TrieKey.encoding g.K.TrieKey.is_value) (sym c.in-Err-insert.ensures.unchanged) (c.loop-key.invariant.keyed h)

pub returns-in-Err-insert-clause-none : goal.returns-in-Err-insert-clause-none
returns-in-Err-insert-clause-none g c = λ none.
    let s = c.loop-key.invariant.stored in
    let empty = no_pairs_below c.args.other [] (ap fin.len (below-nil c.args.other) ∙ none) in
    absurd (omega (arith, ap length empty, ap length s.1, length-append s.0, ap length c.in-Some.ensures.items))

pub returns-in-Err-insert-clause-stopped : goal.returns-in-Err-insert-clause-stopped
returns-in-Err-insert-clause-stopped g c =
    let s = c.loop-key.invariant.stored in
    let e = c.in-Err-insert.ensures in
    rw (e.handed_back.0, e.handed_back.1, e.unchanged) (s.0, s.1 ∙ ap (λ xs. s.0 ++ xs) c.in-Some.ensures.items, s.2, e.why)

pub loop-key-preserved-in_default-insert : goal.loop-key-preserved-in_default-insert
loop-key-preserved-in_default-insert g c =
    let s = c.loop-key.invariant.stored in
    let items = c.in-Some.ensures.items in
    let was = s.2 in
    let enc = g.K.TrieKey.encoding in
    let is = g.K.TrieKey.is_value in
    record {
      counted = grind (arith, common_steps);
      stored = (s.0 ++ (c.in-Some.key, c.in-Some.value) ∷ [], s.1 ∙ ap (λ xs. s.0 ++ xs) items ∙ sym (append_assoc s.0 _ _), grind (arith, common_steps));
      keyed = λ h. subst (IsKeyed enc is) (sym c.in_default-insert.ensures.stored) (keyed_inserted enc is c.loop-key.self c.in-Some.key c.in-Some.value (c.loop-key.invariant.keyed h) c.in_default-insert.ensures.is_value);
    }

pub loop-key-preserved-in_default-insert-2 : goal.loop-key-preserved-in_default-insert-2
loop-key-preserved-in_default-insert-2 g c =
    let s = c.loop-key.invariant.stored in
    let items = c.in-Some.ensures.items in
    let was = s.2 in
    let enc = g.K.TrieKey.encoding in
    let is = g.K.TrieKey.is_value in
    record {
      counted = grind (arith, common_steps);
      stored = (s.0 ++ (c.in-Some.key, c.in-Some.value) ∷ [], s.1 ∙ ap (λ xs. s.0 ++ xs) items ∙ sym (append_assoc s.0 _ _), grind (arith, common_steps));
      keyed = λ h. subst (IsKeyed enc is) (sym c.in_default-insert.ensures.stored) (keyed_inserted enc is c.loop-key.self c.in-Some.key c.in-Some.value (c.loop-key.invariant.keyed h) c.in_default-insert.ensures.is_value);
    }
