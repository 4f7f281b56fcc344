use Rattle.std.proofs.Common.{◌≡◌, [], ◌∷◌, ◌++◌, arith, false, refl, rules, subst, sym}
use Rattle.std.proofs.lemmas.Grind.{common_steps}
use Rattle.std.specs.Iterator.{Yields}
use Rattle.std.proofs.iter.runs.Consumers.{total_runs}
use Rattle.std.proofs.iter.runs.Made.{run, to_item}
use Rattle.radix_trie.specs.Building.{with_pairs}
use Rattle.radix_trie.specs.Keys.{IsKeyed}
use Rattle.radix_trie.proofs.ChangeLemmas.Keyed.{keyed_inserted}
use Rattle.radix_trie.proofs.trie.Trie.extend.Goals as goal

pub returns-clause-pairs : goal.returns-clause-pairs
returns-clause-pairs g c =
    let steps = g.I.Iterator.next_gives in
    let ran = subst (λ s. Yields steps s c.loop-key.yielded c.loop-key.key-iterator) c.into_iter-key-iterator.ensures.into_iter_gives c.loop-key.yielded_by in
    total_runs steps c.args.iter (Unit {0}) (λ xs. c.loop-key.self ≡ with_pairs g.K.TrieKey.encoding c.args.self.now xs)
    (c.loop-key.yielded, (λ _. (c.next.new.self, (c.loop-key.key-iterator, ran, c.in-None.ensures.steps))), c.loop-key.invariant.built) tt

pub returns-in-Err-clause-stopped : goal.returns-in-Err-clause-stopped
returns-in-Err-clause-stopped g c =
    let steps = g.I.Iterator.next_gives in
    let others = c.loop-key.yielded in
    let last : g.row.K.Denot × g.row.V.Denot = (c.in-Some.key, c.in-Some.value) in
    let ran = subst (λ s. Yields steps s others c.loop-key.key-iterator) c.into_iter-key-iterator.ensures.into_iter_gives c.loop-key.yielded_by in
    rw (c.in-Err.ensures.handed_back.0, c.in-Err.ensures.handed_back.1, c.in-Err.ensures.unchanged) (
      run steps c.args.iter (others ++ last ∷ []) false (to_item steps c.args.iter c.next.new.self others last (c.loop-key.key-iterator, ran, c.in-Some.ensures.steps)),
      refl,
      (others, refl, c.loop-key.invariant.built),
    )

pub returns-in-Err-clause-why : goal.returns-in-Err-clause-why
returns-in-Err-clause-why g c = rw (c.in-Err.ensures.unchanged, c.in-Err.ensures.handed_back.0) c.in-Err.ensures.why

pub returns-in-Err-clause-keyed : goal.returns-in-Err-clause-keyed
returns-in-Err-clause-keyed g c = λ h. subst (IsKeyed g.K.TrieKey.encoding g.K.TrieKey.is_value) (sym c.in-Err.ensures.unchanged) (c.loop-key.invariant.keyed h)

pub loop-key-preserved-in_default : goal.loop-key-preserved-in_default
loop-key-preserved-in_default g c =
    let enc = g.K.TrieKey.encoding in
    let is = g.K.TrieKey.is_value in
    record {
      can = search rules;
      ends = search rules;
      built = grind (arith, common_steps);
      keyed = λ h. subst (IsKeyed enc is) (sym c.in_default.ensures.stored) (keyed_inserted enc is c.loop-key.self c.in-Some.key c.in-Some.value (c.loop-key.invariant.keyed h) c.in_default.ensures.is_value);
    }

pub loop-key-preserved-in_default-2 : goal.loop-key-preserved-in_default-2
loop-key-preserved-in_default-2 g c =
    let enc = g.K.TrieKey.encoding in
    let is = g.K.TrieKey.is_value in
    record {
      can = search rules;
      ends = search rules;
      built = grind (arith, common_steps);
      keyed = λ h. subst (IsKeyed enc is) (sym c.in_default.ensures.stored) (keyed_inserted enc is c.loop-key.self c.in-Some.key c.in-Some.value (c.loop-key.invariant.keyed h) c.in_default.ensures.is_value);
    }
