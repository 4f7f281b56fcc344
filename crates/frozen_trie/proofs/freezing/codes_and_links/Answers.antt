use Rattle.std.proofs.Common.{◌≡◌, ◌+◌, ◌++◌, [], ◌∷◌, List, ℕ, length, sym, ap, subst, ◌∙◌, append_assoc, append-nil, arith}
use Rattle.std.proofs.lemmas.List.{length-append, length-map}
use Rattle.nibble_map.specs.Lists.{IsRising}
use Rattle.radix_trie.proofs.WalkLemmas.Pages.{next_pair, no_next_pair}
use Rattle.encoded_keys.specs.Codes.{IsLinked}
use Rattle.frozen_trie.specs.Frozen.{codes_of}
use Rattle.encoded_keys.proofs.CodeLemmas.Appended.{rising_front}
use Rattle.frozen_trie.proofs.FrozenLemmas.Whole.{count_whole}
use Rattle.frozen_trie.proofs.freezing.codes_and_links.Goals as goal

-- the pairs whose encodings are there, and those that are left, are all pairs
all_counted : {K V : Type 0} (enc : K → List ℕ) (cs : List (List ℕ)) (left ps : List (K × V)) → cs ++ codes_of enc left ≡ codes_of enc ps → length cs + length left ≡ length ps
all_counted enc cs left ps e =
    omega (arith, ap length e, length-append cs (codes_of enc left), length-map left (λ p. enc p.0), length-map ps (λ p. enc p.0))

pub returns-in-Err-clause-none : goal.returns-in-Err-clause-none
returns-in-Err-clause-none g c = λ none.
    let counted = all_counted g.K.TrieKey.encoding c.loop-key.codes c.loop-key.walk _ c.loop-key.invariant.keyed in
    c.in-Err.ensures.end (omega (arith, none, counted, count_whole c.args.trie.now))

pub returns-in_default-of-clause-none : goal.returns-in_default-of-clause-none
returns-in_default-of-clause-none g c = λ none.
    let counted = all_counted g.K.TrieKey.encoding c.loop-key.codes c.loop-key.walk _ c.loop-key.invariant.keyed in
    let step = next_pair c.loop-key.walk c.in-Ok-Some.field-0 c.in-Ok-Some.ensures.pair (c.in-Ok-Some.key, c.in-Ok-Some.field-0-0-1) c.next.new.self c.in-Ok-Some.field-0-is c.in-Ok-Some.ensures.rest in
    absurd (omega (arith, none, counted, ap length step, count_whole c.args.trie.now))

pub push_linked-requires-clause-few : goal.push_linked-requires-clause-few
push_linked-requires-clause-few g c =
    let counted = all_counted g.K.TrieKey.encoding c.loop-key.codes c.loop-key.walk _ c.loop-key.invariant.keyed in
    omega (arith, counted, count_whole c.args.trie.now, c.len.ensures)

pub push_linked-requires-clause-rising : goal.push_linked-requires-clause-rising
push_linked-requires-clause-rising g c =
    let enc = g.K.TrieKey.encoding in
    let cs = c.loop-key.codes in
    let rest = c.next.new.self in
    let step = next_pair c.loop-key.walk c.in-Ok-Some.field-0 c.in-Ok-Some.ensures.pair (c.in-Ok-Some.key, c.in-Ok-Some.field-0-0-1) rest c.in-Ok-Some.field-0-is c.in-Ok-Some.ensures.rest in
    let whole = append_assoc cs (c.as_slice.result ∷ []) (codes_of enc rest)
    ∙ ap (λ x. cs ++ x ∷ codes_of enc rest) (c.as_slice.ensures ∙ c.in-Ok-of.ensures.ok)
    ∙ ap (λ ps. cs ++ codes_of enc ps) (sym step) ∙ c.loop-key.invariant.keyed in
    rising_front (cs ++ c.as_slice.result ∷ []) (codes_of enc rest) (subst IsRising (sym whole) (c.keys_stand_at_their_encodings.ensures.rising []))

pub returns-in_default-push_linked-clause-none : goal.returns-in_default-push_linked-clause-none
returns-in_default-push_linked-clause-none g c = λ none.
    let counted = all_counted g.K.TrieKey.encoding c.loop-key.codes c.loop-key.walk _ c.loop-key.invariant.keyed in
    let step = next_pair c.loop-key.walk c.in-Ok-Some.field-0 c.in-Ok-Some.ensures.pair (c.in-Ok-Some.key, c.in-Ok-Some.field-0-0-1) c.next.new.self c.in-Ok-Some.field-0-is c.in-Ok-Some.ensures.rest in
    absurd (omega (arith, none, counted, ap length step, count_whole c.args.trie.now))

pub loop-key-smaller : goal.loop-key-smaller
loop-key-smaller g c =
    let step = next_pair c.loop-key.walk c.in-Ok-Some.field-0 c.in-Ok-Some.ensures.pair (c.in-Ok-Some.key, c.in-Ok-Some.field-0-0-1) c.next.new.self c.in-Ok-Some.field-0-is c.in-Ok-Some.ensures.rest in
    omega (arith, ap length step)

pub loop-key-preserved : goal.loop-key-preserved
loop-key-preserved g c =
    let enc = g.K.TrieKey.encoding in
    let cs = c.loop-key.codes in
    let rest = c.next.new.self in
    let step = next_pair c.loop-key.walk c.in-Ok-Some.field-0 c.in-Ok-Some.ensures.pair (c.in-Ok-Some.key, c.in-Ok-Some.field-0-0-1) rest c.in-Ok-Some.field-0-is c.in-Ok-Some.ensures.rest in
    record {
      keyed = ap (λ xs. xs ++ codes_of enc rest) c.in-Ok-push_linked.ensures.ok
          ∙ append_assoc cs (c.as_slice.result ∷ []) (codes_of enc rest)
          ∙ ap (λ x. cs ++ x ∷ codes_of enc rest) (c.as_slice.ensures ∙ c.in-Ok-of.ensures.ok)
          ∙ ap (λ ps. cs ++ codes_of enc ps) (sym step) ∙ c.loop-key.invariant.keyed;
      linked = c.in-Ok-push_linked.ensures.linked;
    }

pub returns-in-Ok-finish-clause-ok : goal.returns-in-Ok-finish-clause-ok
returns-in-Ok-finish-clause-ok g c =
    let over = no_next_pair c.loop-key.walk c.in-Ok-None.field-0 c.in-Ok-None.ensures.pair c.in-Ok-None.field-0-is in
    record {
      keyed = c.in-Ok-finish.ensures.same ∙ sym (append-nil c.loop-key.codes) ∙ ap (λ ps. c.loop-key.codes ++ codes_of g.K.TrieKey.encoding ps) (sym over) ∙ c.loop-key.invariant.keyed;
      linked = subst (λ cs. IsLinked cs c.loop-key.parents.items) (sym c.in-Ok-finish.ensures.same) c.loop-key.invariant.linked;
    }

pub returns-in-Err-finish-clause-none : goal.returns-in-Err-finish-clause-none
returns-in-Err-finish-clause-none g c = λ none.
    let counted = all_counted g.K.TrieKey.encoding c.loop-key.codes c.loop-key.walk _ c.loop-key.invariant.keyed in
    c.in-Err-finish.ensures.few (omega (arith, none, counted, count_whole c.args.trie.now))
