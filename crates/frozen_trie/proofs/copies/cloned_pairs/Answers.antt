-- A clone more for each pair of the walk.
use Rattle.std.proofs.Common.{◌≡◌, List, [], ◌∷◌, ◌++◌, ℕ, ap, append-nil, append_assoc, sym, subst, ◌∙◌}
use Rattle.std.proofs.lemmas.List.{map-append}
use Rattle.std.specs.FinMap as fin
use Rattle.nibble_map.specs.Copies.{IsPairClone}
use Rattle.masked_tree.specs.Same.{AreEntryCopies}
use Rattle.radix_trie.specs.Views.{pairs_below}
use Rattle.radix_trie.proofs.PathLemmas.Loci.{below-nil, no_pairs_below}
use Rattle.radix_trie.proofs.WalkLemmas.Pages.{next_pair, no_next_pair}
use Rattle.frozen_trie.specs.Frozen.{coded_pairs}
use Rattle.frozen_trie.proofs.copies.cloned_pairs.Goals as goal

-- one pair more, and what may come behind it, are those so far and what may come behind them
one_more : {K V : Type 0} (enc : K → List ℕ) (pairs pushed : List (K × V)) (q : K × V) (more : List (List ℕ × (K × V))) → pushed ≡ pairs ++ q ∷ []
    → coded_pairs enc pushed ++ more ≡ coded_pairs enc pairs ++ (enc q.0, q) ∷ more
one_more enc pairs pushed q more is =
    ap (λ qs. coded_pairs enc qs ++ more) is ∙ ap (λ es. es ++ more) (map-append (λ p. (enc p.0, p)) pairs (q ∷ []))
    ∙ append_assoc (coded_pairs enc pairs) ((enc q.0, q) ∷ []) more

pub returns-clause-copies : goal.returns-clause-copies
returns-clause-copies g c =
    let enc = g.K.TrieKey.encoding in
    let R = IsPairClone g.K.Clone.is_clone g.V.Clone.is_clone in
    let over = no_next_pair c.loop-walk.walk c.in_ok-key.field-0 c.in_ok-key.ensures.pair c.in_default.is in
    subst (AreEntryCopies R (coded_pairs enc (pairs_below c.args.trie.now []))) (append-nil (coded_pairs enc c.loop-walk.pairs.items))
    (c.loop-walk.invariant [] (subst (λ ps. AreEntryCopies R (coded_pairs enc ps) []) (sym over) tt))

pub loop-walk-preserved : goal.loop-walk-preserved
loop-walk-preserved g c = λ more copied.
    let enc = g.K.TrieKey.encoding in
    let R = IsPairClone g.K.Clone.is_clone g.V.Clone.is_clone in
    let rest = c.next.new.self in
    let q : _ × _ = (c.in_ok-clone.field-0, c.in_ok-clone-2.field-0) in
    let key = c.in_ok-clone.ensures.cases in
    let step = next_pair c.loop-walk.walk c.in_ok-key.field-0 c.in_ok-key.ensures.pair (c.in-Some.key, c.in-Some.value) rest c.in-Some.is c.in_ok-key.ensures.rest in
    subst (AreEntryCopies R (coded_pairs enc (pairs_below c.args.trie.now []))) (sym (one_more enc c.loop-walk.pairs.items c.push.new.self.items q more c.in_ok-push.ensures.items))
    (c.loop-walk.invariant ((enc q.0, q) ∷ more)
    (subst (λ ps. AreEntryCopies R (coded_pairs enc ps) ((enc q.0, q) ∷ more)) (sym step)
    (c.requires.same_encoding c.in-Some.key.now q.0 key, (key, c.in_ok-clone-2.ensures.cases), copied)))

pub returns-then-is_empty-clause-copies : goal.returns-then-is_empty-clause-copies
returns-then-is_empty-clause-copies g c =
    let enc = g.K.TrieKey.encoding in
    let R = IsPairClone g.K.Clone.is_clone g.V.Clone.is_clone in
    let m = c.args.trie.now in
    let none : pairs_below m [] ≡ [] = no_pairs_below m [] (ap fin.len (below-nil m) ∙ c.is_empty.ensures.0 c.if-is_empty.true) in
    subst (λ ps. AreEntryCopies R (coded_pairs enc ps) (coded_pairs enc c.new.result.items)) (sym none) (subst (λ qs. AreEntryCopies R [] (coded_pairs enc qs)) (sym c.new.ensures.items) tt)
