use Rattle.std.proofs.Common.{◌≡◌, ℕ, List, ◌+◌, ◌-◌, ◌≤◌, ◌++◌, Some, ap, append_assoc, arith, cond, drop, false, length, subst, sym, ◌∙◌}
use Rattle.std.proofs.lemmas.Result.{IfOk-weaker}
use Rattle.radix_nodes.specs.Nodes.{fragment_of, tree_of}
use Rattle.std.specs.declared.ops.Bound.{Bound}
use Rattle.nibble_map.specs.Maps.{PairMap}
use Rattle.radix_trie.specs.Limits.{AreLimits, IsLimit}
use Rattle.radix_trie.specs.Loci.{IsLocusIn}
use Rattle.radix_trie.specs.Views.{is_above, is_below, is_within, pairs_within}
use Rattle.radix_trie.specs.Walks.{bound_behind, bound_now, pairs_of_span, stacked}
use Rattle.radix_trie.proofs.PathLemmas.Later.{found_none, found_part, nothing_found-passing}
use Rattle.radix_trie.proofs.PathLemmas.Limits.{front_size, none_above, reaches, within_limits}
use Rattle.radix_trie.proofs.PathLemmas.Loci.{found_full, found_is_small, found_placed}
use Rattle.radix_trie.proofs.WalkLemmas.Tested.{few_where}
use Rattle.radix_trie.proofs.locus.Locus.frames.Given.{Over}
use Rattle.radix_trie.proofs.locus.Locus.frames.Goals as goal

pub returns-in_default-clause-walk : goal.returns-in_default-clause-walk
returns-in_default-clause-walk g c = λ m p low high locus limits.
    ap stacked c.new.ensures.items
    ∙ nothing_found-passing g.K.TrieKey.encoding m p c.args.self.now.found locus.0 (is_within low high) c.in_default.is

pub returns-in_default-limits-clause-walk : goal.returns-in_default-limits-clause-walk
returns-in_default-limits-clause-walk g c = λ m p low high locus limits.
    let none = subst (AreLimits p low high) c.in_default-limits.is limits in
    let tail = drop c.in-Some.covered (fragment_of c.in-Some.node.now) in
    ap stacked c.new-in_default-limits.ensures.items
    ∙ found_none g.K.TrieKey.encoding m p c.args.self.now.found locus.0 c.in-Some.node c.in-Some.covered c.in-Some.is (is_within low high) (λ y. ap (is_within low high) (append_assoc p tail y) ∙ none (tail ++ y))

pub overflow_sub-front : goal.overflow_sub-front
overflow_sub-front g c =
    let limits = subst (AreLimits c.requires.1 c.requires.2 c.requires.3) c.in-Some-limits.is c.requires.5 in
    (front_size g.K.TrieKey.encoding c.requires.0 c.requires.1 c.args.self.now.found c.requires.4.0 c.in-Some.node c.in-Some.covered c.in-Some.is c.in-Some-limits.limits.depth limits.0).0

pub returns-in_default-lower_limit-clause-walk : goal.returns-in_default-lower_limit-clause-walk
returns-in_default-lower_limit-clause-walk g c = λ m p low high locus limits.
    let l = c.in-Some-limits.limits in
    let both = subst (AreLimits p low high) c.in-Some-limits.is limits in
    let front = l.depth - c.in-Some.covered in
    let at = (front_size g.K.TrieKey.encoding m p c.args.self.now.found locus.0 c.in-Some.node c.in-Some.covered c.in-Some.is l.depth both.0).1 in
    let f = fragment_of c.in-Some.node.now in
    ap stacked c.new-in_default-lower_limit.ensures.items
    ∙ found_none g.K.TrieKey.encoding m p c.args.self.now.found locus.0 c.in-Some.node c.in-Some.covered c.in-Some.is (is_within low high)
    (λ y. within_limits g.K.TrieKey.encoding m p c.args.self.now.found locus.0 c.in-Some.node c.in-Some.covered c.in-Some.is low high l both front at y
    ∙ ap (λ b. cond (is_below (bound_behind front (bound_now l.high)) (f ++ y)) b false) (c.in_default-lower_limit.ensures y)
    ∙ none_above (is_below (bound_behind front (bound_now l.high)) (f ++ y)))

pub returns-in_default-upper_limit-clause-walk : goal.returns-in_default-upper_limit-clause-walk
returns-in_default-upper_limit-clause-walk g c = λ m p low high locus limits.
    let l = c.in-Some-limits.limits in
    let both = subst (AreLimits p low high) c.in-Some-limits.is limits in
    let front = l.depth - c.in-Some.covered in
    let at = (front_size g.K.TrieKey.encoding m p c.args.self.now.found locus.0 c.in-Some.node c.in-Some.covered c.in-Some.is l.depth both.0).1 in
    let f = fragment_of c.in-Some.node.now in
    ap stacked c.new-in_default-upper_limit.ensures.items
    ∙ found_none g.K.TrieKey.encoding m p c.args.self.now.found locus.0 c.in-Some.node c.in-Some.covered c.in-Some.is (is_within low high)
    (λ y. within_limits g.K.TrieKey.encoding m p c.args.self.now.found locus.0 c.in-Some.node c.in-Some.covered c.in-Some.is low high l both front at y
    ∙ ap (λ b. cond b (is_above (bound_behind front (bound_now l.low)) (f ++ y)) false) (c.in_default-upper_limit.ensures y))

pub frames_within-requires-clause-placed : goal.frames_within-requires-clause-placed
frames_within-requires-clause-placed g c = found_placed g.K.TrieKey.encoding c.requires.0 c.requires.1 c.args.self.now.found c.requires.4.0 c.in-Some.node c.in-Some.covered c.in-Some.is

pub frames_within-requires-clause-full : goal.frames_within-requires-clause-full
frames_within-requires-clause-full g c = found_full g.K.TrieKey.encoding c.requires.0 c.requires.1 c.args.self.now.found c.requires.4.0 c.in-Some.node c.in-Some.covered c.in-Some.is

-- what the rows that are found have left are the pairs within the bounds
span_is : (g : Over) (c : goal.After-frames_within g) (m : PairMap g.row.K.Denot g.row.V.Denot) (p : List ℕ) (low high : Bound (List ℕ)) → IsLocusIn g.K.TrieKey.encoding m p c.args.self.now → AreLimits p low high c.args.limits
    → pairs_of_span (bound_behind c.max.result (bound_now c.in-Some-lower_limit.low)) (bound_behind c.max.result (bound_now c.in-Some-upper_limit.high)) (tree_of c.in-Some.node.now) ≡ pairs_within m p low high
span_is g c m p low high locus limits =
    let l = c.in-Some-limits.limits in
    let both = subst (AreLimits p low high) c.in-Some-limits.is limits in
    let front = l.depth - c.in-Some.covered in
    let at = (front_size g.K.TrieKey.encoding m p c.args.self.now.found locus.0 c.in-Some.node c.in-Some.covered c.in-Some.is l.depth both.0).1 in
    let f = fragment_of c.in-Some.node.now in
    let k = c.max.result in
    let lo = bound_now c.in-Some-lower_limit.low in
    let hi = bound_now c.in-Some-upper_limit.high in
    let lower : IsLimit is_above f front (bound_now l.low) (Some (lo, c.in-Some-lower_limit.low_depth)) = c.in-Some-lower_limit.ensures in
    let upper : IsLimit is_below f front (bound_now l.high) (Some (hi, c.in-Some-upper_limit.high_depth)) = c.in-Some-upper_limit.ensures in
    let most : k ≤ front + length f = omega (arith, c.max.ensures, lower.0, upper.0) in
    let low_at = (reaches lo f front c.in-Some-lower_limit.low_depth k lower.1 (omega (arith, c.max.ensures)) most).0 in
    let high_at = (reaches hi f front c.in-Some-upper_limit.high_depth k upper.1 (omega (arith, c.max.ensures)) most).0 in
    found_part g.K.TrieKey.encoding m p c.args.self.now.found locus.0 c.in-Some.node c.in-Some.covered c.in-Some.is (is_within low high) (is_within (bound_behind k lo) (bound_behind k hi))
    (λ y. within_limits g.K.TrieKey.encoding m p c.args.self.now.found locus.0 c.in-Some.node c.in-Some.covered c.in-Some.is low high l both front at y
    ∙ (λ i. cond (upper.2 y i) (lower.2 y i) false)
    ∙ (λ i. cond (is_below (sym high_at i) y) (is_above (sym low_at i) y) false))

pub returns-clause-walk : goal.returns-clause-walk
returns-clause-walk g c = λ m p low high locus limits.
    IfOk-weaker c.frames_within.result _ _ (λ frames is. is ∙ span_is g c m p low high locus limits) c.frames_within.ensures.pairs

pub returns-clause-countable : goal.returns-clause-countable
returns-clause-countable g c =
    let k = c.max.result in
    let small = found_is_small g.K.TrieKey.encoding c.requires.0 c.requires.1 c.args.self.now.found c.requires.4.0 c.in-Some.node c.in-Some.covered c.in-Some.is c.requires.4.1 in
    let few = few_where (is_within (bound_behind k (bound_now c.in-Some-lower_limit.low)) (bound_behind k (bound_now c.in-Some-upper_limit.high))) (tree_of c.in-Some.node.now) in
    IfOk-weaker c.frames_within.result _ _ (λ frames is. omega (arith, ap length is, few, small)) c.frames_within.ensures.pairs

pub returns-clause-none : goal.returns-clause-none
returns-clause-none g c = λ m p low high locus limits none. c.frames_within.ensures.none (span_is g c m p low high locus limits ∙ none)
