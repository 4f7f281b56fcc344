use Rattle.std.proofs.Common.{◌++◌, ap, subst, sym, ◌∙◌}
use Rattle.std.specs.declared.ops.Bound.TheVariants.{Unbounded}
use Rattle.radix_nodes.specs.Nodes.{tree_of}
use Rattle.radix_trie.specs.Walks.{LeadsOn, bound_now, left_in, way_high}
use Rattle.radix_trie.proofs.PathLemmas.Loci.{false_is_not_true}
use Rattle.radix_trie.proofs.WalkLemmas.Stacks.{all_bare, rest_in}
use Rattle.radix_trie.proofs.iter.span.push_earlier.Goals as goal

pub returns-in_err-push_frame-clause-none : goal.returns-in_err-push_frame-clause-none
returns-in_err-push_frame-clause-none g c = λ none.
    let p = c.part-parting in
    absurd (false_is_not_true (c.in_err-push_frame.ensures.none (all_bare Unbounded (bound_now c.args.high) p.result p.ensures.pairs (c.loop-child.invariant.none none)).1))

pub loop-child-preserved : goal.loop-child-preserved
loop-child-preserved g c =
    let p = c.part-parting in
    let high = bound_now c.args.high in
    let leads = subst (LeadsOn high (tree_of c.loop-child.at.now)) c.in-Some.is p.ensures.high in
    let left = left_in c.push_frame.new.stack.items in
    record {
      reaches = leads.0;
      placed = leads.1;
      full = leads.2;
      rows = c.in_ok-push_frame.ensures.rows;
      same = ap (λ way. left ++ way_high high way) (sym c.in-Some.is)
          ∙ rest_in Unbounded high p.result p.ensures.pairs (left_in c.loop-child.list.items) left p.ensures.low_open c.in_ok-push_frame.ensures.below ∙ c.loop-child.invariant.same;
      none = λ none. ap (way_high high) (sym c.in-Some.is) ∙ (all_bare Unbounded high p.result p.ensures.pairs (c.loop-child.invariant.none none)).2;
    }
