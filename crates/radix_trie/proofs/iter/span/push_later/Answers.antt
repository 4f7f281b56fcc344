use Rattle.std.proofs.Common.{◌++◌, ap, subst, sym, ◌∙◌}
use Rattle.std.specs.declared.ops.Bound.TheVariants.{Unbounded}
use Rattle.radix_nodes.specs.Nodes.{tree_of}
use Rattle.radix_trie.specs.Walks.{LeadsOn, bound_now, stacked, way_low}
use Rattle.radix_trie.proofs.PathLemmas.Loci.{false_is_not_true}
use Rattle.radix_trie.proofs.WalkLemmas.Stacks.{all_bare, rest_on}
use Rattle.radix_trie.proofs.iter.span.push_later.Goals as goal

pub returns-in_err-push_frame-clause-none : goal.returns-in_err-push_frame-clause-none
returns-in_err-push_frame-clause-none g c = λ none.
    let p = c.part-parting in
    absurd (false_is_not_true (c.in_err-push_frame.ensures.none (all_bare (bound_now c.args.low) Unbounded p.result p.ensures.pairs (c.loop-child.invariant.none none)).1))

pub loop-child-preserved : goal.loop-child-preserved
loop-child-preserved g c =
    let p = c.part-parting in
    let low = bound_now c.args.low in
    let leads = subst (LeadsOn low (tree_of c.loop-child.at.now)) c.in-Some.is p.ensures.low in
    let left = stacked c.push_frame.new.stack.items in
    record {
      reaches = leads.0;
      placed = leads.1;
      full = leads.2;
      rows = c.in_ok-push_frame.ensures.rows;
      same = ap (λ way. way_low low way ++ left) (sym c.in-Some.is)
          ∙ rest_on low Unbounded p.result p.ensures.pairs (stacked c.loop-child.stack.items) left p.ensures.high_open c.in_ok-push_frame.ensures.last ∙ c.loop-child.invariant.same;
      none = λ none. ap (way_low low) (sym c.in-Some.is) ∙ (all_bare low Unbounded p.result p.ensures.pairs (c.loop-child.invariant.none none)).0;
    }
