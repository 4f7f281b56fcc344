use Rattle.std.proofs.Common.{rules, arith, refl, ◌∙◌}
use Rattle.std.proofs.lemmas.Grind.{common_steps}
use Rattle.radix_trie.specs.Commands.{then_view}
use Rattle.radix_trie.proofs.CommandLemmas.{view_steps_at_start}
use Rattle.radix_trie.proofs.commands.in_view.run_view.Goals as goal

pub loop-command-init : goal.loop-command-init
loop-command-init g c = record {
  listed = search rules;
  counted = grind (arith, common_steps);
  room = grind (arith, common_steps);
  same = record { lender = refl; path = refl; prefix = refl };
  steps = view_steps_at_start _ _ _ _ _ c.requires.empty;
}

pub loop-command-preserved : goal.loop-command-preserved
loop-command-preserved g c = record {
  listed = grind (arith, common_steps);
  counted = grind (arith, common_steps);
  room = grind (arith, common_steps);
  same = record {
    lender = c.view_step-reply.ensures.same_view.lender ∙ c.loop-command.invariant.same.lender;
    path = c.view_step-reply.ensures.same_view.path ∙ c.loop-command.invariant.same.path;
    prefix = c.view_step-reply.ensures.same_view.prefix ∙ c.loop-command.invariant.same.prefix;
  };
  steps = rw c.push_reserved.ensures.items (then_view c.in-Some.command c.view_step-reply.result _ c.loop-command.invariant.steps (rw c.loop-command.invariant.same.path at c.view_step-reply.ensures.step));
}
