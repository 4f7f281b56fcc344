use Rattle.std.proofs.Common.{rules, arith}
use Rattle.std.proofs.lemmas.Grind.{common_steps}
use Rattle.radix_trie.specs.Commands.{then_step}
use Rattle.radix_trie.proofs.CommandLemmas.{steps_at_start}
use Rattle.radix_trie.proofs.commands.run.Goals as goal

pub loop-command-init : goal.loop-command-init
loop-command-init g c = record {
  listed = search rules;
  counted = grind (arith, common_steps);
  room = grind (arith, common_steps);
  steps = steps_at_start _ _ _ _ (c.in-Ok.ensures.items);
}

pub loop-command-preserved : goal.loop-command-preserved
loop-command-preserved g c = record {
  listed = grind (arith, common_steps);
  counted = grind (arith, common_steps);
  room = grind (arith, common_steps);
  steps = rw c.push_reserved.ensures.items (then_step c.in-Some.command c.step-reply.result c.step-reply.new.trie c.loop-command.invariant.steps c.step-reply.ensures);
}
