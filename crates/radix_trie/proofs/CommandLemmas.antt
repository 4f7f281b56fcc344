-- Steps over no command, and steps between equal maps.
use Rattle.std.proofs.Common.{◌≡◌, ℕ, List, []}
use Rattle.nibble_map.specs.Maps.{PairMap}
use Rattle.radix_trie.specs.Commands.{Steps, at_start, ViewSteps, view_start}
use Rattle.radix_trie.specs.declared.commands.Reply.{Reply}
use Rattle.radix_trie.specs.declared.commands.ViewCommand.{ViewCommand}

module _ {K V : Type 0} (enc : K → List ℕ) (inline : K → Type 0) where
  -- no commands, with no replies, are steps from a map to itself
  pub steps_at_start : (m : PairMap K V) (rs : List (Reply V)) → rs ≡ [] → Steps enc inline m [] rs m
  steps_at_start m rs e = rw e at_start

  -- no commands of a view, with no replies, are steps from a map to itself
  pub view_steps_at_start : (p : List ℕ) (m : PairMap K V) (rs : List (Reply V)) → rs ≡ [] → ViewSteps enc inline p m [] rs m
  view_steps_at_start p m rs e = rw e view_start

  -- a view's steps are steps at an equal path, from an equal map and to an equal one
  pub view_steps_moved : (p q : List ℕ) (m n o r : PairMap K V) (cs : List (ViewCommand K V)) (rs : List (Reply V)) → ViewSteps enc inline p m cs rs n → p ≡ q → m ≡ o → n ≡ r → ViewSteps enc inline q o cs rs r
  view_steps_moved p q m n o r cs rs s d e f = rw (← d, ← e, ← f) s
