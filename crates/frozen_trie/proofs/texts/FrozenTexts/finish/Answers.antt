use Rattle.std.proofs.Common.{ap, arith}
use Rattle.std.specs.FinMap as fin
use Rattle.frozen_trie.proofs.TextLemmas.Pairs.{code_count}
use Rattle.frozen_trie.proofs.texts.FrozenTexts.finish.Goals as goal

pub returns-clause-few : goal.returns-clause-few
returns-clause-few g c = λ few. c.finish.ensures.few (omega (arith, few, code_count _ _ _ c.self.invariant, ap fin.len c.self.view_is))
