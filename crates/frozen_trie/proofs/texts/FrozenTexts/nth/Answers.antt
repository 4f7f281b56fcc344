use Rattle.std.proofs.Common.{[], sym, arith}
use Rattle.std.proofs.lemmas.Option.{slice_get_past}
use Rattle.radix_trie.specs.Views.{pairs_below}
use Rattle.frozen_trie.proofs.FrozenLemmas.Whole.{count_whole}
use Rattle.frozen_trie.proofs.texts.FrozenTexts.nth.Goals as goal

pub returns-then-index-len : goal.returns-then-index-len
returns-then-index-len g c = record { pair = sym c.pair_at.ensures.pair }

pub returns-else-index-len : goal.returns-else-index-len
returns-else-index-len g c = record {
  pair = sym (slice_get_past (pairs_below c.args.self.now []) c.args.index (omega (arith, c.if-index-len.false, c.len.ensures, count_whole c.args.self.now)));
}
