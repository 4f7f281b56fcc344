use Rattle.std.proofs.Common.{ap, sym, ◌∙◌}
use Rattle.std.specs.FinMap as fin
use Rattle.radix_trie.proofs.PathLemmas.Loci.{below-nil}
use Rattle.radix_trie.proofs.view.locate.RefTrieLocate.count.Goals as goal

pub returns : goal.returns
returns g c = c.len.ensures ∙ ap fin.len (sym (below-nil c.args.self.now))
