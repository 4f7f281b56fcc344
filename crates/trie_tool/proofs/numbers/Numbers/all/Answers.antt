use Rattle.std.proofs.Common.{◌∙◌, [], ap, sym, map as each, string_bytes}
use Rattle.std.specs.FinMap as map
use Rattle.std.proofs.lemmas.Result.{IfOk-weaker}
use Rattle.radix_trie.proofs.PathLemmas.Loci.{below-nil}
use Rattle.trie_tool.specs.Numbers.{text, texts_of}
use Rattle.radix_trie.proofs.MappedLemmas.{pairs_below-mapped}
use Rattle.trie_tool.proofs.numbers.Numbers.all.Goals as goal

pub returns : goal.returns
returns c =
    let m = c.self.inside.trie in
    rw (← c.self.view_is) (IfOk-weaker c.iter.result _ _ (λ walk is. ap (each text) is ∙ sym (pairs_below-mapped string_bytes m []) ∙ ap map.values (below-nil (texts_of m))) c.iter.ensures.walk)
