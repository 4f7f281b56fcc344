use Rattle.std.proofs.Common.{◌≡◌, map, ap, subst, IfOk}
use Rattle.std.specs.FinMap as fin
use Rattle.radix_trie.proofs.JsonLemmas.Objects.{get-object_of}
use Rattle.radix_trie.proofs.PathLemmas.Loci.{below-nil}
use Rattle.radix_trie.proofs.JsonLemmas.Texts.{texts_rise}
use Rattle.radix_trie.proofs.json.walk.Goals as goal

pub returns-clause-pairs : goal.returns-clause-pairs
returns-clause-pairs c = subst (λ ps. IfOk c.iter.result (λ it. it ≡ ps)) (ap (λ m. map (λ e. e.1) (fin.entries m)) (below-nil c.args.trie.now)) c.iter.ensures.walk

pub returns-clause-rising : goal.returns-clause-rising
returns-clause-rising c =
    let keyed = rw (below-nil c.args.trie.now) at c.iter.ensures.keyed in
    texts_rise (fin.entries c.args.trie.now) (fin.entries_sorted c.args.trie.now) keyed

pub returns-clause-members : goal.returns-clause-members
returns-clause-members c =
    let keyed = rw (below-nil c.args.trie.now) at c.iter.ensures.keyed in
    get-object_of c.args.trie.now keyed
