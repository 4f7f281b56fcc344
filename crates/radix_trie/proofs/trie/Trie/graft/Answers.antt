use Rattle.std.proofs.Common.{◌∙◌, [], inl, inr, ap, refl, subst, sym}
use Rattle.std.proofs.lemmas.Result.{on_ok_weaker}
use Rattle.std.specs.FinMap as map
use Rattle.radix_nodes.specs.Nodes.{tree_of}
use Rattle.radix_trie.proofs.ChangeLemmas.Joined.{all_put, none_put, none_stored}
use Rattle.radix_trie.specs.Roots.{AllKeyed, map_of}
use Rattle.radix_trie.proofs.PathLemmas.Loci.{below-nil}
use Rattle.radix_trie.proofs.RootLemmas.Shown.{entries-map_of}
use Rattle.radix_trie.proofs.trie.Trie.graft.Goals as goal

pub returns-then-is_empty-clause-grafted : goal.returns-then-is_empty-clause-grafted
returns-then-is_empty-clause-grafted g c = none_put g.K.TrieKey.encoding c.args.self.now c.args.part (c.if-is_empty.ensures.0 refl)

pub returns-then-is_empty-clause-apart : goal.returns-then-is_empty-clause-apart
returns-then-is_empty-clause-apart g c e here there = none_stored c.args.part e (c.if-is_empty.ensures.0 refl) there

pub returns-then-is_empty-2-clause-grafted : goal.returns-then-is_empty-2-clause-grafted
returns-then-is_empty-2-clause-grafted g c =
    rw (← c.part.view_is, map.empty_of_len c.args.self.now (c.if-is_empty-2.ensures.0 refl)) (all_put g.K.TrieKey.encoding (map_of (tree_of c.part.inside.root))
    (subst (AllKeyed g.K.TrieKey.encoding) (sym (entries-map_of (tree_of c.part.inside.root) c.part.invariant.masked c.part.invariant.full)) c.part.invariant.keyed))

pub returns-then-is_empty-2-clause-apart : goal.returns-then-is_empty-2-clause-apart
returns-then-is_empty-2-clause-apart g c e here there = none_stored c.args.self.now e (c.if-is_empty-2.ensures.0 refl) here

pub returns-then-is_empty-clause-vacant : goal.returns-then-is_empty-clause-vacant
returns-then-is_empty-clause-vacant g c = inl (c.if-is_empty.ensures.0 refl)

pub returns-then-is_empty-2-clause-vacant : goal.returns-then-is_empty-2-clause-vacant
returns-then-is_empty-2-clause-vacant g c =
    inr ([], (λ e stored. (e, refl)), ap map.len (below-nil c.args.self.now) ∙ c.if-is_empty-2.ensures.0 refl)

pub returns-clause-vacant : goal.returns-clause-vacant
returns-clause-vacant g c = on_ok_weaker c.graft_some.result (λ free. inr free) c.graft_some.ensures.vacant
