use Rattle.std.proofs.Common.{◌∙◌, refl, subst}
use Rattle.std.proofs.lemmas.Result.{on_err_weaker, on_ok_weaker}
use Rattle.radix_trie.specs.Retains.{RemovesAll, RemovesBeforeOne, RemovesSome, ReturnsAtPair, Sifts}
use Rattle.radix_trie.proofs.ChangeLemmas.Retained.{on_err_always, removes_keyed, retains_before_nil, sifted_rest, sifted_retains, sifted_retains_before, sifted_retains_some}
use Rattle.radix_trie.proofs.PathLemmas.Loci.{no_pairs_below}
use Rattle.radix_trie.proofs.trie.Trie.retain_at.Goals as goal

pub returns-clause-retained : goal.returns-clause-retained
returns-clause-retained g c =
    on_ok_weaker c.remove_all.result
    (λ r. sifted_retains (ReturnsAtPair g.F.Fn c.args.keep.now) g.K.TrieKey.encoding c.args.self.now c.remove_all.new.self c.keys_stand_at_their_encodings.ensures.stored c.args.list.now
    c.in_ok-gone.gone.items c.in_ok-gone.ensures.gone
    (subst (λ xs. RemovesAll xs c.args.self.now c.remove_all.new.self) c.deref.ensures.value r))
    c.remove_all.ensures.removed

pub returns-clause-at_least : goal.returns-clause-at_least
returns-clause-at_least g c =
    sifted_retains_some (ReturnsAtPair g.F.Fn c.args.keep.now) g.K.TrieKey.encoding c.args.self.now c.remove_all.new.self c.keys_stand_at_their_encodings.ensures.stored c.args.list.now
    c.in_ok-gone.gone.items c.in_ok-gone.ensures.gone
    (subst (λ xs. RemovesSome xs c.args.self.now c.remove_all.new.self) c.deref.ensures.value c.remove_all.ensures.some)

pub returns-in_err-gone-clause-stopped : goal.returns-in_err-gone-clause-stopped
returns-in_err-gone-clause-stopped g c = on_err_always c.from_residual.result _ (retains_before_nil (ReturnsAtPair g.F.Fn c.args.keep.now) _ _ refl)

pub returns-clause-stopped : goal.returns-clause-stopped
returns-clause-stopped g c =
    on_err_weaker c.remove_all.result
    (λ r. sifted_retains_before (ReturnsAtPair g.F.Fn c.args.keep.now) g.K.TrieKey.encoding c.args.self.now c.remove_all.new.self c.keys_stand_at_their_encodings.ensures.stored c.args.list.now
    c.in_ok-gone.gone.items c.in_ok-gone.ensures.gone (c.keys_stand_at_their_encodings.ensures.rising c.args.list.now)
    (subst (λ xs. RemovesBeforeOne xs c.args.self.now c.remove_all.new.self) c.deref.ensures.value r))
    c.remove_all.ensures.stopped

pub returns-clause-elsewhere : goal.returns-clause-elsewhere
returns-clause-elsewhere g c =
    sifted_rest (ReturnsAtPair g.F.Fn c.args.keep.now) g.K.TrieKey.encoding c.args.self.now c.remove_all.new.self c.keys_stand_at_their_encodings.ensures.stored c.args.list.now
    c.in_ok-gone.gone.items c.in_ok-gone.ensures.gone
    (subst (λ xs. RemovesSome xs c.args.self.now c.remove_all.new.self) c.deref.ensures.value c.remove_all.ensures.some)

pub returns-clause-keyed : goal.returns-clause-keyed
returns-clause-keyed g c = removes_keyed g.K.TrieKey.encoding g.K.TrieKey.is_value c.deref.result.now c.args.self.now c.remove_all.new.self c.remove_all.ensures.some

pub returns-clause-none : goal.returns-clause-none
returns-clause-none g c = λ e.
    c.remove_all.ensures.none (c.deref.ensures.value ∙ subst (λ ps. Sifts (ReturnsAtPair g.F.Fn c.args.keep.now) g.K.TrieKey.encoding ps c.in_ok-gone.gone.items) (no_pairs_below c.args.self.now c.args.list.now e) c.in_ok-gone.ensures.gone)
