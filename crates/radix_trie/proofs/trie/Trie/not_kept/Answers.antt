use Rattle.std.proofs.Common.{◌∙◌, inl, inr, [], ◌∷◌, ◌++◌, All, length, refl, sym, ap, subst, arith, append_assoc, append-nil}
use Rattle.std.proofs.lemmas.List.Elements.{All-head, All-tail}
use Rattle.radix_trie.specs.Retains.{ReturnsAtPair, Sifts, TakesPairAt}
use Rattle.radix_trie.specs.Views.{pairs_below}
use Rattle.radix_trie.proofs.PathLemmas.Loci.{false_is_not_true, no_pairs_below}
use Rattle.radix_trie.proofs.WalkLemmas.Pages.{next_pair, no_next_pair}
use Rattle.radix_trie.proofs.trie.Trie.not_kept.Goals as goal

pub loop-pairs-init : goal.loop-pairs-init
loop-pairs-init g c =
    let S = Sifts (ReturnsAtPair g.F.Fn c.args.keep.now) g.K.TrieKey.encoding in
    let walk = c.cursor-pairs.ensures.walk _ _ c.find.ensures in
    record {
      callable = subst (All (TakesPairAt g.F.Fn c.args.keep.now)) (sym walk) c.requires.callable;
      sifted = λ more s. subst (λ xs. S (pairs_below c.args.self.now c.args.list.now) (xs ++ more)) (sym c.new-gone.ensures.items) (subst (λ ps. S ps more) walk s);
      none = λ e. ap length walk ∙ ap length (no_pairs_below c.args.self.now c.args.list.now e);
    }

pub returns-in_err-key-clause-none : goal.returns-in_err-key-clause-none
returns-in_err-key-clause-none g c = λ e.
    absurd (false_is_not_true (c.in_err-key.ensures.end (omega (arith, c.loop-pairs.invariant.none e))))

pub keeps-requires : goal.keeps-requires
keeps-requires g c =
    All-head (TakesPairAt g.F.Fn c.args.keep.now) (c.in-Some.key.now, c.in-Some.value.now) c.next.new.self
    (subst (All (TakesPairAt g.F.Fn c.args.keep.now)) (next_pair _ _ c.in_ok-key.ensures.pair _ _ c.in-Some.is c.in_ok-key.ensures.rest) c.loop-pairs.invariant.callable)

pub returns-in_err-encode-clause-none : goal.returns-in_err-encode-clause-none
returns-in_err-encode-clause-none g c = λ e. absurd (let none = c.loop-pairs.invariant.none e in let some = ap length (next_pair _ _ c.in_ok-key.ensures.pair _ _ c.in-Some.is c.in_ok-key.ensures.rest) in omega (arith, none, some))

pub returns-in_err-push-clause-none : goal.returns-in_err-push-clause-none
returns-in_err-push-clause-none g c = λ e. absurd (let none = c.loop-pairs.invariant.none e in let some = ap length (next_pair _ _ c.in_ok-key.ensures.pair _ _ c.in-Some.is c.in_ok-key.ensures.rest) in omega (arith, none, some))

pub loop-pairs-preserved : goal.loop-pairs-preserved
loop-pairs-preserved g c =
    let steps = (next_pair _ _ c.in_ok-key.ensures.pair _ _ c.in-Some.is c.in_ok-key.ensures.rest) in
    let S = Sifts (ReturnsAtPair g.F.Fn c.args.keep.now) g.K.TrieKey.encoding in
    record {
      callable = All-tail (TakesPairAt g.F.Fn c.args.keep.now) (c.in-Some.key.now, c.in-Some.value.now) c.next.new.self (subst (All (TakesPairAt g.F.Fn c.args.keep.now)) steps c.loop-pairs.invariant.callable);
      sifted = λ more s. c.loop-pairs.invariant.sifted more (subst (λ ps. S ps more) (sym steps)
          (inl (subst (ReturnsAtPair g.F.Fn c.args.keep.now (c.in-Some.key.now, c.in-Some.value.now)) c.if-not-keeps.false c.keeps.ensures, s)));
      none = λ e. (let none = c.loop-pairs.invariant.none e in let some = ap length steps in omega (arith, none, some));
    }

pub loop-pairs-preserved-in_ok-push : goal.loop-pairs-preserved-in_ok-push
loop-pairs-preserved-in_ok-push g c =
    let steps = (next_pair _ _ c.in_ok-key.ensures.pair _ _ c.in-Some.is c.in_ok-key.ensures.rest) in
    let S = Sifts (ReturnsAtPair g.F.Fn c.args.keep.now) g.K.TrieKey.encoding in
    let list = g.K.TrieKey.encoding c.in-Some.key.now in
    record {
      callable = All-tail (TakesPairAt g.F.Fn c.args.keep.now) (c.in-Some.key.now, c.in-Some.value.now) c.next.new.self (subst (All (TakesPairAt g.F.Fn c.args.keep.now)) steps c.loop-pairs.invariant.callable);
      sifted = λ more s.
          let gone = c.in_ok-push.ensures.items ∙ ap (λ l. c.loop-pairs.gone.items ++ l ∷ []) c.in_ok-encode.ensures.ok in
          let all = c.loop-pairs.invariant.sifted (list ∷ more) (subst (λ ps. S ps (list ∷ more)) (sym steps)
          (inr (more, refl, subst (ReturnsAtPair g.F.Fn c.args.keep.now (c.in-Some.key.now, c.in-Some.value.now)) c.if-not-keeps.true c.keeps.ensures, s))) in
          subst (S (pairs_below c.args.self.now c.args.list.now)) (sym (append_assoc c.loop-pairs.gone.items (list ∷ []) more) ∙ ap (λ xs. xs ++ more) (sym gone)) all;
      none = λ e. (let none = c.loop-pairs.invariant.none e in let some = ap length steps in omega (arith, none, some));
    }

pub returns-clause-gone : goal.returns-clause-gone
returns-clause-gone g c =
    let S = Sifts (ReturnsAtPair g.F.Fn c.args.keep.now) g.K.TrieKey.encoding in
    let all = c.loop-pairs.invariant.sifted [] (subst (λ ps. S ps []) (sym (no_next_pair _ _ c.in_ok-key.ensures.pair c.in_default.is)) refl) in
    subst (S (pairs_below c.args.self.now c.args.list.now)) (append-nil c.loop-pairs.gone.items) all
