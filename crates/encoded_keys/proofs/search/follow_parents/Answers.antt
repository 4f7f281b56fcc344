use Rattle.std.proofs.Common.{◌-◌, arith}
use Rattle.nibble_map.specs.Lists.{IsPrefix}
use Rattle.nibble_map.proofs.ListLemmas.Parted.{prefix_through}
use Rattle.encoded_keys.specs.Codes.{code_at}
use Rattle.encoded_keys.proofs.CodeLemmas.Links.{begins_later, shared_prefix, unshared}
use Rattle.sorted_tables.proofs.TableLemmas.Links.{climb_on}
use Rattle.encoded_keys.proofs.search.follow_parents.Goals as goal

pub returns-then-len_at-shared : goal.returns-then-len_at-shared
returns-then-len_at-shared c =
    let cs = c.args.codes.now in
    let at = c.loop-at.at in
    record {
      within = c.loop-at.invariant.within;
      holds = λ some. shared_prefix (code_at cs (at - 1)) (code_at cs (c.args.from - 1)) c.args.list.now c.agreement-shared.result
          (c.loop-at.invariant.chain some) c.agreement-shared.ensures.same
          (omega (arith, c.if-len_at-shared.true, c.len_at.ensures));
      none = c.loop-at.invariant.none;
    }

pub loop-at-preserved : goal.loop-at-preserved
loop-at-preserved c =
    let cs = c.args.codes.now in
    let at = c.loop-at.at in
    let link = c.requires.links (at - 1) (omega (arith, c.requires.linked, c.loop-at.invariant.within, c.loop-at-test.true)) in
    let chain = c.loop-at.invariant.chain c.loop-at-test.true in
    record {
      within = omega (arith, link.within, c.loop-at.invariant.within);
      chain = λ some. prefix_through _ _ _ (link.holds some) chain;
      none = climb_on (λ k. IsPrefix (code_at cs k) c.args.list.now) (λ k. IsPrefix (code_at cs k) (code_at cs (at - 1))) c.args.from at _ c.loop-at-test.true
          (λ k l. begins_later cs c.args.list.now (at - 1) k c.requires.rising l (omega (arith, c.requires.within, c.loop-at.invariant.within, c.loop-at-test.true))
          (c.requires.before (at - 1) (omega (arith, c.loop-at.invariant.within, c.loop-at-test.true))))
          (λ p. unshared (code_at cs (at - 1)) (code_at cs (c.args.from - 1)) c.args.list.now c.agreement-shared.result chain p
          (omega (arith, c.if-len_at-shared.false, c.len_at.ensures)) c.agreement-shared.ensures.apart)
          c.loop-at.invariant.none link;
    }

pub returns : goal.returns
returns c = record {
  within = omega arith;
  holds = λ some. absurd (omega (arith, some));
  none = λ k l m. c.loop-at.invariant.none k (omega (arith, c.loop-at-test.false)) m;
}
