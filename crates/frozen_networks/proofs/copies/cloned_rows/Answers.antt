-- A row more for each pair of the walk.
use Rattle.std.proofs.Common.{[], ◌++◌, ◌∙◌, append-nil, ap, sym, subst}
use Rattle.std.specs.FinMap as fin
use Rattle.nibble_map.specs.Lists.{Each}
use Rattle.radix_trie.specs.Views.{pairs_below}
use Rattle.radix_trie.proofs.PathLemmas.Loci.{below-nil, no_pairs_below}
use Rattle.radix_trie.proofs.WalkLemmas.Pages.{next_pair, no_next_pair}
use Rattle.frozen_networks.specs.Networks.{IsNetwork}
use Rattle.frozen_networks.proofs.RowLemmas.{one_key_more, one_row_copied}
use Rattle.frozen_networks.proofs.copies.cloned_rows.Goals as goal

pub returns-then-is_empty-clause-rows : goal.returns-then-is_empty-clause-rows
returns-then-is_empty-clause-rows g c =
    let m = c.args.trie.now in
    c.new.ensures.items ∙ sym (no_pairs_below m [] (ap fin.len (below-nil m) ∙ c.is_empty.ensures.0 c.if-is_empty.true))

pub loop-walk-init : goal.loop-walk-init
loop-walk-init g c = record {
  order = sym c.cursor-walk.ensures.walk ∙ ap (λ rows. rows ++ c.cursor-walk.result) (sym c.in_ok-rows.ensures.items);
  networks = subst (Each (λ r. IsNetwork g.A.Address.BITS g.A.Address.number r.0)) (sym c.in_ok-rows.ensures.items) tt;
}

pub loop-walk-preserved : goal.loop-walk-preserved
loop-walk-preserved g c = record {
  order = one_row_copied (pairs_below c.args.trie.now []) c.loop-walk.rows.items c.push.new.self.items c.loop-walk.walk c.next.new.self
      c.in-Some.network.now c.in-Some.value.now c.in_ok-copy.copy c.loop-walk.invariant.order
      (next_pair c.loop-walk.walk c.in_ok-network.field-0 c.in_ok-network.ensures.pair (c.in-Some.network, c.in-Some.value) c.next.new.self c.in-Some.is c.in_ok-network.ensures.rest)
      (c.requires.same_value c.in-Some.value.now c.in_ok-copy.copy c.in_ok-copy.ensures.cases) c.in_ok-push.ensures.items;
  networks = one_key_more (IsNetwork g.A.Address.BITS g.A.Address.number) c.loop-walk.rows.items c.push.new.self.items c.in-Some.network.now c.in_ok-copy.copy
      c.loop-walk.invariant.networks c.base.ensures.first c.in_ok-push.ensures.items;
}

pub returns-clause-rows : goal.returns-clause-rows
returns-clause-rows g c =
    sym (c.loop-walk.invariant.order
    ∙ ap (λ rest. c.loop-walk.rows.items ++ rest) (no_next_pair c.loop-walk.walk c.in_ok-network.field-0 c.in_ok-network.ensures.pair c.in_default.is) ∙ append-nil c.loop-walk.rows.items)

pub returns-clause-networks : goal.returns-clause-networks
returns-clause-networks g c = c.loop-walk.invariant.networks
