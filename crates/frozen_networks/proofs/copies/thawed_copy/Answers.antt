-- A row more of the trie for each row of the table.
use Rattle.std.proofs.Common.{◌≡◌, false, Result, Ok, Err, sym, ap, ◌∙◌}
use Rattle.std.proofs.lemmas.List.{take_all}
use Rattle.std.specs.FinMap as fin
use Rattle.std.specs.Prelude.{OnOk}
use Rattle.std.specs.Result.{is_err}
use Rattle.radix_trie.specs.Building.{with_pairs}
use Rattle.frozen_networks.specs.Networks.{network_code}
use Rattle.frozen_networks.proofs.MapLemmas.{one_pair_stored, rows_stored}
use Rattle.frozen_networks.proofs.copies.thawed_copy.Goals as goal

-- what holds at `Ok` holds where there is no error
if_no_error : {T E : Type 0} (P : Type 0) (r : Result T E) → is_err r ≡ false → OnOk r P → P
if_no_error P (Ok x) e h = h
if_no_error P (Err x) e h = absurd (cc e)

pub loop-network-init : goal.loop-network-init
loop-network-init g c = c.new-trie.ensures

pub loop-network-preserved : goal.loop-network-preserved
loop-network-preserved g c =
    let code = network_code g.A.Address.BITS g.A.Address.number in
    let row = c.loop-network-item.result in
    one_pair_stored code c.rows-network-items.result.now c.loop-network.network-index row c.in_ok-copy.copy c.loop-network.trie c.insert.new.self
    c.loop-network-test.true c.loop-network-item.is (c.requires.same_value row.1 c.in_ok-copy.copy c.in_ok-copy.ensures.cases) c.loop-network.invariant
    (if_no_error (c.insert.new.self ≡ fin.insert c.loop-network.trie (code row.0) (row.0, c.in_ok-copy.copy)) c.insert.result (sym c.is_err.ensures.value ∙ c.if-is_err.false) c.insert.ensures.stored)

pub returns-clause-map : goal.returns-clause-map
returns-clause-map g c =
    let code = network_code g.A.Address.BITS g.A.Address.number in
    c.loop-network.invariant
    ∙ ap (with_pairs code fin.empty) (take_all c.loop-network.network-index c.rows-network-items.result.now c.loop-network-test.false ∙ c.rows-network-items.ensures.rows)
    ∙ rows_stored g.A.Address.BITS g.A.Address.number c.args.routes.now c.rows-network-items.ensures.rising
