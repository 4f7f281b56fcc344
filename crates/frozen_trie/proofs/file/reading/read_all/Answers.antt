use Rattle.std.proofs.Common.{arith, length}
use Rattle.std.proofs.KnownBytes.{Consumes-trans}
use Rattle.frozen_trie.proofs.FileLemmas.Faults.{fault_behind, missing_row, no_end, no_memory}
use Rattle.frozen_trie.proofs.file.reading.read_all.Goals as goal

pub returns-in-Err-clause-fault : goal.returns-in-Err-clause-fault
returns-in-Err-clause-fault g c =
    fault_behind g.M.Rows.rows (λ m. g.M.Rows.are_items m (length (g.M.Rows.rows m))) g.M.Rows.refuses _ _ _ c.in_ok-pair.pair _ _ c.loop-row.map (Consumes-trans _ _ _ _ _ c.in_ok-pair.ensures.bytes c.loop-row.invariant.read) c.in_ok-pair.ensures.fits
    c.loop-row.invariant.fits c.loop-row.invariant.items c.loop-row.invariant.count c.loop-row.invariant.place
    (missing_row g.M.Rows.rows g.M.Rows.refuses c.in-Err.why c.loop-row.map c.in_ok-pair.pair _ (omega (arith, c.loop-row.invariant.count, c.loop-row-test.true)) c.in-Err.ensures.fault)

pub returns-in-Err-expect_end-clause-fault : goal.returns-in-Err-expect_end-clause-fault
returns-in-Err-expect_end-clause-fault g c =
    fault_behind g.M.Rows.rows (λ m. g.M.Rows.are_items m (length (g.M.Rows.rows m))) g.M.Rows.refuses _ _ _ c.in_ok-pair.pair _ _ c.loop-row.map (Consumes-trans _ _ _ _ _ c.in_ok-pair.ensures.bytes c.loop-row.invariant.read) c.in_ok-pair.ensures.fits
    c.loop-row.invariant.fits c.loop-row.invariant.items (omega (arith, c.loop-row.invariant.count, c.loop-row-test.false, c.loop-row.auto.row-end)) c.loop-row.invariant.place
    (no_end g.M.Rows.rows g.M.Rows.refuses c.in-Err-expect_end.why c.loop-row.map c.in_ok-pair.pair _ (omega (arith, c.loop-row.invariant.count, c.loop-row-test.false, c.loop-row.auto.row-end)) c.in-Err-expect_end.ensures.fault)

pub returns-in-Err-close-clause-fault : goal.returns-in-Err-close-clause-fault
returns-in-Err-close-clause-fault g c =
    fault_behind g.M.Rows.rows (λ m. g.M.Rows.are_items m (length (g.M.Rows.rows m))) g.M.Rows.refuses _ _ _ c.in_ok-pair.pair _ _ c.loop-row.map (Consumes-trans _ _ _ _ _ c.in_ok-pair.ensures.bytes c.loop-row.invariant.read) c.in_ok-pair.ensures.fits
    c.loop-row.invariant.fits c.loop-row.invariant.items (omega (arith, c.loop-row.invariant.count, c.loop-row-test.false, c.loop-row.auto.row-end)) c.loop-row.invariant.place
    (no_memory g.M.Rows.rows g.M.Rows.refuses c.in-Err-close.why c.loop-row.map c.in_ok-pair.pair _ c.in-Err-close.ensures.memory)
