use Rattle.std.proofs.Common.{ap, arith, length, subst, sym}
use Rattle.std.specs.Io.KnownBytes.{Consumes}
use Rattle.frozen_trie.specs.FileRows.{counted_bytes}
use Rattle.frozen_trie.proofs.FileLemmas.Faults.{unread_pair, unread_value}
use Rattle.frozen_trie.proofs.FileLemmas.Streams.{handed_on}
use Rattle.frozen_trie.proofs.file.reading.read_row.Goals as goal

pub returns-in_err-read_counted-2-clause-fault : goal.returns-in_err-read_counted-2-clause-fault
returns-in_err-read_counted-2-clause-fault g c =
    handed_on _ _ _ c.from_residual-in_err-read_counted-2.ensures.1
    (unread_value g.M.Rows.refuses _ c.args.map.now (g.R.Read.remaining c.args.input.now) (g.R.Read.remaining c.read_counted.new.input) _ c.in_ok-read_counted.ensures.bytes c.in_ok-read_counted.ensures.fits c.in_err-read_counted-2.ensures.fault)

pub returns-in_err-push_row-clause-fault : goal.returns-in_err-push_row-clause-fault
returns-in_err-push_row-clause-fault g c =
    handed_on _ _ _ c.from_residual-in_err-push_row.ensures.1
    (unread_pair g.M.Rows.refuses _ c.args.map.now (g.R.Read.remaining c.args.input.now) (g.R.Read.remaining c.read_counted.new.input) (g.R.Read.remaining c.read_counted-2.new.input) _ _ (subst (λ k. Consumes (g.R.Read.remaining c.args.input.now) (g.R.Read.remaining c.read_counted.new.input) (counted_bytes k)) (sym c.deref.ensures.value) c.in_ok-read_counted.ensures.bytes)
    (subst (λ v. Consumes (g.R.Read.remaining c.read_counted.new.input) (g.R.Read.remaining c.read_counted-2.new.input) (counted_bytes v)) (sym c.deref-2.ensures.value) c.in_ok-read_counted-2.ensures.bytes)
    (omega (arith, c.in_ok-read_counted.ensures.fits, ap length c.deref.ensures.value)) (omega (arith, c.in_ok-read_counted-2.ensures.fits, ap length c.deref-2.ensures.value))
    c.in_err-push_row.ensures.refused)
