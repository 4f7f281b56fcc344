use Rattle.std.proofs.Common.{◌≡◌, ℕ, ◌+◌, List, take, drop, sym, subst, rules}
use Rattle.std.proofs.Math.Seq.{take-add}
use Rattle.std.specs.Io.KnownBytes.{Appends}
use Rattle.std.proofs.KnownBytes.{Appends-trans}
use Rattle.std.specs.declared.option.Option.{Option}
use Rattle.line_sessions.proofs.watched.WatchedWriter.write_all.Goals as goal

-- a writer that holds the first n bytes, and takes m of the rest
Appends-step : (a b c : Option (List ℕ)) (n m : ℕ) (xs rest : List ℕ) → rest ≡ drop n xs
    → Appends a b (take n xs) → Appends b c (take m rest) → Appends a c (take (n + m) xs)
Appends-step a b c n m xs rest e p q =
    subst (Appends a c) (sym (take-add n m xs)) (Appends-trans a b c _ _ p (subst (λ (l : List ℕ). Appends b c (take m l)) e q))

pub loop-written-preserved : goal.loop-written-preserved
loop-written-preserved g c =
    record {
      within = search rules;
      appended = Appends-step _ _ _ _ _ _ _ c.split_at.ensures.back c.loop-written.invariant.appended c.in-Ok.ensures.bytes;
      good = search rules;
    }
