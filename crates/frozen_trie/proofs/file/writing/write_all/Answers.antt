use Rattle.std.proofs.Common.{◌≡◌, ℕ, List, [], ◌∷◌, ◌++◌, drop, length, slice_get, take, Some, rules, sym, subst, append-nil, arith}
use Rattle.std.proofs.KnownBytes.{Appends-trans}
use Rattle.std.proofs.lemmas.List.{take_all}
use Rattle.std.specs.Io.KnownBytes.{Appends}
use Rattle.nibble_map.proofs.ListLemmas.Rising.{Each-append}
use Rattle.nibble_map.specs.Lists.{Each}
use Rattle.frozen_trie.specs.FileRows.{FitsRow, WritesInFull, file_rows, head_of}
use Rattle.frozen_trie.proofs.FileLemmas.Rows.{file_rows-at, file_rows-parted, file_rows-taken, row_by_parts, taken}
use Rattle.frozen_trie.proofs.FileLemmas.Streams.{WritesInFull-failed, WritesInFull-part, part_behind}
use Rattle.frozen_trie.proofs.file.writing.write_all.Goals as goal

pub loop-at-preserved : goal.loop-at-preserved
loop-at-preserved g c =
    let rs = g.M.Rows.rows c.args.map.now in
    let at = c.loop-at.at in
    let key = c.deref.result.now in
    let value = c.deref-in-loop-at.result.now in
    let r : List ℕ × List ℕ = (key, value) in
    let row : slice_get rs at ≡ Some r = row_by_parts rs at _ _ key value c.in-Ok.ensures.row c.deref.ensures.value c.deref-in-loop-at.ensures.value in
    record {
      fits = subst (Each FitsRow) (sym (taken rs at r row)) (Each-append FitsRow (take at rs) (r ∷ []) c.loop-at.invariant.fits (c.in_ok-write_row.ensures.fits, tt));
      written = subst (Appends _ _) (sym (file_rows-taken rs at r row)) (Appends-trans _ _ _ _ _ c.loop-at.invariant.written c.in_ok-write_row.ensures.written.all);
      items = c.in-Ok.ensures.items c.loop-at.invariant.items;
    }

pub returns-in_err-write_head-clause-written : goal.returns-in_err-write_head-clause-written
returns-in_err-write_head-clause-written g c =
    let rs = g.M.Rows.rows c.args.map.now in
    let head = subst (λ n. WritesInFull c.write_head.result (g.W.Write.contents c.args.out.now) (g.W.Write.contents c.write_head.new.out) (head_of n)) c.count-count.ensures c.write_head.ensures in
    WritesInFull-failed c.write_head.result c.from_residual.result (g.W.Write.contents c.args.out.now) (g.W.Write.contents c.write_head.new.out) (head_of (length rs)) (file_rows rs) head (search rules) (search rules)

pub returns-in_default-clause-written : goal.returns-in_default-clause-written
returns-in_default-clause-written g c =
    let rs = g.M.Rows.rows c.args.map.now in
    let head = subst (λ n. Appends (g.W.Write.contents c.args.out.now) (g.W.Write.contents c.write_head.new.out) (head_of n)) c.count-count.ensures c.in_ok-write_head.ensures.all in
    record {
      all = tt;
      part = (head_of (length rs) ++ file_rows (take c.loop-at.at rs), file_rows (drop c.loop-at.at rs), file_rows-parted (head_of (length rs)) rs c.loop-at.at, Appends-trans (g.W.Write.contents c.args.out.now) (g.W.Write.contents c.write_head.new.out) (g.W.Write.contents c.loop-at.out) _ _ head c.loop-at.invariant.written);
    }

pub returns-in_err-write_row-clause-written : goal.returns-in_err-write_row-clause-written
returns-in_err-write_row-clause-written g c =
    let rs = g.M.Rows.rows c.args.map.now in
    let at = c.loop-at.at in
    let key = c.deref.result.now in
    let value = c.deref-in-loop-at.result.now in
    let r : List ℕ × List ℕ = (key, value) in
    let row : slice_get rs at ≡ Some r = row_by_parts rs at _ _ key value c.in-Ok.ensures.row c.deref.ensures.value c.deref-in-loop-at.ensures.value in
    let head = subst (λ n. Appends (g.W.Write.contents c.args.out.now) (g.W.Write.contents c.write_head.new.out) (head_of n)) c.count-count.ensures c.in_ok-write_head.ensures.all in
    let part = part_behind (g.W.Write.contents c.args.out.now) (g.W.Write.contents c.loop-at.out) (g.W.Write.contents c.write_row.new.out) (head_of (length rs) ++ file_rows (take at rs)) _ _ (head_of (length rs) ++ file_rows rs)
    (Appends-trans (g.W.Write.contents c.args.out.now) (g.W.Write.contents c.write_head.new.out) (g.W.Write.contents c.loop-at.out) _ _ head c.loop-at.invariant.written) c.write_row.ensures.written.part (file_rows-at (head_of (length rs)) rs at r row) in
    WritesInFull-part c.from_residual-in_err-write_row.result _ _ _ (search rules) part

pub returns-clause-written : goal.returns-clause-written
returns-clause-written g c =
    let rs = g.M.Rows.rows c.args.map.now in
    let all : take c.loop-at.at rs ≡ rs = take_all c.loop-at.at rs (omega (arith, c.loop-at-test.false, c.count-count.ensures)) in
    let head = subst (λ n. Appends (g.W.Write.contents c.args.out.now) (g.W.Write.contents c.write_head.new.out) (head_of n)) c.count-count.ensures c.in_ok-write_head.ensures.all in
    let rest = subst (λ xs. Appends (g.W.Write.contents c.write_head.new.out) (g.W.Write.contents c.loop-at.out) (file_rows xs)) all c.loop-at.invariant.written in
    let whole = Appends-trans (g.W.Write.contents c.args.out.now) (g.W.Write.contents c.write_head.new.out) (g.W.Write.contents c.loop-at.out) (head_of (length rs)) (file_rows rs) head rest in
    record { all = whole; part = (head_of (length rs) ++ file_rows rs, [], sym (append-nil (head_of (length rs) ++ file_rows rs)), whole) }
