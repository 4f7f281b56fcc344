use Rattle.std.proofs.Common.{◌≡◌, ℕ, ◌+◌, ◌-◌, ◌<◌, ◌≤◌, ◌⊎◌, inl, inr, false, length, map as each, ap, subst, sym, arith, ◌∙◌}
use Rattle.std.proofs.lemmas.List.{length-map}
use Rattle.std.proofs.lemmas.Nat.{mul-le}
use Rattle.flat_routes.specs.Images.{row_in, row_size, width}
use Rattle.flat_routes.specs.Merged.{AreMerged, gone_at, no_row, put_place, put_row_at, row_at}
use Rattle.flat_routes.proofs.ImageLemmas.{first_stored, size_stored}
use Rattle.flat_routes.proofs.MergeLemmas.{before_all, before_by, before_from, behind_all, changes_in_order, item_shown, more_at_most, one_more, own_all, put_kept, rows_in_order, run_more}
use Rattle.flat_routes.proofs.WriteLemmas.{change_through}
use Rattle.flat_routes.proofs.merging.put_merged.Goals as goal

pub loop-i-preserved : goal.loop-i-preserved
loop-i-preserved g c =
    let wide = c.args.wide in
    let image = c.args.image.now in
    let n = c.args.rows in
    let changes = c.args.changes.now in
    let m = length changes in
    let shown = g.C.FlatRow.shown in
    let removes = g.C.FlatChange.removes in
    let old = row_in wide image in
    let changed = row_at (each shown changes) in
    let gone = gone_at (each removes changes) in
    let many = length-map changes shown in
    let counted = c.requires.plan.rows in
    let all = c.requires.within in
    let old_rise = rows_in_order wide image n (omega (arith, all, counted)) c.requires.next in
    let changes_rise = λ (j k : ℕ) (l : j < k) (q : k < m). changes_in_order (width wide) (each shown changes) c.requires.rising j k l (omega (arith, q, many)) in
    let i = c.loop-i.i in
    let at = c.loop-i.at in
    let count = c.loop-i.count in
    let end = c.end_before-end.result in
    let next = c.behind-at.result in
    let more = c.put_change-count.result in
    let out = c.loop-i.out in
    let b1 = c.put_run.new.out in
    let b2 = c.put_change-count.new.out in
    let inside = c.loop-i-test.true in
    let least = c.end_before-end.ensures.least in
    let most = c.end_before-end.ensures.most in
    let own_row = item_shown shown changes i c.index-changes-i.result no_row inside c.index-changes-i.is in
    let first = c.first-first.ensures.value ∙ ap (λ r. r.0.base) (sym own_row) in
    let bits = c.bits-bits.ensures ∙ ap (λ r. r.0.bits) (sym own_row) in
    let before = λ (k : ℕ) (from : at ≤ k) (to : k < end). before_by _ _ _ _ (old k) (changed i) (first_stored wide image k (omega (arith, to, most, all, counted))) (size_stored wide image k (omega (arith, to, most, all, counted)))
    first bits (c.end_before-end.ensures.before k from to) in
    let run = run_more old changed gone n m old_rise changes_rise (put_row_at wide out) (put_row_at wide b1) at i count c.loop-i.invariant.so_far
    (put_kept wide out b1 count (λ k l. c.put_run.ensures.change.before k l)) end least most (omega (arith, inside))
    (λ k j from to f t. before_all old changed gone n m old_rise changes_rise i k inside (before k from to) j f t) (λ k from to. c.put_run.ensures.rows k from to) in
    let own : (next ≡ end) ⊎ ((next ≡ end + 1) × ((old end).0.base ≡ (changed i).0.base) × ((old end).0.bits ≡ (changed i).0.bits)) = elim c.behind-at.ensures.own [
      | inl is ↦ inl is
      | inr of ↦
          let is = of.0 in
          let past = c.behind-at.ensures.most in
          inr (is, sym (first_stored wide image end (omega (arith, is, past, all, counted))) ∙ of.1 ∙ first, sym (size_stored wide image end (omega (arith, is, past, all, counted))) ∙ of.2 ∙ bits)
    ] in
    let order : end ≤ next = elim own [ inl is ↦ omega (arith, is) | inr of ↦ let is = of.0 in omega (arith, is) ] in
    let behind = behind_all old changed gone n m old_rise changes_rise i end next own
    (λ l p. c.end_before-end.ensures.end l (before_from _ _ _ _ (old end) (changed i) (first_stored wide image end (omega (arith, l, all, counted))) (size_stored wide image end (omega (arith, l, all, counted))) first bits p))
    (λ is l base size. c.behind-at.ensures.other is l (first_stored wide image end (omega (arith, l, all, counted)) ∙ base ∙ sym first) (size_stored wide image end (omega (arith, l, all, counted)) ∙ size ∙ sym bits)) in
    let same = own_all old changed gone n m old_rise changes_rise i end next own
    (λ l p. c.end_before-end.ensures.end l (before_from _ _ _ _ (old end) (changed i) (first_stored wide image end (omega (arith, l, all, counted))) (size_stored wide image end (omega (arith, l, all, counted))) first bits p))
    (λ is l base size. c.behind-at.ensures.other is l (first_stored wide image end (omega (arith, l, all, counted)) ∙ base ∙ sym first) (size_stored wide image end (omega (arith, l, all, counted)) ∙ size ∙ sym bits)) in
    let put = c.put_change-count.ensures in
    let few = more_at_most (removes c.index-changes-i.result) (count + (end - at)) more put.removed put.given in
    let s = row_size wide in
    let up = mul-le s count s (count + (end - at)) (omega arith) (omega arith) in
    let too = mul-le s (count + (end - at)) s more (omega arith) few.0 in
    let counts = few.1 in
    record {
      within = c.behind-at.ensures.most;
      most = omega (arith, c.loop-i.invariant.most, counts, order, least);
      so_far = one_more old changed gone n m old_rise changes_rise (put_row_at wide b1) (put_row_at wide b2) end i (count + (end - at)) run
          (put_kept wide b1 b2 (count + (end - at)) (λ k l. put.change.before k l)) next order inside behind same (removes c.index-changes-i.result) more
          (item_shown removes changes i c.index-changes-i.result false inside c.index-changes-i.is) put.removed put.given (λ stays. put.row stays ∙ sym own_row);
      change = change_through 112 (put_place wide (count + (end - at))) (put_place wide (count + (end - at))) (put_place wide more) 112 (put_place wide more) c.args.out.now b1 b2
          (change_through 112 (put_place wide count) (put_place wide count) (put_place wide (count + (end - at))) 112 (put_place wide (count + (end - at))) c.args.out.now out b1
          c.loop-i.invariant.change c.put_run.ensures.change (omega arith) (omega arith) (omega (arith, up)) (omega arith))
          put.change (omega arith) (omega arith) (omega (arith, too)) (omega arith);
    }

pub returns-clause-merged : goal.returns-clause-merged
returns-clause-merged g c =
    let wide = c.args.wide in
    let image = c.args.image.now in
    let n = c.args.rows in
    let changes = c.args.changes.now in
    let m = length changes in
    let old = row_in wide image in
    let changed = row_at (each g.C.FlatRow.shown changes) in
    let gone = gone_at (each g.C.FlatChange.removes changes) in
    let many = length-map changes g.C.FlatRow.shown in
    let i = c.loop-i.i in
    let at = c.loop-i.at in
    let count = c.loop-i.count in
    let new = put_row_at wide c.put_run-2.new.out in
    let is : i ≡ m = omega (arith, c.loop-i-test.false, c.loop-i.auto.i-end) in
    let run = run_more old changed gone n m (rows_in_order wide image n (omega (arith, c.requires.within, c.requires.plan.rows)) c.requires.next)
    (λ (j k : ℕ) (l : j < k) (q : k < m). changes_in_order (width wide) (each g.C.FlatRow.shown changes) c.requires.rising j k l (omega (arith, q, many)))
    (put_row_at wide c.loop-i.out) new at i count c.loop-i.invariant.so_far
    (put_kept wide c.loop-i.out c.put_run-2.new.out count (λ k l. c.put_run-2.ensures.change.before k l)) n c.loop-i.invariant.within (omega arith) (omega (arith, is))
    (λ k j from to f t. absurd (omega (arith, f, t, is))) (λ k from to. c.put_run-2.ensures.rows k from to) in
    subst (λ x. AreMerged old changed gone new n x (count + (n - at))) is run.merged
