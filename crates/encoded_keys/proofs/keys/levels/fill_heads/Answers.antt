use Rattle.std.proofs.Common.{◌+◌, ◌*◌, drop, ap, ◌∙◌, arith}
use Rattle.std.proofs.lemmas.List.{length-set}
use Rattle.encoded_keys.specs.Heads.{head_behind, head_in}
use Rattle.encoded_keys.specs.Laid.{codes_in, halves, odds}
use Rattle.encoded_keys.proofs.CodeLemmas.Making.{heads_more}
use Rattle.encoded_keys.proofs.keys.levels.fill_heads.Goals as goal

pub loop-i-preserved : goal.loop-i-preserved
loop-i-preserved c =
    let cs = codes_in c.args.bytes.now 0 (halves c.args.ends.now) (odds c.args.ends.now) in
    record {
      many = length-set c.loop-i.heads c.loop-i.i c.head_of.result ∙ c.loop-i.invariant.many;
      heads = heads_more cs c.args.step c.args.further c.loop-i.heads c.args.skips.now c.loop-i.i c.head_of.result c.loop-i.invariant.heads
          (omega (arith, c.loop-i.invariant.many, c.loop-i-test.true))
          (c.head_of.ensures.head ∙ ap head_in c.behind.ensures ∙ ap (λ n. head_in (drop (2 * (c.args.further + n)) c.piece_in-list.result)) c.skip_at.ensures
          ∙ ap (head_behind _) c.piece_in-list.ensures.code);
    }
