use Rattle.std.specs.Prelude.{[]}
use Rattle.std.specs.FinMap as map
use Rattle.trie_tool.proofs.ToldLemmas.{served-told}
use Rattle.trie_tool.proofs.engine.answer_all.Goals as goal

pub returns : goal.returns
returns g c =
    let session = c.serve-outcome in
    let (left, served) = session.ensures.served in
    record {
      result = session.result;
      left = left;
      remark = [];
      served = served-told c.args.reader.now.unread session.new.reader.unread c.args.writer.now.held session.new.writer.held map.empty left session.result served;
      noted = session.ensures.noted;
      status_is = c.end.ensures.status;
      told = c.end.ensures.told;
    }
