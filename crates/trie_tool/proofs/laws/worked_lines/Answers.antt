use Rattle.std.proofs.Common.{refl}
use Rattle.std.specs.Str.{is_utf8, chars}
use lib.Utf8.{encode}
use Rattle.trie_tool.specs.Request.{request_of}
use Rattle.line_sessions.specs.Lines.{cut}
use Rattle.trie_tool.proofs.laws.worked_lines.Goals as goal

pub returns-clause-lines : goal.returns-clause-lines
unfolding request_of is_utf8 chars encode
returns-clause-lines c = refl

pub returns-clause-cut_lines : goal.returns-clause-cut_lines
unfolding cut
returns-clause-cut_lines c = refl

pub returns-clause-cut_rest : goal.returns-clause-cut_rest
unfolding cut
returns-clause-cut_rest c = refl
