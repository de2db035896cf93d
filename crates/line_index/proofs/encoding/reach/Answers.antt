use Rattle.std.proofs.Common.{arith}
use Rattle.line_index.proofs.ColumnLemmas.{reach-bytes}
use Rattle.line_index.proofs.encoding.reach.Goals as goal

pub returns-in-Utf8 : goal.returns-in-Utf8
returns-in-Utf8 c = rw (c.in-Utf8.is, reach-bytes c.args.col c.args.bytes.now) (omega arith)
