use Rattle.std.proofs.Common.{sym}
use Rattle.line_index.proofs.ColumnLemmas.{units-bytes}
use Rattle.line_index.proofs.encoding.units.Goals as goal

pub returns-in-Utf8 : goal.returns-in-Utf8
returns-in-Utf8 c = rw c.in-Utf8.is (sym (units-bytes c.args.bytes.now))
