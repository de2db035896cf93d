use Rattle.std.proofs.Common.{arith}
use Rattle.rustc_lexer.proofs.Reading.{reads-literal, reads-shorter}
use Rattle.rustc_lexer.proofs.cursor.Cursor.number_literal.Goals as goal

pub end_literal-requires : goal.end_literal-requires
end_literal-requires c = let rest = reads-shorter c.number-body.ensures in omega (arith, c.remaining-start.ensures)

pub returns : goal.returns
returns c = reads-literal c.remaining-start.result c.number-body.ensures c.remaining-start.ensures c.end_literal.ensures.kind c.end_literal.ensures.rest
