use Rattle.parser_input.specs.Kind.{raw_of}
use Rattle.parser_input.proofs.KindTests.{bracket-opening, bracket-other}
use Rattle.parser_input.proofs.syntax_kind.SyntaxKind.is_delimiter.Goals as goal

pub returns-then-is_l_delimiter : goal.returns-then-is_l_delimiter
returns-then-is_l_delimiter c = bracket-opening (raw_of c.args.self) c.is_l_delimiter.result c.is_l_delimiter.ensures c.if-is_l_delimiter.true

pub returns-else-is_l_delimiter : goal.returns-else-is_l_delimiter
returns-else-is_l_delimiter c = bracket-other (raw_of c.args.self) c.is_l_delimiter.result c.is_r_delimiter.result c.is_l_delimiter.ensures c.if-is_l_delimiter.false c.is_r_delimiter.ensures
