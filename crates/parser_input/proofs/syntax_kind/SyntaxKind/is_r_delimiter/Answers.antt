use Rattle.parser_input.proofs.KindTests.{closing-yes, closing-no}
use Rattle.parser_input.proofs.syntax_kind.SyntaxKind.is_r_delimiter.Goals as goal

pub returns-in-R_PAREN : goal.returns-in-R_PAREN
returns-in-R_PAREN c = closing-yes c.args.self c.in-R_PAREN.is

pub returns-in_default : goal.returns-in_default
returns-in_default c = closing-no c.args.self c.in_default.not-R_PAREN c.in_default.not-R_CURLY c.in_default.not-R_BRACK
