use Rattle.parser_input.proofs.KindTests.{opening-yes, opening-no}
use Rattle.parser_input.proofs.syntax_kind.SyntaxKind.is_l_delimiter.Goals as goal

pub returns-in-L_PAREN : goal.returns-in-L_PAREN
returns-in-L_PAREN c = opening-yes c.args.self c.in-L_PAREN.is

pub returns-in_default : goal.returns-in_default
returns-in_default c = opening-no c.args.self c.in_default.not-L_PAREN c.in_default.not-L_CURLY c.in_default.not-L_BRACK
