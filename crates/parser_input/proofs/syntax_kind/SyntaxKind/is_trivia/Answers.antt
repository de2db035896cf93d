use Rattle.parser_input.proofs.KindTests.{trivia-yes, trivia-no}
use Rattle.parser_input.proofs.syntax_kind.SyntaxKind.is_trivia.Goals as goal

pub returns-in-WHITESPACE : goal.returns-in-WHITESPACE
returns-in-WHITESPACE c = trivia-yes c.args.self c.in-WHITESPACE.is

pub returns-in_default : goal.returns-in_default
returns-in_default c = trivia-no c.args.self c.in_default.not-WHITESPACE c.in_default.not-COMMENT
