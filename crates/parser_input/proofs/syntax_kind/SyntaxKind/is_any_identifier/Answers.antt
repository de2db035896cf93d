use Rattle.parser_input.proofs.KindTests.{identifier-plain, identifier-word}
use Rattle.parser_input.proofs.syntax_kind.SyntaxKind.is_any_identifier.Goals as goal

pub returns-then-eq : goal.returns-then-eq
returns-then-eq c = identifier-plain c.args.self c.eq.result c.eq.ensures c.if-eq.true

pub returns-else-eq : goal.returns-else-eq
returns-else-eq c = identifier-word c.args.self c.eq.result c.is_keyword.result c.eq.ensures c.if-eq.false c.is_keyword.ensures
