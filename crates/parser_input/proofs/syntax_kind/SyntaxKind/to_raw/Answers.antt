use Rattle.parser_input.proofs.KindTable.{tag_of-below, tag_of-raw}
use Rattle.parser_input.proofs.syntax_kind.SyntaxKind.to_raw.Goals as goal

pub returns-clause-number : goal.returns-clause-number
returns-clause-number c = tag_of-raw c.args.self

pub returns-clause-known : goal.returns-clause-known
returns-clause-known c = tag_of-below c.args.self
