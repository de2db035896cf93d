-- The bytes tell what the characters are.
use Rattle.std.proofs.Common.{Some, None}
use Rattle.parser_input.proofs.Words.{word-underscore, word-other}
use Rattle.parser_input.proofs.keywords.word_kind.Goals as goal

pub returns-then-eq : goal.returns-then-eq
returns-then-eq c = word-underscore _ _ c.utf8.text c.if-eq.ensures

pub returns-in-Some : goal.returns-in-Some
returns-in-Some c = word-other _ _ c.utf8.text c.if-eq.ensures (Some _) c.in-Some.ensures.kind

pub returns-in-None : goal.returns-in-None
returns-in-None c = word-other _ _ c.utf8.text c.if-eq.ensures None c.in-None.ensures.kind
