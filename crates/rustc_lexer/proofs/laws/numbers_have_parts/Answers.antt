use Rattle.rustc_lexer.proofs.NumberParts.{reads-number, number-parts}
use Rattle.rustc_lexer.proofs.laws.numbers_have_parts.Goals as goal

pub returns-clause-read : goal.returns-clause-read
returns-clause-read c = λ text rest kind p. reads-number p

pub returns-clause-parts : goal.returns-clause-parts
returns-clause-parts c = number-parts
