use Rattle.rustc_lexer.proofs.CharacterEnds.{one-closes, characters-end, characters-open}
use Rattle.rustc_lexer.proofs.laws.characters_end.Goals as goal

pub returns-clause-one : goal.returns-clause-one
returns-clause-one c = one-closes

pub returns-clause-first : goal.returns-clause-first
returns-clause-first c = characters-end

pub returns-clause-open : goal.returns-clause-open
returns-clause-open c = characters-open
