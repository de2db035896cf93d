use Rattle.parser_input.proofs.FenceLaw.{first-fence, unclosed-none, none-unclosed}
use Rattle.parser_input.proofs.LineSteps.{lines-join}
use Rattle.parser_input.proofs.laws.first_fence_closes.Goals as goal

pub returns-clause-lines : goal.returns-clause-lines
returns-clause-lines c = lines-join

pub returns-clause-first : goal.returns-clause-first
returns-clause-first c = first-fence

pub returns-clause-none : goal.returns-clause-none
returns-clause-none c = λ text many. (unclosed-none text many, none-unclosed text many)
