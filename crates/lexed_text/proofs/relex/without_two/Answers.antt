use Rattle.lexed_text.proofs.Sums.{lacks-two}
use Rattle.lexed_text.proofs.relex.without_two.Goals as goal

pub returns-in-Some-without_last : goal.returns-in-Some-without_last
returns-in-Some-without_last c = lacks-two _ _ _ c.in-Some.ensures c.in-Some-without_last.ensures
