use Rattle.parser_input.proofs.LeavesLaw.{lexed-leaves}
use Rattle.parser_input.proofs.laws.lexed_is_leaves.Goals as goal

pub returns : goal.returns
returns c = lexed-leaves
