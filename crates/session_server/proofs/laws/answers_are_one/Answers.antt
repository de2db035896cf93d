use Rattle.session_server.proofs.Answered.{answers-one}
use Rattle.session_server.proofs.laws.answers_are_one.Goals as goal

pub returns : goal.returns
returns c = answers-one
