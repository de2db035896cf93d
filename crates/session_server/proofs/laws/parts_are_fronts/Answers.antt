use Rattle.session_server.proofs.Answered.{parts-front}
use Rattle.session_server.proofs.laws.parts_are_fronts.Goals as goal

pub returns : goal.returns
returns c = parts-front
