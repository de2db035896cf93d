use Rattle.language_session.proofs.Answering.{answered-once}
use Rattle.language_session.proofs.laws.requests_are_answered_once.Goals as goal

pub returns : goal.returns
returns c = answered-once
