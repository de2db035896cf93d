use Rattle.message_frames.proofs.FrameLemmas.{broken-more, messages-more}
use Rattle.message_frames.proofs.laws.pieces_make_no_difference.Goals as goal

pub returns-clause-messages : goal.returns-clause-messages
returns-clause-messages c = messages-more

pub returns-clause-broken : goal.returns-clause-broken
returns-clause-broken c = broken-more
