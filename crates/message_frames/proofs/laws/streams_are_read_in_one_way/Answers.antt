use Rattle.message_frames.proofs.FrameLemmas.{end-none, ends-one, messages-one}
use Rattle.message_frames.proofs.laws.streams_are_read_in_one_way.Goals as goal

pub returns-clause-messages : goal.returns-clause-messages
returns-clause-messages c = messages-one

pub returns-clause-none : goal.returns-clause-none
returns-clause-none c = end-none

pub returns-clause-ends : goal.returns-clause-ends
returns-clause-ends c = ends-one
