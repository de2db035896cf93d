use Rattle.parser_events.specs.Trivia.{is_inner}
use Rattle.parser_events.proofs.Comments.{or-same}
use Rattle.parser_events.proofs.trivia.is_inner.Goals as goal

pub returns : goal.returns
unfolding is_inner
returns c = or-same _ _ _ _ c.begins_with.ensures c.begins_with-2.ensures
