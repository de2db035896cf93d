use Rattle.parser_events.specs.Trivia.{is_outer}
use Rattle.parser_events.proofs.Comments.{or-same}
use Rattle.parser_events.proofs.trivia.is_outer.Goals as goal

pub returns : goal.returns
unfolding is_outer
returns c = or-same _ _ _ _ c.is_outer_line.ensures c.is_outer_block.ensures
