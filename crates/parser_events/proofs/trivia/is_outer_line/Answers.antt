use Rattle.std.proofs.Common.{ap, not, chars, ◌∙◌, arith}
use Rattle.parser_events.proofs.Comments.{and-same, only-three}
use Rattle.parser_events.proofs.trivia.is_outer_line.Goals as goal

pub returns : goal.returns
returns c =
    and-same _ _ _ _ c.begins_with.ensures (ap not c.begins_with-2.ensures) ∙ only-three 47 47 47 47 (chars c.args.text.now) (omega arith)
