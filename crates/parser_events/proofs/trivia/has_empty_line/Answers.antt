-- The text's bytes are those of its characters.
use Rattle.std.proofs.Common.{[], ◌∷◌}
use Rattle.std.proofs.lemmas.Str.Pattern.{contains_text}
use Rattle.parser_events.proofs.Comments.{empty-line}
use Rattle.parser_events.proofs.trivia.has_empty_line.Goals as goal

pub returns : goal.returns
returns c = empty-line _ c.args.text.now c.utf8.text (contains_text _ (10 ∷ 10 ∷ []) c.args.text.now c.contains.ensures.cases)
