-- The text's bytes are those of its characters.
use Rattle.std.proofs.lemmas.Str.Pattern.{starts_text}
use Rattle.parser_events.proofs.Comments.{begins}
use Rattle.parser_events.proofs.trivia.begins_with.Goals as goal

pub returns : goal.returns
returns c = begins _ c.args.prefix.now c.args.text.now c.requires c.utf8.text (starts_text _ c.args.prefix.now c.args.text.now c.starts_with.ensures.cases)
