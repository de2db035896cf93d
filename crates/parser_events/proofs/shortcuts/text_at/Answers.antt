use Rattle.std.proofs.Common.{◌∙◌, arith}
use Rattle.std.proofs.lemmas.Str.{chars-nil}
use Rattle.parser_events.proofs.Putting.{text-next, text-end}
use Rattle.parser_events.proofs.shortcuts.text_at.Goals as goal

pub returns-then-i-len : goal.returns-then-i-len
returns-then-i-len c = c.text.ensures ∙ text-next c.args.lexed.now.leaves c.args.i (omega arith)

pub returns : goal.returns
returns c = chars-nil ∙ text-end c.args.lexed.now.leaves c.args.i (omega arith)
