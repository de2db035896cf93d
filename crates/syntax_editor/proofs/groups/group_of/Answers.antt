use Rattle.std.proofs.Common.{ap, ◌∙◌}
use Rattle.syntax_editor.specs.Groups.{items_of}
use Rattle.syntax_editor.proofs.groups.group_of.Goals as goal

pub returns-in-Some : goal.returns-in-Some
returns-in-Some c = c.deref.ensures.value ∙ ap items_of c.in-Some.ensures.value

pub returns-in-None : goal.returns-in-None
returns-in-None c = ap items_of c.in-None.ensures.value
