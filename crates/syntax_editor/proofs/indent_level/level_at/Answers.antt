use Rattle.std.proofs.Common.{◌≡◌, None, sym, ◌∙◌, rules}
use Rattle.syntax_editor.specs.Indent.{own_level}
use Rattle.syntax_editor.proofs.TokensBefore.{level_before, fewer_before}
use Rattle.syntax_editor.proofs.indent_level.level_at.Goals as goal

pub loop-level-smaller : goal.loop-level-smaller
loop-level-smaller c = fewer_before c.loop-level.place c.in-Some-2.before (sym c.in-Some-2.is ∙ c.in_ok-before.ensures)

pub loop-level-preserved : goal.loop-level-preserved
loop-level-preserved c =
    let none : own_level c.loop-level.place ≡ None = search rules in
    sym (level_before c.loop-level.place c.in-Some-2.before none (sym c.in-Some-2.is ∙ c.in_ok-before.ensures)) ∙ c.loop-level.invariant
