use Rattle.std.proofs.Common.{◌≡◌, take}
use Rattle.syntax_editor.proofs.recorded.copies.Given as goal

abbrev pub invariant-loop-element : goal.invariant-loop-element
invariant-loop-element l = l.copies.items ≡ take l.element-index l.elements
