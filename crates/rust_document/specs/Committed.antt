-- What an accepted commit tells.
use Rattle.std.specs.Prelude.{ℕ}
use Rattle.rowan_green.specs.declared.text_range.TextRange.{TextRange}
use Rattle.rowan.specs.Place.{start_of, end_of}
use Rattle.syntax_tree.specs.Handle.{element_of}
use Rattle.syntax_tree.specs.declared.element.SyntaxElement.{SyntaxElement}
use Rattle.syntax_editor.specs.declared.annotation.SyntaxAnnotation.{SyntaxAnnotation}

-- a range as its first byte and the byte after it
abbrev pub ends_of : TextRange → ℕ × ℕ
ends_of r = (r.start.0, r.end.0)

-- the ends of a range with the number of its annotation
abbrev pub annotated_ends : TextRange × SyntaxAnnotation → (ℕ × ℕ) × ℕ
annotated_ends x = (ends_of x.0, x.1.number)

-- the bytes of an element with the number of its annotation
abbrev pub bounds_of : SyntaxElement × SyntaxAnnotation → (ℕ × ℕ) × ℕ
bounds_of x = ((start_of (element_of x.0).place, end_of (element_of x.0).place), x.1.number)
