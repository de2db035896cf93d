-- The whitespace between two neighbours.
use Rattle.std.specs.Prelude.{ℕ, max, Bool, ◌&&◌, ◌||◌, ◌==◌, if◌then◌else◌}
use Rattle.parser_input.specs.Kinds.{WHITESPACE, SEMICOLON, COMMA, L_ANGLE, R_ANGLE, AMP, LIFETIME, GENERIC_ARG_LIST, USE, ATTR}
use Rattle.rowan.specs.Place.{kind_at}
use Rattle.syntax_tree.specs.Handle.{element_of}
use Rattle.syntax_tree.specs.declared.element.SyntaxElement.{SyntaxElement}
use Rattle.syntax_editor.specs.Indent.{level_of}
use Rattle.syntax_editor.specs.declared.whitespace.Space.{Space}
use Rattle.syntax_editor.specs.declared.whitespace.Space.TheVariants.{Nothing, Blank, Line}

-- its raw kind
abbrev pub kind_of : SyntaxElement → ℕ
kind_of e = kind_at (element_of e).place

-- nothing comes between these kinds
abbrev pub is_tight : ℕ → ℕ → Bool
is_tight left right =
    (left == WHITESPACE || right == WHITESPACE)
    || ((right == SEMICOLON || right == COMMA)
    || ((left == L_ANGLE || right == R_ANGLE)
    || ((left == AMP && right == LIFETIME)
    || right == GENERIC_ARG_LIST)))

-- what comes between two elements: a use begins a line of the level of what it follows, and what follows an attribute one of its own
-- level; between two uses, or two attributes, the greater of both levels counts
abbrev pub between : SyntaxElement → SyntaxElement → Space
between left right =
    if is_tight (kind_of left) (kind_of right) then Nothing
    else if kind_of right == USE then Line (if kind_of left == USE then max (level_of left) (level_of right) else level_of left)
    else if kind_of left == ATTR then Line (if kind_of right == ATTR then max (level_of left) (level_of right) else level_of right)
    else Blank
