-- Bones: the children of a node that a match compares.
use Rattle.std.specs.Prelude.{ℕ, ◌==◌, ◌&&◌, ◌||◌, not, Bool}
use Rattle.parser_input.specs.Kinds.{WHITESPACE, COMMENT, COMMA}
use Rattle.tree_patterns.specs.Kinds.{is_among}
use Rattle.tree_patterns.specs.declared.kinds.TheConstants.{COMMA_LISTS}

-- whitespace or a comment
abbrev pub is_trivia : ℕ → Bool
is_trivia kind = kind == WHITESPACE || kind == COMMENT

-- a child of this kind, in a node of kind `parent`, is compared: it is no trivia, and no comma of a list
abbrev pub is_bone : (parent kind : ℕ) → Bool
is_bone parent kind = not (is_trivia kind) && (not (kind == COMMA) || not (is_among COMMA_LISTS parent))
