-- The indentation of lines.
use Rattle.std.specs.Prelude.{ℕ, ◌*◌, ◌/◌, ◌==◌, min, List, [], ◌∷◌, length, replicate, chars, Option, Some, None, option_map, unwrap_or, if◌then◌else◌}
use Rattle.std.specs.Option.{option_or}
use Rattle.parser_input.specs.Kinds.{WHITESPACE}
use Rattle.rowan.specs.Place.{Place, kind_at, text_at}
use Rattle.rowan.specs.Leaves.{tokens_in, tokens_before}
use Rattle.syntax_tree.specs.declared.element.SyntaxElement.{SyntaxElement}
use Rattle.syntax_tree.specs.declared.element.SyntaxElement.TheVariants.{Node, Token}

-- a space, as its character's number
abbrev pub space : ℕ
space = 32

-- four spaces a step
abbrev pub spaces : ℕ → List ℕ
spaces n = replicate (n * 4) space

-- a line feed, as its character's number
abbrev pub line_feed : ℕ
line_feed = 10

-- how many characters stand after the last line feed, if there is one
abbrev pub after_line_feed : List ℕ → Option ℕ
after_line_feed [] = None
after_line_feed (c ∷ cs) = option_or (after_line_feed cs) (if c == line_feed then Some (length cs) else None)

-- a step for every four characters, 255 at most
abbrev pub steps_of : ℕ → ℕ
steps_of n = min (n / 4) 255

-- whitespace with a line feed has the level of the characters after the last
abbrev pub own_level : Place → Option ℕ
own_level p = if kind_at p == WHITESPACE then option_map steps_of (after_line_feed (chars (text_at p))) else None

-- the level of the first of these tokens that has one; else 0
abbrev pub first_level : List Place → ℕ
first_level [] = 0
first_level (p ∷ ps) = unwrap_or (own_level p) (first_level ps)

-- the level of a token: the tokens from itself backwards, through the whole tree
abbrev pub level_at : Place → ℕ
level_at p = first_level (p ∷ tokens_before p)

-- the level of the first of some tokens, 0 where there is none
abbrev pub level_of_first : List Place → ℕ
level_of_first [] = 0
level_of_first (p ∷ ps) = level_at p

-- the level of a token; of a node, that of its first token
abbrev pub level_of : SyntaxElement → ℕ
level_of (Node e) = level_of_first (tokens_in e.place)
level_of (Token e) = level_at e.place
