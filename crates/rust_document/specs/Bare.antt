-- Children without whitespace and comments, one by one.
use Rattle.std.specs.Prelude.{◌≡◌, ◌+◌, ◌≤◌, ◌==◌, ◌||◌, Bool, false, List}
use Rattle.rowan_green.specs.Forest.{Forest, node, leaf, forest_count}
use Rattle.rowan_green.specs.Term.{Term, forest_of, term_count}
use Rattle.rowan_green.specs.declared.utility_types.NodeOrToken.TheVariants.{Node, Token}
use Rattle.parser_input.specs.Kinds.{WHITESPACE, COMMENT}
use Rattle.rust_document.specs.Rewrite.{bare}

-- whitespace or a comment
abbrev pub is_left_out : Term → Bool
is_left_out (Node t) = false
is_left_out (Token l) = l.kind == WHITESPACE || l.kind == COMMENT

-- a forest begins with this element, without the whitespace and comments inside it, and the rest comes after it
abbrev pub BeginsWith : Forest → Term → Forest → Type 0
BeginsWith f (Node t) rest = f ≡ node t.kind (bare t.forest) rest
BeginsWith f (Token l) rest = f ≡ leaf l rest

-- of the children `old`, the first that is not left out is `e`, and `new` are those after it
pub record Steps (old : List Term) (e : Term) (new : List Term) : Type 0 where
  pub begins : BeginsWith (bare (forest_of old)) e (bare (forest_of new))
  pub fewer : term_count e + forest_count (forest_of new) ≤ forest_count (forest_of old)
