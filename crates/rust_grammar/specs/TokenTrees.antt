-- The brackets of token trees.
use Rattle.std.specs.Prelude.{ℕ, ◌==◌, Bool, true, false, ◌&&◌, if◌then◌else◌}
use Rattle.parser_input.specs.Kinds.{TOKEN_TREE, L_PAREN, R_PAREN, L_CURLY, R_CURLY, L_BRACK, R_BRACK, EOF}
use Rattle.parser_events.specs.Forest as forest
use Rattle.parser_events.specs.Forest.{Forest, Message, Expected}

-- the bracket that closes what this one opens; other tokens open nothing
unfoldable pub partner : ℕ → ℕ
partner kind = if kind == L_PAREN then R_PAREN else (if kind == L_CURLY then R_CURLY else (if kind == L_BRACK then R_BRACK else EOF))

unfoldable pub is_opening : ℕ → Bool
is_opening kind = if kind == L_PAREN then true else (if kind == L_CURLY then true else kind == L_BRACK)

unfoldable pub is_missing : ℕ → Message → Bool
is_missing kind (Expected k) = k == kind
is_missing kind message = false

-- the last tree is a token of this kind, or the error for a missing one
unfoldable pub ends_with : ℕ → Forest → Bool
ends_with kind forest.End = false
ends_with kind (forest.Leaf k n forest.End) = k == kind && n == 1
ends_with kind (forest.Leaf k n f) = ends_with kind f
ends_with kind (forest.Said message forest.End) = is_missing kind message
ends_with kind (forest.Said message f) = ends_with kind f
ends_with kind (forest.ErrorLeaf message k f) = ends_with kind f
ends_with kind (forest.Node k c f) = ends_with kind f
ends_with kind (forest.Float e c f) = ends_with kind f

-- an opening delimiter first, and last the closing one, or the error for a missing one
unfoldable pub is_bracketed : Forest → Bool
is_bracketed (forest.Leaf k n f) = is_opening k && n == 1 && ends_with (partner k) f
is_bracketed f = false

-- Each token tree starts with an opening delimiter, and ends with the closing one or the error for a missing one.
unfoldable pub are_token_trees_bracketed : Forest → Bool
are_token_trees_bracketed forest.End = true
are_token_trees_bracketed (forest.Leaf k n f) = are_token_trees_bracketed f
are_token_trees_bracketed (forest.Said message f) = are_token_trees_bracketed f
are_token_trees_bracketed (forest.ErrorLeaf message k f) = are_token_trees_bracketed f
are_token_trees_bracketed (forest.Node k c f) =
    (if k == TOKEN_TREE then is_bracketed c else true) && are_token_trees_bracketed c && are_token_trees_bracketed f
are_token_trees_bracketed (forest.Float e c f) = are_token_trees_bracketed c && are_token_trees_bracketed f
