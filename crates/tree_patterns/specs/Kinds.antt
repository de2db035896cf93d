-- Sets of kinds.
use Rattle.std.specs.Prelude.{ℕ, ◌==◌, List, Bool}
use Rattle.std.specs.List.{list_any}
use Rattle.parser_input.specs.Kind.{raw_of}
use Rattle.parser_input.specs.declared.syntax_kind.SyntaxKind.{SyntaxKind}

-- a raw number is that of one of these kinds
abbrev pub is_among : List SyntaxKind → ℕ → Bool
is_among kinds kind = list_any (λ one. raw_of one == kind) kinds
