-- All kinds.
use Rattle.std.specs.Prelude.{List}
use Rattle.parser_input.specs.declared.syntax_kind.SyntaxKind.{SyntaxKind}
use Rattle.parser_input.specs.declared.kind_table.TheConstants.{KINDS}

-- by their raw numbers, from 0 on; a name that does not compute where nothing asks for it
unfoldable pub all_kinds : List SyntaxKind
all_kinds = KINDS
