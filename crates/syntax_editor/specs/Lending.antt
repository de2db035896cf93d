-- What an editor returns a reference to.
use Rattle.std.specs.Borrow.{Lends, MutBor, Fml}
use Rattle.syntax_tree.specs.Mapping.{Mapping}
use Rattle.syntax_tree.specs.contracts.mapping.SyntaxMapping.{the_row as mapping_row}
use Rattle.syntax_editor.specs.Editing.{Editing}
use Rattle.syntax_editor.specs.contracts.editor.SyntaxEditor.{the_row}

-- the editor ends with the mapping that was left after the reference
abbrev pub LendsMapping : MutBor Editing → MutBor Mapping → Fml
LendsMapping s r = Lends the_row mapping_row s r (λ w. record { top = s.now.top; changes = s.now.changes; mapping = w; annotations = s.now.annotations })
