-- The row is refused.
use Rattle.std.proofs.Common.{[], rules}
use Rattle.syntax_tree.specs.Handle.{element_of}
use Rattle.syntax_editor.specs.Recording.{replacing}
use Rattle.syntax_editor.proofs.editor.SyntaxEditor.delete_all.Goals as goal

pub returns-in_err-row-clause-refused : goal.returns-in_err-row-clause-refused
returns-in_err-row-clause-refused c =
    let refused = c.row.ensures.refused [] (replacing c.args.self.now (element_of c.args.first.now) []) in
    search (rules, refused)
