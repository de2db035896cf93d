-- The row is refused.
use Rattle.std.proofs.Common.{map, rules}
use Rattle.syntax_tree.specs.Handle.{element_of}
use Rattle.syntax_editor.specs.Recording.{replacing_many}
use Rattle.syntax_editor.proofs.editor.SyntaxEditor.replace_all.Goals as goal

pub returns-in_err-row-clause-refused : goal.returns-in_err-row-clause-refused
returns-in_err-row-clause-refused c =
    let new = map element_of c.args.new.items in
    let refused = c.row.ensures.refused new (replacing_many c.args.self.now (element_of c.args.first.now) new) in
    search (rules, refused)
