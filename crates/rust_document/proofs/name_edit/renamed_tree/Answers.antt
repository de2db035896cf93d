-- The tree is that of the edited text.
use Rattle.rust_document.proofs.NameEdits.{renamed-known}
use Rattle.rust_document.proofs.name_edit.renamed_tree.Goals as goal

pub returns : goal.returns
returns c =
    renamed-known c.with_name.result c.args.before.now c.args.edit.now c.in-Some.place c.in-Some-plain_names.names c.requires.read c.requires.edit
    c.in-Some.ensures c.in-Some-plain_names.ensures c.with_name.ensures
