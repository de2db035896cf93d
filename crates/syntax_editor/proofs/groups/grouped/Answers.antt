use Rattle.std.proofs.Common.{◌++◌, map, ap, nat_eq}
use Rattle.std.specs.Map.{lookup}
use Rattle.syntax_tree.specs.Handle.{element_of}
use Rattle.syntax_editor.specs.Edit.{of_annotation}
use Rattle.syntax_editor.specs.Groups.{items_of}
use Rattle.syntax_editor.specs.Inside.{annotated}
use Rattle.syntax_editor.proofs.groups.grouped.Goals as goal

pub loop-element-init : goal.loop-element-init
loop-element-init c = λ n. ap (λ es. map element_of (items_of (lookup (nat_eq n) es)) ++ of_annotation n (map annotated c.args.found.now)) c.new-groups.ensures.empty
