use Rattle.std.proofs.Common.{map, ap, ◌∙◌}
use Rattle.syntax_tree.specs.Handle.{element_of}
use Rattle.annotated_elements.proofs.FoundLemmas.{changed_beside}
use Rattle.annotated_elements.proofs.changed.changed.Goals as goal

pub returns-clause-changed : goal.returns-clause-changed
returns-clause-changed c = λ m h. ap (map element_of) c.in_ok-changed.ensures ∙ changed_beside m c.args.root.now c.args.put.now h
