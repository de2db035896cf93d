use Rattle.std.proofs.Common.{map, ap, ◌∙◌}
use Rattle.syntax_tree.specs.Handle.{element_of}
use Rattle.annotated_elements.proofs.FoundLemmas.{found_beside}
use Rattle.annotated_elements.proofs.found.found.Goals as goal

pub returns-clause-found : goal.returns-clause-found
returns-clause-found c = λ m h.
    ap (map element_of) c.in_ok-found.ensures
    ∙ found_beside m c.args.root.now (map element_of c.args.origins.now) (element_of c.args.origin.now) h
