use Rattle.std.proofs.Common.{◌≡◌, IfOk, option_map, subst}
use Rattle.syntax_tree.specs.Handle.{element_of}
use Rattle.annotated_elements.specs.Following.{followed}
use Rattle.annotated_elements.proofs.following.followed.Goals as goal

pub returns : goal.returns
returns c =
    subst (λ ms. IfOk c.end_of.result (λ r. option_map element_of r ≡ followed ms (element_of c.args.element.now))) c.in_ok-mapped.ensures c.end_of.ensures
