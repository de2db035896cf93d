use Rattle.std.proofs.Common.{option_map, ap, ◌∙◌}
use Rattle.syntax_tree.specs.Handle.{element_of}
use Rattle.annotated_elements.specs.Groups.{items_of}
use Rattle.annotated_elements.proofs.GroupLemmas.{key-names}
use Rattle.annotated_elements.proofs.groups.Groups.group.Goals as goal

pub returns-in-Some : goal.returns-in-Some
returns-in-Some c =
    let named = key-names c.args.self.now.groups c.in_ok-key.key (element_of c.args.origin.now) c.in_ok-key.ensures.tree c.in_ok-key.ensures.way in
    c.deref.ensures.value ∙ ap (λ o. items_of (option_map (λ v. v.items) o)) (c.in-Some.ensures.value ∙ named)

pub returns : goal.returns
returns c =
    let named = key-names c.args.self.now.groups c.in_ok-key.key (element_of c.args.origin.now) c.in_ok-key.ensures.tree c.in_ok-key.ensures.way in
    ap (λ o. items_of (option_map (λ v. v.items) o)) (c.in-None.ensures.value ∙ named)
