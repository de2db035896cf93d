use Rattle.std.proofs.Common.{◌++◌, ◌∷◌, [], nat_eq, ap, ◌∙◌}
use Rattle.std.specs.HashMap.{get}
use Rattle.syntax_editor.proofs.GroupLemmas.{pushed, taken-items}
use Rattle.syntax_editor.proofs.groups.push_to.Goals as goal

pub returns : goal.returns
returns c = λ n.
    let old = c.args.groups.now in
    pushed c.args.number n c.args.element (get nat_eq old) (get nat_eq c.remove.new.self) (get nat_eq c.insert.new.self) c.push.new.self
    c.remove.ensures.updates.0 c.in_ok-insert.ensures.updates.0
    (c.in_ok-push.ensures.items
    ∙ ap (λ l. l ++ c.args.element ∷ []) (taken-items c.remove.result (get nat_eq old c.args.number) _ c.new.result c.unwrap_or-elements.ensures c.new.ensures.items c.remove.ensures.value))
