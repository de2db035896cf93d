use Rattle.std.proofs.Common.{◌≡◌, ◌++◌, ◌∷◌, [], Some, true, cond, nat_eq, ap, sym, ◌∙◌}
use Rattle.std.proofs.lemmas.Bool.{and_parts, eqb-true}
use Rattle.std.specs.HashSet.{contains}
use Rattle.syntax_tree.specs.Element.{same_element, same_way}
use Rattle.syntax_tree.specs.Handle.{element_of}
use Rattle.annotated_elements.proofs.GroupLemmas.{key-same, others_stay, key_absent, key_left, added, true_false}
use Rattle.annotated_elements.proofs.groups.Groups.add.Goals as goal

pub returns-then-not-contains : goal.returns-then-not-contains
returns-then-not-contains c = λ e es old.
    let o = element_of c.args.origin.now in
    let trees = c.args.self.now.trees in
    let apart : same_element o e ≡ true → ⊥ = λ same.
    let number = eqb-true o.number e.number (and_parts (nat_eq o.number e.number) (same_way o.place.up e.place.up) same).0 in
    true_false (contains nat_eq trees e.number) old.tree (ap (contains nat_eq trees) (sym (c.tree.ensures ∙ number)) ∙ sym c.contains.ensures ∙ c.if-not-contains.true) in record {
      group = old.group ∙ ap Some (others_stay (same_element o e) es c.args.element apart);
      tree = old.tree;
    }

pub returns-in_default : goal.returns-in_default
returns-in_default c = λ e es old.
    let o = element_of c.args.origin.now in
    let k = c.in_ok-key.key in
    let self = c.args.self.now in
    let none = sym c.in_default.is ∙ c.remove.ensures.value in
    let apart : same_element o e ≡ true → ⊥ = λ same. key_absent self.groups k e es none old.group (key-same k o e c.in_ok-key.ensures.tree c.in_ok-key.ensures.way ∙ same) in record {
      group = key_left self.groups c.remove.new.self k e es c.remove.ensures.updates none old.group ∙ ap Some (others_stay (same_element o e) es c.args.element apart);
      tree = old.tree;
    }

pub returns : goal.returns
returns c = λ e es old.
    let o = element_of c.args.origin.now in
    let k = c.in_ok-key.key in
    let x = c.args.element in
    let grown = added c.args.self.now.groups c.remove.new.self c.insert.new.self k c.in-Some.group c.push.new.self x e es
    c.remove.ensures.updates c.in_ok-insert.ensures.updates (sym c.in-Some.is ∙ c.remove.ensures.value) c.in_ok-push.ensures.items old.group in record {
      group = grown ∙ ap (λ b. Some (es ++ cond b (x ∷ []) [])) (key-same k o e c.in_ok-key.ensures.tree c.in_ok-key.ensures.way);
      tree = old.tree;
    }
