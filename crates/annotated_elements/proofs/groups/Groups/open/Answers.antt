use Rattle.std.proofs.Common.{nat_eq, ap, ◌∙◌}
use Rattle.std.proofs.lemmas.Bool.{and_parts}
use Rattle.std.specs.HashSet.{contains}
use Rattle.syntax_tree.specs.Element.{same_way}
use Rattle.syntax_tree.specs.Handle.{element_of}
use Rattle.annotated_elements.proofs.GroupLemmas.{key-same, opened, opened-other, put_in, kept_in}
use Rattle.annotated_elements.proofs.groups.Groups.open.Goals as goal

pub returns-clause-opened : goal.returns-clause-opened
returns-clause-opened c = λ e same.
    let o = element_of c.args.origin.now in
    let k = c.in_ok-key.key in
    let self = c.args.self.now in
    let number = (and_parts (nat_eq o.number e.number) (same_way o.place.up e.place.up) same).0 in record {
      group = opened self.groups c.insert-2.new.self k c.new.result e c.in_ok-insert-2.ensures.updates c.new.ensures.items (key-same k o e c.in_ok-key.ensures.tree c.in_ok-key.ensures.way ∙ same);
      tree =
          c.in_ok-insert.ensures.updates.0 e.number
          ∙ put_in (nat_eq c.tree.result e.number) (contains nat_eq self.trees e.number) (ap (λ n. nat_eq n e.number) c.tree.ensures ∙ number);
    }

pub returns-clause-others : goal.returns-clause-others
returns-clause-others c = λ e old.
    let self = c.args.self.now in record {
      group = opened-other self.groups c.insert-2.new.self c.in_ok-key.key c.new.result e c.in_ok-insert-2.ensures.updates c.new.ensures.items old.group;
      tree = c.in_ok-insert.ensures.updates.0 e.number ∙ kept_in (nat_eq c.tree.result e.number) (contains nat_eq self.trees e.number) old.tree;
    }
