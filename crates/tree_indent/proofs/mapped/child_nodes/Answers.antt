use Rattle.std.proofs.Common.{◌++◌, [], ◌∷◌, ap, sym, ◌∙◌, rules, append_assoc}
use Rattle.std.proofs.lemmas.List.{append-nil}
use Rattle.rowan.proofs.Walks.{first_given}
use Rattle.tree_indent.proofs.mapped.child_nodes.Goals as goal

pub loop-child-preserved : goal.loop-child-preserved
loop-child-preserved c =
    let nodes = c.loop-child.nodes.items in
    let rest = c.next.new.self in
    let first = first_given _ _ _ _ c.in_ok-child.was c.in-Some.ensures.steps in
    record {
      can = search rules;
      finite = search rules;
      same = ap (λ l. l ++ rest) c.in_ok-push.ensures.items
          ∙ append_assoc nodes (c.in_ok-child.child ∷ []) rest
          ∙ ap (λ l. nodes ++ l) (sym first)
          ∙ c.loop-child.invariant.same;
    }

pub returns : goal.returns
returns c =
    let nodes = c.loop-child.nodes.items in
    sym (ap (λ l. nodes ++ l) c.in-None.ensures.steps.0 ∙ append-nil nodes) ∙ c.loop-child.invariant.same
