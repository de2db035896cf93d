use Rattle.std.proofs.Common.{◌∙◌, sym, rules}
use Rattle.rowan.proofs.Lefts.{node_step, node_offset}
use Rattle.rowan.proofs.syntax_children.SyntaxNodeChildrenIterator.next.Goals as goal

pub invariant_of-self : goal.invariant_of-self
invariant_of-self g c =
    node_offset c.self.inside.parent c.in-Ok-Some.child c.self.inside.index _ _ (sym c.in-Ok-Some.field-0-is ∙ c.in-Ok-Some.ensures.ok) c.index.ensures c.end-self-inside.ensures.end

pub returns-in-Ok-Some-clause-steps : goal.returns-in-Ok-Some-clause-steps
returns-in-Ok-Some-clause-steps g c =
    rw c.of.ensures (node_step c.self.inside.ended c.self.inside.parent c.in-Ok-Some.child c.self.inside.index _ _ c.if-self.false c.self.view_is (sym c.in-Ok-Some.field-0-is ∙ c.in-Ok-Some.ensures.ok) c.index.ensures)

pub returns-in-Ok-Some-clause-goes : goal.returns-in-Ok-Some-clause-goes
returns-in-Ok-Some-clause-goes g c =
    let m = node_step c.self.inside.ended c.self.inside.parent c.in-Ok-Some.child c.self.inside.index _ _ c.if-self.false c.self.view_is (sym c.in-Ok-Some.field-0-is ∙ c.in-Ok-Some.ensures.ok) c.index.ensures in
    rw m (search rules)
