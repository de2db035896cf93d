use Rattle.std.proofs.Common.{◌∙◌, sym, rules, refl}
use Rattle.rowan.proofs.Lefts.{step_some, step_none, step_err, next_offset}
use Rattle.rowan.proofs.syntax_children.SyntaxElementChildrenIterator.next.Goals as goal

pub invariant_of-self : goal.invariant_of-self
invariant_of-self g c =
    next_offset c.self.inside.parent c.self.inside.index _ _ c.in-Ok-Some.child (sym c.in-Ok-Some.field-0-is ∙ c.in-Ok-Some.ensures.ok) c.index_of.ensures c.end_of-self-inside.ensures.end

pub returns-in-Ok-Some-clause-steps : goal.returns-in-Ok-Some-clause-steps
returns-in-Ok-Some-clause-steps g c =
    rw c.element.ensures (step_some c.self.inside.ended c.self.inside.parent c.self.inside.index _ c.in-Ok-Some.child _ c.if-self.false c.self.view_is (sym c.in-Ok-Some.field-0-is ∙ c.in-Ok-Some.ensures.ok) c.index_of.ensures)

pub returns-in-Ok-Some-clause-goes : goal.returns-in-Ok-Some-clause-goes
returns-in-Ok-Some-clause-goes g c =
    let m = step_some c.self.inside.ended c.self.inside.parent c.self.inside.index _ c.in-Ok-Some.child _ c.if-self.false c.self.view_is (sym c.in-Ok-Some.field-0-is ∙ c.in-Ok-Some.ensures.ok) c.index_of.ensures in
    rw m (search rules)

pub returns-in-Ok-None-clause-steps : goal.returns-in-Ok-None-clause-steps
returns-in-Ok-None-clause-steps g c =
    (step_none c.self.inside.ended c.self.inside.parent c.self.inside.index _ c.if-self.false c.self.view_is (sym c.in-Ok-None.field-0-is ∙ c.in-Ok-None.ensures.ok), refl)

pub returns-in-Err-clause-goes : goal.returns-in-Err-clause-goes
returns-in-Err-clause-goes g c =
    let m = step_err c.self.inside.ended c.self.inside.parent c.self.inside.index _ c.if-self.false c.self.view_is c.in-Err.ensures.refused in
    search rules
