use Rattle.std.proofs.Common.{◌∙◌, ap, Ok}
use Rattle.rowan.specs.Walk.{node_events}
use Rattle.rowan.specs.declared.utility_types.WalkEvent.TheVariants.{Leave}
use Rattle.rowan.proofs.Walks.{first_given}
use Rattle.rowan.proofs.preorder.next_node_event.Goals as goal

pub returns-in-Ok-Leave-Node-clause-gives : goal.returns-in-Ok-Leave-Node-clause-gives
returns-in-Ok-Leave-Node-clause-gives g c =
    let e = c.in-Ok-Leave-Node in
    c.loop-event.invariant.same ∙ ap node_events (first_given _ _ _ _ (e.is ∙ ap Ok (e.field-0-is ∙ ap Leave e.field-0-0-is)) c.in-Some.ensures.steps)
