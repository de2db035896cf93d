use Rattle.std.proofs.Common.{ap, ◌∙◌}
use Rattle.rowan_green.specs.Term.{children_of}
use Rattle.rowan_green.proofs.FlatRefLemmas.{term_as, range_as, children_between}
use Rattle.rowan_green.proofs.flat_ref.FlatNodeRef.children.Goals as goal

pub returns-clause-children : goal.returns-clause-children
returns-clause-children c =
    let a = c.self.inside.arena.now.value in
    let i = c.self.inside.index in
    let e = c.entry-entry.result in
    let r = c.child_range-first.result in
    let p = term_as a c.deref.result.now i e c.deref.ensures c.entry-entry.ensures.term in
    let q = range_as a c.deref-2.result.now e r.0 r.1 c.deref-2.ensures c.child_range-first.ensures in
    c.of.ensures ∙ children_between a i e r.0 r.1 c.self.invariant p q ∙ ap children_of c.self.view_is
