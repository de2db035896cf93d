use Rattle.std.proofs.Common.{List, ap, sym, ◌∙◌}
use Rattle.std.specs.Prelude.{slice_get}
use Rattle.rowan_green.specs.Term.{Term, children_of}
use Rattle.rowan_green.specs.Arena.{terms_at, items_in}
use Rattle.rowan_green.proofs.FlatRefLemmas.{term_as, range_as, children_between, slice_get-between}
use Rattle.rowan_green.proofs.flat_ref.FlatNodeRef.child.Goals as goal

pub returns : goal.returns
returns c =
    let a = c.self.inside.arena.now.value in
    let i = c.self.inside.index in
    let e = c.entry-entry.result in
    let r = c.child_range-first.result in
    let p = term_as a c.deref.result.now i e c.deref.ensures c.entry-entry.ensures.term in
    let q = range_as a c.deref-2.result.now e r.0 r.1 c.deref-2.ensures c.child_range-first.ensures in
    let x = slice_get-between (terms_at (items_in a)) r.0 r.1 c.args.index _ c.if-index-count.false c.element_at.ensures in
    sym x ∙ ap (λ (ts : List Term). slice_get ts c.args.index) (children_between a i e r.0 r.1 c.self.invariant p q ∙ ap children_of c.self.view_is)
