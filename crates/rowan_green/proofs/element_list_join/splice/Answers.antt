use Rattle.std.proofs.Common.{◌++◌}
use Rattle.rowan_green.specs.Term.{FitsNode}
use Rattle.rowan_green.proofs.Joining.{fits_front}
use Rattle.rowan_green.proofs.element_list_join.splice.Goals as goal

pub joined-requires : goal.joined-requires
joined-requires c =
    let f : FitsNode (c.in_ok-front.front.value.0 ++ c.args.middle.now.value.0 ++ c.in_ok-back.back.value.0) =
    rw (c.deref.ensures, c.deref-2.ensures, c.deref-3.ensures) at c.if-not-fit_together.ensures.fit in
    fits_front _ _ f
